use Rattle.std.proofs.Common.{subst, sym, ap, ◌∙◌, [], ◌∷◌, ◌++◌}
use Rattle.hp_model.specs.Soundness.{IsSound}
use Rattle.hp_attempt.specs.Mapped.{attempt}
use Rattle.hp_fire.specs.Groups.{AreSoundTries}
use Rattle.hp_fire.proofs.Helping.{tries_more}
use Rattle.hp_fire.proofs.speculate.wave.hand_over.Goals as goal

pub returns-then-is_ok-clause-found : goal.returns-then-is_ok-clause-found
returns-then-is_ok-clause-found c = λ l is all.
    let items = c.push_reserved.ensures.items ∙ ap (λ xs. xs ++ c.in-Some.back ∷ []) c.reserve.ensures.items in
    subst (AreSoundTries l) (sym items) (tries_more l c.args.found.now.items c.in-Some.back all (subst (λ t. IsSound l (attempt t.attempt)) (sym c.in-Some.ensures.back) (c.requires.sound l is)))

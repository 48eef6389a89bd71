use Rattle.std.proofs.Common.{◌≡◌, refl, sym, ◌<◌, false, List, [], ◌∷◌, length, arith}
use Rattle.hp_text.specs.declared.token.Placed.{Placed}
use Rattle.hp_text.specs.declared.token.Ending.{Ending}
use Rattle.hp_text.specs.Mapped.{before, ending_view}
use Rattle.hp_text.specs.Scripts.{ends}
use Rattle.hp_text.proofs.item.is_end.Goals as goal

ends_later : (ps : List Placed) (e : Ending) → 0 < length ps → ends (before ps (ending_view e)) ≡ false
ends_later [] e some = absurd (omega arith)
ends_later (p ∷ ps) e some = refl

pub returns-in-len1-up : goal.returns-in-len1-up
returns-in-len1-up c = sym (ends_later c.args.tokens.now.placed.now c.args.tokens.now.ending (omega arith))

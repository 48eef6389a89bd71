use Rattle.std.proofs.Common.{rules, arith, ◌≡◌, List, [], ◌∷◌, ◌++◌}
use Rattle.std.proofs.lemmas.Grind.{common_steps}
use denote.Param.Members.{Shared}
use Rattle.std.specs.Fork.Halves.{GivesFor}
use Rattle.std.specs.Prelude.{IfOk}
use Rattle.std.proofs.lemmas.Result.{IfOk-weaker, IfOk-at_ok}
use Rattle.hp_fire.proofs.speculate.fork_join.+fork_join.Goals as goal

module _ {F J R : Type 0} (g : Shared F (J × Unit {0}) R) (f : F) where
  gives_last : (js all : List J) (j : J) (rs results : List R) (r : R) → all ≡ js ++ j ∷ [] → results ≡ rs ++ r ∷ [] → GivesFor g f js rs → GivesFor g f (j ∷ []) (r ∷ []) → GivesFor g f all results
  gives_last js all j rs results r is are before last = grind (arith, common_steps)

pub returns-clause-jobs : goal.returns-clause-jobs
returns-clause-jobs g t c =
    let f = c.args.f.now in
    let rest = c.pop.new.self.items in
    let split : c.args.jobs.items ≡ rest ++ c.in-Some.job ∷ [] = search rules in
    let gave : GivesFor g.F.Fn f (c.in-Some.job ∷ []) (c.join_mut-last.result.0 ∷ []) = search rules in
    let most : IfOk c.join_mut-last.result.1.0 (λ v. GivesFor g.F.Fn f rest v.items) = search rules in
    IfOk-weaker c.with_last.result _ _ (λ all w. gives_last g.F.Fn f rest c.args.jobs.items c.in-Some.job w.0.items all.items c.join_mut-last.result.0 split w.2
    (IfOk-at_ok (λ v. GivesFor g.F.Fn f rest v.items) w.1 most) gave) c.with_last.ensures

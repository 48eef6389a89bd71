use Rattle.std.proofs.Common.{rules, ◌≡◌, List, refl, ap, subst}
use Rattle.hp_model.specs.Cells.{Cells, Read, Holds}
use Rattle.hp_store.specs.Stack.{cells_in}
use Rattle.hp_view.specs.Seeing.{now_in}
use Rattle.hp_attempt.specs.Holding.{FirstFailed}
use Rattle.hp_sessions.specs.Units.{Made}
use Rattle.hp_sessions.proofs.Legal.{plain}
use Rattle.hp_sessions.proofs.unit.Unit.first_failed.Goals as goal

pub returns-in-Some-clause-some : goal.returns-in-Some-clause-some
returns-in-Some-clause-some c =
    let is : now_in c.in_ok-view.view ≡ cells_in c.args.store.now = plain c.in_ok-view.view c.args.store.now (search rules) (search rules) in
    let reads : c.self.inside.reads ≡ c.args.self.now.reads = ap (λ (m : Made). m.reads) c.self.view_is in
    subst (λ (p : Cells × List Read). FirstFailed p.0 p.1 c.in-Some.seen.now) (λ i. (is i, reads i)) c.in-Some.ensures.some

pub returns-clause-none : goal.returns-clause-none
returns-clause-none c =
    let is : now_in c.in_ok-view.view ≡ cells_in c.args.store.now = plain c.in_ok-view.view c.args.store.now (search rules) (search rules) in
    let reads : c.self.inside.reads ≡ c.args.self.now.reads = ap (λ (m : Made). m.reads) c.self.view_is in
    subst (λ (p : Cells × List Read). Holds p.0 p.1) (λ i. (is i, reads i)) (c.in-None.ensures.none.0 refl)

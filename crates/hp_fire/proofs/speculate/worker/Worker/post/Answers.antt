use Rattle.std.proofs.Common.{rules, subst, ◌≡◌, Some}
use Rattle.std.specs.Prelude.{IfSome}
use Rattle.hp_board.specs.Passes.{IsPassOf}
use Rattle.hp_board.proofs.Passes.{length_of}
use Rattle.hp_store.specs.Changes.{changes}
use Rattle.hp_fire.specs.Starts.{layer_changes, HasMerged}
use Rattle.hp_fire.proofs.Posted.{merged_learns, only_same, remembers_learns}
use Rattle.hp_fire.proofs.speculate.worker.Worker.post.Goals as goal

pub returns-in-Ok-post-clause-worker : goal.returns-in-Ok-post-clause-worker
returns-in-Ok-post-clause-worker c =
    let self = c.args.self.now in
    let here : self.pass ≡ Some c.in-Some.pass = search rules in
    let was = subst (λ o. IfSome o (λ p. IsPassOf self.wave.now.board.cells p × HasMerged self.predecessors p)) here c.requires.worker.1 in
    let ok = c.in-Ok-post.ensures.ok in (
      c.requires.worker.0,
      (
        ok.1,
        merged_learns layer_changes c.in-Some.pass c.args.number c.in-Ok.posted c.in-Ok-post.pass self.predecessors.count (changes self.predecessors.layer.value) ok.0
            (length_of self.wave.now.board.cells c.in-Some.pass c.args.number was.0 c.requires.number) was.1,
      ),
    )

pub returns-clause-worker : goal.returns-clause-worker
returns-clause-worker c =
    let self = c.args.self.now in
    let here : self.pass ≡ Some c.in-Some.pass = search rules in
    let was = subst (λ o. IfSome o (λ p. IsPassOf self.wave.now.board.cells p × HasMerged self.predecessors p)) here c.requires.worker.1 in
    let err = c.in-Err.ensures.err in (
      c.requires.worker.0,
      (
        err.1,
        merged_learns layer_changes c.in-Some.pass c.args.number err.2.0 c.in-Err.pass self.predecessors.count (changes self.predecessors.layer.value) err.2.1
            (length_of self.wave.now.board.cells c.in-Some.pass c.args.number was.0 c.requires.number) was.1,
      ),
    )

pub returns-in_default-clause-knows : goal.returns-in_default-clause-knows
returns-in_default-clause-knows c = only_same c.args.self.now.pass

pub returns-in-Ok-post-clause-knows : goal.returns-in-Ok-post-clause-knows
returns-in-Ok-post-clause-knows c =
    let self = c.args.self.now in
    let here : self.pass ≡ Some c.in-Some.pass = search rules in
    let was = subst (λ o. IfSome o (λ p. IsPassOf self.wave.now.board.cells p × HasMerged self.predecessors p)) here c.requires.worker.1 in
    let ok = c.in-Ok-post.ensures.ok in
    (c.in-Some.pass, here, remembers_learns self.wave.now.board.cells c.in-Some.pass c.args.number c.in-Ok.posted c.in-Ok-post.pass was.0 c.requires.number ok.0)

pub returns-clause-knows : goal.returns-clause-knows
returns-clause-knows c =
    let self = c.args.self.now in
    let here : self.pass ≡ Some c.in-Some.pass = search rules in
    let was = subst (λ o. IfSome o (λ p. IsPassOf self.wave.now.board.cells p × HasMerged self.predecessors p)) here c.requires.worker.1 in
    let err = c.in-Err.ensures.err in
    (c.in-Some.pass, here, remembers_learns self.wave.now.board.cells c.in-Some.pass c.args.number err.2.0 c.in-Err.pass was.0 c.requires.number err.2.1)

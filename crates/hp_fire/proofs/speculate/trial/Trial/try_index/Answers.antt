use Rattle.std.proofs.Common.{rules, ◌≡◌, refl, sym, ap, ◌∙◌, subst, Some, Ok, IfOk}
use Rattle.std.specs.Prelude.{IsSome}
use Rattle.hp_model.specs.Cells.{Cells, Holds}
use Rattle.hp_model.specs.Soundness.{IsSound}
use Rattle.hp_rule.specs.Mapped.{library}
use Rattle.hp_store.specs.Stack.{cells_in}
use Rattle.hp_attempt.specs.Mapped.{attempt}
use Rattle.hp_fire.specs.Starts.{start_cells, OnlyLearns}
use Rattle.hp_fire.proofs.Posted.{only_then}
use Rattle.hp_fire.proofs.speculate.trial.Trial.try_index.Goals as goal

pub returns-clause-sound : goal.returns-clause-sound
returns-clause-sound g c =
    let is : c.try_task.result ≡ Ok c.in_ok-attempt.attempt = search rules in
    subst (λ r. IfOk r (λ a. IsSound (library c.args.self.now.lib.now) (attempt a))) is c.try_task.ensures.sound

pub returns-clause-tried : goal.returns-clause-tried
returns-clause-tried g c =
    let is : c.try_task.result ≡ Ok c.in_ok-attempt.attempt = search rules in
    let starts = c.in_ok-start.ensures.start in
    let held = subst (λ r. IfOk r (λ a. Holds (cells_in c.in_ok-start.start) a.reads)) is c.try_task.ensures.reads_held in record {
      number = c.args.number;
      index = c.requires.index;
      posts = starts.posts;
      then_knew = subst (OnlyLearns c.args.worker.now.pass) starts.known c.start_of.ensures.knows;
      still_knows = only_then (Some starts.posts) c.post.new.self.pass c.note.new.self.pass (subst (λ p. OnlyLearns p c.post.new.self.pass) starts.known c.post.ensures.knows) c.note.ensures.knows;
      has_pass = c.note.ensures.keeps (c.post.ensures.keeps (subst IsSome (sym starts.known) refl));
      held = subst (λ (x : Cells). Holds x c.in_ok-attempt.attempt.reads)
          (starts.cells ∙ ap (λ w. start_cells w.now.snapshot starts.posts c.args.number) c.start_of.ensures.wave) held;
    }

pub returns-then-not-post-clause-knows : goal.returns-then-not-post-clause-knows
returns-then-not-post-clause-knows g c = only_then c.args.worker.now.pass c.start_of.new.self.pass c.post.new.self.pass c.start_of.ensures.knows c.post.ensures.knows

pub returns-clause-knows : goal.returns-clause-knows
returns-clause-knows g c =
    only_then c.args.worker.now.pass c.post.new.self.pass c.note.new.self.pass
    (only_then c.args.worker.now.pass c.start_of.new.self.pass c.post.new.self.pass c.start_of.ensures.knows c.post.ensures.knows) c.note.ensures.knows

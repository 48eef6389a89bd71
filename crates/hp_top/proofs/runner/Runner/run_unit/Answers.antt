use Rattle.std.proofs.Common.{ap, subst, ◌∙◌}
use Rattle.hp_model.specs.Cells.{Holds, over}
use Rattle.hp_store.specs.Changes.{changes}
use Rattle.hp_store.specs.Stack.{cells_in}
use Rattle.hp_top.proofs.Attempted.{ran_unit, unit_replayed, unit_lawful}
use Rattle.hp_top.proofs.Keeping.{unit_keeps}
use Rattle.hp_top.proofs.runner.Runner.run_unit.Goals as goal

pub keep_lists-requires : goal.keep_lists-requires
keep_lists-requires g c = subst (λ s. Holds (cells_in s) c.in_ok-attempt.attempt.reads) c.in_ok-snapshot.ensures c.in_ok-attempt.ensures.reads_held

pub returns-clause-ran : goal.returns-clause-ran
returns-clause-ran g c = ran_unit c.in_ok-attempt.ensures.sound (c.in_ok-snapshot.ensures ∙ c.keep_indexes.ensures) c.in_ok-attempt.ensures.reads_held
    (c.in_ok-apply.ensures.ok ∙ ap (λ s. over (cells_in s) (changes c.in_ok-attempt.attempt.layer.value)) (c.keep_lists.ensures ∙ c.keep_indexes.ensures))

pub returns-clause-replayed : goal.returns-clause-replayed
returns-clause-replayed g c = unit_replayed (returns-clause-ran g c)

pub returns-clause-lawful : goal.returns-clause-lawful
returns-clause-lawful g c = unit_lawful (returns-clause-ran g c)

pub returns-clause-fit : goal.returns-clause-fit
returns-clause-fit g c = unit_keeps c.args.self.now.engine.lib.now c.args.unit.now (returns-clause-ran g c)

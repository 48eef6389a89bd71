-- What a report and its parts stand for in the model.
use Rattle.std.specs.Prelude.{ℕ, List, [], map}
use Rattle.hp_model.specs.Values as V
use Rattle.hp_model.specs.Rules as R
use Rattle.hp_model.specs.State as S
use Rattle.hp_model.specs.Tree.{if_committed, emits}
use Rattle.hp_model.specs.Cascade as C
use Rattle.hp_value.specs.declared.occurrence.Coupling.{Coupling}
use Rattle.hp_report.specs.declared.report.RuleStatus.{RuleStatus}
use Rattle.hp_report.specs.declared.report.RuleStatus.TheVariants.{Absent, Enabled, Disabled}
use Rattle.hp_report.specs.declared.report.Report.{Report}
pub use Rattle.hp_value.specs.Mapped.{value, cause, veto, coupling, rule_operation}
pub use Rattle.hp_tree.specs.Mapped.{objects_of, operation, condition, what, ending, before, row_items, items_in, values_behind, top_report, unit_report}
pub use Rattle.hp_rule.specs.Mapped.{rule, library}
pub use Rattle.hp_report.specs.Named.{library_of}

-- a detached task's rule and mode
abbrev pub task : ℕ × Coupling → ℕ × R.Coupling
task t = (t.0, coupling t.1)

abbrev pub status : RuleStatus → S.Status
status Absent = S.absent
status Enabled = S.enabled
status Disabled = S.disabled

-- the state of a rule without a past
abbrev pub rule_state : RuleStatus → S.RuleState
rule_state s = S.with_status (status s)

-- what a top-level transaction emitted, if it committed
abbrev pub committed_emits : C.TransactionReport → List V.Value
committed_emits t = if_committed t.ending (emits t.items) []

-- what was evaluated, if this is the state at the end
abbrev pub evaluation : Report → S.State → C.Evaluation
evaluation r state = record { units = map unit_report r.units.items; state = state }

-- Trees in which only some causes end something: what the laws of depth, of kinds and of faults say of a run.
use Rattle.std.specs.Prelude.{ℕ, List, ⊤}
use Rattle.std.specs.List.{AllByRecursion}
use Rattle.hp_model.specs.Values.{Cause}
use Rattle.hp_model.specs.Tree.{Ending, committed, aborted, Condition, without_action, with_fault, with_action, with_later_action, Node, sub_node, fire_node, act_node, Items}
use Rattle.hp_model.specs.Tree.{no_items, operation, emission, detachment, node}
use Rattle.hp_model.specs.Cascade.{Transaction, TransactionReport, UnitReport}

-- what a cause may end: a top-level transaction, a node inside one, or the condition of a rule
pub data Ended : Type 0 where
  whole_transaction : Ended
  inner_node : Node → Ended
  condition_of : (rule : ℕ) → Ended

-- the same causes, whatever they end
abbrev pub everywhere : (Cause → Type 0) → Ended → Cause → Type 0
everywhere allowed what c = allowed c

-- if it ended with a cause, it is one of these
abbrev pub EndsOnlyBy : (Cause → Type 0) → Ending → Type 0
EndsOnlyBy allowed committed = ⊤
EndsOnlyBy allowed (aborted c) = allowed c

abbrev pub FaultsOnlyBy : (Cause → Type 0) → Condition → Type 0
FaultsOnlyBy allowed without_action = ⊤
FaultsOnlyBy allowed (with_fault c) = allowed c
FaultsOnlyBy allowed with_action = ⊤
FaultsOnlyBy allowed with_later_action = ⊤

abbrev pub NodeHasOnly : (Ended → Cause → Type 0) → Node → Type 0
NodeHasOnly allowed sub_node = ⊤
NodeHasOnly allowed (fire_node rule place condition) = FaultsOnlyBy (allowed (condition_of rule)) condition
NodeHasOnly allowed (act_node rule place) = ⊤

-- each node of the tree that ended with a cause, and each condition that did, has an allowed one
abbrev pub TreeHasOnly : (Ended → Cause → Type 0) → Items → Type 0
TreeHasOnly allowed no_items = ⊤
TreeHasOnly allowed (operation op rest) = TreeHasOnly allowed rest
TreeHasOnly allowed (emission v rest) = TreeHasOnly allowed rest
TreeHasOnly allowed (detachment t rest) = TreeHasOnly allowed rest
TreeHasOnly allowed (node what end inside rest) = ((NodeHasOnly allowed what × EndsOnlyBy (allowed (inner_node what)) end) × TreeHasOnly allowed inside) × TreeHasOnly allowed rest

-- the transactions themselves too
abbrev pub TransactionsHaveOnly : (Ended → Cause → Type 0) → List Transaction → Type 0
TransactionsHaveOnly allowed ts = AllByRecursion (λ (t : Transaction). EndsOnlyBy (allowed whole_transaction) t.ending × TreeHasOnly allowed t.items) ts

abbrev pub ReportHasOnly : (Ended → Cause → Type 0) → UnitReport → Type 0
ReportHasOnly allowed u = AllByRecursion (λ (t : TransactionReport). EndsOnlyBy (allowed whole_transaction) t.ending × TreeHasOnly allowed t.items) u.transactions

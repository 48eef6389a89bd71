-- What the crate's types stand for in the model: a function for each.
use Rattle.std.specs.Prelude.{List, [], ◌∷◌, map, option_map}
use Rattle.std.specs.Borrow.{Bor}
use Rattle.hp_model.specs.Values as V
use Rattle.hp_model.specs.Tree as T
use Rattle.hp_model.specs.Cascade as C
use Rattle.hp_value.specs.Mapped.{value, cause, veto, coupling, rule_operation}
use Rattle.hp_value.specs.declared.value.Value.{Value}
pub use Rattle.hp_tree.specs.Names.{object_name, objects_of}
use Rattle.hp_tree.specs.declared.operation.Operation.{Operation}
use Rattle.hp_tree.specs.declared.operation.Operation.TheVariants.{Create, Update, Delete, OnRule}
use Rattle.hp_tree.specs.declared.node.ConditionEnd.{ConditionEnd}
use Rattle.hp_tree.specs.declared.node.ConditionEnd.TheVariants.{WithoutAction, WithFault, WithAction, WithLaterAction}
use Rattle.hp_tree.specs.declared.node.What.{What}
use Rattle.hp_tree.specs.declared.node.What.TheVariants.{Sub, Fire, Act}
use Rattle.hp_tree.specs.declared.node.Ending.{Ending}
use Rattle.hp_tree.specs.declared.node.Ending.TheVariants.{Committed, Aborted, Vetoed}
use Rattle.hp_tree.specs.declared.node.Item.{Item, Row_of-Item, end_of-Item, more_of-Item}
use Rattle.hp_tree.specs.declared.node.Item.TheVariants.{Operation as AnOperation, Emit, Node' as ANode}
use Rattle.hp_tree.specs.declared.report.TopReport.{TopReport}
use Rattle.hp_tree.specs.declared.report.UnitReport.{UnitReport}

abbrev pub operation : Operation → T.Operation
operation (Create class key new) = T.create_op class key new
operation (Update class key new) = T.update_op class key new
operation (Delete class key) = T.delete_op class key
operation (OnRule op rule) = T.rule_op (rule_operation op) rule

abbrev pub condition : ConditionEnd → T.Condition
condition WithoutAction = T.without_action
condition (WithFault c) = T.with_fault (cause c)
condition WithAction = T.with_action
condition WithLaterAction = T.with_later_action

abbrev pub what : What → T.Node
what Sub = T.sub_node
what (Fire rule place end) = T.fire_node rule (coupling place) (condition end)
what (Act rule place) = T.act_node rule (coupling place)

abbrev pub ending : Ending → T.Ending
ending Committed = T.committed
ending (Aborted c) = T.aborted (cause c)
ending (Vetoed v) = T.aborted (V.vetoed (veto v))

abbrev mutual
  -- an item in front of others
  pub before : Item → T.Items → T.Items
  before (AnOperation op) rest = T.operation (operation op) rest
  before (Emit v) rest = T.emission (value v) rest
  before (ANode w end shape all) rest = T.node (what w) (ending end) (row_items all) rest

  pub row_items : {m : _} → Row_of-Item m → T.Items
  row_items end_of-Item = T.no_items
  row_items (more_of-Item i rest) = before i (row_items rest)

-- emitted values, by reference
abbrev pub values_behind : List (Bor Value) → List V.Value
values_behind vs = map (λ (v : Bor Value). value v.now) vs

-- the items of a tree
abbrev pub items_in : List Item → T.Items
items_in [] = T.no_items
items_in (i ∷ is) = before i (items_in is)

abbrev pub top_report : TopReport → C.TransactionReport
top_report t = record { task = option_map (λ p. (p.0, coupling p.1)) t.task; ending = ending t.end; items = items_in t.tree.items }

abbrev pub unit_report : UnitReport → C.UnitReport
unit_report u = record { time = u.moment; transactions = map top_report u.tops.items }

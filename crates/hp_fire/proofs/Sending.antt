-- What workers share and return may be sent from thread to thread.
use denote.Param.Send.{IsSend, IsSync, shr_sync, sendable}
use denote.Param.SendFields.{as_row_sync, declared_send, declared_sync}
use denote.Struct.Field.{shr_ref_field}
use Rattle.std.proofs.Crossing as heap
use Rattle.std.proofs.MapsCrossing as maps
use Rattle.hp_value.proofs.cell.Cell.TheSendSync as cell
use Rattle.hp_value.proofs.row.Row.TheSendSync as row
use Rattle.hp_value.proofs.objects.ObjectList.TheSendSync as objects
use Rattle.hp_value.proofs.occurrence.Occurrence.TheSendSync as occurrence
use Rattle.hp_value.proofs.value.Value.TheSendSync as value
use Rattle.hp_value.proofs.occurrence.Coupling.TheSendSync as coupling
use Rattle.hp_value.specs.contracts.expr.Expr as Expr
use Rattle.hp_value.proofs.expr.Expr.TheLaws.TheKnot as expr
use Rattle.hp_detect.specs.contracts.known.Known as Known
use Rattle.hp_detect.proofs.known.Known.TheLaws.TheKnot as known
use Rattle.hp_detect.proofs.chunk.Chunk.TheSendSync as chunk
use Rattle.hp_detect.specs.contracts.rope.Rope as Rope
use Rattle.hp_detect.proofs.rope.Rope.TheLaws.TheKnot as rope
use Rattle.hp_detect.specs.contracts.queue.Queue as Queue
use Rattle.hp_detect.specs.contracts.knowledge.Knowledge as Knowledge
use Rattle.hp_detect.specs.contracts.event.EventExpr as EventExpr
use Rattle.hp_detect.proofs.event.EventExpr.TheLaws.TheKnot as event
use Rattle.hp_store.specs.contracts.value.CellValue as CellValue
use Rattle.hp_store.proofs.value.Status.TheSendSync as status
use Rattle.hp_store.proofs.index.Index.TheSendSync as field_index
use Rattle.hp_store.specs.contracts.layer.Layer as Layer
use Rattle.hp_store.specs.contracts.shared.SharedLayer as SharedLayer
use Rattle.hp_store.specs.contracts.base.Base as Base
use Rattle.hp_store.specs.contracts.kept.KeptList as KeptList
use Rattle.hp_store.specs.contracts.snapshot.Snapshot as Snapshot
use Rattle.hp_view.specs.contracts.reads.Found as Found
use Rattle.hp_view.proofs.reads.Seen.TheSendSync as seen
use Rattle.hp_view.proofs.part.FoundPart.TheSendSync as found_part
use Rattle.hp_view.specs.contracts.reads.Reads as Reads
use Rattle.hp_view.specs.contracts.view.View as View
use Rattle.hp_tree.specs.contracts.node.Item as Item
use Rattle.hp_tree.proofs.node.Item.TheLaws.TheKnot as item
use Rattle.hp_rule.proofs.task.Task.TheSendSync as task
use Rattle.hp_rule.proofs.task.Detached.TheSendSync as detached
use denote.Ref.{NamedLft}
use denote.RattleType.{RattleType}
use Rattle.hp_board.proofs.boards.Board.TheSendSync as board
use Rattle.hp_board.specs.contracts.boards.Board as Board
use Rattle.std.specs.contracts.sync.Arc as Arc
use Rattle.hp_fire.specs.contracts.engine.Engine as Engine
use Rattle.hp_fire.specs.contracts.speculate.trial.Trial as Trial
use Rattle.hp_fire.specs.contracts.speculate.past.Past as Past
use Rattle.hp_fire.specs.contracts.speculate.past.Effort as Effort
use Rattle.hp_fire.specs.contracts.speculate.wave.Wave as Wave
use Rattle.hp_fire.specs.contracts.speculate.pending.Tried as Tried
use Rattle.hp_fire.specs.contracts.speculate.progress.Progress as Progress
use Rattle.hp_fire.specs.contracts.speculate.channel.Sent as Sent
use Rattle.hp_board.proofs.counter.Seat.TheSendSync as seat
use Rattle.rtrb.proofs.producer.Producer.TheSendSync as sender
use Rattle.hp_fire.specs.contracts.speculate.wave.Job as Job
use Rattle.hp_rule.specs.contracts.task.Task as Task
use Rattle.std.specs.contracts.alloc.Global as Heap
use Rattle.std.specs.contracts.impls.GlobalAllocator.TheImpl.{ghosts}
use Rattle.hp_value.proofs.rule_operation.RuleOperation.TheSendSync as operation_word
use Rattle.hp_rule.specs.contracts.stmt.Assignment as Assignment
use Rattle.hp_value.proofs.expr.Arithmetic.TheSendSync as arithmetic
use Rattle.hp_value.proofs.expr.Comparison.TheSendSync as comparison
use Rattle.hp_value.proofs.row.ClassDef.TheSendSync as class
use Rattle.hp_event.proofs.pattern.Pattern.TheSendSync as pattern
use Rattle.hp_rule.specs.contracts.stmt.Stmt as Stmt
use Rattle.hp_rule.proofs.stmt.Stmt.TheLaws.TheKnot as stmt
use Rattle.hp_query.specs.contracts.query.Query as Query
use Rattle.hp_query.specs.contracts.aggregate.Aggregate as Aggregate
use Rattle.hp_query.specs.contracts.entry.Entry as Entry
use Rattle.hp_query.proofs.entry.Findings.TheSendSync as findings
use Rattle.hp_value.proofs.veto.Veto.TheSendSync as veto
use Rattle.hp_rule.specs.contracts.rule.Rule as Rule
use Rattle.hp_rule.specs.contracts.library.Library as Library
use Rattle.hp_rule.proofs.rule_lists.RuleLists.TheSendSync as rule_lists
use Rattle.hp_rule.proofs.asked.AskedField.TheSendSync as asked
use Rattle.smallvec.specs.contracts.small_vec.SmallVec as SmallVec
use Rattle.smallvec.specs.contracts.storage.Data as Data
use Rattle.arrayvec.specs.contracts.array_vec.ArrayVec as ArrayVec
use Rattle.arrayvec.specs.contracts.cells.Cells as Cells
use Rattle.hp_attempt.specs.contracts.outcome.Outcome as Outcome
use Rattle.hp_attempt.specs.contracts.outcome.Attempt as Attempt

rope_send : IsSend Rope.the_field.row
rope_send = rope.both_send-Rope chunk.the_send chunk.the_sync (search sendable depth 4) (search sendable depth 4) heap.Arc-send heap.Arc-sync

rope_sync : IsSync Rope.the_field.row
rope_sync = rope.both_sync-Rope chunk.the_send chunk.the_sync (search sendable depth 4) (search sendable depth 4) heap.Arc-send heap.Arc-sync

ruleset queue_parts = (chunk.the_send, chunk.the_sync, rope_send, rope_sync, heap.crosses, sendable)

pub queue_send : IsSend Queue.the_field.row
queue_send = search queue_parts depth 30 fits 20000

pub queue_sync : IsSync Queue.the_field.row
queue_sync = search queue_parts depth 30 fits 20000

ruleset known_parts = (queue_send, queue_sync, occurrence.the_send, occurrence.the_sync, heap.crosses, sendable)

pub known_send : IsSend Known.the_field.row
known_send = known.both_send-Known heap.Arc-send heap.Arc-sync (search known_parts depth 12) (search known_parts depth 12) (search known_parts depth 12) (search known_parts depth 12)

pub known_sync : IsSync Known.the_field.row
known_sync = known.both_sync-Known heap.Arc-send heap.Arc-sync (search known_parts depth 12) (search known_parts depth 12) (search known_parts depth 12) (search known_parts depth 12)

pub knowledge_send : IsSend Knowledge.the_field.row
knowledge_send = search (known_send, known_sync, heap.crosses, sendable) depth 12

pub knowledge_sync : IsSync Knowledge.the_field.row
knowledge_sync = search (known_send, known_sync, heap.crosses, sendable) depth 12

pub cell_value_send : IsSend CellValue.the_field.row
cell_value_send = search (knowledge_send, row.the_send, status.the_send, sendable) depth 12

pub cell_value_sync : IsSync CellValue.the_field.row
cell_value_sync = search (knowledge_sync, row.the_sync, status.the_sync, sendable) depth 12

ruleset layer_parts = (cell_value_send, cell_value_sync, cell.the_send, cell.the_sync, field_index.the_send, field_index.the_sync, maps.crosses, heap.crosses, sendable)

pub layer_send : IsSend Layer.the_field.row
layer_send = search layer_parts depth 12

pub layer_sync : IsSync Layer.the_field.row
layer_sync = search layer_parts depth 12

pub base_send : IsSend Base.the_field.row
base_send = search layer_parts depth 12

pub base_sync : IsSync Base.the_field.row
base_sync = search layer_parts depth 12

pub shared_layer_send : IsSend SharedLayer.the_field.row
shared_layer_send = search (layer_send, layer_sync, heap.crosses, sendable) depth 12

pub shared_layer_sync : IsSync SharedLayer.the_field.row
shared_layer_sync = search (layer_send, layer_sync, heap.crosses, sendable) depth 12

-- a vector that keeps a few elements in itself, step by step, since a search that goes down to its array runs out of
-- steps
cells_send : (T N : RattleType) → IsSend T → IsSend (Cells.the_field T N).row
cells_send T N s = search (sendable) depth 12

cells_sync : (T N : RattleType) → IsSync T → IsSync (Cells.the_field T N).row
cells_sync T N s = search (sendable) depth 12

array_vec_send : (T N : RattleType) → IsSend T → IsSend (ArrayVec.the_field T N Heap.the_row).row
array_vec_send T N s = search (cells_send, heap.send, sendable) depth 12

array_vec_sync : (T N : RattleType) → IsSync T → IsSync (ArrayVec.the_field T N Heap.the_row).row
array_vec_sync T N s = search (cells_sync, heap.sync, sendable) depth 12

data_send : (T N : RattleType) → IsSend T → IsSend (Data.the_field T N Heap.the_row ghosts).row
data_send T N s = search (array_vec_send, heap.crosses, heap.send, sendable) depth 12

data_sync : (T N : RattleType) → IsSync T → IsSync (Data.the_field T N Heap.the_row ghosts).row
data_sync T N s = search (array_vec_sync, heap.crosses, heap.sync, sendable) depth 12

small_vec_send : (T N : RattleType) → IsSend T → IsSend (SmallVec.the_field T N Heap.the_row ghosts).row
small_vec_send T N s = search (data_send, heap.send, sendable) depth 12

small_vec_sync : (T N : RattleType) → IsSync T → IsSync (SmallVec.the_field T N Heap.the_row ghosts).row
small_vec_sync T N s = search (data_sync, heap.sync, sendable) depth 12

pub kept_list_send : IsSend KeptList.the_field.row
kept_list_send = search (objects.the_send, objects.the_sync, heap.crosses, sendable) depth 12

pub kept_list_sync : IsSync KeptList.the_field.row
kept_list_sync = search (objects.the_send, objects.the_sync, heap.crosses, sendable) depth 12

pub snapshot_send : IsSend Snapshot.the_field.row
snapshot_send = search (base_send, base_sync, shared_layer_send, small_vec_send, kept_list_send, heap.crosses, sendable) depth 12

pub snapshot_sync : IsSync Snapshot.the_field.row
snapshot_sync = search (base_send, base_sync, shared_layer_sync, small_vec_sync, kept_list_sync, heap.crosses, sendable) depth 12

pub found_send : IsSend Found.the_field.row
found_send = search (cell_value_send, objects.the_send, objects.the_sync, found_part.the_send, found_part.the_sync, heap.crosses, sendable) depth 20

pub reads_send : IsSend Reads.the_field.row
reads_send = search (found_send, seen.the_send, heap.crosses, sendable) depth 20

ruleset item_parts = (row.the_send, row.the_sync, value.the_send, value.the_sync, veto.the_send, veto.the_sync, maps.crosses, heap.crosses, sendable)

pub item_send : IsSend Item.the_field.row
item_send = item.send-Item (search item_parts depth 30 fits 20000) (search item_parts depth 30 fits 20000) (search item_parts depth 30 fits 20000) (search item_parts depth 30 fits 20000) heap.Vec-send

pub item_sync : IsSync Item.the_field.row
item_sync = item.sync-Item (search item_parts depth 30 fits 20000) (search item_parts depth 30 fits 20000) (search item_parts depth 30 fits 20000) (search item_parts depth 30 fits 20000) heap.Vec-sync

ruleset task_parts = (occurrence.the_send, occurrence.the_sync, findings.the_send, findings.the_sync, heap.crosses, sendable)

pub task_send : IsSend Task.the_field.row
task_send = search task_parts depth 30 fits 20000

pub outcome_send : IsSend Outcome.the_field.row
outcome_send = search (item_send, veto.the_send, task.the_send, detached.the_send, heap.crosses, sendable) depth 12

pub attempt_send : IsSend Attempt.the_field.row
attempt_send = search (outcome_send, task_send, reads_send, layer_send, layer_sync, heap.crosses, sendable) depth 12

ruleset expression_parts = (
  value.the_sync,
  asked.the_sync,
  arithmetic.the_sync,
  comparison.the_sync,
  pattern.the_sync,
  class.the_sync,
  rule_lists.the_sync,
  coupling.the_sync,
  operation_word.the_sync,
  heap.crosses,
  maps.crosses,
  sendable,
)

pub expr_sync : IsSync Expr.the_field.row
expr_sync = expr.sync-Expr (search expression_parts depth 12) (search expression_parts depth 12) heap.Box-sync (search expression_parts depth 12)
    (search expression_parts depth 12) (search expression_parts depth 12)

event_send : IsSend EventExpr.the_field.row
event_send = event.send-EventExpr (search (maps.crosses, heap.crosses, sendable) depth 12) heap.Box-send

pub event_sync : IsSync EventExpr.the_field.row
event_sync = event.sync-EventExpr (search expression_parts depth 12) heap.Box-sync

assignment_sync : IsSync Assignment.the_field.row
assignment_sync = search (expr_sync, expression_parts) depth 12

query_sync : IsSync Query.the_field.row
query_sync = search (expr_sync, expression_parts) depth 12

aggregate_sync : IsSync Aggregate.the_field.row
aggregate_sync = search (query_sync, expr_sync, expression_parts) depth 12

entry_sync : IsSync Entry.the_field.row
entry_sync = search (query_sync, aggregate_sync, expression_parts) depth 12

ruleset statement_parts = (expr_sync, assignment_sync, aggregate_sync, expression_parts)

pub stmt_sync : IsSync Stmt.the_field.row
stmt_sync = stmt.sync-Stmt (search statement_parts depth 12) (search statement_parts depth 12) (search statement_parts depth 12) (search statement_parts depth 12)
    (search statement_parts depth 12) heap.Vec-sync (search statement_parts depth 12) (search statement_parts depth 12) (search statement_parts depth 12)

rule_sync : IsSync Rule.the_field.row
rule_sync = search (event_send, event_sync, entry_sync, stmt_sync, expression_parts) depth 30 fits 20000

pub library_sync : IsSync Library.the_field.row
library_sync = search (rule_sync, expression_parts) depth 30 fits 20000

pub tried_send : IsSend Tried.the_field.row
tried_send = search (attempt_send, sendable) depth 12

-- the same for values behind a reference
library_row : IsSync Library.the_row
library_row = search (rule_sync, expression_parts) depth 30 fits 20000

snapshot_row : IsSync Snapshot.the_row
snapshot_row = search (base_send, base_sync, shared_layer_sync, small_vec_sync, kept_list_sync, heap.crosses, sendable) depth 12

layer_row_send : IsSend Layer.the_row
layer_row_send = search layer_parts depth 12

layer_row_sync : IsSync Layer.the_row
layer_row_sync = search layer_parts depth 12

pub trial_sync : (κ : NamedLft) (R G T : RattleType) → IsSync R → IsSync G → IsSync T → IsSync (Trial.the_row κ R G T)
trial_sync κ R G T r g t =
    declared_sync (Trial.the_type κ R G T) (
      search (r, g, t, sendable) depth 12,
      (
        search (heap.sync, sendable) depth 12,
        (
          as_row_sync (shr_ref_field κ Library.the_row tt) (shr_sync κ.mir κ.lft Library.the_row library_row),
          (search (r, g, t, sendable) depth 12, (search (r, g, t, sendable) depth 12, (search sendable depth 12, tt))),
        ),
      ),
    )

past_row : IsSync Past.the_row
past_row = search (heap.crosses, sendable) depth 12

effort_row : IsSync Effort.the_row
effort_row = search (heap.crosses, sendable) depth 12

pub engine_sync : (κ : NamedLft) (R : RattleType) → IsSync R → IsSync (Engine.the_row κ R)
engine_sync κ R r =
    declared_sync (Engine.the_type κ R) (
      search (r, sendable) depth 12,
      (
        search (heap.sync, sendable) depth 12,
        (
          as_row_sync (shr_ref_field κ Library.the_row tt) (shr_sync κ.mir κ.lft Library.the_row library_row),
          (
            search sendable depth 12,
            (
              as_row_sync (shr_ref_field κ Past.the_row tt) (shr_sync κ.mir κ.lft Past.the_row past_row),
              (as_row_sync (shr_ref_field κ Effort.the_row tt) (shr_sync κ.mir κ.lft Effort.the_row effort_row), tt),
            ),
          ),
        ),
      ),
    )

wave_board : IsSync (Board.the_row (Arc.the_row Layer.the_row Heap.the_row ghosts))
wave_board = board.the_sync (Arc.the_row Layer.the_row Heap.the_row ghosts) (heap.Arc-send Layer.the_row layer_row_send layer_row_sync) (heap.Arc-sync Layer.the_row layer_row_send layer_row_sync)

pub wave_sync : (κ : NamedLft) → IsSync (Wave.the_row κ)
wave_sync κ = search (snapshot_sync, layer_row_send, layer_row_sync, task.the_sync, wave_board, heap.crosses, sendable) depth 30 fits 20000

pub sent_send : (κ : NamedLft) → IsSend (Sent.the_row κ)
sent_send κ = search (library_row, snapshot_row, tried_send, sendable) depth 12

pub job_send : (κ : NamedLft) → IsSend (Job.the_row κ)
job_send κ = declared_send (Job.the_type κ) (search (seat.the_send, sendable) depth 12, (search (sent_send, sender.the_send, heap.crosses, heap.send, sendable) depth 12, tt))

-- the same for what the owner of a group uses in a wave
pub view_send : IsSend View.the_row
view_send = search (snapshot_send, reads_send, layer_row_send, layer_row_sync, cell_value_send, cell.the_send, heap.crosses, sendable) depth 30 fits 20000

pub progress_send : IsSend Progress.the_row
progress_send = search (outcome_send, attempt_send, veto.the_send, heap.crosses, sendable) depth 30 fits 20000

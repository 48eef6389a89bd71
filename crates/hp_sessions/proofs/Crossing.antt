-- What a book holds, and what callers bring, may be sent from thread to thread: by what `hp_fire` proves of it, and the
-- rest part by part.
use denote.RattleType.{RattleType}
use denote.Param.Send.{IsSend, IsSync, sendable}
use Rattle.std.proofs.Crossing as heap
use Rattle.std.proofs.MapsCrossing as maps
use Rattle.std.specs.contracts.sync.Arc as Arc
use Rattle.std.specs.contracts.alloc.Global as Heap
use Rattle.std.specs.contracts.impls.GlobalAllocator.TheImpl.{ghosts}
use Rattle.atomic_table.proofs.shared.Seat.TheSendSync as seat
use Rattle.atomic_table.proofs.shared.Shared.TheSendSync as shared
use Rattle.atomic_table.proofs.send_lease.SendLease.TheSendSync as lease
use Rattle.hp_value.proofs.value.Value.TheSendSync as value
use Rattle.hp_value.proofs.veto.Veto.TheSendSync as veto
use Rattle.hp_value.proofs.occurrence.Coupling.TheSendSync as coupling
use Rattle.hp_value.proofs.rule_operation.RuleOperation.TheSendSync as operation_word
use Rattle.hp_value.proofs.expr.Arithmetic.TheSendSync as arithmetic
use Rattle.hp_value.proofs.expr.Comparison.TheSendSync as comparison
use Rattle.hp_value.proofs.row.ClassDef.TheSendSync as class
use Rattle.hp_value.specs.contracts.expr.Expr as Expr
use Rattle.hp_value.proofs.expr.Expr.TheLaws.TheKnot as expr
use Rattle.hp_event.proofs.pattern.Pattern.TheSendSync as pattern
use Rattle.hp_detect.specs.contracts.event.EventExpr as EventExpr
use Rattle.hp_detect.proofs.event.EventExpr.TheLaws.TheKnot as event
use Rattle.hp_query.specs.contracts.query.Query as Query
use Rattle.hp_query.specs.contracts.aggregate.Aggregate as Aggregate
use Rattle.hp_query.specs.contracts.entry.Entry as ConditionEntry
use Rattle.hp_rule.specs.contracts.stmt.Assignment as Assignment
use Rattle.hp_rule.specs.contracts.stmt.Stmt as Stmt
use Rattle.hp_rule.proofs.stmt.Stmt.TheLaws.TheKnot as stmt
use Rattle.hp_rule.specs.contracts.rule.Rule as Rule
use Rattle.hp_rule.proofs.rule_lists.RuleLists.TheSendSync as rule_lists
use Rattle.hp_rule.proofs.asked.AskedField.TheSendSync as asked
use Rattle.hp_rule.specs.contracts.library.Library as Library
use Rattle.hp_rule.specs.contracts.body.Body as Body
use Rattle.hp_tree.specs.contracts.node.Ending as Ending
use Rattle.hp_tree.specs.contracts.report.TopReport as TopReport
use Rattle.hp_tree.specs.contracts.report.UnitReport as UnitReport
use Rattle.hp_store.specs.contracts.store.Store as Store
use Rattle.hp_fire.proofs.Sending.{event_sync, library_sync, item_send, item_sync, snapshot_send}
use Rattle.hp_sessions.specs.declared.name.BookName as name
use Rattle.hp_sessions.specs.contracts.book.Book as Book
use Rattle.hp_sessions.specs.contracts.entry.Entry as Entry
use Rattle.hp_sessions.specs.contracts.receipt.Receipt as Receipt

-- ---- libraries and bodies

ruleset expression_parts = (
  value.the_send,
  asked.the_send,
  arithmetic.the_send,
  comparison.the_send,
  pattern.the_send,
  class.the_send,
  rule_lists.the_send,
  coupling.the_send,
  operation_word.the_send,
  heap.crosses,
  maps.crosses,
  sendable,
)

expr_send : IsSend Expr.the_field.row
expr_send = expr.send-Expr (search expression_parts depth 12) (search expression_parts depth 12) heap.Box-send (search expression_parts depth 12)
    (search expression_parts depth 12) (search expression_parts depth 12)

event_send : IsSend EventExpr.the_field.row
event_send = event.send-EventExpr (search expression_parts depth 12) heap.Box-send

assignment_send : IsSend Assignment.the_field.row
assignment_send = search (expr_send, expression_parts) depth 12

query_send : IsSend Query.the_field.row
query_send = search (expr_send, expression_parts) depth 12

aggregate_send : IsSend Aggregate.the_field.row
aggregate_send = search (query_send, expr_send, expression_parts) depth 12

condition_entry_send : IsSend ConditionEntry.the_field.row
condition_entry_send = search (query_send, aggregate_send, expression_parts) depth 12

ruleset statement_parts = (expr_send, assignment_send, aggregate_send, expression_parts)

stmt_send : IsSend Stmt.the_field.row
stmt_send =
    stmt.send-Stmt (search statement_parts depth 12) (search statement_parts depth 12) (search statement_parts depth 12) (search statement_parts depth 12) (search statement_parts depth 12)
    heap.Vec-send (search statement_parts depth 12) (search statement_parts depth 12) (search statement_parts depth 12)

rule_send : IsSend Rule.the_field.row
rule_send = search (event_send, event_sync, condition_entry_send, stmt_send, expression_parts) depth 30 fits 20000

library_send : IsSend Library.the_field.row
library_send = search (rule_send, expression_parts) depth 30 fits 20000

shared_library_send : IsSend (Arc.the_row Library.the_row Heap.the_row ghosts)
shared_library_send = search (library_send, library_sync, heap.crosses, sendable) depth 12

pub shared_library_sync : IsSync (Arc.the_row Library.the_row Heap.the_row ghosts)
shared_library_sync = search (library_send, library_sync, heap.crosses, sendable) depth 12

body_send : IsSend Body.the_field.row
body_send = search (shared_library_send, stmt_send, heap.crosses, sendable) depth 12

-- ---- replies

ending_send : IsSend Ending.the_field.row
ending_send = search (veto.the_send, heap.crosses, sendable) depth 30 fits 20000

ending_sync : IsSync Ending.the_field.row
ending_sync = search (veto.the_sync, heap.crosses, sendable) depth 30 fits 20000

top_send : IsSend TopReport.the_field.row
top_send = search (item_send, ending_send, coupling.the_send, heap.crosses, sendable) depth 30 fits 20000

top_sync : IsSync TopReport.the_field.row
top_sync = search (item_sync, ending_sync, coupling.the_sync, heap.crosses, sendable) depth 30 fits 20000

report_send : IsSend UnitReport.the_row
report_send = search (top_send, heap.crosses, sendable) depth 12

report_sync : IsSync UnitReport.the_row
report_sync = search (top_sync, heap.crosses, sendable) depth 12

reply_send : IsSend (Arc.the_row UnitReport.the_row Heap.the_row ghosts)
reply_send = search (report_send, report_sync, heap.crosses, sendable) depth 12

-- ---- books

entry_send : IsSend Entry.the_field.row
entry_send = search (body_send, reply_send, sendable) depth 12

store_send : IsSend Store.the_field.row
store_send = search (snapshot_send, sendable) depth 12

ruleset book_parts = (shared_library_send, snapshot_send, store_send, entry_send, seat.the_send, shared.the_send, lease.the_send, heap.crosses, sendable)

pub book_send : (K : RattleType) (g : name.Ghosts K.Denot) → IsSend K → IsSend (Book.the_row K g)
book_send K g k = search book_parts depth 30 fits 20000

-- ---- receipts

pub receipt_send : (K : RattleType) (g : name.Ghosts K.Denot) → IsSend K → IsSend (Receipt.the_row K g)
receipt_send K g k = search (reply_send, entry_send, seat.the_send, heap.crosses, sendable) depth 30 fits 20000

use denote.Param.Send.{sendable}
use Rattle.std.proofs.Crossing as heap
use Rattle.hp_sessions.proofs.Crossing.{book_send, receipt_send}
use Rattle.bank.proofs.service.serve.Goals as goal

pub map_indices-requires-sync-F : goal.map_indices-requires-sync-F
map_indices-requires-sync-F g c κs w = let r = c.type_bounds.sync-R in let k = c.type_bounds.send-K in search (book_send, heap.crosses, sendable) depth 30 fits 20000

pub map_indices-requires-send-X : goal.map_indices-requires-send-X
map_indices-requires-send-X g c κs w = let k = c.type_bounds.send-K in search (receipt_send, heap.crosses, sendable) depth 30 fits 20000

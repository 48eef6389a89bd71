-- Books, receipts and sessions in contracts.
use Rattle.std.specs.Prelude.{◌≡◌, ◌≢◌, ℕ, ◌+◌, ◌-◌, ◌<◌, ◌≤◌, List, [], ◌∷◌, ◌++◌, length, Option, None, Some, slice_get, option_map}
use Rattle.std.specs.declared.sync.Arc.{Arc}
use Rattle.std.specs.declared.alloc.Global.{Global}
use Rattle.atomic_table.specs.Seated.{TableId}
use Rattle.atomic_table.specs.declared.shared.Seat.{Seat}
use Rattle.hp_model.specs.Cascade.{transaction}
use Rattle.hp_model.specs.Cells.{Holds, over}
use Rattle.hp_model.specs.Sessions.{IsLegal}
use Rattle.hp_rule.specs.Mapped as rules
use Rattle.hp_rule.specs.declared.library.Library.{Library}
use Rattle.hp_rule.specs.declared.body.Body.{Body}
use Rattle.hp_store.specs.Changes.{changes}
use Rattle.hp_store.specs.Stack.{Stack, cells_in}
use Rattle.hp_attempt.specs.Holding.{FirstFailed}
use Rattle.hp_tree.specs.declared.report.UnitReport.{UnitReport}
use Rattle.hp_tree.specs.Mapped.{unit_report}
use Rattle.hp_top.specs.Units.{RanUnit}
use Rattle.hp_sessions.specs.declared.entry.Entry.{Entry}
use Rattle.hp_sessions.specs.declared.memory.Memory.{Memory}
use Rattle.hp_sessions.specs.declared.tokens.View.{View}
use Rattle.hp_sessions.specs.declared.refusal.Refusal.{Refusal}
use Rattle.hp_sessions.specs.Units.{Made, IsSound}
use Rattle.hp_sessions.specs.Kept.{IsKept}
use Rattle.hp_sessions.specs.Mapped as mapped

-- a book before it has a name
pub record Begun : Type 0 where
  pub table : TableId
  pub library : Library
  pub opening : Stack

-- a book
pub record Ledger : Type 0 where
  pub library : Library
  pub opening : Stack
  pub store : Stack
  pub history : List Entry

-- a receipt: its number, and the entry there
pub record ReceiptView : Type 0 where
  pub number : ℕ
  pub entry : Option Entry

-- a session: its number, and that of its last receipt, or 0
pub record Caller : Type 0 where
  pub number : ℕ
  pub last : ℕ

-- the history is legal: it leads from the opening cells to the store's
abbrev pub IsLegalBook : Ledger → Type 0
IsLegalBook b = IsLegal (rules.library b.library) (cells_in b.opening) (cells_in b.store) (mapped.history b.history)

abbrev pub IsKeptBook : Library → Stack → Stack → List Entry → Type 0
IsKeptBook library opening store history = IsKept (rules.library library) (cells_in opening) (cells_in store) (mapped.history history)

-- a token of this table that has seen this list
abbrev pub IsToken : TableId → List Entry → Seat Entry View → Type 0
IsToken table list t = (t.table_id ≡ table) × (t.me.1 ≡ []) × (t.me.0.list ≡ list)

-- the entry stands at the receipt's number
abbrev pub Stands : List Entry → ReceiptView → Type 0
Stands entries r = (0 < r.number) × (slice_get entries (r.number - 1) ≡ r.entry)

-- the body's library is the book's, and the history has room
abbrev pub MayCome : Ledger → Body → Type 0
MayCome b body = (rules.library body.library.value ≡ rules.library b.library) × (length b.history < 100000)

-- besides, the unit's reads hold
abbrev pub MayBeCommitted : Ledger → Made → Type 0
MayBeCommitted b u = MayCome b u.body × Holds (cells_in b.store) u.reads

-- the entry of a unit
abbrev pub entry_of : ℕ → Made → Entry
entry_of session u = record { session = session; body = u.body; time = u.time; reply = u.reply }

-- the unit stands for its body and was committed: its entry was added to the history and its changes to the store, and
-- the receipt is the entry's
pub record IsCommitted (session : ℕ) (u : Made) (before now : Ledger) (r : ReceiptView) : Type 0 where
  pub sound : IsSound u
  pub might : MayBeCommitted before u
  pub library : now.library ≡ before.library
  pub opening : now.opening ≡ before.opening
  pub store : cells_in now.store ≡ over (cells_in before.store) (changes u.layer)
  pub history : now.history ≡ before.history ++ entry_of session u ∷ []
  pub receipt : r ≡ record { number = length before.history + 1; entry = Some (entry_of session u) }

-- why a unit is refused, in the order of the checks
abbrev pub IsRefused : Ledger → Made → Refusal → Type 0
IsRefused b u Refusal.OtherLibrary = rules.library u.body.library.value ≢ rules.library b.library
IsRefused b u (Refusal.HistoryFull n) = (rules.library u.body.library.value ≡ rules.library b.library) × (length b.history ≡ 100000) × (n ≡ 100000)
IsRefused b u (Refusal.Stale entries cell) = MayCome b u.body × (entries ≡ length b.history) × FirstFailed (cells_in b.store) u.reads cell
IsRefused b u Refusal.NoMemory = MayCome b u.body

-- why a body is refused that runs on the current store: never for what it read
abbrev pub IsUnable : Ledger → Body → Refusal → Type 0
IsUnable b body Refusal.OtherLibrary = rules.library body.library.value ≢ rules.library b.library
IsUnable b body (Refusal.HistoryFull n) = (rules.library body.library.value ≡ rules.library b.library) × (length b.history ≡ 100000) × (n ≡ 100000)
IsUnable b body (Refusal.Stale entries cell) = ⊥
IsUnable b body Refusal.NoMemory = MayCome b body

-- a refusal whose reason isn't a read of the unit; that of a full history has the number of its units
abbrev pub IsNotStale : Refusal → Type 0
IsNotStale Refusal.OtherLibrary = Unit {0}
IsNotStale (Refusal.HistoryFull n) = n ≡ 100000
IsNotStale (Refusal.Stale entries cell) = ⊥
IsNotStale Refusal.NoMemory = Unit {0}

-- a token of this table that has seen at least this many entries; without one, none were seen
abbrev pub IsSeen : TableId → ℕ → Option (Seat Entry View) → Type 0
IsSeen table last None = last ≡ 0
IsSeen table last (Some t) = (t.table_id ≡ table) × (t.me.1 ≡ []) × (last ≤ length t.me.0.list)

-- what a session knows of the history that this table's tokens see
abbrev pub IsMemory : TableId → Memory → Type 0
IsMemory table m = IsSeen table m.last m.token

-- the body ran as a unit of this moment on the current store, and was committed: its entry was added to the history, and
-- the receipt is the entry's
pub record IsRun (session time : ℕ) (body : Body) (before now : Ledger) (r : ReceiptView) : Type 0 where
  pub might : MayCome before body
  pub library : now.library ≡ before.library
  pub opening : now.opening ≡ before.opening
  pub reply : Arc UnitReport Global
  pub ran : RanUnit (rules.library body.library.value) (transaction time (rules.body body)) (cells_in before.store) (cells_in now.store) (unit_report reply.value)
  pub history : now.history ≡ before.history ++ record { session = session; body = body; time = time; reply = reply } ∷ []
  pub receipt : r ≡ record { number = length before.history + 1; entry = Some (record { session = session; body = body; time = time; reply = reply }) }

-- this is the report of the entry
abbrev pub IsReply : Arc UnitReport Global → Option Entry → Type 0
IsReply reply None = ⊥
IsReply reply (Some e) = reply.value ≡ e.reply.value

-- a receipt of this session, this moment and this body
abbrev pub IsOf : (session time : ℕ) → Body → Option Entry → Type 0
IsOf session time body None = ⊥
IsOf session time body (Some e) = (e.session ≡ session) × (e.time ≡ time) × (e.body ≡ body)

-- the session of a receipt
abbrev pub session_of : ReceiptView → Option ℕ
session_of r = option_map (λ (e : Entry). e.session) r.entry

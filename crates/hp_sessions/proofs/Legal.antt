-- A growing history is legal.
use Rattle.std.proofs.Common.{◌≡◌, ℕ, ◌+◌, ◌-◌, List, [], ◌∷◌, ◌++◌, length, Some, slice_get, refl, sym, ap, ap₂, ◌∙◌, subst, arith}
use Rattle.std.proofs.lemmas.List.{map_push}
use Rattle.hp_model.specs.Rules.{Library}
use Rattle.hp_model.specs.State.{State}
use Rattle.hp_model.specs.Cascade.{transaction, run_unit}
use Rattle.hp_model.specs.Cells.{Cells, Changes, over, Read, Holds}
use Rattle.hp_model.specs.Sessions.{Entry, IsSerialRun, IsLegal, HasFitState}
use Rattle.hp_top.specs.Units.{IsSoundUnit}
use Rattle.hp_rule.specs.Mapped as rules
use Rattle.hp_rule.specs.declared.library.Library.{Library as Code}
use Rattle.hp_rule.specs.declared.body.Body.{Body}
use Rattle.hp_store.specs.Changes.{Entries, changes}
use Rattle.hp_view.specs.Seeing.{Seeing, now_in}
use Rattle.std.specs.declared.sync.Arc.{Arc}
use Rattle.std.specs.declared.alloc.Global.{Global}
use Rattle.hp_tree.specs.declared.report.UnitReport.{UnitReport}
use Rattle.hp_store.specs.Stack.{Stack, cells_in}
use Rattle.hp_tree.specs.Mapped.{unit_report}
use Rattle.hp_sessions.specs.declared.entry.Entry.{Entry as RustEntry}
use Rattle.hp_sessions.specs.Mapped as mapped
use Rattle.hp_sessions.specs.Units.{Made, IsSound}
use Rattle.hp_sessions.specs.Kept.{LeadsInOrder, IsKept}
use Rattle.hp_sessions.specs.Books.{Ledger, ReceiptView as Receipt, IsLegalBook, IsKeptBook, MayBeCommitted, entry_of, IsCommitted, IsRun, IsReply}

-- the empty history
pub begins : (library : Library) (opening : Cells) → HasFitState library opening → IsKept library opening opening []
begins library opening fit = record { opened = fit; leads = λ S ordered is. (is, ordered) }

leads_on : (library : Library) (S : State) (now : Cells) (es : List Entry) (e : Entry) (reads : List Read) (layer : Changes)
    → LeadsInOrder library S es now → IsSoundUnit library (transaction e.now e.body) reads layer e.reply → Holds now reads
    → LeadsInOrder library S (es ++ e ∷ []) (over now layer)
leads_on library S now [] e reads layer h sound held =
    let t = sound.from S h.1 (subst (λ c. Holds c reads) (sym h.0) held) in (t.answers, (t.reaches ∙ ap (λ c. over c layer) h.0, t.ordered))
leads_on library S now (x ∷ es) e reads layer h sound held =
    (h.0, leads_on library (run_unit library (transaction x.now x.body) S).state now es e reads layer h.1 sound held)

-- one more unit, whose reads hold
pub commits : (library : Library) (opening now : Cells) (es : List Entry) (e : Entry) (reads : List Read) (layer : Changes)
    → IsKept library opening now es → IsSoundUnit library (transaction e.now e.body) reads layer e.reply → Holds now reads
    → IsKept library opening (over now layer) (es ++ e ∷ [])
commits library opening now es e reads layer kept sound held =
    record { opened = kept.opened; leads = λ S ordered is. leads_on library S now es e reads layer (kept.leads S ordered is) sound held }

serial : (library : Library) (S : State) (now : Cells) (es : List Entry) → LeadsInOrder library S es now → IsSerialRun library S es now
serial library S now [] h = h.0
serial library S now (e ∷ es) h = (h.0, serial library (run_unit library (transaction e.now e.body) S).state now es h.1)

-- what a book keeps is legal
pub legal : (library : Library) (opening now : Cells) (es : List Entry) → IsKept library opening now es → IsLegal library opening now es
legal library opening now es kept = record { opened = kept.opened; serial = λ S ordered is. serial library S now es (kept.leads S ordered is) }

-- ---- books

pub opens : (library : Code) (opening store : Stack) (history : List RustEntry) → HasFitState (rules.library library) (cells_in opening) → store ≡ opening → history ≡ []
    → IsKeptBook library opening store history
opens library opening store history fit same none =
    subst (λ es. IsKeptBook library opening store es) (sym none)
    (subst (λ s. IsKeptBook library opening s []) (sym same) (begins (rules.library library) (cells_in opening) fit))

pub legal_book : (b : Ledger) → IsKeptBook b.library b.opening b.store b.history → IsLegalBook b
legal_book b = legal (rules.library b.library) (cells_in b.opening) (cells_in b.store) (mapped.history b.history)

-- the book after a unit that may be committed
pub keeps : (b : Ledger) (session : ℕ) (u : Made) (store : Stack) (history : List RustEntry) → IsKeptBook b.library b.opening b.store b.history → IsSound u → MayBeCommitted b u
    → cells_in store ≡ over (cells_in b.store) (changes u.layer) → history ≡ b.history ++ entry_of session u ∷ [] → IsKeptBook b.library b.opening store history
keeps b session u store history kept sound might changed added =
    let library = rules.library b.library in
    let e = entry_of session u in
    let stands = subst (λ l. IsSoundUnit l (transaction u.time (rules.body u.body)) u.reads (changes u.layer) (unit_report u.reply.value)) might.0.0 sound in
    let goes = commits library (cells_in b.opening) (cells_in b.store) (mapped.history b.history) (mapped.entry e) u.reads (changes u.layer) kept stands might.1 in
    let more : mapped.history history ≡ mapped.history b.history ++ mapped.entry e ∷ [] = ap mapped.history added ∙ map_push mapped.entry b.history e in
    subst (λ (p : Cells × List Entry). IsKept library (cells_in b.opening) p.0 p.1) (λ i. (sym changed i, sym more i)) goes

-- a unit that was committed ran on the store at that time
pub ran : (session : ℕ) (u : Made) (before now : Ledger) (r : Receipt) (time : ℕ) (body : Body) → u.time ≡ time → u.body ≡ body → IsCommitted session u before now r
    → IsRun session time body before now r
ran session u before now r time body moment same c =
    subst (λ (p : ℕ × Body). IsRun session p.0 p.1 before now r) (λ i. (moment i, same i))
    (record {
      might = c.might.0;
      library = c.library;
      opening = c.opening;
      reply = u.reply;
      ran = record {
        from = λ S ordered is.
            let t = c.sound.from S ordered (subst (λ cs. Holds cs u.reads) (sym is) c.might.1) in
            record { answers = t.answers; reaches = t.reaches ∙ ap (λ cs. over cs (changes u.layer)) is ∙ sym c.store; ordered = t.ordered };
      };
      history = c.history;
      receipt = c.receipt;
    })

-- ---- receipts

last_of : (h : List RustEntry) (e : RustEntry) → slice_get (h ++ e ∷ []) (length h) ≡ Some e
last_of [] e = refl
last_of (x ∷ h) e = last_of h e

-- the new entry stands at the new number
pub there : (h list : List RustEntry) (e : RustEntry) (n : ℕ) → list ≡ h ++ e ∷ [] → n ≡ length h + 1 → slice_get list (n - 1) ≡ Some e
there h list e n is m =
    let k : n - 1 ≡ length h = omega (arith, m) in
    ap₂ (λ (l : List RustEntry) (j : ℕ). slice_get l j) is k ∙ last_of h e

pub replies : (h list : List RustEntry) (e : RustEntry) (n : ℕ) (reply : Arc UnitReport Global) → list ≡ h ++ e ∷ [] → n ≡ length h + 1 → reply.value ≡ e.reply.value
    → IsReply reply (slice_get list (n - 1))
replies h list e n reply is m same = subst (IsReply reply) (sym (there h list e n is m)) same

-- ---- reads

-- a view with no writes shows its snapshot
pub plain : (v : Seeing) (base : Stack) → v.base ≡ base → v.writes ≡ [] → now_in v ≡ cells_in base
plain v base b w = ap₂ (λ (s : Stack) (es : Entries). over (cells_in s) (changes es)) b w

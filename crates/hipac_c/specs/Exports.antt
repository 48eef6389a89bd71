-- What each export says of the base.
--     code o                      the status for what became of a line
--     has o n                     whether the option n is set in the options o
--     manner_by o d               how lines are read and answered by these options; d is declared, if they ask for checks
--     Told b c p n r              what came of a line is told: the answer of b at p, of length n, and the status r
--     OpenedBy s o b r            the base b has answered the script s under the options o, with the outcome r
--     Opened s o x p n r          the base x after a script s under the options o, its answer and the status
--     Answered gave x y p n r     the base x is y after a line, with its answer and the status; gave says what y keeps
--     Again x p n r               the base x shows its answer
use Rattle.std.specs.Prelude.{◌≡◌, ℕ, nat_le, bit_and, ℤ, pos, ◌⊎◌, ◌==◌, List, length, Bool, not, true, false, Result, Ok, Err, if◌then◌else◌}
use Rattle.std.specs.Vec.{vec_ptr}
use denote.RawPtr.{Ptr, null_ptr}
use Rattle.std.specs.declared.alloc.AllocError.{AllocError}
use Rattle.std.specs.declared.option.Option.{Option}
use Rattle.std.specs.declared.option.Option.TheVariants.{None, Some}
use Rattle.hp_model.specs.Kinds.{Declared}
use Rattle.hp_lines.specs.Live as L
use Rattle.hp_live.specs.Sessions.{IsSession, Gave}
use Rattle.hp_live.specs.declared.session.Session.{Session}
use Rattle.hp_live.specs.declared.server.Outcome.{Outcome}
use Rattle.hp_live.specs.declared.server.Outcome.TheVariants.{Done, Refused, Closed}

abbrev pub code : Outcome → ℤ
code Done = pos 0
code Refused = pos 1
code Closed = pos 3

-- options are a sum of 1, for trees, 2, for the text notation, and 4, for checks
abbrev pub known : ℕ → Bool
known options = nat_le options 7

abbrev pub has : (options option : ℕ) → Bool
has options option = not (bit_and options option == 0)

-- what is declared of signals, if the base is checked
abbrev pub checks_by : (checked : Bool) → Declared → Option Declared
checks_by checked d = if checked then Some d else None

-- the same by some declaration: what a checked base promises holds for each
abbrev pub ChecksBy : (checked : Bool) → Option Declared → Type 0
ChecksBy checked checks = (d : Declared) × (checks ≡ checks_by checked d)

abbrev pub manner_by : (options : ℕ) → Declared → L.Manner
manner_by options d = record { is_text = has options 2; with_tree = has options 1; checks = checks_by (has options 4) d }

-- the bytes at p, n of them, are the answer of b
abbrev pub Shows : Session → Ptr → ℕ → Type 0
Shows b p n = (p ≡ vec_ptr b.answer) × (n ≡ length b.answer.items)

abbrev pub Nothing : Ptr → ℕ → Type 0
Nothing p n = (p ≡ null_ptr) × (n ≡ 0)

abbrev pub Told : Session → Result Outcome AllocError → Ptr → ℕ → ℤ → Type 0
Told b (Ok o) p n status = (status ≡ code o) × Shows b p n
Told b (Err e) p n status = (status ≡ pos 2) × Nothing p n

-- a base that is open has answered the script
abbrev pub OpenedBy : List ℕ → (options : ℕ) → Session → Outcome → Type 0
OpenedBy script options b o = (d : Declared) × Gave b o (manner_by options d) L.unopened script

abbrev pub Began : List ℕ → (options : ℕ) → Session → ℤ → Type 0
Began script options b status = (known options ≡ true) × ((o : Outcome) × (status ≡ code o) × OpenedBy script options b o)

abbrev pub Unopened : (known : Bool) → ℤ → Type 0
Unopened true status = status ≡ pos 2
Unopened false status = status ≡ pos 4

abbrev pub Opened : List ℕ → (options : ℕ) → Option Session → Ptr → ℕ → ℤ → Type 0
Opened script options None p n status = Unopened (known options) status × Nothing p n
Opened script options (Some b) p n status = Began script options b status × Shows b p n

-- the base before and after a line that was answered
abbrev pub Goes : (Session → Outcome → L.Manner → L.Stage → Type 0) → Session → Session → ℤ → Type 0
Goes gave b c status = (b.lost ≡ false) × ((o : Outcome) × (status ≡ code o) × ((m : L.Manner) (now : L.Stage) → IsSession b m now → gave c o m now))

abbrev pub Answered : (Session → Outcome → L.Manner → L.Stage → Type 0) → Option Session → Option Session → Ptr → ℕ → ℤ → Type 0
Answered gave None y p n status = (y ≡ None) × Nothing p n × (status ≡ pos 3)
Answered gave (Some b) None p n status = ⊥
Answered gave (Some b) (Some c) p n status = (Goes gave b c status × Shows c p n) ⊎ ((status ≡ pos 2) × (c.lost ≡ true) × Nothing p n)

abbrev pub Again : Option Session → Ptr → ℕ → ℤ → Type 0
Again None p n status = (status ≡ pos 3) × Nothing p n
Again (Some b) p n status = ((status ≡ pos 0) × (b.lost ≡ false) × Shows b p n) ⊎ ((status ≡ pos 2) × (b.lost ≡ true) × Nothing p n)

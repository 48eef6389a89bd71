-- A session in the caller's own process.
--     IsSession s m t      the session s, which reads lines and answers them in the manner m, is at the stage t
--     Gave s o m t l       what it keeps after the line l, which it took at the stage t
--     GaveBy r s o m t l   the same of a line that is read and answered in the manner r
--     show_line b          the line that asks for the whole state
--     get_line c k         the JSON line that asks for the object of the class c and the key k
use Rattle.std.specs.Prelude.{◌≡◌, ◌++◌, List, ℕ, ℤ, Bool, true, false, codes}
use Rattle.std.specs.Fmt.{signed_decimal}
use Rattle.hp_lines.specs.Lines.{Line}
use Rattle.hp_lines.specs.Live as L
use Rattle.hp_live.specs.Kept.{IsStage, manner, declared_of}
use Rattle.hp_live.specs.Outcomes.{outcome_of}
use Rattle.hp_live.specs.declared.server.Outcome.{Outcome}
use Rattle.hp_live.specs.declared.session.Session.{Session}

pub record IsSession (kept : Session) (m : L.Manner) (stage : L.Stage) : Type 0 where
  pub manner_is : manner kept.options (declared_of kept.checks) ≡ m
  pub stage_is : IsStage kept.stage stage
  pub whole : kept.lost ≡ false

-- the answer kept is the one that hipac_live writes for the line, and the session is at the stage after it
pub record GaveBy (read : L.Manner) (kept : Session) (outcome : Outcome) (m : L.Manner) (stage : L.Stage) (line : Line) : Type 0 where
  pub answer_is : kept.answer.items ≡ (L.answer read stage line).body ++ (L.answer read stage line).last
  pub outcome_is : outcome ≡ outcome_of read stage line
  pub session_is : IsSession kept m (L.answer read stage line).stage

abbrev pub Gave : Session → Outcome → L.Manner → L.Stage → Line → Type 0
Gave kept outcome m stage line = GaveBy m kept outcome m stage line

abbrev pub in_json : L.Manner → L.Manner
in_json m = record { is_text = false; with_tree = m.with_tree; checks = m.checks }

abbrev pub show_line : (is_text : Bool) → Line
show_line false = codes "[\"show\"]"
show_line true = codes "show"

-- the name of the class stands in it as it is
abbrev pub get_line : (class : List ℕ) → (key : ℤ) → Line
get_line class key = codes "[\"show\",\"" ++ (class ++ (codes "\"," ++ (signed_decimal key ++ codes "]")))

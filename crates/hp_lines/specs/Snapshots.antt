-- A rule base that reads a snapshot of another one answers all later lines as that one does, but for the numbers of
-- units.
use Rattle.std.specs.Prelude.{◌≡◌, ℕ, List, flat_map}
use Rattle.hp_model.specs.Rules.{rule_at}
use Rattle.hp_model.specs.State.{Objects, State, rule_state, enabled, initial_state, IsFit}
use Rattle.hp_model.specs.Ranges.{IsFitLibrary}
use Rattle.hp_model.specs.Cascade.{run_units}
use Rattle.hp_model.specs.Snapshots.{StatesAlike, snapshot, forgets}
use Rattle.hp_lines.specs.Lines.{Line}
use Rattle.hp_lines.specs.Live.{Manner, RuleBase, up, answers}

-- the rule base with another state; the numbers of units go on as before
abbrev pub with_state : RuleBase → State → RuleBase
with_state base S = record { version = base.version; library = base.library; state = S; clock = base.clock; units = base.units }

-- states that no unit tells apart are told apart by no answer
abbrev pub AlikeAnswer : Type 0
AlikeAnswer = (manner : Manner) (lines : List Line) (base : RuleBase) (S : State) → StatesAlike base.library base.state S
    → answers manner (up base) lines ≡ answers manner (up (with_state base S)) lines

-- the state of a new rule base of the same rules that has read a snapshot
abbrev pub state_by_snapshot : RuleBase → (times : List ℕ) → List Objects → State
state_by_snapshot base times parts = (run_units base.library (snapshot base.clock times parts base.state.rules) (initial_state base.library)).state

-- a snapshot of a fit state answers as the state does, if each enabled rule's event forgets
abbrev pub SnapshotsAnswer : Type 0
SnapshotsAnswer = (manner : Manner) (lines : List Line) (base : RuleBase) (times : List ℕ) (parts : List Objects) → IsFitLibrary base.library → IsFit base.library base.state
    → flat_map (λ (part : Objects). part) parts ≡ base.state.objects → ((n : ℕ) → (rule_state base.state n).status ≡ enabled → forgets (rule_at base.library n).event)
    → answers manner (up base) lines ≡ answers manner (up (with_state base (state_by_snapshot base times parts))) lines

-- Units in contracts, and what they stand for.
use Rattle.std.specs.Prelude.{ℕ, List}
use Rattle.std.specs.declared.sync.Arc.{Arc}
use Rattle.std.specs.declared.alloc.Global.{Global}
use Rattle.hp_model.specs.Cascade.{transaction}
use Rattle.hp_model.specs.Cells.{Read}
use Rattle.hp_rule.specs.declared.body.Body.{Body}
use Rattle.hp_rule.specs.Mapped as rules
use Rattle.hp_store.specs.Changes.{Entries, changes}
use Rattle.hp_tree.specs.declared.report.UnitReport.{UnitReport}
use Rattle.hp_tree.specs.Mapped.{unit_report}
use Rattle.hp_top.specs.Units.{IsSoundUnit}

-- a body that ran at a moment of the clock: what it read, what it writes, and its report
pub record Made : Type 0 where
  pub body : Body
  pub time : ℕ
  pub reads : List Read
  pub layer : Entries
  pub reply : Arc UnitReport Global

-- on each ordered state in which the reads hold, the body as a unit of this moment has this report, and leaves the state
-- overwritten by the layer
abbrev pub StandsFor : Body → (time : ℕ) → List Read → Entries → Arc UnitReport Global → Type 0
StandsFor body time reads layer reply =
    IsSoundUnit (rules.library body.library.value) (transaction time (rules.body body)) reads (changes layer) (unit_report reply.value)

abbrev pub IsSound : Made → Type 0
IsSound m = StandsFor m.body m.time m.reads m.layer m.reply

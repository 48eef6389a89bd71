-- How bodies ended.
use Rattle.std.specs.Prelude.{Bool, true, false, Option, None, Some, slice_get}
use Rattle.hp_tree.specs.declared.node.Ending.{Ending}
use Rattle.hp_tree.specs.declared.node.Ending.TheVariants.{Committed, Aborted, Vetoed}
use Rattle.hp_tree.specs.declared.report.TopReport.{TopReport}
use Rattle.hp_sessions.specs.declared.entry.Entry.{Entry}

abbrev pub lasts : Ending → Bool
lasts Committed = true
lasts (Aborted cause) = false
lasts (Vetoed veto) = false

-- the unit's own transaction committed
abbrev pub has_effect : Option TopReport → Bool
has_effect None = false
has_effect (Some top) = lasts top.end

abbrev pub is_committed : Entry → Bool
is_committed e = has_effect (slice_get e.reply.value.tops.items 0)

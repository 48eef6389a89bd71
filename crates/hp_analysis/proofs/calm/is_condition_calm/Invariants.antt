use Rattle.std.proofs.Common.{◌≡◌, drop, map}
use Rattle.hp_query.specs.Mapped.{entry}
use Rattle.hp_model.specs.Kinds.{is_condition_calm}
use Rattle.hp_analysis.proofs.calm.is_condition_calm.Given as goal

-- the rest is calm as all entries are
abbrev pub invariant-loop-entry : goal.invariant-loop-entry
invariant-loop-entry l = is_condition_calm (map entry (drop l.entry-index l.entries)) ≡ is_condition_calm (map entry l.entries)

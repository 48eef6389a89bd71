use Rattle.std.proofs.Common.{◌≡◌, ◌++◌, take, drop, map}
use Rattle.hp_query.specs.Mapped.{entry}
use Rattle.hp_model.specs.Kinds.{with_entries}
use Rattle.hp_rule.specs.Places.{steps}
use Rattle.hp_rule.specs.Libraries as libraries
use Rattle.hp_analysis.specs.Declarations.{declared}
use Rattle.hp_analysis.specs.Findings.{first_scope, entries_findings}
use Rattle.hp_analysis.specs.Kinded.{findings}
use Rattle.hp_analysis.specs.Places.{columns}
use Rattle.hp_analysis.specs.Scopes.{scope_there}
use Rattle.hp_analysis.proofs.kinds.rule.find_in_condition.Given as goal

-- what was found and what is still to find is all, and the scope after the rest is that after all
abbrev pub invariant-loop-i : goal.invariant-loop-i
invariant-loop-i l =
    let library = libraries.library l.occurred.base.library.now in
    let d = declared l.occurred.base.declared.now in
    let there = scope_there (columns l.occurred.columns) (map entry (take l.i l.entries)) l.found.items in
    (findings l.notes.items ++ entries_findings library d (steps l.place) there l.i (map entry (drop l.i l.entries))
    ≡ findings l.fn.notes.items ++ entries_findings library d (steps l.place) (first_scope (columns l.occurred.columns)) 0 (map entry l.entries))
    × (with_entries library d there (map entry (drop l.i l.entries)) ≡ with_entries library d (first_scope (columns l.occurred.columns)) (map entry l.entries))

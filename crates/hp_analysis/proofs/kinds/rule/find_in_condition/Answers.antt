use Rattle.std.proofs.Common.{rules, arith, ◌≡◌, sym, ap, ◌∙◌, ◌+◌, ◌∷◌, ◌++◌, take, drop, map}
use Rattle.std.proofs.lemmas.Grind.{common_steps}
use Rattle.hp_query.specs.Mapped.{entry}
use Rattle.hp_model.specs.Kinds.{with_entries}
use Rattle.hp_model.specs.Refusals.{item_at}
use Rattle.hp_rule.specs.Places.{steps}
use Rattle.hp_rule.specs.Libraries as libraries
use Rattle.hp_analysis.specs.Declarations.{declared}
use Rattle.hp_analysis.specs.Findings.{entry_findings, scope_then, entries_findings, first_scope}
use Rattle.hp_analysis.specs.Kinded.{findings}
use Rattle.hp_analysis.specs.Places.{columns}
use Rattle.hp_analysis.specs.Scopes.{scope_there, scope_after_entry}
use Rattle.hp_analysis.proofs.LastNames.{kept, scope_step, entries_noted, scope_noted}
use Rattle.hp_analysis.proofs.kinds.rule.find_in_condition.Goals as goal
use Rattle.hp_analysis.proofs.kinds.rule.find_in_condition.Goals.{in-Some+in_ok-push, in_default}

pub loop-i-preserved : goal.loop-i-preserved
loop-i-preserved c =
    let library = libraries.library c.args.occurred.now.base.library.now in
    let d = declared c.args.occurred.now.base.declared.now in
    let path = steps c.args.place.now in
    let cs = columns c.args.occurred.now.columns in
    let es = c.args.entries.now in
    let i = c.loop-i.i in
    let ns = c.loop-i.found.items in
    let e = c.index-entries-i.result in
    let n = c.in_ok-named.field-0 in
    let first = first_scope cs in
    let there = scope_there cs (map entry (take i es)) ns in
    let inner = scope_there cs (map entry (take (i + 1) es)) c.match-branch-3.found.items in
    let split : drop i es ≡ e ∷ drop (i + 1) es = grind (arith, common_steps, c.index-entries-i.is, c.loop-i-test.true) in
    let given : scope_after_entry there (entry e) n ≡ scope_then library d there (entry e) = search rules in
    let noted : findings c.find_in_next.new.notes.items ≡ findings c.loop-i.notes.items ++ entry_findings library d there (item_at path i) (entry e) = search rules in
    let is : c.match-branch-3.found.items ≡ kept n ns = elim c.match-branch-3.branch [
      | in-Some+in_ok-push w ↦ ap (λ v. v.items) w.found-is ∙ w.in_ok-push.ensures.items ∙ sym (ap (λ o. kept o ns) w.in-Some.is)
      | in_default w ↦ ap (λ v. v.items) w.found-is ∙ sym (ap (λ o. kept o ns) w.in_default.is)
    ] in
    let same = scope_step library d cs es i e ns c.match-branch-3.found.items n split is given in (
      entries_noted library d path there inner i (entry e) (map entry (drop i es)) (map entry (drop (i + 1) es)) (findings c.loop-i.notes.items) (findings c.find_in_next.new.notes.items)
          (findings c.args.notes.now.items ++ entries_findings library d path first 0 (map entry es)) (ap (map entry) split) same noted c.loop-i.invariant.0,
      scope_noted library d there inner (with_entries library d first (map entry es)) (entry e) (map entry (drop i es)) (map entry (drop (i + 1) es)) (ap (map entry) split) same c.loop-i.invariant.1,
    )

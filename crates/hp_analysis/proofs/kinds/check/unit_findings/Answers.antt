use Rattle.std.proofs.Common.{sym, ◌∙◌, subst, List}
use Rattle.hp_model.specs.Kinds.{unit_kinded}
use Rattle.hp_rule.specs.Libraries.{library}
use Rattle.hp_rule.specs.Mapped.{unit}
use Rattle.hp_analysis.specs.Declarations.{declared}
use Rattle.hp_analysis.specs.Findings as F
use Rattle.hp_analysis.specs.Kinded.{finding}
use Rattle.hp_analysis.specs.Parts.{part_in_unit, ArePlaced}
use Rattle.hp_analysis.proofs.Judging.{judged_by, unit_judged}
use Rattle.hp_analysis.proofs.Keeping.{unit_keeps}
use Rattle.hp_analysis.proofs.Placing.{unit_placed}
use Rattle.hp_analysis.proofs.Least.{ok_to}
use Rattle.hp_analysis.proofs.kinds.check.unit_findings.Goals as goal

pub returns-clause-judges : goal.returns-clause-judges
returns-clause-judges c =
    let L = library c.args.library.now in
    let d = declared c.args.declaration.now in
    let u = unit c.args.begun.now in
    ok_to c.all_in_unit.result (λ found h. judged_by finding found.items (F.unit_findings L d u) (unit_kinded L d u) h (unit_judged L d u)) c.all_in_unit.ensures

pub returns-clause-placed : goal.returns-clause-placed
returns-clause-placed c =
    let L = library c.args.library.now in
    let d = declared c.args.declaration.now in
    let u = unit c.args.begun.now in
    ok_to c.all_in_unit.result (λ found h. subst (λ (fs : List F.Finding). ArePlaced L d (λ path. part_in_unit L d path u) fs) (sym h) (unit_placed L d u)) c.all_in_unit.ensures

pub returns-clause-keeps : goal.returns-clause-keeps
returns-clause-keeps c =
    let d = declared c.args.declaration.now in
    let u = unit c.args.begun.now in
    let L = library c.args.library.now in
    ok_to c.all_in_unit.result
    (λ found h. λ nothing. unit_keeps c.args.library.now d u (sym (judged_by finding found.items (F.unit_findings L d u) (unit_kinded L d u) h (unit_judged L d u)) ∙ nothing))
    c.all_in_unit.ensures

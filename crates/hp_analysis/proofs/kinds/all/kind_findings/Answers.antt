use Rattle.std.proofs.Common.{sym, ◌∙◌, map}
use Rattle.hp_rule.specs.Libraries.{library}
use Rattle.hp_rule.specs.Mapped.{unit}
use Rattle.hp_analysis.specs.Declarations.{declared}
use Rattle.hp_analysis.specs.FoundKinds.{kind_finding}
use Rattle.hp_analysis.specs.KindFindings as F
use Rattle.hp_analysis.specs.KindLaws.{script_kinded}
use Rattle.hp_analysis.proofs.All.{script_judged}
use Rattle.hp_analysis.proofs.Judging.{judged_by}
use Rattle.hp_analysis.proofs.Keeping.{script_keeps}
use Rattle.hp_analysis.proofs.Least.{ok_to}
use Rattle.hp_analysis.proofs.kinds.all.kind_findings.Goals as goal

pub returns-clause-judges : goal.returns-clause-judges
returns-clause-judges c =
    let L = library c.args.library.now in
    let d = declared c.args.declaration.now in
    let us = map unit c.args.units.now in
    ok_to c.find_all.result (λ all h. judged_by kind_finding all.items (F.kind_findings L d us) (script_kinded L d us) h (script_judged L d us)) c.find_all.ensures

pub returns-clause-never : goal.returns-clause-never
returns-clause-never c =
    let L = library c.args.library.now in
    let d = declared c.args.declaration.now in
    let us = map unit c.args.units.now in
    ok_to c.find_all.result
    (λ all h. λ nothing. script_keeps c.args.library.now d us (sym (judged_by kind_finding all.items (F.kind_findings L d us) (script_kinded L d us) h (script_judged L d us)) ∙ nothing))
    c.find_all.ensures

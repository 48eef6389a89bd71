use Rattle.std.proofs.Common.{sym, subst, List}
use Rattle.hp_model.specs.Kinds.{library_kinded}
use Rattle.hp_rule.specs.Libraries.{library}
use Rattle.hp_analysis.specs.Declarations.{declared}
use Rattle.hp_analysis.specs.Findings as F
use Rattle.hp_analysis.specs.Kinded.{finding}
use Rattle.hp_analysis.specs.Parts.{part_in_library, ArePlaced}
use Rattle.hp_analysis.proofs.Judging.{judged_by, library_judged}
use Rattle.hp_analysis.proofs.Placing.{library_placed}
use Rattle.hp_analysis.proofs.Least.{ok_to}
use Rattle.hp_analysis.proofs.kinds.check.library_findings.Goals as goal

pub returns-clause-judges : goal.returns-clause-judges
returns-clause-judges c =
    let L = library c.args.library.now in
    let d = declared c.args.declaration.now in
    ok_to c.all_in_library.result (λ found h. judged_by finding found.items (F.library_findings L d) (library_kinded L d) h (library_judged L d)) c.all_in_library.ensures

pub returns-clause-placed : goal.returns-clause-placed
returns-clause-placed c =
    let L = library c.args.library.now in
    let d = declared c.args.declaration.now in
    ok_to c.all_in_library.result (λ found h. subst (λ (fs : List F.Finding). ArePlaced L d (part_in_library L d) fs) (sym h) (library_placed L d)) c.all_in_library.ensures

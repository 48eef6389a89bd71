use Rattle.std.proofs.Common.{◌∙◌, ap, subst, map}
use Rattle.hp_model.specs.Report.{units_text}
use Rattle.hp_store.specs.Stack.{cells_in}
use Rattle.hp_report.specs.Mapped as model
use Rattle.hp_report.specs.Stored.{GainsOf}
use Rattle.hp_report.specs.Text.{final_text}
use Rattle.hp_report.proofs.Endings.{report_put}
use Rattle.hp_report.proofs.report.text_of.Goals as goal

pub returns : goal.returns
returns c =
    let report = c.args.report.now in
    let lib = model.library report.library.value in
    let base = cells_in report.store in
    report_put lib base c.args.with_tree (map model.unit_report report.units.items) c.in_ok-out.out c.put_final.new.out
    (c.in_ok-out.ensures
    ∙ ap (λ l. units_text (model.library l) c.args.with_tree 1 (map model.unit_report c.deref-2.result.now)) c.deref.ensures
    ∙ ap (λ us. units_text lib c.args.with_tree 1 (map model.unit_report us)) c.deref-2.ensures.value)
    (subst (λ l. GainsOf (model.library l) base (λ T. final_text (model.library l) T.objects T.rules) c.in_ok-out.out c.put_final.new.out) c.deref-3.ensures c.in_ok-put_final.ensures)

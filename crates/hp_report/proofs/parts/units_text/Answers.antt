use Rattle.std.proofs.Common.{rules, ◌≡◌, ◌∙◌, ◌++◌, ap, map}
use Rattle.hp_model.specs.Report.{Bytes, units_text}
use Rattle.hp_report.specs.Mapped as model
use Rattle.hp_report.proofs.AnyDepth.{same_units}
use Rattle.hp_report.proofs.parts.units_text.Goals as goal

pub returns : goal.returns
returns c =
    let names = model.library_of (record { classes = c.classes.result; rules = c.rules.result }) in
    let library = model.library c.args.library.now in
    let us = map model.unit_report c.args.units.now in
    let classes : names.classes ≡ library.classes = search rules in
    let rules_are : names.rules ≡ library.rules = search rules in
    c.in_ok-put_units.ensures ∙ ap (λ (b : Bytes). b ++ units_text names c.args.with_tree c.args.first us) c.in_ok-out.ensures.bytes
    ∙ same_units names library c.args.with_tree c.args.first us classes rules_are

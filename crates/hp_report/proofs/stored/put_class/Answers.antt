use Rattle.std.proofs.Common.{rules, ◌≡◌, ◌∙◌, ◌++◌, ap, string_bytes}
use Rattle.hp_model.specs.Report.{Bytes}
use Rattle.hp_store.specs.Stack.{cells_in}
use Rattle.hp_report.specs.Mapped as model
use Rattle.hp_report.specs.Stored.{stored_lines}
use Rattle.hp_report.proofs.Endings.{where_ok}
use Rattle.hp_report.proofs.StoredLines.{class_gained, same_lines}
use Rattle.hp_report.proofs.stored.put_class.Goals as goal

pub returns : goal.returns
returns c =
    let names = model.library_of (record { classes = c.classes.result; rules = c.rules.result }) in
    let library = model.library c.args.library.now in
    let classes : names.classes ≡ library.classes = search rules in
    let base = cells_in c.args.store.now in
    where_ok c.put_stored_objects.result (λ gained. class_gained library base c.args.class c.in_ok-keys.keys.items c.args.out.now c.put_stored_objects.new.out c.in_ok-keys.ensures
    (gained
    ∙ ap (λ (b : Bytes). string_bytes c.args.out.now ++ b)
    (same_lines names library base c.args.class c.deref.result.now classes ∙ ap (stored_lines library base c.args.class) c.deref.ensures.value)))
    c.put_stored_objects.ensures

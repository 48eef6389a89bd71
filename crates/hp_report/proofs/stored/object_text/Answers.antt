use Rattle.std.proofs.Common.{rules, ◌≡◌, ◌∙◌, ◌++◌, ap, option_map, string_bytes, SFits, w64}
use Rattle.std.proofs.lemmas.Int.{to_z-of_z}
use Rattle.hp_model.specs.Cells.{object_cell}
use Rattle.hp_model.specs.Report.{Bytes}
use Rattle.hp_store.specs.Mapped.{cell_value}
use Rattle.hp_store.specs.Stack.{cells_in}
use Rattle.hp_report.specs.Mapped as model
use Rattle.hp_report.specs.Stored.{stored_line}
use Rattle.hp_report.proofs.StoredLines.{object_stored, same_line}
use Rattle.hp_report.proofs.stored.object_text.Goals as goal

pub returns : goal.returns
returns c =
    let names = model.library_of (record { classes = c.classes.result; rules = c.rules.result }) in
    let library = model.library c.args.library.now in
    let classes : names.classes ≡ library.classes = search rules in
    let value = option_map (λ v. cell_value v.now) c.get-value.result in
    let base = cells_in c.args.store.now in
    let fits : SFits w64 c.args.key = search rules in
    let back = to_z-of_z w64 c.args.key fits in
    object_stored library base c.args.class c.args.key _
    (c.in_ok-put_stored_object.ensures ∙ ap (λ k. string_bytes c.new-out.result ++ stored_line names c.args.class k value) back
    ∙ ap (λ (b : Bytes). b ++ stored_line names c.args.class c.args.key value) c.new-out.ensures.bytes
    ∙ same_line names library c.args.class c.args.key value classes ∙ ap (stored_line library c.args.class c.args.key) c.get-value.ensures
    ∙ ap (λ k. stored_line library c.args.class c.args.key (base (object_cell c.args.class k))) back)

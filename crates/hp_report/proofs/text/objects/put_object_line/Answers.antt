use Rattle.std.proofs.Common.{rules, ◌∙◌, ◌++◌, ap, sym, codes, append-nil, string_bytes, SFits, w64}
use Rattle.std.proofs.lemmas.Int.{to_z-of_z}
use Rattle.hp_model.specs.Report.{object_words, row_words}
use Rattle.hp_report.specs.Mapped as model
use Rattle.hp_report.specs.Text.{spaced}
use Rattle.hp_report.proofs.Lines.{word_put}
use Rattle.hp_report.proofs.text.objects.put_object_line.Goals as goal

pub returns : goal.returns
returns c =
    let library = model.library_of c.args.names.now in
    let key = c.args.name.now.key in
    let fits : SFits w64 c.args.name.now.key = search rules in
    let start = string_bytes c.args.out.now in
    word_put 0 (codes "object") (object_words library c.args.name.now.class key ++ row_words c.args.row.now) start start _ _ _
    (sym (append-nil start)) c.in_ok-push_str.ensures.bytes
    (c.in_ok-put_object.ensures ∙ ap (λ k. string_bytes c.push_str.new.self ++ spaced (object_words library c.args.name.now.class k ++ row_words c.args.row.now)) (to_z-of_z w64 key fits))
    c.in_ok-push_str-2.ensures.bytes

use Rattle.std.proofs.Common.{◌≡◌, ◌∙◌, SFits, w64, of_z, to_z, rules, subst}
use Rattle.std.proofs.lemmas.Int.{to_z-of_z}
use Rattle.hp_model.specs.Cells.{object_cell}
use Rattle.hp_model.specs.State.{find_object}
use Rattle.hp_model.specs.Answers.{Finds}
use Rattle.hp_view.specs.Seeing.{written}
use Rattle.hp_view.specs.Adding.{AddsReads}
use Rattle.hp_ops.specs.Reading.{IsReadOf}
use Rattle.hp_ops.proofs.Adding.{adds_read}
use Rattle.hp_ops.proofs.Worlds.{object_found, still_now}
use Rattle.hp_ops.proofs.finding.find_object.Goals as goal

pub returns-clause-finds : goal.returns-clause-finds
returns-clause-finds c = λ lib.
    let fits : SFits w64 c.args.key = search rules in
    let back : to_z w64 (of_z w64 c.args.key) ≡ c.args.key = to_z-of_z w64 c.args.key fits in
    subst (λ k. Finds lib (λ S. find_object S.objects c.args.class k) c.fetch.new.self.reads (written c.fetch.new.self) c.row_in.result) back
    (object_found lib c.args.class (to_z w64 (of_z w64 c.args.key)) c.args.view.now c.fetch.new.self _ _ c.in_ok-value.ensures.only c.in_ok-value.ensures.shows
    (c.in_ok-value.ensures.value ∙ still_now (object_cell c.args.class (to_z w64 (of_z w64 c.args.key))) c.in_ok-value.ensures.only) c.row_in.ensures)

pub returns-clause-reads : goal.returns-clause-reads
returns-clause-reads c =
    let fits : SFits w64 c.args.key = search rules in
    let back : to_z w64 (of_z w64 c.args.key) ≡ c.args.key = to_z-of_z w64 c.args.key fits in
    subst (λ k. AddsReads (IsReadOf (object_cell c.args.class k)) c.args.view.now.reads c.fetch.new.self.reads) back
    (adds_read (object_cell c.args.class (to_z w64 (of_z w64 c.args.key))) c.in_ok-value.ensures.reads)

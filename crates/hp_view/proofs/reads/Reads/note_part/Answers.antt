use Rattle.std.proofs.Common.{◌∙◌, sym, ap, map, [], ◌∷◌, ◌++◌}
use Rattle.hp_model.specs.Cells.{part_read}
use Rattle.hp_value.specs.Mapped.{class_part, keyed_row}
use Rattle.hp_view.specs.declared.part.FoundPart.{FoundPart}
use Rattle.hp_view.specs.Mapped.{part_of}
use Rattle.hp_view.proofs.PartsRead.{free_unread}
use Rattle.hp_view.proofs.Reading.{noted-new}
use Rattle.hp_view.proofs.reads.Reads.note_part.Goals as goal

pub returns-clause-ok : goal.returns-clause-ok
returns-clause-ok c =
    let p = class_part c.args.part.now in
    c.in_ok-note.ensures.ok
    ∙ ap (λ rs. rs ++ part_read c.args.class (part_of c.in_ok-found.found.value) (map keyed_row c.in_ok-found.found.value.objects.items) ∷ []) c.self.view_is
    ∙ ap (λ (f : FoundPart). c.args.self.now ++ part_read c.args.class (part_of f) (map keyed_row f.objects.items) ∷ []) c.in_ok-found.ensures.ok
    ∙ (λ i. c.args.self.now ++ part_read c.args.class (c.in_ok-new.ensures.part i) (map keyed_row (c.in_ok-new.ensures.objects i).items) ∷ [])
    ∙ sym (noted-new c.args.self.now (part_read c.args.class p (map keyed_row c.args.objects.items)) (free_unread c.args.class p c.args.self.now c.requires))

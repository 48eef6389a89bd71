use Rattle.std.proofs.Common.{◌∙◌, sym, ap, subst, is_some, map}
use Rattle.hp_value.specs.Mapped.{class_part}
use Rattle.hp_view.specs.declared.reads.Seen.TheVariants.{Part as OfPart}
use Rattle.hp_view.specs.Mapped.{read}
use Rattle.hp_view.specs.Numbered.{IsStateOf}
use Rattle.hp_view.specs.Seeing.{number_was_read}
use Rattle.hp_view.proofs.Noting.{recorded, compared_state, seen_same, seen_none}
use Rattle.hp_view.proofs.reads.Reads.part_state.Goals as goal

pub returns-in-Some : goal.returns-in-Some
returns-in-Some c =
    let p = class_part c.args.part.now in
    subst (λ rs. IsStateOf rs c.args.class p c.compared.result) c.self.view_is
    (compared_state c.args.class c.number.result c.in-Some.found.now p c.compared.result c.self.inside.entries.entries (seen_same c.in-Some.is c.get.ensures.value)
    (ap (number_was_read (map read c.self.inside.entries.entries) c.args.class) (sym c.number.ensures)
    ∙ sym (recorded (OfPart c.args.class c.number.result) c.self.inside.entries.entries c.self.invariant)
    ∙ ap is_some (seen_same c.in-Some.is c.get.ensures.value)) c.compared.ensures)

pub returns-in-None : goal.returns-in-None
returns-in-None c =
    ap (number_was_read c.args.self.now c.args.class) (sym c.number.ensures)
    ∙ ap (λ rs. number_was_read rs c.args.class c.number.result) (sym c.self.view_is)
    ∙ sym (recorded (OfPart c.args.class c.number.result) c.self.inside.entries.entries c.self.invariant)
    ∙ ap is_some (seen_none c.in-None.is c.get.ensures.value)

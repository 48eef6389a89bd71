use Rattle.std.proofs.Common.{◌∙◌, sym, ap, is_some}
use Rattle.hp_view.specs.declared.reads.Seen.TheVariants.{Keys as OfKeys}
use Rattle.hp_view.specs.Seeing.{keys_were_read, class_was_read}
use Rattle.hp_view.proofs.Noting.{recorded, told_whole, is_whole, whole_recorded, seen_same, seen_none}
use Rattle.hp_view.proofs.reads.Reads.objects.Goals as goal

pub returns-in-Some-clause-known : goal.returns-in-Some-clause-known
returns-in-Some-clause-known c = λ some.
    sym (ap (λ rs. keys_were_read rs c.args.class) c.self.view_is) ∙ sym (recorded (OfKeys c.args.class) c.self.inside.entries.entries c.self.invariant)
    ∙ ap is_some (seen_same c.in-Some.is c.get.ensures.value)

pub returns-in-Some-clause-none : goal.returns-in-Some-clause-none
returns-in-Some-clause-none c = λ none.
    sym (ap (λ rs. class_was_read rs c.args.class) c.self.view_is) ∙ sym (whole_recorded c.args.class c.self.inside.entries.entries)
    ∙ ap is_whole (seen_same c.in-Some.is c.get.ensures.value) ∙ c.whole.ensures.none none

pub returns-in-None-clause-none : goal.returns-in-None-clause-none
returns-in-None-clause-none c = λ none.
    sym (ap (λ rs. class_was_read rs c.args.class) c.self.view_is) ∙ sym (whole_recorded c.args.class c.self.inside.entries.entries)
    ∙ ap is_whole (seen_none c.in-None.is c.get.ensures.value)

pub returns-in-Some-clause-held : goal.returns-in-Some-clause-held
returns-in-Some-clause-held c =
    told_whole c.args.class c.in-Some.found.now c.self.inside.entries.entries c.whole.result (seen_same c.in-Some.is c.get.ensures.value) c.whole.ensures.some c.self.view_is

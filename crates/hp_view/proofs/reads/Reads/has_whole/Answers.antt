use Rattle.std.proofs.Common.{◌∙◌, sym, ap}
use Rattle.hp_view.specs.Seeing.{class_was_read}
use Rattle.hp_view.proofs.Noting.{is_whole, whole_recorded, seen_same, seen_none}
use Rattle.hp_view.proofs.reads.Reads.has_whole.Goals as goal

pub returns-in-Some : goal.returns-in-Some
returns-in-Some c =
    c.is_whole.ensures ∙ ap is_whole (sym (seen_same c.in-Some.is c.get.ensures.value))
    ∙ whole_recorded c.args.class c.self.inside.entries.entries ∙ ap (λ rs. class_was_read rs c.args.class) c.self.view_is

pub returns-in-None : goal.returns-in-None
returns-in-None c =
    ap is_whole (sym (seen_none c.in-None.is c.get.ensures.value))
    ∙ whole_recorded c.args.class c.self.inside.entries.entries ∙ ap (λ rs. class_was_read rs c.args.class) c.self.view_is

use Rattle.std.proofs.Common.{◌∙◌, sym, ap, subst, is_some}
use Rattle.hp_model.specs.Cells.{AreKeys, Holds}
use Rattle.hp_view.specs.declared.reads.Seen.TheVariants.{Keys as OfKeys}
use Rattle.hp_view.specs.Seeing.{keys_were_read}
use Rattle.hp_view.proofs.Noting.{recorded, told_keys, seen_same, seen_none}
use Rattle.hp_view.proofs.reads.Reads.keys.Goals as goal

pub returns-in-Some-clause-known : goal.returns-in-Some-clause-known
returns-in-Some-clause-known c =
    ap is_some (sym (seen_same c.in-Some.is c.get.ensures.value))
    ∙ recorded (OfKeys c.args.class) c.self.inside.entries.entries c.self.invariant ∙ ap (λ rs. keys_were_read rs c.args.class) c.self.view_is

pub returns-in-Some-clause-held : goal.returns-in-Some-clause-held
returns-in-Some-clause-held c = λ base held.
    subst (AreKeys base c.args.class) (sym c.keys.ensures)
    (told_keys c.args.class c.in-Some.found.now base c.self.inside.entries.entries (seen_same c.in-Some.is c.get.ensures.value)
    (subst (Holds base) (sym c.self.view_is) held).each)

pub returns-in-None-clause-known : goal.returns-in-None-clause-known
returns-in-None-clause-known c =
    ap is_some (sym (seen_none c.in-None.is c.get.ensures.value))
    ∙ recorded (OfKeys c.args.class) c.self.inside.entries.entries c.self.invariant ∙ ap (λ rs. keys_were_read rs c.args.class) c.self.view_is

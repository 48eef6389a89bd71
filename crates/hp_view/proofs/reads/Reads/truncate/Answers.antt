use Rattle.std.proofs.Common.{◌∙◌, sym, ap, subst, map, take}
use Rattle.std.proofs.lemmas.List.{take-map}
use Rattle.hp_view.specs.Mapped.{read}
use Rattle.hp_view.specs.Numbered.{AreNumbered}
use Rattle.hp_view.proofs.Noting.{numbered_first}
use Rattle.hp_view.proofs.reads.Reads.truncate.Goals as goal

pub invariant_of-self : goal.invariant_of-self
invariant_of-self c = subst AreNumbered (sym c.truncate.ensures.entries) (numbered_first c.args.len c.self.inside.entries.entries c.self.invariant)

pub returns : goal.returns
returns c = ap (map read) c.truncate.ensures.entries ∙ sym (take-map read c.args.len c.self.inside.entries.entries) ∙ ap (take c.args.len) c.self.view_is

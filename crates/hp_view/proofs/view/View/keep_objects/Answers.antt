use Rattle.std.proofs.Common.{map, subst, sym}
use Rattle.hp_store.specs.Stack.{Stack}
use Rattle.hp_view.specs.Mapped.{replaced}
use Rattle.hp_view.specs.Seeing.{IsKept}
use Rattle.hp_view.proofs.view.View.keep_objects.Goals as goal

pub invariant_of-self : goal.invariant_of-self
invariant_of-self c = subst (λ (base : Stack). IsKept base c.self.inside.reads c.self.inside.writes.value (map replaced c.self.inside.undo.items)) (sym c.keep_objects.ensures) c.self.invariant

pub invariant_of-self-2 : goal.invariant_of-self-2
invariant_of-self-2 c = subst (λ (base : Stack). IsKept base c.self.inside.reads c.self.inside.writes.value (map replaced c.self.inside.undo.items)) (sym c.keep_objects.ensures) c.self.invariant

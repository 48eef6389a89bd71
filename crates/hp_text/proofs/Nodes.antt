-- Nodes and their items.
use Rattle.std.proofs.Common.{◌≡◌, refl, sym, ap, ◌∙◌, ℕ, zero, suc, map, List as Items, [], ◌∷◌}
use Rattle.std.specs.Prelude.{slice_get}
use Rattle.std.specs.Global.{Vec}
use Rattle.hp_model.specs.NotationTree as T
use Rattle.hp_model.specs.NotationPlaces.{nth}
use Rattle.hp_text.specs.declared.node.Node.{Node}
use Rattle.hp_text.specs.declared.node.Node.TheVariants.{List, rolls-List}
use Rattle.hp_text.specs.declared.node.Node.TheOpen.{Node-F}
use Rattle.hp_text.specs.declared.node.Node.TheFolds.{fold-roll-Node}
use Rattle.hp_text.specs.Mapped.{node_view, node_step}

pub list_view : (at : ℕ) (ns : Vec Node) → node_view (List at ns) ≡ T.list at (T.nodes (map node_view ns.items))
list_view at ns = ap node_view (sym (rolls-List at ns)) ∙ fold-roll-Node T.Node node_step (Node-F.List at ns)

pub nth_nodes : (ns : Items T.Node) (i : ℕ) → nth i (T.nodes ns) ≡ slice_get ns i
nth_nodes [] i = refl
nth_nodes (n ∷ ns) zero = refl
nth_nodes (n ∷ ns) (suc i) = nth_nodes ns i

use Rattle.std.proofs.Common.{◌≡◌, refl, sym, ap, ◌∙◌, map, List, [], ◌∷◌}
use Rattle.std.specs.Global.{Vec}
use Rattle.std.proofs.lemmas.List.{map-id}
use Rattle.std.proofs.lemmas.Iterator.Adapters.{YieldsList-from_vec}
use Rattle.std.proofs.lemmas.Iterator.Consumers.{YieldsList-end}
use Rattle.serde_json.specs.Data.{Data, array, item}
use Rattle.serde_json.specs.View.{view, view_step, items_of}
use Rattle.hp_model.specs.NotationTree as T
use Rattle.serde_json.specs.declared.value.Value.{Value}
use Rattle.serde_json.specs.declared.value.Value.TheVariants.{Array, rolls-Array}
use Rattle.serde_json.specs.declared.value.Value.TheOpen.{Value-F}
use Rattle.serde_json.specs.declared.value.Value.TheFolds.{fold-roll-Value}
use Rattle.hp_text.specs.declared.node.Node.{Node}
use Rattle.hp_text.specs.Mapped.{node_view}
use Rattle.hp_text.proofs.Nodes.{list_view}
use Rattle.hp_text.proofs.values.+value_of.Goals as goal

same_items : (ns : List Node) → items_of (map (λ n. T.data_of (node_view n)) ns) ≡ T.items_of (T.nodes (map node_view ns))
same_items [] = refl
same_items (n ∷ ns) = ap (item (T.data_of (node_view n))) (same_items ns)

array_view : (vs : Vec Value) → view (Array vs) ≡ array (items_of (map view vs.items))
array_view vs = ap view (sym (rolls-Array vs)) ∙ fold-roll-Value Data view_step (Value-F.Array vs)

pub returns-in-None : goal.returns-in-None
returns-in-None t c =
    let nodes = c.in-List.nodes in
    let gives = c.into_iter-node-iterator.ensures.into_iter_gives in
    let all = YieldsList-end (YieldsList-from_vec {s = c.into_iter-node-iterator.result} nodes.items gives.0 (gives.1 ∙ nodes.ok.0)) c.loop-node.yielded
    c.loop-node.node-iterator c.loop-node.yielded_by c.next.result c.next.new.self c.in-None.is c.next.ensures.steps in
    let yielded : c.loop-node.yielded ≡ nodes.items = sym (map-id c.loop-node.yielded) ∙ all.0 in
    let items : items_of (map view c.loop-node.values.items) ≡ T.items_of (T.nodes (map node_view nodes.items)) =
    ap items_of (c.loop-node.invariant ∙ ap (map (λ n. T.data_of (node_view n))) yielded) ∙ same_items nodes.items in
    let node : node_view c.args.node ≡ T.list c.in-List.field-0 (T.nodes (map node_view nodes.items)) = ap node_view c.in-List.is ∙ list_view c.in-List.field-0 nodes in
    array_view c.loop-node.values ∙ ap array items ∙ ap T.data_of (sym node)

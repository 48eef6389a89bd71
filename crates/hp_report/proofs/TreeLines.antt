-- Lines of trees.
use Rattle.std.proofs.Common.{◌≡◌, sym, ap, ◌∙◌, ℕ, ◌+◌, ◌<◌, List, [], ◌∷◌, ◌++◌, length, drop, get_or, codes, append_assoc, append-nil}
use Rattle.hp_model.specs.Rules.{Library}
use Rattle.hp_model.specs.Tree.{Node, Ending, Items, no_items, node}
use Rattle.hp_model.specs.Report.{Bytes, line, value_text, operation_words, node_words, tree_text}
use Rattle.hp_tree.specs.declared.node.Item.{Item}
use Rattle.hp_tree.specs.declared.node.Item.TheVariants.{Operation as AnOperation, Emit, Node' as ANode}
use Rattle.hp_value.specs.Mapped.{value}
use Rattle.hp_tree.specs.Mapped.{operation, what, ending, before, row_items, items_in}
use Rattle.hp_tree.proofs.Trees.{items_left}

-- an item's lines stand before the later ones'
tree_text-before : (library : Library) (indent : ℕ) (i : Item) (rest : Items)
    → tree_text library indent (before i rest) ≡ tree_text library indent (before i no_items) ++ tree_text library indent rest
tree_text-before library indent (AnOperation op) rest =
    ap (λ (l : Bytes). l ++ tree_text library indent rest) (sym (append-nil (line indent (codes "op" ∷ operation_words library (operation op)))))
tree_text-before library indent (Emit v) rest =
    ap (λ (l : Bytes). l ++ tree_text library indent rest) (sym (append-nil (line indent (codes "emit" ∷ value_text (value v) ∷ []))))
tree_text-before library indent (ANode w end shape all) rest =
    let inside = tree_text library (indent + 2) (row_items all) in
    let first = line indent (node_words library (what w) (ending end)) in
    sym (append_assoc first inside (tree_text library indent rest))
    ∙ ap (λ (l : Bytes). (first ++ l) ++ tree_text library indent rest) (sym (append-nil inside))

-- the lines of one more item were written
pub item_put : (library : Library) (indent : ℕ) (items : List Item) (i : ℕ) (x : Item) (old new all : Bytes) → i < length items → x ≡ get_or items i x
    → new ≡ old ++ tree_text library indent (before x no_items) → old ++ tree_text library indent (items_in (drop i items)) ≡ all
    → new ++ tree_text library indent (items_in (drop (i + 1) items)) ≡ all
item_put library indent items i x old new all low is made h =
    let rest = items_in (drop (i + 1) items) in
    ap (λ (l : Bytes). l ++ tree_text library indent rest) made ∙ append_assoc old (tree_text library indent (before x no_items)) (tree_text library indent rest)
    ∙ ap (λ (l : Bytes). old ++ l) (sym (tree_text-before library indent x rest) ∙ sym (items_left (tree_text library indent) items i x low is)) ∙ h

-- a node's line and the lines of what stands inside were written
pub node_put : (library : Library) (indent inner : ℕ) (n : Node) (end : Ending) (inside : Items) (start first done : Bytes)
    → first ≡ start ++ line indent (node_words library n end) → inner ≡ indent + 2 → done ≡ first ++ tree_text library inner inside
    → done ≡ start ++ tree_text library indent (node n end inside no_items)
node_put library indent inner n end inside start first done a b c =
    let lines = tree_text library (indent + 2) inside in
    c ∙ ap (λ k. first ++ tree_text library k inside) b ∙ ap (λ (l : Bytes). l ++ lines) a
    ∙ append_assoc start (line indent (node_words library n end)) lines
    ∙ ap (λ (l : Bytes). start ++ (line indent (node_words library n end) ++ l)) (sym (append-nil lines))

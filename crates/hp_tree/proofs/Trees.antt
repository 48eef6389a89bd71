-- Lemmas on mapped trees.
use Rattle.std.proofs.Common.{◌≡◌, refl, sym, ◌∙◌, ap, ℕ, ◌+◌, ◌<◌, List, [], ◌++◌, length, drop, get_or, append_assoc, append-nil}
use Rattle.std.proofs.lemmas.List.{at_drop_more}
use mathlib.Core.Former.{Count}
use Rattle.hp_model.specs.Values.{Value}
use Rattle.hp_model.specs.State.{Objects}
use Rattle.hp_model.specs.Tree.{Items, no_items, emits, replay, if_committed}
use Rattle.hp_tree.specs.declared.node.Item.{Item, Row_of-Item, end_of-Item, more_of-Item, items-the_row-Item}
use Rattle.hp_tree.specs.declared.node.Item.TheVariants.{Operation as AnOperation, Emit, Node' as ANode}
use Rattle.hp_tree.specs.Mapped.{before, row_items, items_in, ending}

-- the items of a row, read as those of its list
pub row_items_lem : (m : Count) (k : Row_of-Item m) → row_items k ≡ items_in (items-the_row-Item m k)
row_items_lem m end_of-Item = refl
row_items_lem m (more_of-Item {n = j} i rest) = ap (before i) (row_items_lem j rest)

-- an item's emits precede those of later items
pub emits-before : (i : Item) (rest : Items) → emits (before i rest) ≡ emits (before i no_items) ++ emits rest
emits-before (AnOperation op) rest = refl
emits-before (Emit v) rest = refl
emits-before (ANode what end shape all) rest =
    ap (λ vs. vs ++ emits rest) (sym (append-nil (if_committed (ending end) (emits (row_items all)) [])))

-- an item is replayed before later ones
pub replay-before : (i : Item) (rest : Items) (objects : Objects) → replay (before i rest) objects ≡ replay rest (replay (before i no_items) objects)
replay-before (AnOperation op) rest objects = refl
replay-before (Emit v) rest objects = refl
replay-before (ANode what end shape all) rest objects = refl

-- the items from the i-th on
pub items_left : {Y : Type 0} (f : Items → Y) (items : List Item) (i : ℕ) (x : Item) → i < length items → x ≡ get_or items i x
    → f (items_in (drop i items)) ≡ f (before x (items_in (drop (i + 1) items)))
items_left f items i x low is =
    at_drop_more (λ xs. f (items_in xs)) items i x low ∙ ap (λ y. f (before y (items_in (drop (i + 1) items)))) (sym is)

-- one more item was replayed
pub item_replayed : (items : List Item) (i : ℕ) (x : Item) (old new all : Objects) → i < length items → x ≡ get_or items i x
    → new ≡ replay (before x no_items) old → replay (items_in (drop i items)) old ≡ all → replay (items_in (drop (i + 1) items)) new ≡ all
item_replayed items i x old new all low is made h =
    let rest = items_in (drop (i + 1) items) in
    ap (replay rest) made ∙ sym (replay-before x rest old) ∙ sym (items_left (λ xs. replay xs old) items i x low is) ∙ h

-- the emits of one more item were added
pub item_added : (items : List Item) (i : ℕ) (x : Item) (old new all : List Value) → i < length items → x ≡ get_or items i x
    → new ≡ old ++ emits (before x no_items) → old ++ emits (items_in (drop i items)) ≡ all → new ++ emits (items_in (drop (i + 1) items)) ≡ all
item_added items i x old new all low is made h =
    let rest = items_in (drop (i + 1) items) in
    ap (λ vs. vs ++ emits rest) made ∙ append_assoc old (emits (before x no_items)) (emits rest)
    ∙ ap (λ vs. old ++ vs) (sym (emits-before x rest) ∙ sym (items_left emits items i x low is)) ∙ h

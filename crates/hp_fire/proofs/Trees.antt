-- Lemmas on mapped trees and courses.
use Rattle.std.proofs.Common.{◌≡◌, refl, ap, ◌∙◌, List, [], ◌∷◌, ◌++◌, append_assoc, append-nil}
use Rattle.hp_model.specs.Tree.{Items, no_items, append}
use Rattle.hp_tree.specs.declared.node.Item.{Item}
use Rattle.hp_tree.specs.declared.node.Item.TheVariants.{Operation as AnOperation, Emit, Node' as ANode}
use Rattle.hp_tree.specs.Mapped.{before, items_in}
use Rattle.hp_model.specs.Soundness.{Answer, FiringAnswer}
use Rattle.hp_model.specs.Answers as A
use Rattle.hp_model.proofs.Faithful.{append-assoc, append-none}
use Rattle.hp_fire.specs.Joined.{with_firings}

before-append : (i : Item) (rest more : Items) → before i (append rest more) ≡ append (before i rest) more
before-append (AnOperation op) rest more = refl
before-append (Emit v) rest more = refl
before-append (ANode what end shape all) rest more = refl

pub items-append : (xs ys : List Item) → items_in (xs ++ ys) ≡ append (items_in xs) (items_in ys)
items-append [] ys = refl
items-append (i ∷ xs) ys = ap (before i) (items-append xs ys) ∙ before-append i (items_in xs) (items_in ys)

-- an item before the items of an answer
pub item_first : (i : Item) (a : Answer) → record { end = a.end; queued = a.queued; detached = a.detached; items = before i a.items } ≡ A.followed (A.tells (items_in (i ∷ []))) a
item_first i a k = record { end = a.end; queued = a.queued; detached = a.detached; items = before-append i no_items a.items k }

-- one firing after another
pub firings_more : (a : Answer) (f : FiringAnswer) (fs : List FiringAnswer) → with_firings (with_firings a (f ∷ [])) fs ≡ with_firings a (f ∷ fs)
firings_more a f fs i = record {
  end = a.end;
  queued = (ap (λ ts. (a.queued ++ ts) ++ A.queued_in fs) (append-nil f.queued) ∙ append_assoc a.queued f.queued (A.queued_in fs)) i;
  detached = (ap (λ ds. (a.detached ++ ds) ++ A.detached_in fs) (append-nil f.detached) ∙ append_assoc a.detached f.detached (A.detached_in fs)) i;
  items = (ap (λ x. append (append a.items x) (A.items_in fs)) (append-none f.items) ∙ append-assoc a.items f.items (A.items_in fs)) i;
}

pub firings_none : (a : Answer) → with_firings a [] ≡ a
firings_none a i = record { end = a.end; queued = append-nil a.queued i; detached = append-nil a.detached i; items = append-none a.items i }

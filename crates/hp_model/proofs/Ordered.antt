-- All that runs keeps the objects in order, and a state for each rule.
use Rattle.std.proofs.Common.{arith, ◌≡◌, refl, ap, ◌∙◌, ℕ, suc, ◌+◌, ◌-◌, List, [], ◌∷◌, length, Bool, true, false}
use Rattle.std.proofs.lemmas.List.{length-set}
use Rattle.std.specs.Prelude.{map, cond}
use Rattle.std.specs.Ordering.{ordering_reverse, match_ordering}
use Rattle.std.specs.Cmp.{IsTotalOrder, nat_cmp_total, int_cmp_total, then_total}
use Rattle.std.specs.declared.cmp.Ordering.{Ordering}
use Rattle.std.specs.declared.cmp.Ordering.TheVariants.{Less, Equal, Greater}
use Rattle.std.specs.List.Sorted.{IsStrictlySortedBy}
use Rattle.std.specs.List.{AllByRecursion}
use Rattle.std.specs.BTreeMap.{insert_entry, is_at}
use Rattle.std.specs.Map.{remove_entry}
use Rattle.hp_model.specs.Values.{Row}
use Rattle.hp_model.specs.Rules.{Library}
use Rattle.hp_model.specs.State.{State, Objects, ObjectName, object_name, compare_names, extended_rule, IsOrdered}
use Rattle.hp_model.specs.Tree.{Task, Operation, create_op, update_op, delete_op, rule_op, apply}
use Rattle.hp_model.specs.Transactions.{End, done, abort_by, veto_by, Course, closed_by}
use Rattle.hp_model.specs.Firing.{fire_task, below_limit}
use Rattle.hp_model.proofs.Induction.{Kept, step_kept, below_kept}

-- ---- the order of names

along : {K J : Type 0} {R : J → J → Ordering} (f : K → J) → IsTotalOrder R → IsTotalOrder (λ (x y : K). R (f x) (f y))
along f total = record {
  antisymm = λ x y. total.antisymm (f x) (f y);
  trans = λ x y z. total.trans (f x) (f y) (f z);
  congr = λ x y z. total.congr (f x) (f y) (f z);
}

pub names_total : IsTotalOrder compare_names
names_total = then_total (along (λ (n : ObjectName). n.class) nat_cmp_total) (along (λ (n : ObjectName). n.key) int_cmp_total)

-- ---- sorted maps

abbrev names : {K X : Type 0} → List (K × X) → List K
names {K} {X} es = map (λ (e : K × X). e.0) es

module _ {K : Type 0} (cmp : K → K → Ordering) (total : IsTotalOrder cmp) where
  abbrev Above : K → List K → Type 0
  Above x ys = AllByRecursion (λ y. cmp x y ≡ Less) ys

  above_trans : (x y : K) (zs : List K) → cmp x y ≡ Less → Above y zs → Above x zs
  above_trans x y [] h a = tt
  above_trans x y (z ∷ zs) h a = (total.trans x y z h a.0, above_trans x y zs h a.1)

  greater : (x y : K) → cmp x y ≡ Greater → cmp y x ≡ Less
  greater x y h = total.antisymm y x ∙ ap ordering_reverse h

  above_choice : {X : Type 0} (r : Ordering) (x k : K) (v : X) (e : K × X) (es more : List (K × X)) → cmp x k ≡ Less → Above x (names (e ∷ es)) → Above x (names more)
      → Above x (names (match_ordering r ((k, v) ∷ e ∷ es) ((e.0, v) ∷ es) (e ∷ more)))
  above_choice Less x k v e es more h a rest = (h, a)
  above_choice Equal x k v e es more h a rest = a
  above_choice Greater x k v e es more h a rest = (a.0, rest)

  above_insert : {X : Type 0} (x k : K) (v : X) (es : List (K × X)) → cmp x k ≡ Less → Above x (names es) → Above x (names (insert_entry cmp es k v))
  above_insert x k v [] h a = (h, tt)
  above_insert x k v (e ∷ es) h a = above_choice (cmp k e.0) x k v e es (insert_entry cmp es k v) h a (above_insert x k v es h a.1)

  sorted_choice : {X : Type 0} (r : Ordering) (k : K) (v : X) (e : K × X) (es : List (K × X)) → cmp k e.0 ≡ r → IsStrictlySortedBy cmp (names (e ∷ es))
      → IsStrictlySortedBy cmp (names (insert_entry cmp es k v))
      → IsStrictlySortedBy cmp (names (match_ordering r ((k, v) ∷ e ∷ es) ((e.0, v) ∷ es) (e ∷ insert_entry cmp es k v)))
  unfolding IsStrictlySortedBy
  sorted_choice Less k v e es h s rest = ((h, above_trans k e.0 (names es) h s.0), s)
  sorted_choice Equal k v e es h s rest = s
  sorted_choice Greater k v e es h s rest = (above_insert e.0 k v es (greater k e.0 h) s.0, rest)

  sorted_insert : {X : Type 0} (es : List (K × X)) (k : K) (v : X) → IsStrictlySortedBy cmp (names es) → IsStrictlySortedBy cmp (names (insert_entry cmp es k v))
  unfolding IsStrictlySortedBy
  sorted_insert [] k v s = (tt, tt)
  sorted_insert (e ∷ es) k v s = sorted_choice (cmp k e.0) k v e es refl s (sorted_insert es k v s.1)

  above_rest : {X : Type 0} (b : Bool) (x : K) (e : K × X) (es more : List (K × X)) → Above x (names (e ∷ es)) → Above x (names more) → Above x (names (cond b es (e ∷ more)))
  above_rest true x e es more a rest = a.1
  above_rest false x e es more a rest = (a.0, rest)

  above_remove : {X : Type 0} (x : K) (test : K → Bool) (es : List (K × X)) → Above x (names es) → Above x (names (remove_entry test es))
  above_remove x test [] a = tt
  above_remove x test (e ∷ es) a = above_rest (test e.0) x e es (remove_entry test es) a (above_remove x test es a.1)

  sorted_rest : {X : Type 0} (b : Bool) (e : K × X) (es more : List (K × X)) → IsStrictlySortedBy cmp (names (e ∷ es)) → Above e.0 (names more)
      → IsStrictlySortedBy cmp (names more) → IsStrictlySortedBy cmp (names (cond b es (e ∷ more)))
  unfolding IsStrictlySortedBy
  sorted_rest true e es more s a rest = s.1
  sorted_rest false e es more s a rest = (a, rest)

  sorted_remove : {X : Type 0} (test : K → Bool) (es : List (K × X)) → IsStrictlySortedBy cmp (names es) → IsStrictlySortedBy cmp (names (remove_entry test es))
  unfolding IsStrictlySortedBy
  sorted_remove test [] s = tt
  sorted_remove test (e ∷ es) s = sorted_rest (test e.0) e es (remove_entry test es) s (above_remove e.0 test es s.0) (sorted_remove test es s.1)

-- ---- courses

length-map : {X Y : Type 0} (f : X → Y) (xs : List X) → length (map f xs) ≡ length xs
length-map f [] = refl
length-map f (x ∷ xs) = ap suc (length-map f xs)

-- an operation keeps the objects in order
pub apply_ordered : (op : Operation) (objects : Objects) → IsStrictlySortedBy compare_names (map (λ (o : ObjectName × Row). o.0) objects)
    → IsStrictlySortedBy compare_names (map (λ (o : ObjectName × Row). o.0) (apply op objects))
apply_ordered (create_op class key new) objects s = sorted_insert compare_names names_total objects (object_name class key) new s
apply_ordered (update_op class key new) objects s = sorted_insert compare_names names_total objects (object_name class key) new s
apply_ordered (delete_op class key) objects s = sorted_remove compare_names names_total (is_at (compare_names (object_name class key))) objects s
apply_ordered (rule_op op n) objects s = s

abbrev Orders : Library → ℕ → State → Course → Type 0
Orders library n S c = IsOrdered library S → IsOrdered library c.state

closed_orders : (library : Library) (e : End) (S : State) (c : Course) → Orders library 0 S c → IsOrdered library S → IsOrdered library (closed_by e S c).state
closed_orders library done S c h = h
closed_orders library (abort_by x) S c h = λ o. o
closed_orders library (veto_by r) S c h = λ o. o

orders : (library : Library) (limit : ℕ) → Kept limit (Orders library)
orders library limit = record {
  at_end = λ n S e o. o;
  at_join = λ n S c d h k o. k (h o);
  at_emission = λ n S v o. o;
  at_operation = λ n S op o. record { objects_rise = apply_ordered op S.objects o.objects_rise; each_rule = o.each_rule };
  at_rule = λ n S op m r o. record { objects_rise = o.objects_rise; each_rule = length-set S.rules m r ∙ o.each_rule };
  at_signal = λ n S p c h o. h (record { objects_rise = o.objects_rise; each_rule = length-map (extended_rule p) S.rules ∙ o.each_rule });
  at_tasks = λ n S ts new o. o;
  at_node = λ n S c what e h. closed_orders library c.end S c h;
  at_drain = λ n S c h. h;
  at_ending = λ n S c e h. h;
  at_lower = λ m n S c low h. h;
}

-- a firing, of any task
pub fire_ordered : (library : Library) (S : State) (t : Task) → IsOrdered library S → IsOrdered library (fire_task library S t).state
fire_ordered library S t =
    let most = t.depth + (library.depth_limit - t.depth) in
    step_kept most (Orders library) (orders library most) t.step (below_limit library (library.depth_limit - t.depth)) library t S
    (below_kept most (Orders library) (orders library most) library (library.depth_limit - t.depth) t.depth refl) (omega arith)

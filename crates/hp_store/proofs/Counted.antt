-- The number of a class's objects: there is one of it, and what a change of a cell makes of it.
use Rattle.std.proofs.Common.{◌≡◌, refl, ap, ap₂, sym, ◌∙◌, subst, ℕ, suc, ◌+◌, ◌-◌, ◌≤◌, ℤ, Bool, true, false, true≢false, ◌&&◌, ◌||◌, cond, List, [], ◌∷◌, ◌++◌, map, length}
use Rattle.std.proofs.Common.{Option, Some, None, is_some, int_eq, Result, Ok, Err, arith}
use Rattle.std.specs.Prelude.{◌==◌, ◌^◌, filter, IfOk, OnErr, if◌then◌else◌}
use Rattle.std.specs.declared.cmp.Ordering.{Ordering}
use Rattle.std.specs.declared.cmp.Ordering.TheVariants.{Less, Equal, Greater}
use Rattle.std.specs.Ordering.{is_eq, is_lt, is_gt, int_cmp}
use Rattle.std.specs.List.{AllByRecursion, list_any}
use Rattle.std.specs.List.Sorted.{IsStrictlySortedBy}
use Rattle.std.proofs.lemmas.Bool.Decides.{Decides-eqb, Decides-int_eq}
use Rattle.std.proofs.lemmas.Cmp.{int_eq_equiv, nat_eq_equiv}
use Rattle.std.proofs.lemmas.List.{length-append}
use Rattle.hp_model.specs.Cells.{Cell, object_cell, rule_cell, detector_cell, CellValue, Cells, changed, over, same_cell, AreKeys, IsCount}
use Rattle.hp_model.proofs.BridgesKeys.{one_list}
use Rattle.hp_value.specs.declared.cell.Cell.{Cell as Given}
use Rattle.hp_value.specs.Mapped.{cell}
use Rattle.hp_store.specs.declared.value.CellValue.{CellValue as Held}
use Rattle.hp_store.specs.Mapped.{change, entry}
use Rattle.hp_store.proofs.Entered.{Kept}
use Rattle.hp_store.specs.Changes.{Entries, changes, is_of_class, class_entries}
use Rattle.hp_store.specs.Counts.{one_if, IsUncountable}
use Rattle.hp_store.specs.Indexed.{with_value}
use Rattle.hp_store.specs.Keys.{below, above, kept, merged, AboveKeys, KeysRise}
use Rattle.hp_store.proofs.Cells.{int_at}
use Rattle.hp_store.proofs.Merging.{apart_keys, keys_merged}

-- ---- there is one number

pub one_count : {base : Cells} {class m n : ℕ} → IsCount base class m → IsCount base class n → m ≡ n
one_count {base} {class} p q = sym p.number ∙ ap length (one_list p.are q.are) ∙ q.number

-- it goes with the objects that are there
pub same_count : {base other : Cells} {class n : ℕ} → ((key : ℤ) → is_some (base (object_cell class key)) ≡ is_some (other (object_cell class key))) → IsCount base class n → IsCount other class n
same_count same p = record { keys = p.keys; are = record { rise = p.are.rise; has = λ key. p.are.has key ∙ same key }; number = p.number }

-- ---- keys below a key, at it and above it

none_same : (k : ℤ) (ks : List ℤ) → AllByRecursion (λ j. int_cmp k j ≡ Less) ks → list_any (int_eq k) ks ≡ false
none_same k [] all = refl
none_same k (j ∷ ks) all = ap (λ b. b || list_any (int_eq k) ks) (int_eq_equiv.symm k j ∙ apart_keys k j all.0) ∙ none_same k ks all.1

parts_count : (k : ℤ) (ks : List ℤ) → IsStrictlySortedBy int_cmp ks → length (below k ks) + one_if (list_any (int_eq k) ks) + length (above k ks) ≡ length ks
unfolding IsStrictlySortedBy
parts_count k [] rise = refl
parts_count k (j ∷ ks) rise =
    ap (λ b. length (below k (j ∷ ks)) + one_if (b || list_any (int_eq k) ks) + length (above k (j ∷ ks))) (int_eq_equiv.symm k j ∙ sym (int_at j k))
    ∙ by (int_cmp j k) (λ e. subst (λ i. AllByRecursion (λ l. int_cmp i l ≡ Less) ks) ((Decides-int_eq j k).0 (sym (int_at j k) ∙ ap is_eq e)) rise.0) (parts_count k ks rise.1)
  where
    by : (r : Ordering) → (r ≡ Equal → AllByRecursion (λ l. int_cmp k l ≡ Less) ks) → length (below k ks) + one_if (list_any (int_eq k) ks) + length (above k ks) ≡ length ks
        → length (cond (is_lt r) (j ∷ below k ks) (below k ks)) + one_if (is_eq r || list_any (int_eq k) ks) + length (cond (is_gt r) (j ∷ above k ks) (above k ks)) ≡ suc (length ks)
    by Less all h = omega (arith, h)
    by Equal all h =
        let none : one_if (list_any (int_eq k) ks) ≡ 0 = ap one_if (none_same k ks (all refl)) in
        omega (arith, h, none)
    by Greater all h = omega (arith, h)

kept_count : (key : ℤ) (v : Option CellValue) (ks : List ℤ) → length (kept key v ks) ≡ one_if (is_some v) + length ks
kept_count key None ks = omega arith
kept_count key (Some x) ks = omega arith

-- ---- a cell with another value

chosen : (b : Bool) (v o : Option CellValue) → is_some (changed o (if b then Some v else None)) ≡ is_some (if b then v else o)
chosen true v o = refl
chosen false v o = refl

module _ (base : Cells) (class : ℕ) (key : ℤ) (v : Option CellValue) where
  only : Entries
  only = (object_cell class key, v) ∷ []

  itself : (class == class) ≡ true
  itself = (Decides-eqb class class).1 refl

  keys_set : (ks : List ℤ) → AreKeys base class ks → AreKeys (over base (changes only)) class (merged ks only)
  unfolding only itself
  keys_set ks are =
      subst (λ b. AreKeys (over base (changes only)) class (merged ks (cond b only []))) itself (keys_merged base class ks only (subst (λ b. KeysRise (cond b only [])) (sym itself) (tt, tt)) are)

  merged_count : (ks : List ℤ) → AreKeys base class ks → length (merged ks only) + one_if (is_some (base (object_cell class key))) ≡ length ks + one_if (is_some v)
  unfolding only
  merged_count ks are =
      let parts = parts_count key ks are.rise in
      let there : one_if (list_any (int_eq key) ks) ≡ one_if (is_some (base (object_cell class key))) = ap one_if (are.has key) in
      let long = length-append (below key ks) (kept key v (above key ks)) in
      let more = kept_count key v (above key ks) in
      omega (arith, parts, there, long, more)

  -- an object that is made, deleted or changed
  pub count_set : (n m : ℕ) → IsCount base class n → m ≡ n + one_if (is_some v) - one_if (is_some (base (object_cell class key))) → IsCount (with_value base (object_cell class key) v) class m
  unfolding only
  count_set n m p is = record {
    keys = merged p.keys only;
    are =
        let set = keys_set p.keys p.are in
        record { rise = set.rise; has = λ q. set.has q ∙ chosen (same_cell (object_cell class key) (object_cell class q)) v (base (object_cell class q)) };
    number =
        let total = merged_count p.keys p.are in
        let number = p.number in
        omega (arith, total, number, is);
  }

-- ---- the changes of a class's objects

class_choice : (b : Bool) (c : Cell) (v : Option CellValue) (es fs : Entries) (q : Cell) → (b ≡ false → same_cell c q ≡ false) → changes fs q ≡ changes es q
    → changes (cond b ((c, v) ∷ fs) fs) q ≡ (if same_cell c q then Some v else changes es q)
class_choice true c v es fs q other h = ap (λ o. if same_cell c q then Some v else o) h
class_choice false c v es fs q other h = h ∙ ap (λ b. if b then Some v else changes es q) (sym (other refl))

other_class : (class : ℕ) (c : Cell) (key : ℤ) → is_of_class class c ≡ false → same_cell c (object_cell class key) ≡ false
other_class class (object_cell of k) key out = ap (λ b. b && int_eq k key) (nat_eq_equiv.symm of class ∙ out)
other_class class (rule_cell n) key out = refl
other_class class (detector_cell n) key out = refl

pub changes_of_class : (class : ℕ) (es : Entries) (key : ℤ) → changes (class_entries class es) (object_cell class key) ≡ changes es (object_cell class key)
changes_of_class class [] key = refl
changes_of_class class (e ∷ es) key = class_choice (is_of_class class e.0) e.0 e.1 es (class_entries class es) (object_cell class key) (other_class class e.0 key) (changes_of_class class es key)

-- a lower key isn't named
lower_none : (class : ℕ) (k : ℤ) (es : Entries) → AboveKeys k es → changes es (object_cell class k) ≡ None
lower_none class k [] above = refl
lower_none class k ((object_cell d j, v) ∷ es) above =
    ap (λ b. if b then Some v else changes es (object_cell class k)) (ap (λ b. (d == class) && b) (apart_keys k j above.0) ∙ and_false (d == class)) ∙ lower_none class k es above.1
  where
    and_false : (b : Bool) → (b && false) ≡ false
    and_false true = refl
    and_false false = refl
lower_none class k ((rule_cell n, v) ∷ es) above = lower_none class k es above
lower_none class k ((detector_cell n, v) ∷ es) above = lower_none class k es above

-- ---- one change after the other

abbrev AreOfClass : ℕ → Entries → Type 0
AreOfClass class es = AllByRecursion (λ (e : Cell × Option CellValue). is_of_class class e.0 ≡ true) es

are_of_class : (class : ℕ) (es : Entries) → AreOfClass class (class_entries class es)
are_of_class class [] = tt
are_of_class class (e ∷ es) = by (is_of_class class e.0) refl (are_of_class class es)
  where
    by : (b : Bool) → is_of_class class e.0 ≡ b → AreOfClass class (class_entries class es) → AreOfClass class (cond b (e ∷ class_entries class es) (class_entries class es))
    by true is rest = (is, rest)
    by false is rest = rest

-- cells with the first of a layer's changes of a class: n objects are there, and what the changes that are left name is as
-- beneath the layer
pub record Recounts (beneath : Cells) (class : ℕ) (layer : Entries) (n : ℕ) (left : Entries) : Type 0 where
  pub cells : Cells
  pub count : IsCount cells class n
  pub whole : (key : ℤ) → over cells (changes left) (object_cell class key) ≡ over beneath (changes layer) (object_cell class key)
  pub same : (key : ℤ) → is_some (changes left (object_cell class key)) ≡ true → cells (object_cell class key) ≡ beneath (object_cell class key)
  pub rise : KeysRise left
  pub of : AreOfClass class left

-- before the first
pub recounts_first : (beneath : Cells) (class : ℕ) (layer : Entries) (n : ℕ) (left : Entries) → left ≡ class_entries class layer → KeysRise (class_entries class layer)
    → IsCount beneath class n → Recounts beneath class layer n left
recounts_first beneath class layer n left is rise count = record {
  cells = beneath;
  count = count;
  whole = λ key. ap (changed (beneath (object_cell class key))) (ap (λ es. changes es (object_cell class key)) is ∙ changes_of_class class layer key);
  same = λ key named. refl;
  rise = subst KeysRise (sym is) rise;
  of = subst (AreOfClass class) (sym is) (are_of_class class layer);
}

same_itself : (class : ℕ) (key : ℤ) → same_cell (object_cell class key) (object_cell class key) ≡ true
same_itself class key = ap₂ (λ a b. a && b) ((Decides-eqb class class).1 refl) ((Decides-int_eq key key).1 refl)

both : (a b : Bool) → (a && b) ≡ true → b ≡ true
both true b e = e
both false b e = cc

same_key_of : (class : ℕ) (key k : ℤ) → same_cell (object_cell class key) (object_cell class k) ≡ true → key ≡ k
same_key_of class key k hit = (Decides-int_eq key k).0 (both (class == class) (int_eq key k) hit)

turned : (b : Bool) (o : Option CellValue) (v : Option CellValue) (c : Option (Option CellValue)) → (b ≡ true → c ≡ None) → changed (if b then v else o) c ≡ changed o (if b then Some v else c)
turned true o v c none = ap (changed v) (none refl)
turned false o v c none = refl

-- with one change more
step : (beneath : Cells) (class : ℕ) (layer : Entries) (n m : ℕ) (c : Cell) (v : Option CellValue) (left : Entries) → m ≡ n + one_if (is_some v) - one_if (is_some (beneath c))
    → Recounts beneath class layer n ((c, v) ∷ left)
    → Recounts beneath class layer m left
step beneath class layer n m (rule_cell r) v left is so_far = absurd (true≢false (sym so_far.of.0))
step beneath class layer n m (detector_cell r) v left is so_far = absurd (true≢false (sym so_far.of.0))
step beneath class layer n m (object_cell of key) v left is so_far = subst P one here is so_far
  where
    one : class ≡ of
    one = (Decides-eqb class of).0 so_far.of.0

    P : ℕ → Type 0
    P d = m ≡ n + one_if (is_some v) - one_if (is_some (beneath (object_cell d key))) → Recounts beneath class layer n ((object_cell d key, v) ∷ left) → Recounts beneath class layer m left

    here : P class
    here is so_far = record {
      cells = with_value so_far.cells (object_cell class key) v;
      count = count_set so_far.cells class key v n m so_far.count (is ∙ ap (λ o. n + one_if (is_some v) - one_if (is_some o)) (sym before));
      whole = λ k.
          turned (same_cell (object_cell class key) (object_cell class k)) (so_far.cells (object_cell class k)) v (changes left (object_cell class k)) (gone k)
          ∙ so_far.whole k;
      same = λ k named. still k named (same_cell (object_cell class key) (object_cell class k)) refl;
      rise = so_far.rise.1;
      of = so_far.of.1;
    }
      where
        itself_named : is_some (changes ((object_cell class key, v) ∷ left) (object_cell class key)) ≡ true
        itself_named = ap (λ b. is_some (if b then Some v else changes left (object_cell class key))) (same_itself class key)

        before : so_far.cells (object_cell class key) ≡ beneath (object_cell class key)
        before = so_far.same key itself_named

        gone : (k : ℤ) → same_cell (object_cell class key) (object_cell class k) ≡ true → changes left (object_cell class k) ≡ None
        gone k hit = ap (λ j. changes left (object_cell class j)) (sym (same_key_of class key k hit)) ∙ lower_none class key left so_far.rise.0

        still : (k : ℤ) → is_some (changes left (object_cell class k)) ≡ true → (b : Bool) → same_cell (object_cell class key) (object_cell class k) ≡ b
            → (if b then v else so_far.cells (object_cell class k)) ≡ beneath (object_cell class k)
        still k named true hit = absurd (true≢false (sym named ∙ ap is_some (gone k hit)))
        still k named false hit = so_far.same k (ap (λ b. is_some (if b then Some v else changes left (object_cell class k))) hit ∙ named)

some_change : (x : Option Held) → is_some (change x) ≡ is_some x
some_change None = refl
some_change (Some v) = refl

pub recounts_next : (beneath : Cells) (class : ℕ) (layer : Entries) (n m : ℕ) (it t : Kept) (d : Given) (x : Option Held) (was : Bool)
    → Recounts beneath class layer n (map entry it) → it ≡ (d, x) ∷ t → was ≡ is_some (beneath (cell d))
    → m ≡ n + one_if (is_some x) - one_if was → Recounts beneath class layer m (map entry t)
recounts_next beneath class layer n m it t d x was so_far steps is number =
    step beneath class layer n m (cell d) (change x) (map entry t)
    (number ∙ ap₂ (λ a b. n + one_if a - one_if b) (sym (some_change x)) is)
    (subst (λ l. Recounts beneath class layer n (map entry l)) steps so_far)

-- after the last
pub recounts_last : (beneath : Cells) (class : ℕ) (layer : Entries) (n : ℕ) (it : Kept) → Recounts beneath class layer n (map entry it) → it ≡ [] → IsCount (over beneath (changes layer)) class n
recounts_last beneath class layer n it so_far none =
    same_count (λ key. ap is_some (ap (λ l. changed (so_far.cells (object_cell class key)) (changes (map entry l) (object_cell class key))) (sym none) ∙ so_far.whole key)) so_far.count

-- no more than the layer names
pub class_count : (class : ℕ) (es : Entries) → length (class_entries class es) ≤ length es
class_count class [] = omega arith
class_count class (e ∷ es) = by (is_of_class class e.0) (class_count class es)
  where
    by : (b : Bool) → length (class_entries class es) ≤ length es → length (cond b (e ∷ class_entries class es) (class_entries class es)) ≤ suc (length es)
    by true h = omega (arith, h)
    by false h = omega (arith, h)

-- one change makes one object at most
pub no_more : (n : ℕ) (is was : Bool) → n + one_if is - one_if was ≤ n + 1
no_more n true true = omega arith
no_more n true false = omega arith
no_more n false true = omega arith
no_more n false false = omega arith

-- ---- the same changes of other cells

other_count : (base : Cells) (class : ℕ) (c : Cell) (v : Option CellValue) (n : ℕ) → is_of_class class c ≡ false → IsCount base class n → IsCount (with_value base c v) class n
other_count base class c v n out p = same_count (λ key. ap (λ b. is_some (if b then v else base (object_cell class key))) (sym (other_class class c key out))) p

turned_value : (b : Bool) (o v : Option CellValue) (c : Option (Option CellValue)) → (if b then v else changed o c) ≡ changed o (if b then Some v else c)
turned_value true o v c = refl
turned_value false o v c = refl

-- two numbers of objects that are the same stay the same, if the cells agree on the objects that are named
counts_over : (base other : Cells) (class : ℕ) (es : Entries) (n : ℕ)
    → ((key : ℤ) → is_some (changes es (object_cell class key)) ≡ true → base (object_cell class key) ≡ other (object_cell class key)) → IsCount base class n → IsCount other class n
    → (m : ℕ) × IsCount (over base (changes es)) class m × IsCount (over other (changes es)) class m
counts_over base other class [] n agree p q = (n, p, q)
counts_over base other class ((c, v) ∷ es) n agree p q = more c agree (counts_over base other class es n rest p q)
  where
    later : (b : Bool) (o : Option (Option CellValue)) → is_some o ≡ true → is_some (if b then Some v else o) ≡ true
    later true o e = refl
    later false o e = e

    rest : (key : ℤ) → is_some (changes es (object_cell class key)) ≡ true → base (object_cell class key) ≡ other (object_cell class key)
    rest key named = agree key (later (same_cell c (object_cell class key)) (changes es (object_cell class key)) named)

    with : (cells : Cells) (d : Cell) (m : ℕ) → IsCount (with_value (over cells (changes es)) d v) class m → IsCount (over cells (changes ((d, v) ∷ es))) class m
    with cells d m r = same_count (λ key. ap is_some (turned_value (same_cell d (object_cell class key)) (cells (object_cell class key)) v (changes es (object_cell class key)))) r

    more : (d : Cell) → ((key : ℤ) → is_some (changes ((d, v) ∷ es) (object_cell class key)) ≡ true → base (object_cell class key) ≡ other (object_cell class key))
        → ((m : ℕ) × IsCount (over base (changes es)) class m × IsCount (over other (changes es)) class m)
        → (m : ℕ) × IsCount (over base (changes ((d, v) ∷ es))) class m × IsCount (over other (changes ((d, v) ∷ es))) class m
    more (rule_cell r) at so_far = (
      so_far.0,
      with base (rule_cell r) so_far.0 (other_count (over base (changes es)) class (rule_cell r) v so_far.0 refl so_far.1),
      with other (rule_cell r) so_far.0 (other_count (over other (changes es)) class (rule_cell r) v so_far.0 refl so_far.2),
    )
    more (detector_cell r) at so_far = (
      so_far.0,
      with base (detector_cell r) so_far.0 (other_count (over base (changes es)) class (detector_cell r) v so_far.0 refl so_far.1),
      with other (detector_cell r) so_far.0 (other_count (over other (changes es)) class (detector_cell r) v so_far.0 refl so_far.2),
    )
    more (object_cell of key) at so_far = by (class == of) refl
      where
        Result : ℕ → Type 0
        Result d = (m : ℕ) × IsCount (over base (changes ((object_cell d key, v) ∷ es))) class m × IsCount (over other (changes ((object_cell d key, v) ∷ es))) class m

        agreed : (d : ℕ) → d ≡ class → ((k : ℤ) → is_some (changes ((object_cell d key, v) ∷ es) (object_cell class k)) ≡ true → base (object_cell class k) ≡ other (object_cell class k))
            → Result class
        agreed d is at =
            let m = so_far.0 + one_if (is_some v) - one_if (is_some (over base (changes es) (object_cell class key))) in
            let here : base (object_cell class key) ≡ other (object_cell class key) =
            at key (ap (λ b. is_some (if b then Some v else changes es (object_cell class key))) (ap (λ e. same_cell (object_cell e key) (object_cell class key)) is ∙ same_itself class key)) in (
              m,
              with base (object_cell class key) m (count_set (over base (changes es)) class key v so_far.0 m so_far.1 refl),
              with other (object_cell class key) m
                  (count_set (over other (changes es)) class key v so_far.0 m so_far.2
                  (ap (λ o. so_far.0 + one_if (is_some v) - one_if (is_some (changed o (changes es (object_cell class key))))) here)),
            )

        by : (b : Bool) → (class == of) ≡ b → Result of
        by true is =
            let one : class ≡ of = (Decides-eqb class of).0 is in
            subst Result one (agreed of (sym one) at)
        by false is = (
          so_far.0,
          with base (object_cell of key) so_far.0 (other_count (over base (changes es)) class (object_cell of key) v so_far.0 is so_far.1),
          with other (object_cell of key) so_far.0 (other_count (over other (changes es)) class (object_cell of key) v so_far.0 is so_far.2),
        )

pub count_over_same : {base other : Cells} {class n total : ℕ} (es : Entries)
    → ((key : ℤ) → is_some (changes es (object_cell class key)) ≡ true → base (object_cell class key) ≡ other (object_cell class key)) → IsCount base class n → IsCount other class n
    → IsCount (over other (changes es)) class total → IsCount (over base (changes es)) class total
count_over_same {base} {other} {class} {n} {total} es agree p q is =
    let both = counts_over base other class es n agree p q in
    subst (IsCount (over base (changes es)) class) (one_count both.2 is) both.1

-- a number that fits into an answer
pub sized_count : {E : Type 0} {base : Cells} {class number : ℕ} (r : Result ℕ E) → IfOk r (λ count. count ≡ number) → IsCount base class number → IfOk r (IsCount base class)
sized_count {E} {base} {class} (Ok count) is p = subst (IsCount base class) (sym is) p
sized_count (Err e) is p = tt

pub sized_err : {E : Type 0} {base : Cells} {class number : ℕ} (r : Result ℕ E) → OnErr r (2 ^ 64 ≤ number) → IsCount base class number → OnErr r (IsUncountable base class)
sized_err (Ok count) many p = tt
sized_err {E} {base} {class} {number} (Err e) many p = record { number = number; counted = p; many = many }

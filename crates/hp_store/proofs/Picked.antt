-- The objects of a part, found among some keys.
use Rattle.std.proofs.Common.{◌≡◌, refl, ap, ap₂, sym, ◌∙◌, subst, ℕ, ◌<◌, ◌+◌, ℤ, pos, Bool, true, false, ◌||◌, List, [], ◌∷◌, ◌++◌, length, drop, get_or, append_assoc, Option}
use Rattle.std.proofs.Common.{Some, None, int_eq, Result, Ok, Err}
use Rattle.std.specs.Prelude.{All, IfOk, option_map}
use Rattle.std.specs.Ordering.{is_eq, int_cmp}
use Rattle.std.specs.declared.cmp.Ordering.TheVariants.{Less}
use Rattle.std.specs.List.{AllByRecursion, dedup}
use Rattle.std.specs.List.Sorted.{IsStrictlySortedBy, IsSorted, IsPermutation}
use Rattle.std.proofs.lemmas.Bool.Decides.{Decides-int_eq}
use Rattle.std.proofs.lemmas.Cmp.{int_cmp_total, int_eq_equiv}
use Rattle.std.proofs.lemmas.List.{drop_more, map-append, append-nil}
use Rattle.std.proofs.lemmas.List.Elements.{All-nil, All-push}
use Rattle.std.proofs.lemmas.List.Folds.{list_any-append}
use Rattle.std.proofs.lemmas.List.Kept.{Contains-dedup, IsStrictlySortedBy-dedup}
use Rattle.std.proofs.lemmas.List.Sorted.{Contains-permutation}
use Rattle.std.proofs.lemmas.Map.Views.{Contains-from_any, list_any-from_Contains}
use Rattle.hp_model.specs.Values.{Row, KeyedRow, Cause, integer}
use Rattle.hp_model.specs.ClassParts.{ClassPart, belongs, lies_within}
use Rattle.hp_model.specs.Cells.{object_cell, Cells, belongs_in, ArePart}
use Rattle.hp_value.specs.declared.class_part.Attribute.{Attribute}
use Rattle.hp_value.specs.declared.class_part.Attribute.TheVariants.{Key, Field}
use Rattle.hp_value.specs.declared.class_part.Bounds.{Bounds}
use Rattle.hp_value.specs.declared.class_part.Bounds.TheVariants.{Numbers, Texts}
use Rattle.hp_value.specs.Mapped.{keys_of, attribute, low, high}
use Rattle.hp_store.specs.Parts.{Covers, is_among, compares_keys, IsMember, with_member}
use Rattle.hp_store.proofs.Cells.{int_at}
use Rattle.hp_store.proofs.Agreed.{IsShown, shown_at}

-- ---- more keys

pub covers_wider : (test wider : ℤ → Bool) (p : ClassPart) (class : ℕ) (cells : Cells) → ((key : ℤ) → wider key ≡ false → test key ≡ false) → Covers test p class cells → Covers wider p class cells
covers_wider test wider p class cells still covers key fails = covers key (still key fails)

either_fails : (a b : Bool) → (a || b) ≡ false → (a ≡ false) × (b ≡ false)
either_fails true b h = cc
either_fails false b h = (refl, h)

pub not_before : (keys more new : List ℤ) → new ≡ keys ++ more → (key : ℤ) → is_among new key ≡ false → is_among keys key ≡ false
not_before keys more new is key out =
    (either_fails (is_among keys key) (is_among more key) (sym (list_any-append (int_eq key) keys more) ∙ ap (λ l. is_among l key) (sym is) ∙ out)).0

pub not_after : (keys more new : List ℤ) → new ≡ keys ++ more → (key : ℤ) → is_among new key ≡ false → is_among more key ≡ false
not_after keys more new is key out =
    (either_fails (is_among keys key) (is_among more key) (sym (list_any-append (int_eq key) keys more) ∙ ap (λ l. is_among l key) (sym is) ∙ out)).1

-- ---- keys in order

ties : (a b : ℤ) → int_eq a b ≡ is_eq (int_cmp a b)
ties a b = sym (int_at a b)

exact : (a b : ℤ) → int_eq a b ≡ true → a ≡ b
exact a b is = (Decides-int_eq a b).0 is

pub sorted_once : (sorted new : List ℤ) → IsSorted int_cmp sorted → new ≡ dedup int_eq sorted → IsStrictlySortedBy int_cmp new
sorted_once sorted new rise is = subst (IsStrictlySortedBy int_cmp) (sym is) (IsStrictlySortedBy-dedup int_cmp_total ties sorted rise)

pub sorted_kept : (keys sorted new : List ℤ) → IsPermutation keys sorted → new ≡ dedup int_eq sorted → (key : ℤ) → is_among new key ≡ false → is_among keys key ≡ false
sorted_kept keys sorted new moved is key out = by (is_among keys key) refl
  where
    there : is_among keys key ≡ true → is_among new key ≡ true
    there among =
        ap (λ l. is_among l key) is
        ∙ list_any-from_Contains int_eq_equiv key (dedup int_eq sorted)
        (Contains-dedup int_eq_equiv exact sorted key (Contains-permutation keys sorted key moved (Contains-from_any exact key keys among)))

    by : (b : Bool) → is_among keys key ≡ b → is_among keys key ≡ false
    by true among = absurd (cc (sym (there among) ∙ out))
    by false among = among

-- ---- a part by keys

no_fault : (l h : Option ℤ) (k : ℤ) (c : Cause) → lies_within (option_map integer l) (option_map integer h) (integer k) ≡ Err c → ⊥
no_fault None None k c e = cc
no_fault None (Some h) k c e = cc
no_fault (Some l) None k c e = cc
no_fault (Some l) (Some h) k c e = cc

-- each object can be compared with its bounds
pub keys_compare : (a : Attribute) (b : Bounds) (r : KeyedRow) (c : Cause) → compares_keys a b ≡ true → Err c ≡ belongs (record { attribute = attribute a; low = low b; high = high b }) r → ⊥
keys_compare Key (Numbers l h) r c is e = no_fault l h r.key c (sym e)
keys_compare Key (Texts l h) r c is e = cc
keys_compare (Field f) (Numbers l h) r c is e = cc
keys_compare (Field f) (Texts l h) r c is e = cc

-- ---- one object after the other

-- what is told of an outcome that is Ok
pub member_told : {A E : Type 0} (P : A → Type 0) {told : Result A E} {a : A} → told ≡ Ok a → IfOk told P → P a
member_told P is holds = subst (λ t. IfOk t P) is holds

-- all is told of the objects that were found and the keys that are left
pub record Picks (cells : Cells) (p : ClassPart) (class : ℕ) (left : List ℤ) (objects : List KeyedRow) : Type 0 where
  pub rise : IsStrictlySortedBy int_cmp (keys_of objects ++ left)
  pub covers : Covers (is_among (keys_of objects ++ left)) p class cells
  pub shown : All (IsShown cells p class) objects

all_without : (P : ℤ → Type 0) (xs : List ℤ) (k : ℤ) (ys : List ℤ) → AllByRecursion P (xs ++ k ∷ ys) → AllByRecursion P (xs ++ ys)
all_without P [] k ys all = all.1
all_without P (x ∷ xs) k ys all = (all.0, all_without P xs k ys all.1)

rise_without : (xs : List ℤ) (k : ℤ) (ys : List ℤ) → IsStrictlySortedBy int_cmp (xs ++ k ∷ ys) → IsStrictlySortedBy int_cmp (xs ++ ys)
unfolding IsStrictlySortedBy
rise_without [] k ys rise = rise.1
rise_without (x ∷ xs) k ys rise = (all_without (λ y. int_cmp x y ≡ Less) xs k ys rise.0, rise_without xs k ys rise.1)

among_without : (xs : List ℤ) (k : ℤ) (ys : List ℤ) (key : ℤ) → int_eq key k ≡ false → is_among (xs ++ ys) key ≡ false → is_among (xs ++ k ∷ ys) key ≡ false
among_without [] k ys key other out = ap (λ b. b || is_among ys key) other ∙ out
among_without (x ∷ xs) k ys key other out =
    let parts = either_fails (int_eq key x) (is_among (xs ++ ys) key) out in
    ap₂ (λ a b. a || b) parts.0 (among_without xs k ys key other parts.1)

module _ (cells : Cells) (p : ClassPart) (class : ℕ) where
  pub picks_more : (key : ℤ) (left : List ℤ) (objects new : List KeyedRow) (member : Option Row) → IsMember p key (cells (object_cell class key)) member → new ≡ with_member objects key member
      → Picks cells p class (key ∷ left) objects → Picks cells p class left new
  picks_more key left objects new None gone is so_far = subst (Picks cells p class left) (sym is) (record {
    rise = rise_without (keys_of objects) key left so_far.rise;
    covers = λ k out. covers k (int_eq k key) refl out;
    shown = so_far.shown;
  })
    where
      covers : (k : ℤ) (same : Bool) → int_eq k key ≡ same → is_among (keys_of objects ++ left) k ≡ false → belongs_in p k (cells (object_cell class k)) ≡ Ok false
      covers k true same out = ap (λ j. belongs_in p j (cells (object_cell class j))) (exact k key same) ∙ gone
      covers k false other out = so_far.covers k (among_without (keys_of objects) key left k other out)
  picks_more key left objects new (Some row) there is so_far = subst (Picks cells p class left) (sym is) (record {
    rise = subst (IsStrictlySortedBy int_cmp) keys so_far.rise;
    covers = subst (λ ks. Covers (is_among ks) p class cells) keys so_far.covers;
    shown = All-push (IsShown cells p class) objects (record { key = key; row = row }) so_far.shown there;
  })
    where
      keys : keys_of objects ++ key ∷ left ≡ keys_of (objects ++ record { key = key; row = row } ∷ []) ++ left
      keys = sym (append_assoc (keys_of objects) (key ∷ []) left) ∙ ap (λ ks. ks ++ left) (sym (map-append (λ (o : KeyedRow). o.key) objects (record { key = key; row = row } ∷ [])))

  pub picks_start : (keys left : List ℤ) (objects : List KeyedRow) → objects ≡ [] → left ≡ keys → IsStrictlySortedBy int_cmp keys → Covers (is_among keys) p class cells
      → Picks cells p class left objects
  picks_start keys left objects none is rise covers =
      subst (λ l. Picks cells p class l objects) (sym is) (subst (Picks cells p class keys) (sym none) (record { rise = rise; covers = covers; shown = All-nil (IsShown cells p class) }))

  pub picks_step : (keys : List ℤ) (i : ℕ) (key : ℤ) (objects new : List KeyedRow) (member : Option Row) → i < length keys → key ≡ get_or keys i (pos 0)
      → IsMember p key (cells (object_cell class key)) member
      → new ≡ with_member objects key member → Picks cells p class (drop i keys) objects → Picks cells p class (drop (i + 1) keys) new
  picks_step keys i key objects new member within same told is so_far =
      picks_more key (drop (i + 1) keys) objects new member told is
      (subst (λ l. Picks cells p class l objects) (drop_more keys i (pos 0) within ∙ ap (λ k. k ∷ drop (i + 1) keys) (sym same)) so_far)

  pub picks_all : (left : List ℤ) (objects : List KeyedRow) → left ≡ [] → Picks cells p class left objects → ArePart cells class p objects
  picks_all left objects none picks = record {
    rise = subst (IsStrictlySortedBy int_cmp) keys picks.rise;
    has = λ key. has key (is_among (keys_of objects) key) refl;
    rows = λ k d low. (picks.shown k d low).0;
  }
    where
      keys : keys_of objects ++ left ≡ keys_of objects
      keys = ap (λ ks. keys_of objects ++ ks) none ∙ append-nil (keys_of objects)

      has : (key : ℤ) (b : Bool) → is_among (keys_of objects) key ≡ b → belongs_in p key (cells (object_cell class key)) ≡ Ok (is_among (keys_of objects) key)
      has key true is = shown_at cells p class objects key picks.shown is ∙ ap Ok (sym is)
      has key false is = picks.covers key (ap (λ ks. is_among ks key) keys ∙ is) ∙ ap Ok (sym is)

-- The greatest key of a class: there is one of them, and what it is wherever the reads hold.
use Rattle.std.proofs.Common.{◌≡◌, refl, sym, ap, ◌∙◌, subst, ℕ, ℤ, Bool, true, false, true≢false, ◌||◌, ◌==◌, cond, List, [], ◌∷◌, ◌++◌, Option, Some, None, Result, Ok, Err, inl, inr}
use Rattle.std.proofs.Common.{is_some, int_eq, int_lt}
use Rattle.std.specs.Prelude.{MatchOption, OnOk, OnErr, if◌then◌else◌}
use Rattle.std.specs.declared.cmp.Ordering.TheVariants.{Less, Equal, Greater}
use Rattle.std.specs.Ordering.{int_cmp}
use Rattle.std.specs.List.{list_any, last_or}
use Rattle.std.specs.List.Sorted.{IsStrictlySortedBy}
use Rattle.std.proofs.lemmas.Bool.Decides.{Decides-eqb, Decides-int_eq}
use Rattle.std.proofs.lemmas.Cmp.{int_cmp_total, tied_itself}
use Rattle.std.proofs.lemmas.Map.Lookups.{exact_signed}
use Rattle.hp_model.specs.Cells.{CellValue, Cells, Changes, object_cell, changed, over, is_above, is_there, Read, cell_read, keys_read, greatest_read, count_read, objects_read}
use Rattle.hp_model.specs.Cells.{part_read, ReadsHold, Holds, AreKeys, IsGreatestKey}
use Rattle.hp_model.proofs.BridgesCells.{Holds-last}
use Rattle.hp_view.specs.Known.{KnowsGreatest}
use Rattle.hp_view.specs.Seeing.{Seeing, beneath, written, now_in, reads_greatest, keys_were_read, greatest_was_read, noted, OnlyReads, ReadsKeys, DeletesGreatest, ReadsGreatest, ShowsGreatest}
use Rattle.hp_view.proofs.Reading.{keys_again, keys_noted, noted-again, noted_only, noted_held}
use Rattle.hp_view.proofs.SameClass.{both_none}

-- ---- keys in order

less_by : (a b : ℤ) → int_lt a b ≡ true → int_cmp a b ≡ Less
less_by a b h = ap (λ t. cond t Less (cond (int_lt b a) Greater Equal)) h

test_by : (a b : ℤ) → int_cmp a b ≡ Less → int_lt a b ≡ true
test_by a b h = by (int_lt a b) (int_lt b a) h
  where
    by : (s t : Bool) → cond s Less (cond t Greater Equal) ≡ Less → s ≡ true
    by true t e = refl
    by false true e = cc
    by false false e = cc

not_itself : (a : ℤ) → int_lt a a ≡ true → ⊥
not_itself a h = cc (sym (less_by a a h) ∙ tied_itself int_cmp_total a)

one_key : (a b : ℤ) → int_lt a b ≡ false → int_lt b a ≡ false → a ≡ b
one_key a b up down = exact_signed a b (λ i. cond (up i) Less (cond (down i) Greater Equal))

-- ---- there is one greatest key

one_of_two : (base : Cells) (class : ℕ) (g h : Option ℤ) → IsGreatestKey base class g → IsGreatestKey base class h → g ≡ h
one_of_two base class None None p q = refl
one_of_two base class None (Some l) p q = absurd (true≢false (sym q.there ∙ p.above l refl))
one_of_two base class (Some k) None p q = absurd (true≢false (sym p.there ∙ q.above k refl))
one_of_two base class (Some k) (Some l) p q = by (int_lt k l) refl (int_lt l k) refl
  where
    by : (up : Bool) → int_lt k l ≡ up → (down : Bool) → int_lt l k ≡ down → Some k ≡ Some l
    by true e down f = absurd (true≢false (sym q.there ∙ p.above l e))
    by false e true f = absurd (true≢false (sym p.there ∙ q.above k f))
    by false e false f = ap Some (one_key k l e f)

pub one_greatest : {base : Cells} {class : ℕ} {g h : Option ℤ} → IsGreatestKey base class g → IsGreatestKey base class h → g ≡ h
one_greatest {base} {class} {g} {h} p q = one_of_two base class g h p q

-- ---- it is the last of the class's keys

record LastOf (x : ℤ) (xs : List ℤ) : Type 0 where
  key : ℤ
  is : last_or (Some x) xs ≡ Some key
  among : list_any (int_eq key) (x ∷ xs) ≡ true
  from : int_lt key x ≡ false
  above : (k : ℤ) → int_lt key k ≡ true → list_any (int_eq k) (x ∷ xs) ≡ false

not_same : (k x key : ℤ) → int_lt key k ≡ true → int_lt key x ≡ false → int_eq k x ≡ false
not_same k x key above from = by (int_eq k x) refl
  where
    by : (b : Bool) → int_eq k x ≡ b → b ≡ false
    by true e = absurd (true≢false (sym above ∙ ap (int_lt key) ((Decides-int_eq k x).0 e) ∙ from))
    by false e = refl

not_under : (x y key : ℤ) → int_cmp x y ≡ Less → int_lt key y ≡ false → int_lt key x ≡ false
not_under x y key less from = by (int_lt key x) refl
  where
    by : (b : Bool) → int_lt key x ≡ b → b ≡ false
    by true e = absurd (true≢false (sym (test_by key y (int_cmp_total.trans key x y (less_by key x e) less)) ∙ from))
    by false e = refl

either_true : (a b : Bool) → b ≡ true → (a || b) ≡ true
either_true true b e = refl
either_true false b e = e

last_of : (x : ℤ) (xs : List ℤ) → IsStrictlySortedBy int_cmp (x ∷ xs) → LastOf x xs
unfolding IsStrictlySortedBy
last_of x [] rise = record {
  key = x;
  is = refl;
  among = ap (λ b. b || false) ((Decides-int_eq x x).1 refl);
  from = by (int_lt x x) refl;
  above = λ k h. ap (λ b. b || false) (not_same k x x h (by (int_lt x x) refl));
}
  where
    by : (b : Bool) → int_lt x x ≡ b → b ≡ false
    by true e = absurd (not_itself x e)
    by false e = refl
last_of x (y ∷ ys) rise = more (last_of y ys rise.1)
  where
    more : LastOf y ys → LastOf x (y ∷ ys)
    more l =
        let from : int_lt l.key x ≡ false = not_under x y l.key rise.0.0 l.from in
        record {
          key = l.key;
          is = l.is;
          among = either_true (int_eq l.key x) (list_any (int_eq l.key) (y ∷ ys)) l.among;
          from = from;
          above = λ k h. ap (λ b. b || list_any (int_eq k) (y ∷ ys)) (not_same k x l.key h from) ∙ l.above k h;
        }

pub keys_greatest : (base : Cells) (class : ℕ) (keys : List ℤ) → AreKeys base class keys → IsGreatestKey base class (last_or None keys)
keys_greatest base class [] are = record { there = refl; above = λ k h. sym (are.has k) }
keys_greatest base class (x ∷ xs) are = subst (IsGreatestKey base class) (sym last.is) (record { there = sym (are.has last.key) ∙ last.among; above = λ k h. sym (are.has k) ∙ last.above k h })
  where
    last : LastOf x xs
    last = last_of x xs are.rise

-- ---- the same under the same writes

-- cells with the same keys
greatest_same : {B S : Cells} (layer : Changes) (class : ℕ) (keys : List ℤ) (greatest : Option ℤ) → AreKeys B class keys → AreKeys S class keys
    → IsGreatestKey (over S layer) class greatest → IsGreatestKey (over B layer) class greatest
greatest_same {B} {S} layer class keys greatest here there is = record { there = top greatest is.there; above = λ k h. same k (layer (object_cell class k)) ∙ is.above k h }
  where
    same : (k : ℤ) (change : Option (Option CellValue)) → is_some (changed (B (object_cell class k)) change) ≡ is_some (changed (S (object_cell class k)) change)
    same k None = sym (here.has k) ∙ there.has k
    same k (Some value) = refl

    top : (g : Option ℤ) → is_there (over S layer) class g ≡ true → is_there (over B layer) class g ≡ true
    top None h = refl
    top (Some k) h = same k (layer (object_cell class k)) ∙ h

-- cells with the same greatest key, where the greatest one under the writes isn't below it
greatest_over : {B S : Cells} (layer : Changes) (class : ℕ) (under greatest : Option ℤ) → ((k : ℤ) → is_above greatest k ≡ true → is_above under k ≡ true)
    → IsGreatestKey B class under → IsGreatestKey S class under
    → IsGreatestKey (over S layer) class greatest → IsGreatestKey (over B layer) class greatest
greatest_over {B} {S} layer class under greatest up here there is = record { there = top greatest up is.there; above = λ k h. same k (up k h) ∙ is.above k h }
  where
    same : (k : ℤ) → is_above under k ≡ true → is_some (over B layer (object_cell class k)) ≡ is_some (over S layer (object_cell class k))
    same k h = ap (λ o. is_some (changed o (layer (object_cell class k)))) (both_none (B (object_cell class k)) (S (object_cell class k)) (here.above k h) (there.above k h))

    kept : (b s : Option CellValue) (change : Option (Option CellValue)) → is_some b ≡ true → is_some s ≡ true → is_some (changed b change) ≡ is_some (changed s change)
    kept b s None e f = e ∙ sym f
    kept b s (Some value) e f = refl

    at : (u : Option ℤ) (k : ℤ) → ((j : ℤ) → int_lt k j ≡ true → is_above u j ≡ true) → is_above u k ≡ false → is_there B class u ≡ true → is_there S class u ≡ true
        → is_some (over B layer (object_cell class k)) ≡ is_some (over S layer (object_cell class k))
    at None k above out b s = cc
    at (Some j) k above out b s = by (int_lt k j) refl
      where
        by : (t : Bool) → int_lt k j ≡ t → is_some (over B layer (object_cell class k)) ≡ is_some (over S layer (object_cell class k))
        by true e = absurd (not_itself j (above j e))
        by false e =
            subst (λ n. is_some (over B layer (object_cell class n)) ≡ is_some (over S layer (object_cell class n))) (one_key j k out e)
            (kept (B (object_cell class j)) (S (object_cell class j)) (layer (object_cell class j)) b s)

    top : (g : Option ℤ) → ((k : ℤ) → is_above g k ≡ true → is_above under k ≡ true) → is_there (over S layer) class g ≡ true → is_there (over B layer) class g ≡ true
    top None above h = refl
    top (Some k) above h = by (is_above under k) refl
      where
        by : (t : Bool) → is_above under k ≡ t → is_some (over B layer (object_cell class k)) ≡ true
        by true e = same k e ∙ h
        by false e = at under k above e here.there there.there ∙ h

-- ---- wherever the reads hold

-- a greatest key that was read
greatest_again : (B C : Cells) (class : ℕ) (greatest : Option ℤ) (reads : List Read) → ReadsHold B reads → ReadsHold C reads → IsGreatestKey C class greatest
    → list_any (reads_greatest class) reads ≡ true → IsGreatestKey B class greatest
greatest_again B C class greatest [] b c is h = absurd (true≢false (sym h))
greatest_again B C class greatest (cell_read q value ∷ rs) b c is h = greatest_again B C class greatest rs b.1 c.1 is h
greatest_again B C class greatest (keys_read n keys ∷ rs) b c is h = greatest_again B C class greatest rs b.1 c.1 is h
greatest_again B C class greatest (count_read n count ∷ rs) b c is h = greatest_again B C class greatest rs b.1 c.1 is h
greatest_again B C class greatest (objects_read n objects ∷ rs) b c is h = greatest_again B C class greatest rs b.1 c.1 is h
greatest_again B C class greatest (part_read n part objects ∷ rs) b c is h = greatest_again B C class greatest rs b.1 c.1 is h
greatest_again B C class greatest (greatest_read n found ∷ rs) b c is h = by (class == n) refl h (greatest_again B C class greatest rs b.1 c.1 is)
  where
    by : (t : Bool) → (class == n) ≡ t → (t || list_any (reads_greatest class) rs) ≡ true → (list_any (reads_greatest class) rs ≡ true → IsGreatestKey B class greatest)
        → IsGreatestKey B class greatest
    by true e h rest =
        let here : n ≡ class = sym ((Decides-eqb class n).0 e) in
        subst (IsGreatestKey B class) (one_greatest (subst (λ k. IsGreatestKey C k found) here c.0) is) (subst (λ k. IsGreatestKey B k found) here b.0)
    by false e h rest = rest h

-- one that is noted where the keys weren't read
greatest_noted : (B C : Cells) (class : ℕ) (greatest : Option ℤ) (reads : List Read) → Holds C reads → IsGreatestKey C class greatest → keys_were_read reads class ≡ false
    → Holds B (noted reads (greatest_read class greatest))
    → IsGreatestKey B class greatest
greatest_noted B C class greatest reads c is no_keys b = by (greatest_was_read reads class) refl b
  where
    alone : (s t : Bool) → t ≡ false → (s || t) ≡ true → s ≡ true
    alone true t e h = refl
    alone false t e h = sym e ∙ h

    by : (t : Bool) → greatest_was_read reads class ≡ t → Holds B (if t then reads else reads ++ greatest_read class greatest ∷ []) → IsGreatestKey B class greatest
    by true e b = greatest_again B C class greatest reads b.each c.each is (alone (list_any (reads_greatest class) reads) (keys_were_read reads class) no_keys e)
    by false e b = Holds-last B reads (greatest_read class greatest) b

-- ---- a call of `read_greatest`, on a view whose fields make v

-- where the keys were read before
pub reads_greatest_again : {v old : Seeing} (class : ℕ) (keys : List ℤ) → v ≡ old → AreKeys (beneath v) class keys → keys_were_read v.reads class ≡ true → ReadsGreatest old old class
reads_greatest_again {v} {old} class keys from are again =
    subst (λ u. ReadsGreatest u u class) from (record {
      either = inl (record {
        greatest = (last_or None keys, keys_greatest (beneath v) class keys are, λ i. record v { reads = sym (noted-again v.reads (greatest_read class (last_or None keys)) with_keys) i });
      });
    })
  where
    with_keys : greatest_was_read v.reads class ≡ true
    with_keys = either_true (list_any (reads_greatest class) v.reads) (keys_were_read v.reads class) again

pub shows_greatest_again : {v old : Seeing} (class : ℕ) (keys : List ℤ) (greatest : Option ℤ) → v ≡ old → Holds (beneath v) v.reads → AreKeys (beneath v) class keys
    → keys_were_read v.reads class ≡ true
    → IsGreatestKey (now_in old) class greatest → ShowsGreatest old class greatest
shows_greatest_again {v} {old} class keys greatest from held are again is =
    subst (λ u. ShowsGreatest u class greatest) from
    (record {
      everywhere = λ base here.
          greatest_same (written v) class keys greatest (keys_again base (beneath v) class keys v.reads here.each held.each are again) are
          (subst (λ u. IsGreatestKey (now_in u) class greatest) (sym from) is);
    })

-- where the keys are read
pub shows_by_keys : {v old new : Seeing} (class : ℕ) (greatest : Option ℤ) → v ≡ old → Holds (beneath v) v.reads → IsGreatestKey (now_in old) class greatest
    → ReadsKeys old new class → ShowsGreatest new class greatest
shows_by_keys {v} {old} {new} class greatest from held is reads =
    subst (λ u. ShowsGreatest u class greatest) (sym reads.keys.2)
    (record {
      everywhere = λ base here.
          greatest_same (written old) class reads.keys.0 greatest
          (keys_noted base (beneath old) class reads.keys.0 old.reads (subst (λ u. Holds (beneath u) u.reads) from held) reads.keys.1 here) reads.keys.1 is;
    })

pub deletes_greatest : {v old : Seeing} (class : ℕ) (under greatest : Option ℤ) → v ≡ old → IsGreatestKey (beneath v) class under → IsGreatestKey (now_in old) class greatest
    → MatchOption under ⊥ (λ k. is_above greatest k ≡ true)
    → DeletesGreatest old class
deletes_greatest {v} {old} class None greatest from there is above = absurd above
deletes_greatest {v} {old} class (Some k) greatest from there is above =
    subst (λ u. DeletesGreatest u class) from
    (record {
      greatest = (
        k,
        there,
        gone (beneath v (object_cell class k)) (written v (object_cell class k)) there.there
            ((subst (λ u. IsGreatestKey (now_in u) class greatest) (sym from) is).above k above),
      );
    })
  where
    gone : (b : Option CellValue) (w : Option (Option CellValue)) → is_some b ≡ true → is_some (changed b w) ≡ false → w ≡ Some None
    gone b None h g = absurd (true≢false (sym h ∙ g))
    gone b (Some None) h g = refl
    gone b (Some (Some x)) h g = cc

pub held_by_keys : {v old new : Seeing} (class : ℕ) → v ≡ old → Holds (beneath v) v.reads → ReadsKeys old new class → Holds (beneath new) new.reads
held_by_keys {v} {old} {new} class from held reads =
    subst (λ u. Holds (beneath u) u.reads) (sym reads.keys.2)
    (noted_held old (keys_read class reads.keys.0) (noted old.reads (keys_read class reads.keys.0)) (subst (λ u. Holds (beneath u) u.reads) from held) reads.keys.1 refl)

-- what follows of an outcome
pub on_ok : {A E P Q : Type 0} (r : Result A E) → (P → Q) → OnOk r P → OnOk r Q
on_ok (Ok x) more told = more told
on_ok (Err e) more told = tt

pub on_err : {A E P : Type 0} (r : Result A E) → P → OnErr r P
on_err (Ok x) p = tt
on_err (Err e) p = p

-- a greatest key that is noted
pub record NotedGreatest (v old : Seeing) (class : ℕ) (greatest : Option ℤ) (reads : List Read) : Type 0 where
  pub held : Holds (beneath v) reads
  pub reads_it : ReadsGreatest old (record v { reads = reads }) class
  pub shows : ShowsGreatest (record v { reads = reads }) class greatest
  pub only : OnlyReads old (record v { reads = reads })

pub noted_greatest : {v old : Seeing} (class : ℕ) (under greatest : Option ℤ) (reads : List Read) → v ≡ old → Holds (beneath v) v.reads → IsGreatestKey (beneath v) class under
    → IsGreatestKey (now_in old) class greatest
    → ((k : ℤ) → is_above greatest k ≡ true → is_above under k ≡ true) → keys_were_read v.reads class ≡ false → reads ≡ noted v.reads (greatest_read class under)
    → NotedGreatest v old class greatest reads
noted_greatest {v} {old} class under greatest reads from held there is up no_keys noting = record {
  held = noted_held v (greatest_read class under) reads held there noting;
  reads_it = subst (λ u. ReadsGreatest u (record v { reads = reads }) class) from (record { either = inl (record { greatest = (under, there, λ i. record v { reads = noting i }) }) });
  shows = record {
    everywhere = λ base here.
        greatest_over (written v) class under greatest up (greatest_noted base (beneath v) class under v.reads held there no_keys (subst (Holds base) noting here)) there
        (subst (λ u. IsGreatestKey (now_in u) class greatest) (sym from) is);
  };
  only = noted_only (greatest_read class under) reads from noting;
}

-- what is known where the keys weren't read
pub greatest_alone : {v old : Seeing} (class : ℕ) → v ≡ old → keys_were_read v.reads class ≡ false → KnowsGreatest old class
    → (greatest_was_read old.reads class ≡ true) × (DeletesGreatest old class → ⊥)
greatest_alone {v} {old} class from none known =
    elim known.how [ inl keys ↦ absurd (true≢false (sym keys ∙ sym (ap (λ (u : Seeing). keys_were_read u.reads class) from) ∙ none)) | inr alone ↦ alone ]

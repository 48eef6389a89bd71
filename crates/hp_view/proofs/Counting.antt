-- The number of a class's objects: what it is wherever the reads hold.
use Rattle.std.proofs.Common.{◌≡◌, refl, sym, ap, ap₂, ◌∙◌, subst, ℕ, ℤ, Bool, true, false, true≢false, ◌&&◌, ◌||◌, ◌==◌, cond, List, [], ◌∷◌, ◌++◌, length, Option, Some, None}
use Rattle.std.proofs.Common.{inl, inr, is_some, if◌then◌else◌}
use Rattle.std.specs.List.{list_any}
use Rattle.std.proofs.lemmas.Bool.Decides.{Decides-eqb, Decides-int_eq}
use Rattle.hp_model.specs.Cells.{Cell, object_cell, rule_cell, detector_cell, CellValue, Cells, Changes, changed, over, same_cell, Read, cell_read, keys_read, greatest_read}
use Rattle.hp_model.specs.Cells.{count_read, objects_read, part_read, ReadsHold, Holds, AreKeys, IsCount}
use Rattle.hp_model.proofs.BridgesCells.{exact_cell, Holds-front, Holds-last}
use Rattle.hp_store.specs.Changes.{Entries, changes, is_of_class, class_entries}
use Rattle.hp_store.proofs.Counted.{one_count, same_count, count_over_same}
use Rattle.hp_view.specs.Counts.{all_read}
use Rattle.hp_view.specs.Known.{KnowsCount}
use Rattle.hp_view.specs.Seeing.{Seeing, beneath, written, now_in, reads_cell, reads_count, keys_were_read, count_was_read, noted, OnlyReads, ReadsKeys, WritesUnread, ReadsCount, ShowsCount}
use Rattle.hp_view.proofs.Reading.{itself_again, keys_again, keys_noted, noted-again, noted-more, noted_only, noted_held}

-- ---- the number of some keys, and the same writes over the same keys

pub keys_count : {base : Cells} {class : ℕ} {keys : List ℤ} → AreKeys base class keys → IsCount base class (length keys)
keys_count {base} {class} {keys} are = record { keys = keys; are = are; number = refl }

count_same : {B S : Cells} (layer : Changes) (class : ℕ) (keys : List ℤ) (count : ℕ) → AreKeys B class keys → AreKeys S class keys → IsCount (over S layer) class count
    → IsCount (over B layer) class count
count_same {B} {S} layer class keys count here there is = same_count (λ key. same key (layer (object_cell class key))) is
  where
    same : (k : ℤ) (change : Option (Option CellValue)) → is_some (changed (S (object_cell class k)) change) ≡ is_some (changed (B (object_cell class k)) change)
    same k None = sym (there.has k) ∙ here.has k
    same k (Some value) = refl

-- ---- wherever the reads hold

-- a number that was read
count_again : (B C : Cells) (class : ℕ) (count : ℕ) (reads : List Read) → ReadsHold B reads → ReadsHold C reads → IsCount C class count → list_any (reads_count class) reads ≡ true
    → IsCount B class count
count_again B C class count [] b c is h = absurd (true≢false (sym h))
count_again B C class count (cell_read q value ∷ rs) b c is h = count_again B C class count rs b.1 c.1 is h
count_again B C class count (keys_read n keys ∷ rs) b c is h = count_again B C class count rs b.1 c.1 is h
count_again B C class count (greatest_read n greatest ∷ rs) b c is h = count_again B C class count rs b.1 c.1 is h
count_again B C class count (objects_read n objects ∷ rs) b c is h = count_again B C class count rs b.1 c.1 is h
count_again B C class count (part_read n part objects ∷ rs) b c is h = count_again B C class count rs b.1 c.1 is h
count_again B C class count (count_read n found ∷ rs) b c is h = by (class == n) refl h (count_again B C class count rs b.1 c.1 is)
  where
    by : (t : Bool) → (class == n) ≡ t → (t || list_any (reads_count class) rs) ≡ true → (list_any (reads_count class) rs ≡ true → IsCount B class count) → IsCount B class count
    by true e h rest =
        let here : n ≡ class = sym ((Decides-eqb class n).0 e) in
        subst (IsCount B class) (one_count (subst (λ k. IsCount C k found) here c.0) is) (subst (λ k. IsCount B k found) here b.0)
    by false e h rest = rest h

-- one that is noted where the keys weren't read
count_noted : (B C : Cells) (class : ℕ) (count : ℕ) (reads : List Read) → Holds C reads → IsCount C class count → keys_were_read reads class ≡ false
    → Holds B (noted reads (count_read class count)) → IsCount B class count
count_noted B C class count reads c is no_keys b = by (count_was_read reads class) refl b
  where
    alone : (s t : Bool) → t ≡ false → (s || t) ≡ true → s ≡ true
    alone true t e h = refl
    alone false t e h = sym e ∙ h

    by : (t : Bool) → count_was_read reads class ≡ t → Holds B (if t then reads else reads ++ count_read class count ∷ []) → IsCount B class count
    by true e b = count_again B C class count reads b.each c.each is (alone (list_any (reads_count class) reads) (keys_were_read reads class) no_keys e)
    by false e b = Holds-last B reads (count_read class count) b

-- ---- objects that are written, and whether their cells were read

first_true : (a b : Bool) → (a && b) ≡ true → a ≡ true
first_true true b h = refl
first_true false b h = h

rest_true : (a b : Bool) → (a && b) ≡ true → b ≡ true
rest_true true b h = h
rest_true false b h = absurd (true≢false (sym h))

pub each_read : (reads : List Read) (class : ℕ) (es : Entries) → all_read reads (class_entries class es) ≡ true → (key : ℤ) → is_some (changes es (object_cell class key)) ≡ true
    → list_any (reads_cell (object_cell class key)) reads ≡ true
each_read reads class [] all key named = absurd (true≢false (sym named))
each_read reads class ((c, v) ∷ es) all key named = by (same_cell c (object_cell class key)) refl (each_read reads class es)
  where
    of : same_cell c (object_cell class key) ≡ true → is_of_class class c ≡ true
    of is = ap (is_of_class class) (exact_cell c (object_cell class key) is) ∙ (Decides-eqb class class).1 refl

    rest : (b : Bool) → all_read reads (cond b ((c, v) ∷ class_entries class es) (class_entries class es)) ≡ true → all_read reads (class_entries class es) ≡ true
    rest true all = rest_true (list_any (reads_cell c) reads) (all_read reads (class_entries class es)) all
    rest false all = all

    by : (b : Bool) → same_cell c (object_cell class key) ≡ b
        → (all_read reads (class_entries class es) ≡ true → (k : ℤ) → is_some (changes es (object_cell class k)) ≡ true → list_any (reads_cell (object_cell class k)) reads ≡ true)
        → list_any (reads_cell (object_cell class key)) reads ≡ true
    by true is next =
        subst (λ d. list_any (reads_cell d) reads ≡ true) (exact_cell c (object_cell class key) is)
        (first_true (list_any (reads_cell c) reads) (all_read reads (class_entries class es))
        (ap (λ b. all_read reads (cond b ((c, v) ∷ class_entries class es) (class_entries class es))) (sym (of is)) ∙ all))
    by false is next = next (rest (is_of_class class c) all) key (sym (ap (λ b. is_some (if b then Some v else changes es (object_cell class key))) is) ∙ named)

abbrev Unread : List Read → ℕ → Entries → Type 0
Unread reads class es = (key : ℤ) × (is_some (changes es (object_cell class key)) ≡ true) × (list_any (reads_cell (object_cell class key)) reads ≡ false)

one_unread : (reads : List Read) (class : ℕ) (es : Entries) → all_read reads (class_entries class es) ≡ false → Unread reads class es
one_unread reads class [] none = absurd (true≢false none)
one_unread reads class ((c, v) ∷ es) none = by (is_of_class class c) refl none (one_unread reads class es)
  where
    later : (b : Bool) (o : Option (Option CellValue)) → is_some o ≡ true → is_some (if b then Some v else o) ≡ true
    later true o e = refl
    later false o e = e

    among : Unread reads class es → Unread reads class ((c, v) ∷ es)
    among u = (u.0, later (same_cell c (object_cell class u.0)) (changes es (object_cell class u.0)) u.1, u.2)

    at : (d : Cell) → is_of_class class d ≡ true → list_any (reads_cell d) reads ≡ false → Unread reads class ((d, v) ∷ es)
    at (object_cell of key) is out =
        let one : class ≡ of = (Decides-eqb class of).0 is in
        subst (λ n. Unread reads class ((object_cell n key, v) ∷ es)) one
        (key, ap (λ b. is_some (if b then Some v else changes es (object_cell class key))) (itself key), subst (λ n. list_any (reads_cell (object_cell n key)) reads ≡ false) (sym one) out)
      where
        itself : (k : ℤ) → same_cell (object_cell class k) (object_cell class k) ≡ true
        itself k = ap₂ (λ a b. a && b) ((Decides-eqb class class).1 refl) ((Decides-int_eq k k).1 refl)
    at (rule_cell n) is out = absurd (true≢false (sym is))
    at (detector_cell n) is out = absurd (true≢false (sym is))

    by : (b : Bool) → is_of_class class c ≡ b → all_read reads (cond b ((c, v) ∷ class_entries class es) (class_entries class es)) ≡ false
        → (all_read reads (class_entries class es) ≡ false → Unread reads class es) → Unread reads class ((c, v) ∷ es)
    by false is none next = among (next none)
    by true is none next = first (list_any (reads_cell c) reads) refl none
      where
        first : (b : Bool) → list_any (reads_cell c) reads ≡ b → (b && all_read reads (class_entries class es)) ≡ false → Unread reads class ((c, v) ∷ es)
        first true e none = among (next none)
        first false e none = at c is e

-- ---- a call of `read_class_count`, on a view whose fields make v

pub writes_unread : {v old : Seeing} (class : ℕ) → v ≡ old → all_read v.reads (class_entries class v.writes) ≡ false → WritesUnread old class
writes_unread {v} {old} class from none = subst (λ u. WritesUnread u class) from (record { object = one_unread v.reads class v.writes none })

-- where the keys were read before
pub reads_count_again : {v old : Seeing} (class : ℕ) (keys : List ℤ) → v ≡ old → AreKeys (beneath v) class keys → keys_were_read v.reads class ≡ true → ReadsCount old old class
reads_count_again {v} {old} class keys from are again =
    subst (λ u. ReadsCount u u class) from
    (record { either = inl (record { count = (length keys, keys_count are, λ i. record v { reads = sym (noted-again v.reads (count_read class (length keys)) with_keys) i }) }) })
  where
    either_true : (a b : Bool) → b ≡ true → (a || b) ≡ true
    either_true true b e = refl
    either_true false b e = e

    with_keys : count_was_read v.reads class ≡ true
    with_keys = either_true (list_any (reads_count class) v.reads) (keys_were_read v.reads class) again

pub shows_count_again : {v old : Seeing} (class : ℕ) (keys : List ℤ) → v ≡ old → Holds (beneath v) v.reads → AreKeys (beneath v) class keys → keys_were_read v.reads class ≡ true
    → (count : ℕ) → IsCount (now_in old) class count → ShowsCount old class count
shows_count_again {v} {old} class keys from held are again count is =
    subst (λ u. ShowsCount u class count) from
    (record {
      everywhere = λ base here.
          count_same (written v) class keys count (keys_again base (beneath v) class keys v.reads here.each held.each are again) are (subst (λ u. IsCount (now_in u) class count) (sym from) is);
    })

-- where the keys are read
pub count_by_keys : {v old new : Seeing} (class : ℕ) → v ≡ old → Holds (beneath v) v.reads → ReadsKeys old new class → (count : ℕ) → IsCount (now_in old) class count → ShowsCount new class count
count_by_keys {v} {old} {new} class from held reads count is =
    subst (λ u. ShowsCount u class count) (sym reads.keys.2)
    (record {
      everywhere = λ base here.
          count_same (written old) class reads.keys.0 count
          (keys_noted base (beneath old) class reads.keys.0 old.reads (subst (λ u. Holds (beneath u) u.reads) from held) reads.keys.1 here) reads.keys.1 is;
    })

-- a number that is noted
pub record NotedCount (v old : Seeing) (class : ℕ) (reads : List Read) : Type 0 where
  pub held : Holds (beneath v) reads
  pub reads_it : ReadsCount old (record v { reads = reads }) class
  pub shows : (count : ℕ) → IsCount (now_in old) class count → ShowsCount (record v { reads = reads }) class count
  pub only : OnlyReads old (record v { reads = reads })

pub noted_count : {v old : Seeing} (class : ℕ) (under : ℕ) (reads : List Read) → v ≡ old → Holds (beneath v) v.reads → IsCount (beneath v) class under → keys_were_read v.reads class ≡ false
    → all_read v.reads (class_entries class v.writes) ≡ true → reads ≡ noted v.reads (count_read class under) → NotedCount v old class reads
noted_count {v} {old} class under reads from held there no_keys all noting = record {
  held = noted_held v (count_read class under) reads held there noting;
  reads_it = subst (λ u. ReadsCount u (record v { reads = reads }) class) from (record { either = inl (record { count = (under, there, λ i. record v { reads = noting i }) }) });
  shows = λ count is. record {
    everywhere = λ base here.
        count_over_same v.writes (λ key named. itself_again base (beneath v) (object_cell class key) v.reads (before base here).each held.each (each_read v.reads class v.writes all key named))
        (count_noted base (beneath v) class under v.reads held there no_keys (subst (Holds base) noting here)) there
        (subst (λ u. IsCount (now_in u) class count) (sym from) is);
  };
  only = noted_only (count_read class under) reads from noting;
}
  where
    before : (base : Cells) → Holds base reads → Holds base v.reads
    before base here = let more = noted-more v.reads (count_read class under) in Holds-front base v.reads more.0 (subst (Holds base) (noting ∙ more.1) here)

-- what is known where the keys weren't read
pub count_alone : {v old : Seeing} (class : ℕ) → v ≡ old → keys_were_read v.reads class ≡ false → KnowsCount old class
    → (count_was_read old.reads class ≡ true) × (WritesUnread old class → ⊥)
count_alone {v} {old} class from none known =
    elim known.how [ inl keys ↦ absurd (true≢false (sym keys ∙ sym (ap (λ (u : Seeing). keys_were_read u.reads class) from) ∙ none)) | inr alone ↦ alone ]

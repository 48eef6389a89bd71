-- Attempts that are accepted.
use Rattle.std.proofs.Common.{◌||◌, true, true≢false, None, Some}
use Rattle.std.proofs.Common.{◌≡◌, refl, sym, ap, ◌∙◌, subst, ℕ, ℤ, Option, List, [], ◌∷◌, ◌++◌, append-nil, length, take, drop, slice_index_or, inl, inr, ⊎_elim, arith}
use Rattle.std.specs.Prelude.{Result, Ok, Err, OnOk, OnErr, option_map}
use Rattle.hp_model.specs.Rules.{Library}
use Rattle.hp_model.specs.Tree.{Task}
use Rattle.hp_model.specs.Values.{KeyedRow, text}
use Rattle.hp_model.specs.ClassParts.{ClassPart}
use Rattle.hp_model.specs.Cells.{Cells, cells, Changes, object_cell, belongs_in, over, Read, cell_read, keys_read, greatest_read, count_read, objects_read, part_read, ReadHolds}
use Rattle.hp_model.specs.Cells.{ReadsHold, Holds, AreKeys, IsGreatestKey, IsCount, AreObjects, ArePart}
use Rattle.hp_model.specs.Firing.{fire_task}
use Rattle.hp_model.specs.Soundness.{firing_answer, Attempt}
use Rattle.hp_model.proofs.BridgesCells.{stacked, over-over, Holds-front}
use Rattle.hp_store.specs.Changes.{Entries, changes}
use Rattle.hp_store.specs.Stack.{cells_in}
use Rattle.hp_view.specs.Seeing.{Seeing, written, now_in, Shows, ShowsKeys, ShowsGreatest, ShowsCount, ShowsObjects, ShowsPart, ReadsKeys, ReadsGreatestAlone, DeletesGreatest}
use Rattle.hp_view.specs.Seeing.{ReadsGreatest, ReadsCountAlone, WritesUnread, ReadsCount, ReadsPart, IsSame, TakesIn, OnlyReads, ReadsMore, GoesOn, Restores, undone}
use Rattle.hp_view.specs.Looks.{only_reads_then}
use Rattle.hp_view.proofs.Views.{GoesOn-then}
use Rattle.hp_value.specs.declared.cell.Cell.{Cell as RustCell}
use Rattle.hp_value.specs.declared.class_part.Attribute.{Attribute as RustAttribute}
use Rattle.hp_value.specs.declared.class_part.Attribute.TheVariants.{Key, Field as FieldNamed}
use Rattle.hp_value.specs.declared.class_part.Bounds.{Bounds}
use Rattle.hp_value.specs.declared.class_part.Bounds.TheVariants.{Numbers, Texts}
use Rattle.hp_value.specs.declared.class_part.ClassPart.{ClassPart as RustPart}
use Rattle.hp_value.specs.Mapped.{cell, attribute, low, high, class_part}
use Rattle.hp_store.specs.Parts.{compares_keys, is_of_keys}
use Rattle.hp_view.specs.declared.reads.Found.{Found}
use Rattle.hp_view.specs.declared.reads.Seen.TheVariants.{Cell as OfCell}
use Rattle.hp_view.specs.Mapped.{read}
use Rattle.hp_view.specs.Adding.{AddsReads, IsOfClass, adds_then}
use Rattle.hp_view.proofs.Adding.{adds_noted, adds_more, adds_keys}
use Rattle.hp_model.specs.States.{States, LeadsToOne, IsSoundFor, FaithfulFiringFor}
use Rattle.hp_attempt.specs.Holding.{IsReadAgain, IsFor, IsForAny, IsAccepted, Covers, is_integer_bound, bounds_keys}

-- ---- a view that only read

same_written : {old new : Seeing} → OnlyReads old new → written new ≡ written old
same_written only = ap changes only.writes

same_now : {old new : Seeing} → OnlyReads old new → now_in new ≡ now_in old
same_now only = λ i. over (cells_in (only.base i)) (same_written only i)

held_first : {old new : Seeing} → OnlyReads old new → (base : Cells) → Holds base new.reads → Holds base old.reads
held_first {old} only base held = Holds-front base old.reads only.reads.0 (subst (Holds base) only.reads.1 held)

-- ---- the reads of an attempt, one by one

pub again_cell : (old new : Seeing) (q : RustCell) (found : Found) → Shows new (cell q) (now_in old (cell q)) → IsReadAgain old new (read (OfCell q, found))
again_cell old new q found shows = λ told base held. shows.everywhere base held ∙ told

pub again_keys : (old new : Seeing) (n : ℕ) (keys : List ℤ) → ((ks : List ℤ) → AreKeys (now_in old) n ks → ShowsKeys new n ks) → IsReadAgain old new (keys_read n keys)
again_keys old new n keys shows = λ told base held. (shows keys told).everywhere base held

pub again_greatest : (old new : Seeing) (n : ℕ) (greatest : Option ℤ) → ((g : Option ℤ) → IsGreatestKey (now_in old) n g → ShowsGreatest new n g) → IsReadAgain old new (greatest_read n greatest)
again_greatest old new n greatest shows = λ told base held. (shows greatest told).everywhere base held

pub again_count : (old new : Seeing) (n count : ℕ) → ((m : ℕ) → IsCount (now_in old) n m → ShowsCount new n m) → IsReadAgain old new (count_read n count)
again_count old new n count shows = λ told base held. (shows count told).everywhere base held

pub again_objects : (old new : Seeing) (n : ℕ) (objects : List KeyedRow) → ((os : List KeyedRow) → AreObjects (now_in old) n os → ShowsObjects new n os) → IsReadAgain old new (objects_read n objects)
again_objects old new n objects shows = λ told base held. (shows objects told).everywhere base held

pub again_part : (old new : Seeing) (n : ℕ) (p : ClassPart) (objects : List KeyedRow) → ((os : List KeyedRow) → ArePart (now_in old) n p os → ShowsPart new n p os)
    → IsReadAgain old new (part_read n p objects)
again_part old new n p objects shows = λ told base held. (shows objects told).everywhere base held

-- a part is told in cells that are the same in its class
part_moved : {A B : Cells} {n : ℕ} {p : ClassPart} {objects : List KeyedRow} → ((key : ℤ) → A (object_cell n key) ≡ B (object_cell n key)) → ArePart B n p objects → ArePart A n p objects
part_moved {A} {B} {n} {p} {objects} same told = record {
  rise = told.rise;
  has = λ key. ap (belongs_in p key) (same key) ∙ told.has key;
  rows = λ i d below. same (slice_index_or objects i d).key ∙ told.rows i d below;
}

-- it is shown where all cells of its class are
pub again_class : (old new : Seeing) (n : ℕ) (p : ClassPart) (objects : List KeyedRow) → ((key : ℤ) → Shows new (object_cell n key) (now_in old (object_cell n key)))
    → IsReadAgain old new (part_read n p objects)
again_class old new n p objects shows = λ told base held. part_moved (λ key. (shows key).everywhere base held) told

-- what a call promises where it succeeds
pub where_ok : {X E P Q : Type 0} (r : Result X E) → (P → Q) → OnOk r P → OnOk r Q
where_ok (Ok x) more promise = more promise
where_ok (Err e) more promise = tt

pub record Recorded (first now : Seeing) (rest all : List Read) : Type 0 where
  pub only : OnlyReads first now
  pub on : GoesOn first now
  pub left : ReadsHold (now_in first) rest
  pub covers : (base : Cells) → Holds base now.reads → ReadsHold (over base (written now)) rest → ReadsHold (over base (written now)) all

pub record_more : {first old new : Seeing} {left rest all : List Read} (r : Read) → left ≡ r ∷ rest
    → OnlyReads first old → GoesOn first old → ReadsHold (now_in first) left → ((base : Cells) → Holds base old.reads → ReadsHold (over base (written old)) left
    → ReadsHold (over base (written old)) all)
    → OnlyReads old new → GoesOn old new → IsReadAgain old new r → Recorded first new rest all
record_more {first} {old} {new} {left} {rest} {all} r is only on told covers only' on' again =
    let both : ReadsHold (now_in first) (r ∷ rest) = subst (ReadsHold (now_in first)) is told in
    let same : written new ≡ written old = same_written only' in
    record {
      only = only_reads_then first old new only only';
      on = GoesOn-then on on';
      left = both.1;
      covers = λ base held others.
          let here = again (subst (λ c. ReadHolds c r) (sym (same_now only)) both.0) base held in
          let whole : ReadsHold (over base (written old)) left = subst (ReadsHold (over base (written old))) (sym is) (subst (λ w. ReadsHold (over base w) (r ∷ rest)) same (here, others)) in
          subst (λ w. ReadsHold (over base w) all) (sym same) (covers base (held_first only' base held) whole);
    }

-- all of them are read
pub covers_all : {v : Seeing} {left all : List Read} → left ≡ [] → ((base : Cells) → Holds base v.reads → ReadsHold (over base (written v)) left → ReadsHold (over base (written v)) all) → Covers v all
covers_all {v} none covers = record { everywhere = λ base held. record { each = covers base held (subst (ReadsHold (over base (written v))) (sym none) tt) } }

-- ---- the reads that are added

-- what a call gives, whether it succeeds or not
pub either_way : {X E P Q R : Type 0} (r : Result X E) → (P → R) → (Q → R) → OnOk r P → OnErr r Q → R
either_way (Ok x) f g p q = f p
either_way (Err e) f g p q = g q

-- a read more of the attempt was looked at
pub adds_next : {first old : Seeing} (new : Seeing) {left rest : List Read} (all : List Read) (r : Read) → left ≡ r ∷ rest → OnlyReads first old
    → AddsReads (IsForAny (written first) all) first.reads old.reads
    → ((x : Read) → IsForAny (written first) left x → IsForAny (written first) all x) → AddsReads (IsFor (written old) r) old.reads new.reads
    → AddsReads (IsForAny (written first) all) first.reads new.reads
adds_next {first} {old} new all r is only so_far into adds =
    adds_then so_far
    (adds_more (λ x fits. into x (subst (λ rs. IsForAny (written first) rs x) (sym is) (inl fits))) (subst (λ w. AddsReads (IsFor w r) old.reads new.reads) (same_written only) adds))

pub into_rest : (first : Seeing) {left rest : List Read} (all : List Read) (r : Read) → left ≡ r ∷ rest → ((x : Read) → IsForAny (written first) left x → IsForAny (written first) all x)
    → (x : Read) → IsForAny (written first) rest x → IsForAny (written first) all x
into_rest first all r is into x fits = into x (subst (λ rs. IsForAny (written first) rs x) (sym is) (inr fits))

-- a part that is read adds its read
pub adds_part : (P : Read → Type 0) {old new : Seeing} {n : ℕ} {p : ClassPart} → ((objects : List KeyedRow) → P (part_read n p objects)) → ReadsPart old new n p → AddsReads P old.reads new.reads
adds_part P {old} {new} {n} {p} fits reads =
    subst (AddsReads P old.reads) (sym (ap (λ (v : Seeing). v.reads) reads.part_is.2)) (adds_noted P old.reads (part_read n p reads.part_is.0) (fits reads.part_is.0))

-- a greatest key that is read adds its read, or the keys
pub adds_greatest : (P : Read → Type 0) {old new : Seeing} {n : ℕ} → ((greatest : Option ℤ) → P (greatest_read n greatest)) → (DeletesGreatest old n → (keys : List ℤ) → P (keys_read n keys))
    → ReadsGreatest old new n → AddsReads P old.reads new.reads
adds_greatest P {old} {new} {n} alone instead reads =
    ⊎_elim
    (λ (r : ReadsGreatestAlone old new n).
    subst (AddsReads P old.reads) (sym (ap (λ (v : Seeing). v.reads) r.greatest.2)) (adds_noted P old.reads (greatest_read n r.greatest.0) (alone r.greatest.0)))
    (λ (r : DeletesGreatest old n × ReadsKeys old new n). adds_keys P (instead r.0) r.1)
    reads.either

-- a number of objects that is read adds its read, or the keys
pub adds_count : (P : Read → Type 0) {old new : Seeing} {n : ℕ} → ((count : ℕ) → P (count_read n count)) → (WritesUnread old n → (keys : List ℤ) → P (keys_read n keys))
    → ReadsCount old new n → AddsReads P old.reads new.reads
adds_count P {old} {new} {n} alone instead reads =
    ⊎_elim
    (λ (r : ReadsCountAlone old new n). subst (AddsReads P old.reads) (sym (ap (λ (v : Seeing). v.reads) r.count.2)) (adds_noted P old.reads (count_read n r.count.0) (alone r.count.0)))
    (λ (r : WritesUnread old n × ReadsKeys old new n). adds_keys P (instead r.0) r.1)
    reads.either

-- a read of the class may be added for a part of it
pub class_for_part : (layer : Changes) (n : ℕ) (p : ClassPart) (objects : List KeyedRow) (r : Read) → IsOfClass layer n r → IsFor layer (part_read n p objects) r
class_for_part layer n p objects (cell_read q value) fits = fits
class_for_part layer n p objects (keys_read m keys) fits = fits
class_for_part layer n p objects (greatest_read m found) fits = fits
class_for_part layer n p objects (count_read m found) fits = fits
class_for_part layer n p objects (objects_read m found) fits = fits
class_for_part layer n p objects (part_read m q found) fits = absurd fits

-- what an accepted attempt does
pub taken_written : {old new : Seeing} {reads : List Read} {layer : Entries} → IsAccepted old new reads layer → written new ≡ stacked (written old) (changes layer)
taken_written {layer = layer} taken = taken.takes.changes ∙ ap (λ w. stacked w (changes layer)) (same_written taken.only)

pub taken_adds : {old new : Seeing} {reads : List Read} {layer : Entries} → IsAccepted old new reads layer → AddsReads (IsForAny (written old) reads) old.reads new.reads
taken_adds {old} {reads = reads} taken = subst (AddsReads (IsForAny (written old) reads) old.reads) (sym taken.takes.reads) taken.adds

-- a view that is the same goes on
pub same_goes_on : {old new : Seeing} → IsSame old new → GoesOn old new
same_goes_on {old} same = record {
  base = same.base;
  reads = ([], same.reads ∙ sym (append-nil old.reads));
  undo = omega (arith, ap length same.undo);
  before = λ n within. (λ i. undone (drop n (same.undo i)) (same.changes i));
}

pub same_restores : {old new : Seeing} → IsSame old new → Restores old new
same_restores same = record { cells = (λ i. over (cells_in (same.base i)) (same.changes i)); goes_on = same_goes_on same }

take_front : {A : Type 0} (xs ys : List A) → take (length xs) (xs ++ ys) ≡ xs
take_front [] ys = refl
take_front (x ∷ xs) ys = ap (λ l. x ∷ l) (take_front xs ys)

-- the reads that were added are forgotten again
pub forgotten : {old more new : Seeing} (count : ℕ) → ReadsMore old more → count ≡ length old.reads → new ≡ record more { reads = take count more.reads } → IsSame old new
forgotten {old} {more} count only is forgets =
    subst (IsSame old) (sym forgets)
    (record {
      base = only.base;
      reads = ap (λ n. take n more.reads) is ∙ ap (take (length old.reads)) only.reads.1 ∙ take_front old.reads only.reads.0;
      changes = only.changes;
      undo = only.undo;
    })

-- ---- an attempt

-- an attempt whose reads hold, and which is accepted, stands for the firing, for each class for which it is sound
pub stands_settled : (a : Attempt) (t : Task) (layer : Entries) {first read new : Seeing} → a.task ≡ t → changes layer ≡ a.layer
    → OnlyReads first read → Covers read a.reads → TakesIn read new layer → (states : States) (library : Library) → IsSoundFor states library a
    → FaithfulFiringFor states library (λ S. fire_task library S t) new.reads (written first) (written new) a.answer
stands_settled a t layer {first} {read} {new} for same only covers takes states library sound = record {
  from = λ base held S one is.
      let at : cells library S ≡ over base (written read) = is ∙ ap (over base) (sym (same_written only)) in
      let here : Holds (cells library S) a.reads = subst (λ c. Holds c a.reads) (sym at) (covers.everywhere base (subst (Holds base) takes.reads held)) in
      let to : over (cells library S) a.layer ≡ over base (written new) = ap (λ c. over c a.layer) at ∙ over-over base (written read) a.layer
      ∙ ap (over base) (ap (stacked (written read)) (sym same) ∙ sym takes.changes) in
      subst (λ u. LeadsToOne states library (firing_answer (fire_task library S u)) (fire_task library S u).state a.answer (over base (written new))) for
      (subst (LeadsToOne states library (firing_answer (fire_task library S a.task)) (fire_task library S a.task).state a.answer) to (sound.from S one here));
}

-- ---- a part by keys

no_integer : {A : Type 0} (l h : Option A) (text_of : A → List ℕ) → is_integer_bound (option_map (λ s. text (text_of s)) l) || is_integer_bound (option_map (λ s. text (text_of s)) h) ≡ true → ⊥
no_integer None None text_of e = true≢false (sym e)
no_integer None (Some y) text_of e = true≢false (sym e)
no_integer (Some x) None text_of e = true≢false (sym e)
no_integer (Some x) (Some y) text_of e = true≢false (sym e)

keys_compared : (a : RustAttribute) (b : Bounds) → bounds_keys (record { attribute = attribute a; low = low b; high = high b }) ≡ true → compares_keys a b ≡ true
keys_compared Key (Numbers l h) e = refl
keys_compared Key (Texts l h) e = absurd (no_integer l h (λ s. s.now) e)
keys_compared (FieldNamed f) b e = absurd (true≢false (sym e))

-- one that has a bound is one of keys in Rust, too
pub of_keys : (p : RustPart) (q : ClassPart) → class_part p ≡ q → bounds_keys q ≡ true → is_of_keys p ≡ true
of_keys p q same e = keys_compared p.attribute p.bounds (ap bounds_keys same ∙ e)

-- Parts of classes that are read, and what they show wherever the reads hold.
use Rattle.std.proofs.Common.{◌≡◌, refl, sym, ap, ◌∙◌, subst, ℕ, Bool, true, false, true≢false, ◌&&◌, ◌||◌, ◌==◌, List, [], ◌∷◌, ◌++◌, Ok, if◌then◌else◌}
use Rattle.std.proofs.lemmas.Bool.{and_parts, false_from_ne_true}
use Rattle.std.proofs.lemmas.Bool.Decides.{Decides-eqb}
use Rattle.std.proofs.lemmas.Cmp.{nat_eq_equiv}
use Rattle.hp_model.specs.Values.{KeyedRow, Outcome}
use Rattle.hp_model.specs.ClassParts.{ClassPart}
use Rattle.hp_model.specs.Cells.{Cells, Read, cell_read, keys_read, greatest_read, count_read, objects_read, part_read, ReadsHold, Holds, ArePart}
use Rattle.hp_model.proofs.BridgesCells.{Holds-last}
use Rattle.hp_model.proofs.BridgesKeys.{same_keys}
use Rattle.hp_value.specs.Mapped.{keys_of}
use Rattle.hp_query.proofs.PartLemmas.{part_over}
use Rattle.hp_view.specs.Parts.{same_part, number_of}
use Rattle.hp_view.specs.Seeing.{Seeing, beneath, written, now_in, reads_part, reads_number, part_was_read, number_was_read, noted, OnlyReads, ReadsPart, ShowsPart}
use Rattle.hp_view.proofs.PartsApart.{part_decides, either_true}
use Rattle.hp_view.proofs.Reading.{noted-again, noted_only, noted_held}
use Rattle.hp_view.proofs.Wholes.{same_rows}

-- ---- one part in cells

ok_same : {a b : Bool} → ◌≡◌ {A = Outcome Bool} (Ok a) (Ok b) → a ≡ b
ok_same e = cc

-- cells have one list of a part's objects
one_part : {base : Cells} {class : ℕ} {p : ClassPart} {xs ys : List KeyedRow} → ArePart base class p xs → ArePart base class p ys → xs ≡ ys
one_part {base} {class} {p} {xs} {ys} a b =
    same_rows base class xs ys (same_keys (keys_of xs) (keys_of ys) a.rise b.rise (λ key. ok_same (sym (a.has key) ∙ b.has key))) a.rows b.rows

-- ---- parts that were read

-- a read of the part is one of its number
number_too : (class : ℕ) (p : ClassPart) (r : Read) → reads_part class p r ≡ true → reads_number class (number_of p) r ≡ true
number_too class p (cell_read q value) h = cc
number_too class p (keys_read n keys) h = cc
number_too class p (greatest_read n greatest) h = cc
number_too class p (count_read n count) h = cc
number_too class p (objects_read n objects) h = cc
number_too class p (part_read n q objects) h =
    let both = and_parts (class == n) (same_part p q) h in
    ap (λ b. b && number_of p == number_of q) both.0 ∙ subst (λ r. (number_of p == number_of r) ≡ true) ((part_decides p q).0 both.1) (nat_eq_equiv.refl (number_of p))

-- what has a free number wasn't read
number_read : (class : ℕ) (p : ClassPart) (reads : List Read) → part_was_read reads class p ≡ true → number_was_read reads class (number_of p) ≡ true
number_read class p [] h = cc
number_read class p (r ∷ rs) h = by (reads_part class p r) refl h (number_read class p rs)
  where
    by : (b : Bool) → reads_part class p r ≡ b → (b || part_was_read rs class p) ≡ true → (part_was_read rs class p ≡ true → number_was_read rs class (number_of p) ≡ true)
        → (reads_number class (number_of p) r || number_was_read rs class (number_of p)) ≡ true
    by true e g rest = ap (λ b. b || number_was_read rs class (number_of p)) (number_too class p r e)
    by false e g rest = either_true (reads_number class (number_of p) r) (rest g)

pub free_unread : (class : ℕ) (p : ClassPart) (reads : List Read) → number_was_read reads class (number_of p) ≡ false → part_was_read reads class p ≡ false
free_unread class p reads free = false_from_ne_true (part_was_read reads class p) (λ h. true≢false (sym (number_read class p reads h) ∙ free))

-- a part that was read is told
part_told : (C : Cells) (class : ℕ) (p : ClassPart) (reads : List Read) → ReadsHold C reads → part_was_read reads class p ≡ true → (objects : List KeyedRow) × ArePart C class p objects
part_told C class p [] c h = absurd (true≢false (sym h))
part_told C class p (cell_read q value ∷ rs) c h = part_told C class p rs c.1 h
part_told C class p (keys_read n keys ∷ rs) c h = part_told C class p rs c.1 h
part_told C class p (greatest_read n greatest ∷ rs) c h = part_told C class p rs c.1 h
part_told C class p (count_read n count ∷ rs) c h = part_told C class p rs c.1 h
part_told C class p (objects_read n objects ∷ rs) c h = part_told C class p rs c.1 h
part_told C class p (part_read n q objects ∷ rs) c h = by (class == n && same_part p q) refl h (part_told C class p rs c.1)
  where
    by : (t : Bool) → (class == n && same_part p q) ≡ t → (t || part_was_read rs class p) ≡ true → (part_was_read rs class p ≡ true → (found : List KeyedRow) × ArePart C class p found)
        → (found : List KeyedRow) × ArePart C class p found
    by true e h rest =
        let both = and_parts (class == n) (same_part p q) e in
        (objects, subst (λ k. ArePart C k p objects) (sym ((Decides-eqb class n).0 both.0)) (subst (λ r. ArePart C n r objects) (sym ((part_decides p q).0 both.1)) c.0))
    by false e h rest = rest h

-- it has the same objects wherever the reads hold
part_again : (B C : Cells) (class : ℕ) (p : ClassPart) (hits : List KeyedRow) (reads : List Read) → ReadsHold B reads → ReadsHold C reads → ArePart C class p hits
    → part_was_read reads class p ≡ true → ArePart B class p hits
part_again B C class p hits [] b c are h = absurd (true≢false (sym h))
part_again B C class p hits (cell_read q value ∷ rs) b c are h = part_again B C class p hits rs b.1 c.1 are h
part_again B C class p hits (keys_read n keys ∷ rs) b c are h = part_again B C class p hits rs b.1 c.1 are h
part_again B C class p hits (greatest_read n greatest ∷ rs) b c are h = part_again B C class p hits rs b.1 c.1 are h
part_again B C class p hits (count_read n count ∷ rs) b c are h = part_again B C class p hits rs b.1 c.1 are h
part_again B C class p hits (objects_read n objects ∷ rs) b c are h = part_again B C class p hits rs b.1 c.1 are h
part_again B C class p hits (part_read n q objects ∷ rs) b c are h = by (class == n && same_part p q) refl h (part_again B C class p hits rs b.1 c.1 are)
  where
    by : (t : Bool) → (class == n && same_part p q) ≡ t → (t || part_was_read rs class p) ≡ true → (part_was_read rs class p ≡ true → ArePart B class p hits) → ArePart B class p hits
    by true e h rest =
        let both = and_parts (class == n) (same_part p q) e in
        let here : (D : Cells) → ArePart D n q objects → ArePart D class p objects =
        λ D told. subst (λ k. ArePart D k p objects) (sym ((Decides-eqb class n).0 both.0)) (subst (λ r. ArePart D n r objects) (sym ((part_decides p q).0 both.1)) told) in
        subst (ArePart B class p) (one_part (here C c.0) are) (here B b.0)
    by false e h rest = rest h

part_noted : (B C : Cells) (class : ℕ) (p : ClassPart) (hits : List KeyedRow) (reads : List Read) → Holds C reads → ArePart C class p hits
    → Holds B (noted reads (part_read class p hits)) → ArePart B class p hits
part_noted B C class p hits reads c are b = by (part_was_read reads class p) refl b
  where
    by : (t : Bool) → part_was_read reads class p ≡ t → Holds B (if t then reads else reads ++ part_read class p hits ∷ []) → ArePart B class p hits
    by true e b = part_again B C class p hits reads b.each c.each are e
    by false e b = Holds-last B reads (part_read class p hits) b

-- ---- a call of `read_part`, on a view whose fields make v

-- what a part shows under the view's writes, once it is read
pub record PartRead (v old : Seeing) (class : ℕ) (p : ClassPart) (reads : List Read) : Type 0 where
  pub held : Holds (beneath v) reads
  pub reads_it : ReadsPart old (record v { reads = reads }) class p
  pub shows : (objects : List KeyedRow) → ArePart (now_in old) class p objects → ShowsPart (record v { reads = reads }) class p objects
  pub only : OnlyReads old (record v { reads = reads })

pub part_is_read : {v old : Seeing} (class : ℕ) (p : ClassPart) (hits : List KeyedRow) (reads : List Read) → v ≡ old → Holds (beneath v) v.reads → ArePart (beneath v) class p hits
    → reads ≡ noted v.reads (part_read class p hits) → PartRead v old class p reads
part_is_read {v} {old} class p hits reads from held are is = record {
  held = noted_held v (part_read class p hits) reads held are is;
  reads_it = subst (λ u. ReadsPart u (record v { reads = reads }) class p) from (record { part_is = (hits, are, λ i. record v { reads = is i }) });
  shows = λ objects now. record {
    everywhere = λ base here.
        part_over (beneath v) base (written v) class p hits objects are (subst (λ u. ArePart (now_in u) class p objects) (sym from) now)
        (part_noted base (beneath v) class p hits v.reads held are (subst (Holds base) is here));
  };
  only = noted_only (part_read class p hits) reads from is;
}

-- a part that was read before
pub part_was_told : {v old : Seeing} (class : ℕ) (p : ClassPart) → v ≡ old → Holds (beneath v) v.reads → part_was_read v.reads class p ≡ true → PartRead v old class p v.reads
part_was_told {v} {old} class p from held again =
    let found = part_told (beneath v) class p v.reads held.each again in
    part_is_read class p found.0 v.reads from held found.1 (sym (noted-again v.reads (part_read class p found.0) again))

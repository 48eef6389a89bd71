-- Layers over layers.
use Rattle.std.proofs.Common.{◌≡◌, refl, ap, sym, ◌∙◌, ℕ, zero, suc, ◌+◌, ◌<◌, List, [], ◌∷◌, ◌++◌, length, take, get_or, Option, Some, None, arith}
use Rattle.std.specs.Option.{option_or}
use Rattle.std.proofs.lemmas.List.{take_more}
use Rattle.hp_model.specs.Cells.{Cell, CellValue, Cells, changed}
use Rattle.hp_store.specs.Changes.{Entries, changes, changes_in}

or_assoc : (a b c : Option (Option CellValue)) → option_or (option_or a b) c ≡ option_or a (option_or b c)
or_assoc None b c = refl
or_assoc (Some x) b c = refl

or_none : (a : Option (Option CellValue)) → option_or a None ≡ a
or_none None = refl
or_none (Some x) = refl

-- one layer more
pub changes_in-push : (layers : List Entries) (layer : Entries) (q : Cell) → changes_in (layers ++ layer ∷ []) q ≡ option_or (changes layer q) (changes_in layers q)
changes_in-push [] layer q = sym (or_none (changes layer q))
changes_in-push (l ∷ layers) layer q = ap (λ o. option_or o (changes l q)) (changes_in-push layers layer q) ∙ or_assoc (changes layer q) (changes_in layers q) (changes l q)

-- the layers up to the next one of a loop
pub changes_in-more : (layers : List Entries) (i : ℕ) (layer : Entries) (q : Cell) → i < length layers → layer ≡ get_or layers i layer
    → changes_in (take (i + 1) layers) q ≡ option_or (changes layer q) (changes_in (take i layers) q)
changes_in-more layers i layer q within is =
    ap (λ l. changes_in l q) (take_more layers i layer within ∙ ap (λ l. take i layers ++ l ∷ []) (sym is)) ∙ changes_in-push (take i layers) layer q

-- the newest layer that names a cell
pub newest_found : (layers rest others : List Entries) (last : Entries) (q : Cell) (x : Option CellValue) → changes_in rest q ≡ changes_in layers q
    → rest ≡ others ++ last ∷ [] → Some x ≡ changes last q
    → Some x ≡ changes_in layers q
newest_found layers rest others last q x so_far split named =
    ap (λ o. option_or o (changes_in others q)) named ∙ sym (changes_in-push others last q) ∙ ap (λ l. changes_in l q) (sym split) ∙ so_far

pub newest_next : (layers rest others : List Entries) (last : Entries) (q : Cell) → changes_in rest q ≡ changes_in layers q → rest ≡ others ++ last ∷ [] → None ≡ changes last q
    → changes_in others q ≡ changes_in layers q
newest_next layers rest others last q so_far split unnamed =
    ap (λ o. option_or o (changes_in others q)) unnamed ∙ sym (changes_in-push others last q) ∙ ap (λ l. changes_in l q) (sym split) ∙ so_far

-- one layer more over cells
pub over_or : (base : Cells) (layer : Entries) (below : Option (Option CellValue)) (q : Cell)
    → changed (changed (base q) below) (changes layer q) ≡ changed (base q) (option_or (changes layer q) below)
over_or base layer below q = by (changes layer q)
  where
    by : (o : Option (Option CellValue)) → changed (changed (base q) below) o ≡ changed (base q) (option_or o below)
    by None = refl
    by (Some x) = refl

-- ---- layers taken in one by one

pub fold_more : (layers : List Entries) (i : ℕ) (shared layer all new : Entries) → i < length layers → shared ≡ get_or layers i shared → layer ≡ shared
    → ((q : Cell) → changes all q ≡ changes_in (take i layers) q) → ((q : Cell) → changes new q ≡ option_or (changes layer q) (changes all q))
    → (q : Cell) → changes new q ≡ changes_in (take (i + 1) layers) q
fold_more layers i shared layer all new within is same so_far step q =
    step q ∙ ap (λ l. option_or (changes l q) (changes all q)) same ∙ ap (option_or (changes shared q)) (so_far q) ∙ sym (changes_in-more layers i shared q within is)

-- one that changes nothing
pub nothing_more : (layers : List Entries) (i : ℕ) (shared : Entries) → i < length layers → shared ≡ get_or layers i shared → shared ≡ []
    → (q : Cell) → changes_in (take i layers) q ≡ changes_in (take (i + 1) layers) q
nothing_more layers i shared within is none q = ap (λ l. option_or (changes l q) (changes_in (take i layers) q)) (sym none) ∙ sym (changes_in-more layers i shared q within is)

or_left : (a b : Option (Option CellValue)) → option_or a b ≡ None → a ≡ None
or_left None b e = refl
or_left (Some x) b e = cc

or_right : (a b : Option (Option CellValue)) → option_or a b ≡ None → b ≡ None
or_right None b e = e
or_right (Some x) b e = cc

-- a cell that no layer names
pub unnamed_each : (layers : List Entries) (i : ℕ) (layer : Entries) (q : Cell) → i < length layers → layer ≡ get_or layers i layer → changes_in layers q ≡ None → changes layer q ≡ None
unnamed_each [] i layer q within is none = absurd (omega arith)
unnamed_each (l ∷ layers) zero layer q within is none = ap (λ es. changes es q) is ∙ or_right (changes_in layers q) (changes l q) none
unnamed_each (l ∷ layers) (suc i) layer q within is none = unnamed_each layers i layer q (omega arith) is (or_left (changes_in layers q) (changes l q) none)

-- ---- the newest layers as one

changes_in-append : (below above : List Entries) (q : Cell) → changes_in (below ++ above) q ≡ option_or (changes_in above q) (changes_in below q)
changes_in-append [] above q = sym (or_none (changes_in above q))
changes_in-append (l ∷ below) above q = ap (λ o. option_or o (changes l q)) (changes_in-append below above q) ∙ or_assoc (changes_in above q) (changes_in below q) (changes l q)

pub folded_over : (layers below above pile : List Entries) (layer one : Entries) → layers ≡ below ++ above → pile ≡ below ++ one ∷ []
    → ((q : Cell) → changes one q ≡ option_or (changes layer q) (changes_in above q))
    → (q : Cell) → changes_in pile q ≡ option_or (changes layer q) (changes_in layers q)
folded_over layers below above pile layer one split is step q =
    ap (λ ls. changes_in ls q) is ∙ changes_in-push below one q ∙ ap (λ o. option_or o (changes_in below q)) (step q) ∙ or_assoc (changes layer q) (changes_in above q) (changes_in below q)
    ∙ ap (option_or (changes layer q)) (sym (changes_in-append below above q) ∙ ap (λ ls. changes_in ls q) (sym split))

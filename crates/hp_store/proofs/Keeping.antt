-- Lists of classes' objects that are kept.
use Rattle.std.proofs.Common.{◌≡◌, sym, ap, ◌∙◌, subst, ℕ, ◌<◌, List, [], ◌∷◌, ◌++◌, length, get_or}
use Rattle.std.specs.Option.{option_or}
use Rattle.std.proofs.lemmas.List.Elements.{All-push}
use Rattle.hp_model.specs.Cells.{Cell, Cells, changed, over, AreObjects}
use Rattle.hp_store.specs.declared.base.Base.{Base}
use Rattle.hp_store.specs.declared.kept.KeptList.{KeptList}
use Rattle.hp_store.specs.Changes.{Entries, changes, changes_in}
use Rattle.hp_store.specs.Kept.{AreKept}
use Rattle.hp_store.specs.Stack.{Stack, cells_in}
use Rattle.hp_store.specs.Tables.{base_cells, tables}
use Rattle.hp_store.proofs.Layered.{over_or}
use Rattle.hp_store.proofs.Stacked.{shown}

-- one list more
pub kept_more : (base : Cells) (kept new : List KeptList) (list : KeptList) → AreKept base kept → AreObjects base list.class list.objects.value → new ≡ kept ++ list ∷ [] → AreKept base new
kept_more base kept new list all here is = subst (AreKept base) (sym is) (All-push (λ (k : KeptList). AreObjects base k.class k.objects.value) kept list all here)

-- the one at a place
pub kept_at : (base : Cells) (lists : List KeptList) (i : ℕ) (list : KeptList) → AreKept base lists → i < length lists → list ≡ get_or lists i list → AreObjects base list.class list.objects.value
kept_at base lists i list all within is = subst (λ (k : KeptList). AreObjects base k.class k.objects.value) (sym is) (all i list within)

-- the cells of a snapshot
pub cells_shown : (b : Base) (layers : List Entries) (now : Stack) → record { base = tables b; layers = layers } ≡ now → over (base_cells b) (changes_in layers) ≡ cells_in now
cells_shown b layers now is = (λ j q. sym (shown b layers q) j) ∙ ap cells_in is

-- where the cells are those under one layer more
pub kept_shown : (b new : Base) (layers left : List Entries) (layer : Entries) (lists kept : List KeptList)
    → ((q : Cell) → over (base_cells new) (changes_in left) q ≡ changed (base_cells b q) (option_or (changes layer q) (changes_in layers q)))
    → ((base : Cells) → AreKept base lists → AreKept (over base (changes layer)) kept) → AreKept (over (base_cells b) (changes_in layers)) lists
    → AreKept (over (base_cells new) (changes_in left)) kept
kept_shown b new layers left layer lists kept same still have =
    subst (λ cs. AreKept cs kept) (λ i q. (over_or (base_cells b) layer (changes_in layers q) q ∙ sym (same q)) i) (still (over (base_cells b) (changes_in layers)) have)

-- with one layer more
pub kept_over : (b new : Base) (layers pile : List Entries) (layer : Entries) (lists kept : List KeptList) → new ≡ b
    → ((q : Cell) → changes_in pile q ≡ option_or (changes layer q) (changes_in layers q))
    → ((base : Cells) → AreKept base lists → AreKept (over base (changes layer)) kept) → AreKept (over (base_cells b) (changes_in layers)) lists
    → AreKept (over (base_cells new) (changes_in pile)) kept
kept_over b new layers pile layer lists kept same stacked =
    kept_shown b new layers pile layer lists kept (λ q. ap (λ x. changed (base_cells x q) (changes_in pile q)) same ∙ ap (changed (base_cells b q)) (stacked q))

-- Numbers above the classes of all objects.
use Rattle.std.proofs.Common.{◌≡◌, ap, sym, ◌∙◌, ℕ, ◌+◌, ◌<◌, List, length, take, get_or, Option, None}
use Rattle.std.specs.Option.{option_or}
use Rattle.hp_model.specs.Cells as C
use Rattle.hp_model.specs.Cells.{Cell, changed}
use Rattle.hp_store.specs.declared.base.Base.{Base}
use Rattle.hp_store.specs.Changes.{Entries, changes, changes_in}
use Rattle.hp_store.specs.Stack.{Stack, cells_in}
use Rattle.hp_store.specs.Tables.{base_cells, tables}
use Rattle.hp_store.proofs.Keeping.{cells_shown}
use Rattle.hp_store.proofs.Layered.{changes_in-more}

or_none : (a b : Option (Option C.CellValue)) → a ≡ None → b ≡ None → option_or a b ≡ None
or_none a b e f = ap (λ o. option_or o b) e ∙ f

-- one layer more doesn't name the cell either
pub unnamed_more : (layers : List Entries) (i : ℕ) (shared layer : Entries) (q : Cell) → i < length layers → shared ≡ get_or layers i shared → layer ≡ shared
    → changes_in (take i layers) q ≡ None → changes layer q ≡ None → changes_in (take (i + 1) layers) q ≡ None
unnamed_more layers i shared layer q within is same so_far here =
    changes_in-more layers i shared q within is ∙ or_none (changes shared q) (changes_in (take i layers) q) (ap (λ l. changes l q) (sym same) ∙ here) so_far

nothing : (b : Option C.CellValue) (l : Option (Option C.CellValue)) → b ≡ None → l ≡ None → changed b l ≡ None
nothing b l e f = (λ i. changed (e i) (f i))

-- where neither the base nor a layer has a value the cell is empty
pub empty_cell : (b : Base) (layers : List Entries) (now : Stack) (q : Cell) → record { base = tables b; layers = layers } ≡ now
    → base_cells b q ≡ None → changes_in layers q ≡ None → cells_in now q ≡ None
empty_cell b layers now q is base above = ap (λ (cs : C.Cells). cs q) (sym (cells_shown b layers now is)) ∙ nothing (base_cells b q) (changes_in layers q) base above

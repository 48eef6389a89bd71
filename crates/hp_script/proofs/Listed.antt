-- The items of a JSON list as a list, one after the other, and the number of an object's members.
use Rattle.std.proofs.Common.{arith, ◌≡◌, ℕ, suc, ◌+◌, ◌<◌, List, [], ◌∷◌, ◌++◌, length, map, drop, get_or, Ok, refl, ap, sym, ◌∙◌}
use Rattle.std.proofs.lemmas.List.{map_push, drop_more}
use Rattle.serde_json.specs.declared.value.Value.{Value}
use Rattle.serde_json.specs.Events.{members_len}
use Rattle.serde_json.specs.View.{view, items_view, members_view}
use Rattle.serde_json.proofs.Views.{Entry, members_len-members_view}
use Rattle.hp_model.specs.Json.{listed}
use Rattle.hp_model.specs.Refusals.{Path, item_at, Decoded}
use Rattle.hp_model.specs.Parts.{read_from}

pub listed_view : (vs : List Value) → listed (items_view vs) ≡ map view vs
listed_view [] = refl
listed_view (v ∷ vs) = ap (λ (ds : List _). view v ∷ ds) (listed_view vs)

pub member_count_view : (es : List Entry) → members_len (members_view es) ≡ length es
member_count_view es = members_len-members_view es

-- a list whose items are read in order, once one more is read
pub read_more : {A D X Y : Type 0} (item : X → A) (form : Y → D) (read : List A → Path → D → Decoded A) (path at : Path) (all : Decoded (List A))
    (xs seen new : List X) (x : X) (ys : List Y) (i : ℕ) (y : Y)
    → i < length ys → y ≡ get_or ys i y → seen ≡ xs → at ≡ item_at path i → read (map item seen) at (form y) ≡ Ok (item x) → new ≡ xs ++ x ∷ []
    → read_from read path (map item xs) i (map form (drop i ys)) ≡ all
    → read_from read path (map item new) (i + 1) (map form (drop (i + 1) ys)) ≡ all
read_more {Y = Y} item form read path at all xs seen new x ys i y below there are here is more so_far =
    ap (λ bs. read_from read path bs (i + 1) (map form (drop (i + 1) ys))) (ap (map item) more ∙ map_push item xs x)
    ∙ sym (step (drop (i + 1) ys))
    ∙ ap (λ zs. read_from read path (map item xs) i (map form zs)) (ap (λ z. z ∷ drop (i + 1) ys) there ∙ sym (drop_more ys i y below))
    ∙ so_far
  where
    step : (zs : List Y) → read_from read path (map item xs) i (map form (y ∷ zs)) ≡ read_from read path (map item xs ++ item x ∷ []) (i + 1) (map form zs)
    step zs =
        let one_more : suc i ≡ i + 1 = omega arith in
        rw (sym here, sym are, is) (ap (λ j. read_from read path (map item seen ++ item x ∷ []) j (map form zs)) one_more)

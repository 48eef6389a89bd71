-- The items of a JSON list as a list, one after the other, and the number of an object's members.
use Rattle.std.proofs.Common.{◌≡◌, List, [], ◌∷◌, length, map, refl, ap}
use Rattle.serde_json.specs.declared.value.Value.{Value}
use Rattle.serde_json.specs.Events.{members_len}
use Rattle.serde_json.specs.View.{view, items_view, members_view}
use Rattle.serde_json.proofs.Views.{Entry, members_len-members_view}
use Rattle.hp_model.specs.Json.{listed}

pub listed_view : (vs : List Value) → listed (items_view vs) ≡ map view vs
listed_view [] = refl
listed_view (v ∷ vs) = ap (λ (ds : List _). view v ∷ ds) (listed_view vs)

pub member_count_view : (es : List Entry) → members_len (members_view es) ≡ length es
member_count_view es = members_len-members_view es

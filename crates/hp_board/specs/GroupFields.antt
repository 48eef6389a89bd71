-- The fields of a group, and its view in contracts.
use Rattle.std.specs.Prelude.{◌≡◌, ◌≤◌, List, [], ◌∷◌, map, Option, Some, IsSome, vec_len, vec_capacity}
use Rattle.std.specs.List.{cons_option}
use Rattle.std.specs.Option.{option_map}
use Rattle.hp_board.specs.declared.machine.Settling.{Settling}
use Rattle.hp_board.specs.declared.machine.Settling.TheVariants.{Accepted, Reran}
use Rattle.hp_board.specs.declared.machine.Group.TheInside.{Inside}
use Rattle.hp_board.specs.Groups.{GroupView}

-- the layer of a settled task: the posted one if it was accepted, otherwise the rerun's
abbrev pub settled_layer : {T : Type 0} → Option T → Settling T → Option T
settled_layer posted Accepted = posted
settled_layer posted (Reran layer) = Some layer

abbrev pub settled_layers : {T : Type 0} → List (Option T) → List (Settling T) → List T
settled_layers posted [] = []
settled_layers [] (s ∷ ss) = []
settled_layers (p ∷ posted) (s ∷ ss) = cons_option (settled_layer p s) (settled_layers posted ss)

-- no more tasks are settled than there are, and accepted tasks are posted
abbrev pub AreSettled : {T : Type 0} → List (Option T) → List (Settling T) → Type 0
AreSettled posted [] = Unit {0}
AreSettled [] (s ∷ ss) = ⊥
AreSettled (p ∷ posted) (s ∷ ss) = IsSome (settled_layer p s) × AreSettled posted ss

-- ---- the whole

abbrev pub view_of : {T : Type 0} → Inside T → GroupView T
view_of g = record {
  drawn = g.drawn.items;
  seen = map (option_map (λ v. v.items)) g.seen.items;
  posted = g.posted.items;
  settled = settled_layers g.posted.items g.settlings.items;
}

-- there is space for all draws and settlings
pub record IsGroup {T : Type 0} (g : Inside T) : Type 0 where
  pub tasks : vec_len g.seen ≡ vec_len g.posted
  pub drawn : vec_len g.drawn ≤ vec_len g.posted
  pub draw_room : vec_len g.posted ≤ vec_capacity g.drawn
  pub settle_room : vec_len g.posted ≤ vec_capacity g.settlings
  pub settled : AreSettled g.posted.items g.settlings.items

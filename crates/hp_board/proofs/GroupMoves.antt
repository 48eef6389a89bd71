-- The effect of each event on a group's fields and on its view in contracts.
use Rattle.std.proofs.Common.{◌≡◌, ℕ, zero, suc, ◌<◌, ◌≤◌, List, [], ◌∷◌, ◌++◌, length, map, set, get_or, replicate, refl, sym, ap, ◌∙◌, subst, arith, Option, Some, None}
use Rattle.std.specs.Prelude.{IsSome, IfSome, slice_get, Vec, vec_len, vec_capacity}
use Rattle.std.specs.Option.{option_map, option_flatten}
use Rattle.std.specs.Vec.{with_item}
use Rattle.std.specs.declared.alloc.Global.{Global}
use Rattle.std.proofs.lemmas.List.{map-set}
use Rattle.std.proofs.lemmas.Option.{none-some, slice_get-get_or, slice_get_read}
use Rattle.hp_board.specs.declared.machine.Settling.{Settling}
use Rattle.hp_board.specs.declared.machine.Group.TheInside.{Inside}
use Rattle.hp_model.specs.Cells.{Cells, Changes}
use Rattle.hp_model.specs.Groups.{opening}
use Rattle.hp_board.specs.Mapped.{machine}
use Rattle.hp_board.specs.Groups.{GroupView, posted_at}
use Rattle.hp_board.specs.GroupFields.{settled_layer, settled_layers, AreSettled, view_of, IsGroup}
use Rattle.hp_board.proofs.Settlings.{settled_len, settled_none, settled_at, settled_fit, settles, keeps}

module _ {T : Type 0} (a : Inside T) (g : GroupView T) (is : view_of a ≡ g) where
  pub looks : (i : ℕ) (predecessors : Vec ℕ Global) → view_of (record a { seen = with_item a.seen i (Some predecessors) }) ≡ record g { seen = set g.seen i (Some predecessors.items) }
  looks i predecessors =
      subst (λ (v : GroupView T). view_of (record a { seen = with_item a.seen i (Some predecessors) }) ≡ record v { seen = set v.seen i (Some predecessors.items) }) is
      (λ k. record (view_of a) { seen = map-set (option_map (λ (v : Vec ℕ Global). v.items)) a.seen.items i (Some predecessors) k })

  module _ (h : IsGroup a) where
    pub posts_view : (i : ℕ) (x : T) → posted_at g i ≡ None → view_of (record a { posted = with_item a.posted i (Some x) }) ≡ record g { posted = set g.posted i (Some x) }
    posts_view i x none =
        let k = keeps a.posted.items a.settlings.items i x h.settled (subst (λ (v : GroupView T). posted_at v i ≡ None) (sym is) none) in
        subst (λ (v : GroupView T). view_of (record a { posted = with_item a.posted i (Some x) }) ≡ record v { posted = set v.posted i (Some x) }) is
        (λ j. record (view_of a) { posted = set a.posted.items i (Some x); settled = k.0 j })

    pub posts_whole : (i : ℕ) (x : T) → posted_at g i ≡ None → IsGroup (record a { posted = with_item a.posted i (Some x) })
    posts_whole i x none = record {
      tasks = h.tasks;
      drawn = h.drawn;
      draw_room = h.draw_room;
      settle_room = h.settle_room;
      settled =
          (keeps a.posted.items a.settlings.items i x h.settled (subst (λ (v : GroupView T). posted_at v i ≡ None) (sym is) none)).1;
    }

    -- the number of settled tasks
    pub settled_count : length g.settled ≡ vec_len a.settlings
    settled_count = ap (λ (v : GroupView T). length v.settled) (sym is) ∙ (settled_len a.posted.items a.settlings.items h.settled ∙ sym a.settlings.ok.0)

    pub posted_count : length g.posted ≡ vec_len a.posted
    posted_count = ap (λ (v : GroupView T). length v.posted) (sym is) ∙ sym a.posted.ok.0

    pub has_room : length g.settled < length g.posted → vec_len a.settlings < vec_capacity a.settlings
    has_room more = omega (arith, h.settle_room, settled_count, posted_count)

    -- the layer by which a task was settled
    module _ (ss : List (Settling T)) (same : ss ≡ a.settlings.items) (k : ℕ) where
      pub settled_past : length ss ≤ k → slice_get g.settled k ≡ None
      settled_past past = subst (λ (v : GroupView T). slice_get v.settled k ≡ None) is (settled_none a.posted.items a.settlings.items k h.settled (omega (arith, ap length same)))

      pub settled_within : k < length ss → k < length a.posted.items
      settled_within more = omega (arith, ap length same, settled_fit a.posted.items a.settlings.items h.settled)

      pub settled_by : (s t : Settling T) → k < length ss → s ≡ get_or ss k s → s ≡ t → slice_get g.settled k ≡ settled_layer (get_or a.posted.items k None) t
      settled_by s t more at to =
          let p = get_or a.posted.items k None in
          let here : slice_get a.settlings.items k ≡ Some t = ap (λ (l : List (Settling T)). slice_get l k) (sym same) ∙ (slice_get_read ss (length ss) k s refl more at ∙ ap Some to) in
          subst (λ (v : GroupView T). slice_get v.settled k ≡ settled_layer p t) is
          (settled_at a.posted.items a.settlings.items k p t h.settled (slice_get-get_or a.posted.items k None (settled_within more)) here)

    -- one more settling, in a vector that has kept its capacity
    module _ (p : Option T) (s : Settling T) (x : T) (at : slice_get g.posted (length g.settled) ≡ Some p) (by' : settled_layer p s ≡ Some x)
        (more : Vec (Settling T) Global) (pushed : more.items ≡ a.settlings.items ++ s ∷ []) where
      at' : slice_get a.posted.items (length a.settlings.items) ≡ Some p
      at' = subst (λ (v : GroupView T). slice_get v.posted (length a.settlings.items) ≡ Some p) (sym is)
          (subst (λ (n : ℕ). slice_get g.posted n ≡ Some p) (settled_count ∙ a.settlings.ok.0) at)

      pub settles_view : view_of (record a { settlings = more }) ≡ record g { settled = g.settled ++ x ∷ [] }
      settles_view =
          let t = settles a.posted.items a.settlings.items p s x h.settled at' by' in
          subst (λ (v : GroupView T). view_of (record a { settlings = more }) ≡ record v { settled = v.settled ++ x ∷ [] }) is
          (λ j. record (view_of a) { settled = (ap (settled_layers a.posted.items) pushed ∙ t.0) j })

      pub settles_whole : vec_capacity more ≡ vec_capacity a.settlings → IsGroup (record a { settlings = more })
      settles_whole room = record {
        tasks = h.tasks;
        drawn = h.drawn;
        draw_room = h.draw_room;
        settle_room = omega (arith, h.settle_room);
        settled = subst (AreSettled a.posted.items) (sym pushed) (settles a.posted.items a.settlings.items p s x h.settled at' by').1;
      }

-- what is posted of a task, as an element of the list
pub posted_is : {T : Type 0} (ps : List (Option T)) (i : ℕ) (x : T) → option_flatten (slice_get ps i) ≡ Some x → slice_get ps i ≡ Some (Some x)
posted_is [] i x e = absurd (none-some x e)
posted_is (p ∷ ps) zero x e = ap Some e
posted_is (p ∷ ps) (suc i) x e = posted_is ps i x e

-- a property of the value, if there is one
pub with_value : {X : Type 0} (o : Option X) (P : X → Type 0) → ((x : X) → o ≡ Some x → P x) → IfSome o P
with_value None P h = tt
with_value (Some x) P h = h x refl

pub value_of : {X : Type 0} (o : Option X) → IsSome o → (x : X) × (o ≡ Some x)
value_of None h = cc
value_of (Some x) h = (x, refl)

-- ---- the start

map-replicate : {X Y : Type 0} (f : X → Y) (n : ℕ) (x : X) → map f (replicate n x) ≡ replicate n (f x)
map-replicate f zero x = refl
map-replicate f (suc n) x = ap (λ l. f x ∷ l) (map-replicate f n x)

settled_layers-nil : {T : Type 0} (ps : List (Option T)) (ss : List (Settling T)) → ss ≡ [] → settled_layers ps ss ≡ []
settled_layers-nil ps ss e = ap (settled_layers ps) e

pub opens : {T : Type 0} (base : Cells) (changes : T → Changes) (a : Inside T) (n : ℕ) → a.drawn.items ≡ [] → a.seen.items ≡ replicate n None
    → a.posted.items ≡ replicate n None → a.settlings.items ≡ []
    → machine base changes (view_of a) ≡ opening base n
opens base changes a n drawn seen posted settled k = record {
  base = base;
  drawn = drawn k;
  seen = (ap (map (option_map (λ (v : Vec ℕ Global). v.items))) seen ∙ map-replicate (option_map (λ (v : Vec ℕ Global). v.items)) n None) k;
  posted = (ap (map (option_map changes)) posted ∙ map-replicate (option_map changes) n None) k;
  settled = ap (map changes) (settled_layers-nil a.posted.items a.settlings.items settled) k;
}

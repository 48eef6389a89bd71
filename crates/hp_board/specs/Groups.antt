-- Groups in contracts: the machine of the definitions without its base, with the layers as they are.
use Rattle.std.specs.Coded.{Coded, code_by, coded×, coded_ℕ, coded_list, coded_option}
use Rattle.std.specs.Prelude.{ℕ, refl, List, length, Option, Bool, nat_lt, ◌&&◌, ◌==◌, slice_get}
use Rattle.std.specs.List.{slice_index_or}
use Rattle.std.specs.Option.{option_flatten}

pub record GroupView (T : Type 0) : Type 0 where
  -- the worker that drew each task, in the order of the tasks
  pub drawn : List ℕ
  -- for each task: the predecessors whose layers it started from, if it was looked at, and the layer posted
  pub seen : List (Option (List ℕ))
  pub posted : List (Option T)
  -- the layers settled so far, the first task's first
  pub settled : List T

-- stored as the tuple of its fields
abbrev pub group_code : {T : Type 0} → Coded T → Coded (GroupView T)
group_code {T} c =
    code_by (List ℕ × (List (Option (List ℕ)) × (List (Option T) × List T)))
    (coded× (coded_list coded_ℕ) (coded× (coded_list (coded_option (coded_list coded_ℕ))) (coded× (coded_list (coded_option c)) (coded_list c))))
    (λ g. (g.drawn, (g.seen, (g.posted, g.settled))))
    (λ p. record { drawn = p.0; seen = p.1.0; posted = p.1.1.0; settled = p.1.1.1 })
    (λ _. refl)

abbrev pub is_drawn : {T : Type 0} → GroupView T → ℕ → ℕ → Bool
is_drawn g worker i = nat_lt i (length g.drawn) && (slice_index_or g.drawn i 0 == worker)

abbrev pub seen_at : {T : Type 0} → GroupView T → ℕ → Option (List ℕ)
seen_at g i = option_flatten (slice_get g.seen i)

abbrev pub posted_at : {T : Type 0} → GroupView T → ℕ → Option T
posted_at g i = option_flatten (slice_get g.posted i)

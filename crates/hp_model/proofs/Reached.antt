-- Only rules that a closed set has fire.
use Rattle.std.proofs.Common.{ℕ, List, [], ◌∷◌, Bool}
use Rattle.std.specs.List.{AllByRecursion}
use Rattle.hp_model.specs.Rules.{Library, is_detached}
use Rattle.hp_model.specs.State.{State}
use Rattle.hp_model.specs.Tree.{Task, Node, sub_node, fire_node, act_node, Items, no_items, operation, emission, detachment, node, append}
use Rattle.hp_model.specs.Transactions.{End, done, abort_by, veto_by, Course, closed_by, detachments, detached_of}
use Rattle.hp_model.specs.Cascade.{Transaction}
use Rattle.hp_model.specs.Chains.{IsNodeReached, FiresReached, IsTaskReached, OthersNeverFire}
use Rattle.hp_model.proofs.Guarded.{IsAllowed, IsNodeAllowed, IsNew, KeptBy, every_filter}
use Rattle.hp_model.proofs.GuardedTops.{unit_each}

module _ (library : Library) (reached : ℕ → Bool) where
  reached_append : (a b : Items) → FiresReached reached a → FiresReached reached b → FiresReached reached (append a b)
  reached_append no_items b h k = k
  reached_append (operation op rest) b h k = reached_append rest b h k
  reached_append (emission v rest) b h k = reached_append rest b h k
  reached_append (detachment t rest) b h k = (h.0, reached_append rest b h.1 k)
  reached_append (node what end inside rest) b h k = (h.0, reached_append rest b h.1 k)

  -- the same at each depth
  abbrev allowed : ℕ → ℕ → Bool
  allowed d n = reached n

  abbrev Reached : ℕ → State → Course → Type 0
  Reached n S c = FiresReached reached c.items

  reached_detachments : (limit n : ℕ) (ts : List Task) → AllByRecursion (IsNew limit (IsAllowed library allowed) n) ts → FiresReached reached (detachments ts)
  reached_detachments limit n [] h = tt
  reached_detachments limit n (t ∷ ts) h = (h.0.1.0, reached_detachments limit n ts h.1)

  node_reached : (what : Node) → IsNodeAllowed allowed what → IsNodeReached reached what
  node_reached sub_node h = tt
  node_reached (fire_node rule place condition) h = h.1.1
  node_reached (act_node rule place) h = h.1

  closed_reached : (e : End) (S : State) (c : Course) → FiresReached reached c.items → FiresReached reached (closed_by e S c).items
  closed_reached done S c h = h
  closed_reached (abort_by x) S c h = h
  closed_reached (veto_by r) S c h = h

  reaching : (limit : ℕ) → KeptBy library allowed limit Reached
  reaching limit = record {
    at_end = λ n S e plain. tt;
    at_limit = λ n S t deep may. tt;
    at_join = λ n S c d h k. reached_append c.items d.items h k;
    at_emission = λ n S v. tt;
    at_operation = λ n S op. tt;
    at_rule = λ n S op m r. tt;
    at_signal = λ n S p c h. h;
    at_tasks = λ n S ts h. reached_detachments limit n (detached_of ts) (every_filter (IsNew limit (IsAllowed library allowed) n) (λ (t : Task). is_detached t.place) ts h);
    at_node = λ n S c what e may plain h. ((node_reached what may, closed_reached c.end S c h), tt);
    at_drain = λ n S c h. h;
    at_ending = λ n S c e plain h. h;
    at_lower = λ m n S c low h. h;
  }

pub others_never_fire : OthersNeverFire
others_never_fire library reached whole u ok S =
    unit_each library (allowed library reached) (record { follows = λ d n h. whole n h }) (Reached library reached) (reaching library reached library.depth_limit)
    (λ (t : Transaction). IsTaskReached reached t.task × FiresReached reached t.items)
    (λ S c h. (tt, closed_reached library reached c.end S c h)) (λ t may S c h. (may.0, closed_reached library reached c.end S c h)) u S ok

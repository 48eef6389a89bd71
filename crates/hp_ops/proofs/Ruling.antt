-- Operations on a view's rules, as operations on states.
use Rattle.std.proofs.Common.{arith, ◌≡◌, refl, ap, sym, ◌∙◌, ℕ, zero, suc, ◌<◌, ◌≤◌, Bool, true, false, List, [], ◌∷◌, length, Option, Some, None, Ok, Err}
use Rattle.std.specs.Prelude.{slice_get, if◌then◌else◌}
use Rattle.std.specs.List.{slice_index_or}
use Rattle.hp_model.specs.Values.{Cause}
use Rattle.hp_model.specs.Events.{is_pure}
use Rattle.hp_model.specs.Rules.{Rule, no_rule, RuleOperation, Library, rule_at}
use Rattle.hp_model.specs.State.{Status, absent, enabled, disabled, rule_state, with_status}
use Rattle.hp_model.specs.Cells.{rule_cell, detector_cell, CellValue, knowledge_value, status_in, knowledge_in, Changes, no_changes, with_change}
use Rattle.hp_model.specs.Knowledge.{knowledge}
use Rattle.hp_model.specs.Answers.{Finds}
use Rattle.hp_model.specs.Operations.{FaithfulOperation, new_status, set_rule}
use Rattle.hp_model.proofs.BridgesCells.{stacked, stacked-with_change}
use Rattle.hp_model.proofs.FaithfulOperations.{faithful_rule_refused, faithful_rule_kept, faithful_rule_unknown, faithful_rule_changed, faithful_pure_rule_changed}
use Rattle.hp_store.specs.Changes.{Entries, changes}
use Rattle.hp_view.specs.Seeing.{Seeing, written, OnlyReads, TakesIn}
use Rattle.hp_ops.specs.Performs.{new_rule_cell, new_knowledge, rule_changes}
use Rattle.hp_ops.proofs.Operating.{from_before, with_reads}

-- a rule of a number, and none of one
pub past_end : {X : Type 0} (xs : List X) (i : ℕ) → slice_get xs i ≡ None → length xs ≤ i
past_end [] i none = omega arith
past_end (x ∷ xs) zero none = cc
past_end (x ∷ xs) (suc i) none = let h = past_end xs i none in omega (arith, h)

pub found_at : {X : Type 0} (xs : List X) (i : ℕ) (x d : X) → slice_get xs i ≡ Some x → (i < length xs) × (slice_index_or xs i d ≡ x)
found_at [] i x d is = cc
found_at (y ∷ ys) zero x d is = (omega arith, cc)
found_at (y ∷ ys) (suc i) x d is = let h = found_at ys i x d is in (omega (arith, h.0), h.1)

-- what a view finds of a rule
abbrev pub StatusFound : Library → ℕ → Seeing → Status → Type 0
StatusFound library n w s = Finds library (λ S. (rule_state S n).status) w.reads (written w) s

-- where the event looks back
knowledge_then : (rule : Rule) (t : Status) → is_pure rule.event ≡ false → new_knowledge rule.event t ≡ knowledge_in rule t (with_status t)
knowledge_then rule absent impure = refl
knowledge_then rule enabled impure = sym (ap (λ b. if b then None else Some (knowledge_value (knowledge rule.event []))) impure)
knowledge_then rule disabled impure = refl

-- a layer of one cell, and one of two, over others
over_one : (w : Changes) (n : ℕ) (t : Status) → stacked w (new_rule_cell n t) ≡ with_change w (rule_cell n) (Some (status_in t))
over_one w n t = stacked-with_change w no_changes (rule_cell n) (status_in t)

over_two : (w : Changes) (n : ℕ) (t : Status) (k : Option CellValue)
    → stacked w (with_change (new_rule_cell n t) (detector_cell n) (Some k)) ≡ with_change (with_change w (rule_cell n) (Some (status_in t))) (detector_cell n) (Some k)
over_two w n t k = stacked-with_change w (new_rule_cell n t) (detector_cell n) k ∙ ap (λ c. with_change c (detector_cell n) (Some k)) (over_one w n t)

module _ (library : Library) (op : RuleOperation) (n : ℕ) (v w : Seeing) (s : Status) (only : OnlyReads v w) (finds : StatusFound library n w s) where
  pub set_refused : {c : Cause} → new_status op s ≡ Err c → FaithfulOperation library (set_rule op n) w.reads (written v) (written w) (Err c)
  set_refused is = from_before only (faithful_rule_refused op n finds is)

  pub set_kept : new_status op s ≡ Ok None → FaithfulOperation library (set_rule op n) w.reads (written v) (written w) (Ok tt)
  set_kept is = from_before only (faithful_rule_kept op n finds is)

  pub set_unknown : (t : Status) → slice_get library.rules n ≡ None → new_status op s ≡ Ok (Some t) → FaithfulOperation library (set_rule op n) w.reads (written v) (written w) (Ok tt)
  set_unknown t none is = from_before only (faithful_rule_unknown op n t (past_end library.rules n none) finds is)

  pub set_made : (z : Seeing) (rule : Rule) (layer : Entries) (t : Status) → slice_get library.rules n ≡ Some rule → new_status op s ≡ Ok (Some t)
      → changes layer ≡ rule_changes rule n t → TakesIn w z layer → FaithfulOperation library (set_rule op n) z.reads (written v) (written z) (Ok tt)
  set_made z rule layer t at is cells takes = with_reads takes.reads (from_before only (by (is_pure rule.event) refl))
    where
      here : (n < length library.rules) × (rule_at library n ≡ rule)
      here = found_at library.rules n rule no_rule at

      taken : written z ≡ stacked (written w) (rule_changes rule n t)
      taken = takes.changes ∙ ap (stacked (written w)) cells

      two : Rule → Changes
      two r = with_change (with_change (written w) (rule_cell n) (Some (status_in t))) (detector_cell n) (Some (knowledge_in r t (with_status t)))

      choice : Bool → Changes
      choice b = stacked (written w) (if b then new_rule_cell n t else with_change (new_rule_cell n t) (detector_cell n) (Some (new_knowledge rule.event t)))

      by : (b : Bool) → is_pure rule.event ≡ b → FaithfulOperation library (set_rule op n) w.reads (written w) (written z) (Ok tt)
      by true pure =
          faithful_pure_rule_changed op n t here.0 (ap (λ (r : Rule). is_pure r.event) here.1 ∙ pure) finds is
          (taken ∙ ap choice pure ∙ over_one (written w) n t)
      by false impure =
          faithful_rule_changed op n t here.0 finds is
          (taken ∙ ap choice impure ∙ over_two (written w) n t (new_knowledge rule.event t)
          ∙ ap (λ k. with_change (with_change (written w) (rule_cell n) (Some (status_in t))) (detector_cell n) (Some k)) (knowledge_then rule t impure)
          ∙ ap two (sym here.1))

-- The final state.
use Rattle.std.proofs.Common.{◌≡◌, refl, sym, ap, ◌∙◌, ℕ, suc, ◌+◌, ◌<◌, ◌≤◌, List, [], ◌∷◌, ◌++◌, drop, length, append_assoc, append-nil, arith}
use Rattle.std.specs.Prelude.{codes}
use Rattle.std.specs.List.{slice_index_or}
use Rattle.std.proofs.lemmas.List.{drop_more, drop_all, get_or-map}
use Rattle.hp_model.specs.Rules.{Library, Rule}
use Rattle.hp_model.specs.State.{State, IsOrdered, RuleState, rule_state, with_status, Status, absent, enabled, disabled}
use Rattle.hp_model.specs.Cells.{Cells, cells, rule_cell, status_in}
use Rattle.hp_model.specs.Report.{Bytes, line, status_word, rules_text}
use Rattle.hp_report.specs.Ending.{status_from, statuses, AreStatuses}

-- a rule's cell tells its status
pub told : (s : Status) → status_from (status_in s) ≡ s
told absent = refl
told enabled = refl
told disabled = refl

-- these are the statuses of the rules before a place
pub record AreSome (library : Library) (base : Cells) (place : ℕ) (front : List Status) : Type 0 where
  pub from : (S : State) → IsOrdered library S → cells library S ≡ base → front ++ drop place (statuses S.rules) ≡ statuses S.rules

count : (rules : List RuleState) → length (statuses rules) ≡ length rules
count [] = refl
count (r ∷ rules) = ap suc (count rules)

next_status : (rules : List RuleState) (place : ℕ) (d : RuleState) → place < length rules
    → drop place (statuses rules) ≡ (slice_index_or rules place d).status ∷ drop (place + 1) (statuses rules)
next_status rules place d below =
    drop_more (statuses rules) place d.status (omega (arith, count rules, below))
    ∙ ap (λ s. s ∷ drop (place + 1) (statuses rules)) (get_or-map (λ (r : RuleState). r.status) rules place d d.status below)

pub one_more_told : (library : Library) (base : Cells) (place : ℕ) (front : List Status) (one : Status) → place < length library.rules
    → one ≡ status_from (base (rule_cell place)) → AreSome library base place front → AreSome library base (place + 1) (front ++ one ∷ [])
one_more_told library base place front one below is former = record {
  from = λ S ordered same.
      let below_rules : place < length S.rules = omega (arith, ordered.each_rule, below) in
      let one_is : one ≡ (rule_state S place).status = is ∙ ap (λ (q : Cells). status_from (q (rule_cell place))) (sym same) ∙ told (rule_state S place).status in
      append_assoc front (one ∷ []) (drop (place + 1) (statuses S.rules))
      ∙ ap (λ s. front ++ s ∷ drop (place + 1) (statuses S.rules)) one_is
      ∙ ap (λ (l : List Status). front ++ l) (sym (next_status S.rules place (with_status absent) below_rules))
      ∙ former.from S ordered same;
}

pub all_told : (library : Library) (base : Cells) (place : ℕ) (front : List Status) → length library.rules ≤ place → AreSome library base place front → AreStatuses library base front
all_told library base place front reached former = record {
  from = λ S ordered same.
      let none_left : drop place (statuses S.rules) ≡ [] = drop_all place (statuses S.rules) (omega (arith, count S.rules, ordered.each_rule, reached)) in
      sym (append-nil front) ∙ ap (λ (l : List Status). front ++ l) (sym none_left) ∙ former.from S ordered same;
}

-- the lines of rules show their statuses alone
pub same_rules : (rules : List Rule) (rs ts : List RuleState) → statuses rs ≡ statuses ts → rules_text rules rs ≡ rules_text rules ts
same_rules [] rs ts e = refl
same_rules (rule ∷ rules) [] [] e = refl
same_rules (rule ∷ rules) [] (t ∷ ts) e = cc
same_rules (rule ∷ rules) (r ∷ rs) [] e = cc
same_rules (rule ∷ rules) (r ∷ rs) (t ∷ ts) e =
    let first : r.status ≡ t.status = cc in
    ap (λ s. line 0 (codes "rule" ∷ rule.name ∷ status_word s ∷ []) ++ rules_text rules rs) first
    ∙ ap (λ (b : Bytes). line 0 (codes "rule" ∷ rule.name ∷ status_word t.status ∷ []) ++ b) (same_rules rules rs ts (cc))

-- The lines of states, and whole reports.
use Rattle.std.proofs.Common.{◌≡◌, refl, ap, subst, ◌∙◌, List, [], ◌∷◌, ◌++◌, map, Bool, String, string_bytes, codes, append_assoc, Result, Ok, Err, OnOk}
use Rattle.std.specs.declared.alloc.Global.{Global}
use Rattle.hp_model.specs.Rules.{Library}
use Rattle.hp_model.specs.State as S
use Rattle.hp_model.specs.State.{State, RuleState}
use Rattle.hp_model.specs.Cells.{Cells}
use Rattle.hp_model.specs.Cascade.{UnitReport}
use Rattle.hp_model.specs.Report.{Bytes, line, units_text, objects_text, rules_text, report_text}
use Rattle.hp_report.specs.declared.report.RuleStatus.{RuleStatus}
use Rattle.hp_report.specs.Mapped.{status, rule_state}
use Rattle.hp_report.specs.Ending.{statuses, AreStatuses}
use Rattle.hp_report.specs.Stored.{OfEach, GainsOf, IsReportText}
use Rattle.hp_report.specs.Text.{Gains, state_text, final_text}
use Rattle.hp_report.proofs.Ends.{same_rules}

-- where a call's result is Ok, what follows from its promise holds
pub where_ok : {A E : Type 0} {P Q : Type 0} (r : Result A E) → (P → Q) → OnOk r P → OnOk r Q
where_ok (Ok a) f p = f p
where_ok (Err e) f p = tt

-- the statuses of rules without a past
shown : (ss : List RuleStatus) → statuses (map rule_state ss) ≡ map status ss
shown [] = refl
shown (s ∷ ss) = ap (λ (l : List S.Status). status s ∷ l) (shown ss)

-- what was added to an empty text is the text
pub whole : (library : Library) (base : Cells) (text : State → Bytes) (old new : String Global) → string_bytes old ≡ [] → GainsOf library base text old new
    → OfEach library base (λ T. string_bytes new ≡ text T)
whole library base text old new empty gained = record { from = λ T ordered same. gained.from T ordered same ∙ ap (λ (b : Bytes). b ++ text T) empty }

-- the objects, and the statuses of the rules
pub state_put : (library : Library) (base : Cells) (ss : List RuleStatus) (old between new : String Global) → GainsOf library base (λ T. objects_text library T.objects) old between
    → AreStatuses library base (map status ss) → Gains between new (rules_text library.rules (map rule_state ss)) → GainsOf library base (λ T. state_text library T.objects T.rules) old new
state_put library base ss old between new objects are rules = record {
  from = λ T ordered same.
      let rules_are : rules_text library.rules (map rule_state ss) ≡ rules_text library.rules T.rules = same_rules library.rules _ _ (shown ss ∙ are.from T ordered same) in
      rules ∙ ap (λ (b : Bytes). b ++ rules_text library.rules (map rule_state ss)) (objects.from T ordered same)
      ∙ append_assoc (string_bytes old) (objects_text library T.objects) (rules_text library.rules (map rule_state ss))
      ∙ ap (λ (b : Bytes). string_bytes old ++ (objects_text library T.objects ++ b)) rules_are;
}

-- a line before it, and one after it
pub final_put : (library : Library) (base : Cells) (old first second new : String Global) → Gains old first (line 0 (codes "final" ∷ []))
    → GainsOf library base (λ T. state_text library T.objects T.rules) first second → Gains second new (line 0 (codes "end" ∷ []))
    → GainsOf library base (λ T. final_text library T.objects T.rules) old new
final_put library base old first second new begun state ended = record {
  from = λ T ordered same.
      let a = line 0 (codes "final" ∷ []) in
      let b = objects_text library T.objects in
      let c = rules_text library.rules T.rules in
      let d = line 0 (codes "end" ∷ []) in
      let all : string_bytes new ≡ ((string_bytes old ++ a) ++ (b ++ c)) ++ d =
      ended ∙ ap (λ (t : Bytes). t ++ d) (state.from T ordered same ∙ ap (λ (t : Bytes). t ++ (b ++ c)) begun) in
      all ∙ simp append_assoc;
}

-- the lines of the units and the lines after them are the whole text
pub report_put : (library : Library) (base : Cells) (with_tree : Bool) (units : List UnitReport) (first done : String Global)
    → string_bytes first ≡ units_text library with_tree 1 units → GainsOf library base (λ T. final_text library T.objects T.rules) first done
    → IsReportText library base with_tree units (string_bytes done)
report_put library base with_tree units first done begun final = record {
  from = λ T ordered same. final.from T ordered same ∙ ap (λ (t : Bytes). t ++ final_text library T.objects T.rules) begun;
}

-- what holds of a text holds of that of each state
pub of_each_text : (library : Library) (base : Cells) (with_tree : Bool) (units : List UnitReport) (text bytes : Bytes) (Holds : Bytes → Type 0) → bytes ≡ text
    → IsReportText library base with_tree units text → Holds bytes → OfEach library base (λ T. Holds (report_text library with_tree (record { units = units; state = T })))
of_each_text library base with_tree units text bytes Holds same is holds = record { from = λ T ordered cells_are. subst Holds (same ∙ is.from T ordered cells_are) holds }

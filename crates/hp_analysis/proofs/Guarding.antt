-- No arithmetic ends a guard that has no opening.
use Rattle.std.proofs.Common.{◌≡◌, refl, sym, ◌∙◌, List, [], ◌∷◌, Bool, true, false, ◌&&◌, Option, Some, None}
use Rattle.std.specs.Prelude.{is_none, option_map, if◌then◌else◌}
use Rattle.std.specs.List.{AllByRecursion}
use Rattle.hp_model.specs.Values.{Cause}
use Rattle.hp_model.specs.Rules.{Rule, Library, rule_at}
use Rattle.hp_model.specs.Tree.{Ending, committed, aborted, Condition, without_action, with_fault, with_action, with_later_action, Node, sub_node, fire_node, act_node, Items}
use Rattle.hp_model.specs.Tree.{no_items, operation, emission, detachment, node}
use Rattle.hp_model.specs.Cascade.{TransactionReport, UnitReport}
use Rattle.hp_model.specs.Endings.{Ended, whole_transaction, inner_node, condition_of, EndsOnlyBy, FaultsOnlyBy, NodeHasOnly, TreeHasOnly, ReportHasOnly}
use Rattle.hp_model.specs.Kinds.{is_body_calm, is_condition_calm, is_node_calm, is_arithmetic, NotOfKinds, CauseOf, KindedCause}
use Rattle.hp_model.proofs.KindUnits.{never_of_kinds}
use Rattle.hp_analysis.specs.Guards.{is_open_guard, first_opening, is_sure, is_node_sure, GuardCause, GuardsHold}

-- ---- what only some causes end, only more causes end

module _ (few more : Ended → Cause → Type 0) (all : (what : Ended) (c : Cause) → few what c → more what c) where
  ends_by : (what : Ended) (e : Ending) → EndsOnlyBy (few what) e → EndsOnlyBy (more what) e
  ends_by what committed h = tt
  ends_by what (aborted c) h = all what c h

  faults_by : (what : Ended) (c : Condition) → FaultsOnlyBy (few what) c → FaultsOnlyBy (more what) c
  faults_by what without_action h = tt
  faults_by what (with_fault c) h = all what c h
  faults_by what with_action h = tt
  faults_by what with_later_action h = tt

  node_by : (what : Node) → NodeHasOnly few what → NodeHasOnly more what
  node_by sub_node h = tt
  node_by (fire_node rule place condition) h = faults_by (condition_of rule) condition h
  node_by (act_node rule place) h = tt

  tree_by : (items : Items) → TreeHasOnly few items → TreeHasOnly more items
  tree_by no_items h = tt
  tree_by (operation op rest) h = tree_by rest h
  tree_by (emission v rest) h = tree_by rest h
  tree_by (detachment t rest) h = tree_by rest h
  tree_by (node what end inside rest) h = (((node_by what h.0.0.0, ends_by (inner_node what) end h.0.0.1), tree_by inside h.0.1), tree_by rest h.1)

  reports_by : (ts : List TransactionReport) → AllByRecursion (λ (t : TransactionReport). EndsOnlyBy (few whole_transaction) t.ending × TreeHasOnly few t.items) ts
      → AllByRecursion (λ (t : TransactionReport). EndsOnlyBy (more whole_transaction) t.ending × TreeHasOnly more t.items) ts
  reports_by [] h = tt
  reports_by (t ∷ ts) h = ((ends_by whole_transaction t.ending h.0.0, tree_by t.items h.0.1), reports_by ts h.1)

  units_by : (us : List UnitReport) → AllByRecursion (ReportHasOnly few) us → AllByRecursion (ReportHasOnly more) us
  units_by [] h = tt
  units_by (u ∷ us) h = (reports_by u.transactions h.0, units_by us h.1)

-- ---- guards

not_sure : (guard condition action : Bool) → condition ≡ false → (guard && is_none (if guard then first_opening condition action else None)) ≡ false
not_sure true true action h = cc
not_sure true false action h = refl
not_sure false condition action h = refl

sure_action : (guard condition action : Bool) → (guard && is_none (if guard then first_opening condition action else None)) ≡ true → action ≡ true
sure_action true true true h = refl
sure_action true true false h = cc
sure_action true false action h = cc
sure_action false condition action h = cc

no_arithmetic : (calm : Bool) (c : Cause) → CauseOf calm c → calm ≡ true → NotOfKinds c × (is_arithmetic c ≡ false)
no_arithmetic calm c h is = (h.0, by (is_arithmetic c) h.1)
  where
    by : (b : Bool) → (b ≡ true → calm ≡ false) → b ≡ false
    by false none = refl
    by true none = let never : true ≡ false = sym is ∙ none refl in cc

module _ (library : Library) where
  sure_calm : (r : Rule) → is_sure r ≡ true → is_body_calm r.action ≡ true
  sure_calm r h = sure_action (is_open_guard r) (is_condition_calm r.condition) (is_body_calm r.action) h

  node_calm : (what : Node) → is_node_sure library what ≡ true → is_node_calm library what ≡ true
  node_calm sub_node h = cc
  node_calm (fire_node rule place condition) h = sure_calm (rule_at library rule) h
  node_calm (act_node rule place) h = sure_calm (rule_at library rule) h

  guarded : (what : Ended) (c : Cause) → KindedCause library what c → GuardCause library what c
  guarded whole_transaction c h = tt
  guarded (inner_node what) c h = λ is. no_arithmetic (is_node_calm library what) c h (node_calm what is)
  guarded (condition_of rule) c h =
      let r = rule_at library rule in
      not_sure (is_open_guard r) (is_condition_calm r.condition) (is_body_calm r.action) h.1

pub guards_hold : GuardsHold
guards_hold s d fit fits kinded units = units_by (KindedCause s.library) (GuardCause s.library) (guarded s.library) _ (never_of_kinds s d fit fits kinded units)

pub mapped_none : {A B : Type 0} (f : A → B) (o : Option A) → is_none o ≡ is_none (option_map f o)
mapped_none f None = refl
mapped_none f (Some x) = refl

-- No text shows how deep a library's firings go.
use Rattle.std.proofs.Common.{◌≡◌, refl, ap, ◌∙◌, ℕ, suc, ◌+◌, List, [], ◌∷◌, ◌++◌, Bool, true, false, Option, Some, None, codes}
use Rattle.std.specs.Prelude.{flat_map, if◌then◌else◌}
use Rattle.hp_model.specs.Values.{ClassDef, Cause, exists, missing, wrong_kind, overflow, divide_by_zero, no_parameter, depth_exceeded, requested, vetoed}
use Rattle.hp_model.specs.Rules.{Coupling, Rule, Library}
use Rattle.hp_model.specs.Tree.{Ending, committed, aborted, Condition, without_action, with_fault, with_action, with_later_action, Node, sub_node, fire_node, act_node, Operation}
use Rattle.hp_model.specs.Tree.{create_op, update_op, delete_op, rule_op, Items, no_items, operation, emission, detachment, node, if_committed, emits}
use Rattle.hp_model.specs.Cascade.{TransactionReport, UnitReport}
use Rattle.hp_model.specs.Report.{Bytes, line, value_text, rule_name, coupling_word, cause_words, ending_words, operation_words, firing_words, node_words, tree_text, heading}
use Rattle.hp_model.specs.Report.{transaction_text, units_text}
use Rattle.hp_report.specs.Text.{emit_lines}

-- the library with another limit
abbrev limited : Library → ℕ → Library
limited l d = record { classes = l.classes; rules = l.rules; depth_limit = d }

causes : (l : Library) (d : ℕ) (c : Cause) → cause_words (limited l d) c ≡ cause_words l c
causes l d exists = refl
causes l d missing = refl
causes l d wrong_kind = refl
causes l d overflow = refl
causes l d divide_by_zero = refl
causes l d no_parameter = refl
causes l d depth_exceeded = refl
causes l d requested = refl
causes l d (vetoed v) = refl

endings : (l : Library) (d : ℕ) (e : Ending) → ending_words (limited l d) e ≡ ending_words l e
endings l d committed = refl
endings l d (aborted c) = ap (λ ws. codes "aborted" ∷ ws) (causes l d c)

operations : (l : Library) (d : ℕ) (op : Operation) → operation_words (limited l d) op ≡ operation_words l op
operations l d (create_op class key new) = refl
operations l d (update_op class key new) = refl
operations l d (delete_op class key) = refl
operations l d (rule_op op n) = refl

firings : (l : Library) (d : ℕ) (c : Condition) (e : Ending) → firing_words (limited l d) c e ≡ firing_words l c e
firings l d without_action e = refl
firings l d (with_fault c) e = ap (λ ws. codes "fault" ∷ (ws ++ codes "none" ∷ [])) (causes l d c)
firings l d with_action e = ap (λ ws. codes "satisfied" ∷ ws) (endings l d e)
firings l d with_later_action e = refl

nodes : (l : Library) (d : ℕ) (n : Node) (e : Ending) → node_words (limited l d) n e ≡ node_words l n e
nodes l d sub_node e = ap (λ ws. codes "sub" ∷ ws) (endings l d e)
nodes l d (fire_node n place c) e = ap (λ ws. codes "fire" ∷ rule_name l n ∷ coupling_word place ∷ ws) (firings l d c e)
nodes l d (act_node n place) e = ap (λ ws. codes "act" ∷ rule_name l n ∷ coupling_word place ∷ ws) (endings l d e)

trees : (l : Library) (d indent : ℕ) (items : Items) → tree_text (limited l d) indent items ≡ tree_text l indent items
trees l d indent no_items = refl
trees l d indent (operation op rest) =
    ap (λ ws. line indent (codes "op" ∷ ws) ++ tree_text (limited l d) indent rest) (operations l d op)
    ∙ ap (λ (t : Bytes). line indent (codes "op" ∷ operation_words l op) ++ t) (trees l d indent rest)
trees l d indent (emission v rest) = ap (λ (t : Bytes). line indent (codes "emit" ∷ value_text v ∷ []) ++ t) (trees l d indent rest)
trees l d indent (detachment t rest) = trees l d indent rest
trees l d indent (node what end inside rest) =
    ap (λ ws. line indent ws ++ (tree_text (limited l d) (indent + 2) inside ++ tree_text (limited l d) indent rest)) (nodes l d what end)
    ∙ ap (λ (t : Bytes). line indent (node_words l what end) ++ (t ++ tree_text (limited l d) indent rest)) (trees l d (indent + 2) inside)
    ∙ ap (λ (t : Bytes). line indent (node_words l what end) ++ (tree_text l (indent + 2) inside ++ t)) (trees l d indent rest)

headings : (l : Library) (d n : ℕ) (time : Option ℕ) (task : Option (ℕ × Coupling)) → heading (limited l d) n time task ≡ heading l n time task
headings l d n time None = refl
headings l d n time (Some t) = refl

wanted : (l : Library) (d : ℕ) (with_tree : Bool) (items : Items)
    → (if with_tree then tree_text (limited l d) 2 items else []) ≡ (if with_tree then tree_text l 2 items else [])
wanted l d true items = trees l d 2 items
wanted l d false items = refl

transactions : (l : Library) (d : ℕ) (with_tree : Bool) (n : ℕ) (time : Option ℕ) (t : TransactionReport)
    → transaction_text (limited l d) with_tree n time t ≡ transaction_text l with_tree n time t
transactions l d with_tree n time t =
    let values = emit_lines (if_committed t.ending (emits t.items) []) in
    let tree = if with_tree then tree_text (limited l d) 2 t.items else [] in
    ap (λ ws. line 0 (ws ++ ending_words (limited l d) t.ending) ++ (values ++ tree)) (headings l d n time t.task)
    ∙ ap (λ ws. line 0 (heading l n time t.task ++ ws) ++ (values ++ tree)) (endings l d t.ending)
    ∙ ap (λ (b : Bytes). line 0 (heading l n time t.task ++ ending_words l t.ending) ++ (values ++ b)) (wanted l d with_tree t.items)

each : (l : Library) (d : ℕ) (with_tree : Bool) (n : ℕ) (time : Option ℕ) (ts : List TransactionReport)
    → flat_map (transaction_text (limited l d) with_tree n time) ts ≡ flat_map (transaction_text l with_tree n time) ts
each l d with_tree n time [] = refl
each l d with_tree n time (t ∷ ts) =
    ap (λ (b : Bytes). b ++ flat_map (transaction_text (limited l d) with_tree n time) ts) (transactions l d with_tree n time t)
    ∙ ap (λ (b : Bytes). transaction_text l with_tree n time t ++ b) (each l d with_tree n time ts)

units : (l : Library) (d : ℕ) (with_tree : Bool) (n : ℕ) (us : List UnitReport) → units_text (limited l d) with_tree n us ≡ units_text l with_tree n us
units l d with_tree n [] = refl
units l d with_tree n (u ∷ us) =
    ap (λ (b : Bytes). b ++ units_text (limited l d) with_tree (suc n) us) (each l d with_tree n u.time u.transactions)
    ∙ ap (λ (b : Bytes). flat_map (transaction_text l with_tree n u.time) u.transactions ++ b) (units l d with_tree (suc n) us)

-- the lines of units by two libraries with the same classes and rules
pub same_units : (names library : Library) (with_tree : Bool) (n : ℕ) (us : List UnitReport) → names.classes ≡ library.classes → names.rules ≡ library.rules
    → units_text names with_tree n us ≡ units_text library with_tree n us
same_units names library with_tree n us p q =
    let shown : List ClassDef → List Rule → Library = λ cs rs. record { classes = cs; rules = rs; depth_limit = names.depth_limit } in
    ap (λ cs. units_text (shown cs names.rules) with_tree n us) p ∙ ap (λ rs. units_text (shown library.classes rs) with_tree n us) q
    ∙ units library names.depth_limit with_tree n us

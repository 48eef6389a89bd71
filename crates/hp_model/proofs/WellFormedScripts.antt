-- The library and the bodies of the script that the grammar reads are well formed.
use Rattle.std.proofs.Common.{arith, ◌≡◌, refl, ap, sym, ◌∙◌, subst, ℕ, suc, ℤ, pos, negsuc, List, [], ◌∷◌, ◌++◌, length, map, append_assoc, append-nil, Option, None, Some, false, ◌||◌}
use Rattle.std.proofs.lemmas.Bool.Decides.{nat_tests}
use Rattle.std.proofs.lemmas.List.{length-map, map-append}
use Rattle.std.specs.Prelude.{Ok, nat_lt, ◌==◌, codes}
use Rattle.serde_json.specs.Data.{Data}
use Rattle.hp_model.specs.Values.{Name, Field, ClassDef, ◌>>=◌}
use Rattle.hp_model.specs.Rules.{Entry, Statement, Rule, Library}
use Rattle.hp_model.specs.Refusals.{Path, under_root, item_at, classes_limit, fields_limit, rules_limit, shaped}
use Rattle.hp_model.specs.Json.{pair_of}
use Rattle.hp_model.specs.Parts.{integer_at, list_at, read_from}
use Rattle.hp_model.specs.Scopes as S
use Rattle.hp_model.specs.Scopes.{class_names, field_names}
use Rattle.hp_model.specs.StatementGrammar.{statement_within, statements_at, body_of}
use Rattle.hp_model.specs.RuleHeads as H
use Rattle.hp_model.specs.RuleHeads.{RuleHead, rule_parts_of, rule_head_at, rule_heads_at}
use Rattle.hp_model.specs.Decode as D
use Rattle.hp_model.specs.Decode.{Version, EntryForm, entry_form_of, entry_from, let_entry_at, entry_at, closed_at, depth_in, depth_at, depth_if_any, kind_at, field_at, fields_at}
use Rattle.hp_model.specs.Decode.{class_at, classes_at, coupling_at, condition_at, acting, rule_at, rules_at, script_scope}
use Rattle.hp_model.specs.Checked as C
use Rattle.hp_model.specs.Checked.{Checked, new_name_check, each_check, event_check, body_check, statement_check, field_definition_check, fields_check, class_definition_check}
use Rattle.hp_model.specs.Checked.{classes_check, head_check, heads_check, query_check, let_entry_check, entry_check, condition_check, rule_check, rules_check, depth_check}
use Rattle.hp_model.specs.Checked.{library_check, script_body_check}
use Rattle.hp_model.proofs.WellFormedParts.{Reads, Reads-value, Reads-none, Reads-any, Reads-more, Reads-both, Reads-then, Reads-unless, passes_then, new_name_reads, new_row_reads}
use Rattle.hp_model.proofs.WellFormedParts.{place_reads, short_list_reads, limit_passes, each_reads}
use Rattle.hp_model.proofs.WellFormedExpressions.{Passes, PartReads, event_reads}
use Rattle.hp_model.proofs.WellFormedStatements.{whole_expression_reads, aggregate_reads, checking, body_reads, statement_reads}

-- ---- the depth limit

abbrev pub IsDepth : ℕ → Type 0
IsDepth n = depth_check n ≡ Ok tt

depth_passes : (n : ℕ) → (nat_lt n 1 || nat_lt 16 n) ≡ false → IsDepth n
depth_passes n h = let same : (n == 0 || nat_lt 16 n) ≡ false = grind (arith, nat_tests, h) in rw same refl

depth_in_reads : (z : ℤ) → Reads IsDepth (depth_in z)
depth_in_reads (pos n) = Reads-unless (nat_lt n 1 || nat_lt 16 n) _ n (depth_passes n)
depth_in_reads (negsuc n) = Reads-none _

pub depth_reads : (path : Path) (o : Option Data) → Reads IsDepth (depth_if_any path o)
unfolding depth_at
depth_reads path None = Reads-value 8 refl
depth_reads path (Some d) = Reads-then (Reads-any (integer_at path d)) λ z _. depth_in_reads z

-- ---- classes

field_reads : (before : List Field) → PartReads (field_at before) (field_definition_check before)
unfolding field_at field_definition_check
field_reads before path d =
    Reads-then (Reads-any (shaped path (pair_of d))) λ pair _.
    Reads-then (new_name_reads (field_names before) (item_at path 0) pair.0) λ x new.
    Reads-then (Reads-any (kind_at (item_at path 1) pair.1)) λ kind _. Reads-value _ λ q. new (item_at q 0)

fields_reads : PartReads fields_at fields_check
unfolding fields_at fields_check
fields_reads path d =
    Reads-then (short_list_reads 32 fields_limit path d) λ ds few.
    Reads-more
    (λ fields all q. passes_then _ _ (limit_passes 32 fields_limit (length fields) (length ds) all.as_many few) (all.pass q))
    (each_reads field_at field_definition_check field_reads path ds)

class_reads : (before : List ClassDef) → PartReads (class_at before) (class_definition_check before)
unfolding class_at class_definition_check
class_reads before path d =
    Reads-then (Reads-any (shaped path (pair_of d))) λ pair _.
    Reads-then (new_name_reads (class_names before) (item_at path 0) pair.0) λ x new.
    Reads-then (fields_reads (item_at path 1) pair.1) λ fields pass. Reads-value _ λ q. passes_then _ _ (new (item_at q 0)) (pass (item_at q 1))

pub classes_reads : PartReads classes_at classes_check
unfolding classes_at classes_check
classes_reads path d =
    Reads-then (short_list_reads 64 classes_limit path d) λ ds few.
    Reads-more
    (λ classes all q. passes_then _ _ (limit_passes 64 classes_limit (length classes) (length ds) all.as_many few) (all.pass q))
    (each_reads class_at class_definition_check class_reads path ds)

-- ---- the names of the rules

-- a name at the front of an item, which no earlier item has
abbrev pub front_check : List Name → Path → Name → Checked
front_check before path x = new_name_check before (item_at path 0) x

same_fronts : {A : Type 0} (name : A → Name) (path : Path) (before : List A) (i : ℕ) (xs : List A)
    → each_check (λ ys p x. front_check (map name ys) p (name x)) path before i xs ≡ each_check front_check path (map name before) i (map name xs)
same_fronts name path before i [] = refl
same_fronts name path before i (x ∷ xs) =
    ap (λ (rest : Checked). front_check (map name before) (item_at path i) (name x) >>= λ _. rest)
    (same_fronts name path (before ++ x ∷ []) (suc i) xs ∙ ap (λ ns. each_check front_check path ns (suc i) (map name xs)) (map-append name before (x ∷ [])))

-- the heads of a script's rules
pub record IsHeads (heads : List RuleHead) : Type 0 where
  pub few : nat_lt 256 (length heads) ≡ false
  pub pass : (path : Path) → each_check front_check path [] 0 (H.rule_names heads) ≡ Ok tt

head_reads : (version : Version) (before : List RuleHead) (path : Path) (d : Data) → Reads (λ h. (q : Path) → front_check (H.rule_names before) q h.name ≡ Ok tt) (rule_head_at version before path d)
unfolding rule_head_at
head_reads version before path d =
    Reads-then (Reads-any (shaped path (rule_parts_of version d))) λ parts _.
    Reads-then (new_name_reads (H.rule_names before) (item_at path 0) parts.name) λ x new. Reads-value _ λ q. new (item_at q 0)

pub heads_reads : (version : Version) (path : Path) (d : Data) → Reads IsHeads (rule_heads_at version path d)
unfolding rule_heads_at
heads_reads version path d =
    Reads-then (short_list_reads 256 rules_limit path d) λ ds few.
    Reads-more
    (λ heads all. record {
      few = rw all.as_many few;
      pass = λ q. sym (same_fronts (λ (h : RuleHead). h.name) q [] 0 heads) ∙ all.pass q;
    })
    (each_reads (rule_head_at version) (λ before p h. front_check (H.rule_names before) p h.name) (head_reads version) path ds)

-- ---- rules

query_reads : (classes : List Name) (setting : S.Setting) (first second third : Path) (name class predicate : Data)
    → Reads (λ q. (one two three : Path) → query_check (length classes) setting.names one two three q ≡ Ok tt) (D.query_at classes setting first second third name class predicate)
unfolding D.query_at query_check
query_reads classes setting first second third name class predicate =
    Reads-then (new_row_reads setting.names first name) λ x new.
    Reads-then (place_reads classes second class) λ n of_class.
    Reads-then (whole_expression_reads (S.row_setting x setting) third predicate) λ e of_predicate.
    Reads-value _ λ one two three. passes_then _ _ (new one) (passes_then _ _ (of_class two) (of_predicate three))

-- the setting of an entry after others
abbrev pub entry_setting : Version → List Entry → S.Setting
entry_setting version before = record { version = version; names = S.names_of before }

let_reads : (version : Version) (classes : List Name) (before : List Entry) (path : Path) (name aggregate : Data)
    → Reads (Passes (entry_check (length classes) before)) (let_entry_at classes (entry_setting version before) path name aggregate)
unfolding let_entry_at let_entry_check
let_reads version classes before path name aggregate =
    Reads-then (new_row_reads (S.names_of before) (item_at path 1) name) λ x new.
    Reads-then (aggregate_reads classes (entry_setting version before) (item_at path 2) aggregate) λ a of_aggregate.
    Reads-value _ λ q. passes_then _ _ (new (item_at q 1)) (of_aggregate (item_at q 2))

entry_from_reads : (version : Version) (classes : List Name) (before : List Entry) (path : Path) (form : EntryForm)
    → Reads (Passes (entry_check (length classes) before)) (entry_from classes (entry_setting version before) path form)
entry_from_reads version classes before path (D.query_form name class predicate) =
    Reads-then (query_reads classes (entry_setting version before) (item_at path 0) (item_at path 1) (item_at path 2) name class predicate) λ q pass.
    Reads-value _ λ p. pass (item_at p 0) (item_at p 1) (item_at p 2)
entry_from_reads version classes before path (D.no_form name class predicate) =
    Reads-then (query_reads classes (entry_setting version before) (item_at path 1) (item_at path 2) (item_at path 3) name class predicate) λ q pass.
    Reads-value _ λ p. pass (item_at p 1) (item_at p 2) (item_at p 3)
entry_from_reads version classes before path (D.let_form name aggregate) = let_reads version classes before path name aggregate

entry_reads : (version : Version) (classes : List Name) (before : List Entry) → PartReads (entry_at version classes before) (entry_check (length classes) before)
unfolding entry_at
entry_reads version classes before path d =
    Reads-then (Reads-any (shaped path (entry_form_of version d))) λ form _. entry_from_reads version classes before path form

condition_reads : (version : Version) (classes : List Name) → PartReads (condition_at version classes) (condition_check (length classes))
unfolding condition_at
condition_reads version classes path d =
    Reads-then (Reads-any (list_at path d)) λ ds _.
    Reads-more (λ entries all. all.pass) (each_reads (entry_at version classes) (entry_check (length classes)) (entry_reads version classes) path ds)

-- a rule of a head, whose other parts pass
record IsRule (classes : List ClassDef) (rules : ℕ) (head : RuleHead) (r : Rule) : Type 0 where
  same_name : r.name ≡ head.name
  pass : Passes (rule_check classes rules) r

rule_reads : (version : Version) (scope : S.Scope) (path : Path) (head : RuleHead) → Reads (IsRule scope.classes (length scope.rules) head) (rule_at version scope path head)
unfolding rule_at rule_check
rule_reads version scope path head =
    let same : length (class_names scope.classes) ≡ length scope.classes = length-map scope.classes (λ (c : ClassDef). c.name) in
    Reads-then (event_reads (class_names scope.classes) 16 (item_at path 1) head.parts.event) λ event of_event.
    Reads-then (Reads-any (coupling_at version (item_at path 2) head.parts.event_coupling)) λ ec _.
    Reads-then (condition_reads version (class_names scope.classes) (item_at path 3) head.parts.condition) λ condition of_condition.
    Reads-then (Reads-any (coupling_at version (item_at path 4) head.parts.action_coupling)) λ ca _.
    Reads-then (body_reads (statement_within (acting scope condition) 16) (statement_check (checking (acting scope condition)) 16) (statement_reads (acting scope condition) 16)
    (record { version = version; names = S.names_of condition }) (item_at path 5) head.parts.action) λ action of_action.
    Reads-then (Reads-any (closed_at (item_at path 6) head.parts.closing)) λ closed _.
    Reads-value _ (record {
      same_name = refl;
      pass = λ q.
          passes_then _ _ (subst (λ n. event_check n 16 (item_at q 1) event ≡ Ok tt) same (of_event (item_at q 1)))
          (passes_then _ _ (subst (λ n. condition_check n (item_at q 3) condition ≡ Ok tt) same (of_condition (item_at q 3))) (of_action (item_at q 5)));
    })

-- rules after earlier ones, with the names of these heads
record AreNamed (before : List Rule) (heads : List RuleHead) (rules : List Rule) : Type 0 where
  names : C.rule_names rules ≡ C.rule_names before ++ H.rule_names heads

names_read : (version : Version) (scope : S.Scope) (path : Path) (before : List Rule) (i : ℕ) (heads : List RuleHead)
    → Reads (AreNamed before heads) (read_from (λ _. rule_at version scope) path before i heads)
names_read version scope path before i [] = Reads-value before (record { names = sym (append-nil (C.rule_names before)) })
names_read version scope path before i (h ∷ hs) =
    Reads-then (rule_reads version scope (item_at path i) h) λ r is.
    Reads-more
    (λ rules named. record {
      names =
          named.names ∙ ap (λ ns. ns ++ H.rule_names hs) (map-append (λ (r : Rule). r.name) before (r ∷ [])) ∙ append_assoc (C.rule_names before) (r.name ∷ []) (H.rule_names hs)
          ∙ ap (λ n. C.rule_names before ++ n ∷ H.rule_names hs) is.same_name;
    })
    (names_read version scope path (before ++ r ∷ []) (suc i) hs)

-- the rules of these heads
pub record IsRules (classes : List ClassDef) (heads : List RuleHead) (rules : List Rule) : Type 0 where
  pub as_many : length rules ≡ length heads
  pub names : C.rule_names rules ≡ H.rule_names heads
  pub pass : (path : Path) → rules_check classes (length rules) path rules ≡ Ok tt

pub rules_read : (version : Version) (classes : List ClassDef) (heads : List RuleHead) (path : Path) → Reads (IsRules classes heads) (rules_at version (script_scope classes heads) path heads)
rules_read version classes heads path =
    Reads-more
    (λ rules both.
    let as_many : length rules ≡ length heads = both.0.as_many in
    record {
      as_many = as_many;
      names = both.1.names;
      pass = λ q. subst (λ n. rules_check classes n q rules ≡ Ok tt) (length-map heads (λ (h : RuleHead). h.name) ∙ sym as_many) (both.0.pass q);
    })
    (Reads-both
    (each_reads (λ _. rule_at version (script_scope classes heads)) (λ _. rule_check classes (length (H.rule_names heads)))
    (λ before p h. Reads-more (λ r is. is.pass) (rule_reads version (script_scope classes heads) p h)) path heads)
    (names_read version (script_scope classes heads) path [] 0 heads))

-- ---- the library

-- the parts of a library before its rules are read
pub record IsReady (depth : ℕ) (classes : List ClassDef) (heads : List RuleHead) : Type 0 where
  pub of_depth : IsDepth depth
  pub of_classes : (path : Path) → classes_check path classes ≡ Ok tt
  pub of_heads : IsHeads heads

heads_pass : (heads : List RuleHead) (rules : List Rule) → IsHeads heads → length rules ≡ length heads → C.rule_names rules ≡ H.rule_names heads
    → (path : Path) → heads_check path rules ≡ Ok tt
unfolding heads_check head_check
heads_pass heads rules is as_many names path =
    passes_then _ _ (limit_passes 256 rules_limit (length rules) (length heads) as_many is.few)
    (same_fronts (λ (r : Rule). r.name) path [] 0 rules ∙ ap (λ ns. each_check front_check path [] 0 ns) names ∙ is.pass path)

pub library_passes : (depth : ℕ) (classes : List ClassDef) (heads : List RuleHead) (rules : List Rule) → IsReady depth classes heads → IsRules classes heads rules
    → library_check (record { classes = classes; rules = rules; depth_limit = depth }) ≡ Ok tt
unfolding library_check
library_passes depth classes heads rules ready are =
    passes_then _ _ ready.of_depth
    (passes_then _ _ (ready.of_classes (under_root (codes "classes")))
    (passes_then _ _ (heads_pass heads rules ready.of_heads are.as_many are.names (under_root (codes "rules"))) (are.pass (under_root (codes "rules")))))

-- ---- bodies of the script

-- what a scope and a library have in common when bodies of the script are read
pub record IsScriptScope (library : Library) (scope : S.Scope) : Type 0 where
  pub classes : scope.classes ≡ library.classes
  pub rules : length scope.rules ≡ length library.rules
  pub in_action : scope.in_action ≡ false
  pub queries : scope.queries ≡ []

same_scope : (library : Library) (scope : S.Scope) → IsScriptScope library scope → checking scope ≡ C.script_scope library
same_scope library scope is i = record { classes = is.classes i; rules = is.rules i; in_action = is.in_action i; queries = is.queries i }

-- the setting of a script's body
abbrev pub in_script : Version → S.Setting
in_script version = record { version = version; names = S.no_names }

pub body_passes : (version : Version) (library : Library) (scope : S.Scope) → IsScriptScope library scope
    → (path : Path) (d : Data) → Reads (λ ss. Passes (script_body_check library) (body_of ss)) (statements_at scope (in_script version) path d)
body_passes version library scope is path d =
    Reads-more
    (λ ss pass q. subst (λ s. body_check (statement_check s 16) S.no_names q (body_of ss) ≡ Ok tt) (same_scope library scope is) (pass q))
    (body_reads (statement_within scope 16) (statement_check (checking scope) 16) (statement_reads scope 16) (in_script version) path d)

pub its_scope : (library : Library) (heads : List RuleHead) → length library.rules ≡ length heads → IsScriptScope library (script_scope library.classes heads)
its_scope library heads as_many = record { classes = refl; rules = length-map heads (λ (h : RuleHead). h.name) ∙ sym as_many; in_action = refl; queries = refl }

-- ---- what was read

-- the library of parts that were read
pub read_library : (version : Version) (depth : ℕ) (classes : List ClassDef) (heads : List RuleHead) (rules : List Rule)
    → (at_depth at_classes at_heads at_rules : Path) (of_depth : Option Data) (of_classes of_heads : Data)
    → depth_if_any at_depth of_depth ≡ Ok depth → classes_at at_classes of_classes ≡ Ok classes → rule_heads_at version at_heads of_heads ≡ Ok heads
    → rules_at version (script_scope classes heads) at_rules heads ≡ Ok rules
    → library_check (record { classes = classes; rules = rules; depth_limit = depth }) ≡ Ok tt
read_library version depth classes heads rules at_depth at_classes at_heads at_rules of_depth of_classes of_heads read_depth read_classes read_heads read_rules =
    library_passes depth classes heads rules
    (record {
      of_depth = (depth_reads at_depth of_depth).fact depth read_depth;
      of_classes = (classes_reads at_classes of_classes).fact classes read_classes;
      of_heads = (heads_reads version at_heads of_heads).fact heads read_heads;
    })
    ((rules_read version classes heads at_rules).fact rules read_rules)

-- a rule is read from each head
pub read_rules : (version : Version) (classes : List ClassDef) (heads : List RuleHead) (rules : List Rule) (path : Path)
    → rules_at version (script_scope classes heads) path heads ≡ Ok rules → length rules ≡ length heads
read_rules version classes heads rules path read = ((rules_read version classes heads path).fact rules read).as_many

-- a body that was read in the scope of a library
pub read_body : (version : Version) (library : Library) (heads : List RuleHead) (path : Path) (d : Data) (ss : List Statement)
    → length library.rules ≡ length heads → statements_at (script_scope library.classes heads) (in_script version) path d ≡ Ok ss → script_body_check library [] (body_of ss) ≡ Ok tt
read_body version library heads path d ss as_many read = (body_passes version library (script_scope library.classes heads) (its_scope library heads as_many) path d).fact ss read []

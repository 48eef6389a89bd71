-- What the program that checks rule bases writes about a script, without running it.
use Rattle.std.specs.Prelude.{ℕ, suc, Bool, true, false, ◌&&◌, List, [], ◌∷◌, ◌++◌, Option, Some, None, is_none, if◌then◌else◌, codes, decimal, flat_map}
use Rattle.std.specs.List.{slice_index_or, list_all}
use Rattle.hp_model.specs.Values.{Kind, integer_kind, boolean_kind, text_kind}
use Rattle.hp_model.specs.Kinds.{Sort, only, any, Declared}
use Rattle.hp_model.specs.Rules.{Rule, no_rule, Library}
use Rattle.hp_model.specs.Cascade.{Script}
use Rattle.hp_model.specs.Report.{Bytes, words, line}
use Rattle.hp_model.specs.Refusals.{Path, to_member, to_item}
use Rattle.hp_model.specs.Output.{path_text}
use Rattle.hp_analysis.specs.Depths.{library_depth, script_depth}
use Rattle.hp_analysis.specs.Findings.{Wanted, of_kind, of_known_kind, of_ordered_kind, Reason, unsuited, no_occurrence, no_such_part, other_form, no_such_field, no_such_argument}
use Rattle.hp_analysis.specs.Findings.{too_few_arguments, unset_field, unknown_name, not_fired, finds_nothing}
use Rattle.hp_analysis.specs.KindFindings.{KindFinding, kind_findings}
use Rattle.hp_analysis.specs.Guards.{Opening, by_condition, by_action, opening}
use Rattle.hp_analysis.specs.Installed.{installed, with_installed}
use Rattle.hp_analysis.specs.Links.{Link, rule_link}
use Rattle.hp_analysis.specs.Outside.{raised}
use Rattle.hp_analysis.specs.Reached.{has, reached}
use Rattle.hp_analysis.specs.Witness.{library_chain, script_chain}

-- ---- verdicts

abbrev pub kinds_line : (pass : Bool) → Bytes
kinds_line true = line 0 (codes "kinds" ∷ codes "ok" ∷ [])
kinds_line false = line 0 (codes "kinds" ∷ codes "unknown" ∷ [])

-- for whatever transactions come, or else for the script's own, or else none
abbrev pub depth_line : (limit : ℕ) → (any own : Option ℕ) → Bytes
depth_line limit (Some k) own = line 0 (codes "depth" ∷ decimal k ∷ codes "of" ∷ decimal limit ∷ [])
depth_line limit None (Some k) = line 0 (codes "depth" ∷ decimal k ∷ codes "of" ∷ decimal limit ∷ codes "here" ∷ [])
depth_line limit None None = line 0 (codes "depth" ∷ codes "unknown" ∷ [])

abbrev pub guards_line : (closed : Bool) → Bytes
guards_line true = line 0 (codes "guards" ∷ codes "closed" ∷ [])
guards_line false = line 0 (codes "guards" ∷ codes "unknown" ∷ [])

-- ---- findings of kinds

abbrev pub kind_word : Kind → Bytes
kind_word integer_kind = codes "int"
kind_word boolean_kind = codes "bool"
kind_word text_kind = codes "text"

abbrev pub sort_word : Sort → Bytes
sort_word (only k) = kind_word k
sort_word any = codes "any"

abbrev pub wanted_word : Wanted → Bytes
wanted_word (of_kind k) = kind_word k
wanted_word of_known_kind = codes "known"
wanted_word of_ordered_kind = codes "ordered"

abbrev pub reason_text : Reason → Bytes
reason_text (unsuited wanted given) = words (codes "wanted" ∷ wanted_word wanted ∷ codes "given" ∷ sort_word given ∷ [])
reason_text no_occurrence = codes "no_occurrence"
reason_text no_such_part = codes "no_such_part"
reason_text other_form = codes "other_form"
reason_text no_such_field = codes "no_such_field"
reason_text no_such_argument = codes "no_such_argument"
reason_text too_few_arguments = codes "too_few_arguments"
reason_text unset_field = codes "unset_field"
reason_text unknown_name = codes "unknown_name"
reason_text not_fired = codes "not_fired"

-- ---- places

-- how a place is written: one at a path of the script, and one at a path in the body of the unit of this number
pub record Shown : Type 0 where
  pub at : Path → Bytes
  pub in_unit : ℕ → Path → Bytes

-- as paths
abbrev pub as_paths : Shown
as_paths = record { at = path_text; in_unit = λ n path. path_text path }

-- the place is one in the script, or in the body of the unit of this number
abbrev pub shown_words : Shown → (unit : Option ℕ) → Path → List Bytes
shown_words shown None path = shown.at path ∷ []
shown_words shown (Some n) path = codes "unit" ∷ decimal n ∷ shown.in_unit n path ∷ []

abbrev pub place_words : (unit : Option ℕ) → Path → List Bytes
place_words unit path = shown_words as_paths unit path

-- ---- lines of kinds

abbrev pub found_line : Shown → KindFinding → Bytes
found_line shown f = line 0 (codes "kind" ∷ (shown_words shown f.unit f.finding.path ++ reason_text f.finding.reason ∷ []))

abbrev pub kind_lines : Shown → List KindFinding → Bytes
kind_lines shown fs = flat_map (found_line shown) fs

-- ---- chains

-- a rule by its place in the script and its name
abbrev pub rule_words : Shown → ℕ → Rule → List Bytes
rule_words shown n rule = shown.at (to_member (codes "rules") ∷ to_item n ∷ []) ∷ rule.name ∷ []

-- the rules of a chain of more firings than may nest
abbrev pub link_line : Shown → List Rule → ℕ → Bytes
link_line shown rules n = line 0 (codes "chain" ∷ rule_words shown n (slice_index_or rules n no_rule))

-- what links it to the next one
abbrev pub by_line : Shown → Option Link → Bytes
by_line shown None = []
by_line shown (Some l) = line 0 (codes "by" ∷ shown.at l.by ∷ shown.at l.event ∷ [])

abbrev pub next_line : Shown → Library → ℕ → List ℕ → Bytes
next_line shown library n [] = []
next_line shown library n (m ∷ ms) = by_line shown (rule_link library n m)

-- the rules of a chain, each with what links it to the next one in a library
abbrev pub chain_lines : Shown → List Rule → Library → List ℕ → Bytes
chain_lines shown rules library [] = []
chain_lines shown rules library (n ∷ ns) = link_line shown rules n ++ (next_line shown library n ns ++ chain_lines shown rules library ns)

-- a chain that the script's units begin, among the rules that it may install, if there may be one; else one of any rules
abbrev pub chain_text : Shown → Script → (own : Option ℕ) → Bytes
chain_text shown script None = let known = with_installed script in chain_lines shown script.library.rules known.library (script_chain known.library known.units)
chain_text shown script (Some k) = chain_lines shown script.library.rules script.library (library_chain script.library)

-- ---- guards

-- the part of a rule that may fail: the condition or the action, by its place in the rule
abbrev pub part_of : Opening → ℕ
part_of by_condition = 3
part_of by_action = 5

abbrev pub opening_line : Shown → ℕ → Rule → Option Opening → Bytes
opening_line shown n rule None = []
opening_line shown n rule (Some o) = line 0 (codes "open" ∷ shown.at (to_member (codes "rules") ∷ to_item n ∷ to_item (part_of o) ∷ []) ∷ rule.name ∷ [])

-- a line for each guard with an opening, from the n-th rule on
abbrev pub opening_lines : Shown → ℕ → List Rule → Bytes
opening_lines shown n [] = []
opening_lines shown n (rule ∷ rules) = opening_line shown n rule (opening rule) ++ opening_lines shown (suc n) rules

abbrev pub have_no_opening : List Rule → Bool
have_no_opening rules = list_all (λ r. is_none (opening r)) rules

-- ---- rules that do nothing

-- a line for a rule that is never installed, or that is never reached
abbrev pub idle_line : Shown → (present reached : List Bool) → ℕ → Rule → Bytes
idle_line shown present reached n rule =
    if has present n then (if has reached n then [] else line 0 (codes "never" ∷ rule_words shown n rule)) else line 0 (codes "uninstalled" ∷ rule_words shown n rule)

-- the same for the rules from the n-th on
abbrev pub idle_lines : Shown → (present reached : List Bool) → ℕ → List Rule → Bytes
idle_lines shown present reached n [] = []
idle_lines shown present reached n (rule ∷ rules) = idle_line shown present reached n rule ++ idle_lines shown present reached (suc n) rules

-- ---- the whole text

-- the verdicts on a library, where all uses of values pass or don't, and the script's own chains have this depth
abbrev pub verdicts_of : Library → (pass : Bool) → (own : Option ℕ) → Bytes
verdicts_of library pass own =
    kinds_line pass ++ (depth_line library.depth_limit (library_depth library) own ++ guards_line (pass && have_no_opening library.rules))

-- a line for each finding; `reached` has the rules that firings can reach
abbrev pub lines_text : Shown → (reached : List Bool) → Script → List KindFinding → Bytes
lines_text shown reached script all =
    let rules = script.library.rules in
    kind_lines shown all
    ++ (chain_text shown script (script_depth (with_installed script))
    ++ (opening_lines shown 0 rules ++ idle_lines shown (installed script.library script.units) reached 0 rules))

-- by what is declared of signals and of the rules that statements may fire
abbrev pub findings_by : Shown → (reached : List Bool) → Script → Declared → Bytes
findings_by shown reached script d =
    let all = kind_findings script.library d script.units in
    verdicts_of script.library (finds_nothing all) (script_depth (with_installed script)) ++ lines_text shown reached script all

-- from what the script's own units trigger, and from what the signals that are given do
abbrev pub reached_given : (given : Declared) → Script → List Bool
reached_given given script = reached (with_installed script).library (script.units ++ raised given)

abbrev pub findings_text : Shown → (given : Declared) → Script → Declared → Bytes
findings_text shown given script d = findings_by shown (reached_given given script) script d

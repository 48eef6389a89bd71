-- What the index lists is what the definitions trigger.
use Rattle.std.proofs.Common.{arith, ◌≡◌, refl, sym, ap, ap₂, ◌∙◌, ℕ, suc, pos, List, [], ◌∷◌, ◌++◌, length, Bool, true, false}
use Rattle.std.specs.Prelude.{◌||◌, if◌then◌else◌, slice_set}
use Rattle.hp_model.specs.Values.{Name}
use Rattle.hp_model.specs.Kinds.{Sort}
use Rattle.hp_model.specs.Occurrences.{Primitive, created, updated, deleted, signalled, commit_reached}
use Rattle.hp_model.specs.Events.{Event, pattern_event, or_event, seq_event, closure_event, Pattern, on_create, on_update, on_delete, on_signal, on_commit, at_moment, every_moment, matches}
use Rattle.hp_model.specs.Rules.{Statement, create, update, delete, signal, emit, when, each, for_answer, with_object, subtransaction, let_value, abort, veto, veto_with, on_rule}
use Rattle.hp_model.specs.Rules.{fire, Body, ◌then◌, Rule, Library}
use Rattle.hp_model.specs.Chains.{completes, triggers_from, signal_triggers, statement_triggers, body_triggers, may_detach, rule_triggers, unit_triggers}
use Rattle.hp_model.specs.Cascade.{Unit, transaction, moment}
use Rattle.hp_rule.specs.Index.{numbers_from}
use Rattle.hp_rule.specs.RuleLists.{listed}
use Rattle.hp_rule.specs.declared.rule_lists.RuleLists.{RuleLists}
use Rattle.hp_analysis.specs.Listeners.{listed_by, pattern_ends, may_end, ending, is_plain}
use Rattle.hp_analysis.specs.Sets.{marked, begun, begun_by}
use Rattle.hp_analysis.specs.Outside.{signals_in, raised_by}

-- ---- sets

pub marked_append : (a b : List ℕ) (set : List Bool) → marked (a ++ b) set ≡ marked b (marked a set)
marked_append [] b set = refl
marked_append (n ∷ a) b set = marked_append a b (slice_set set n true)

-- ---- the index

-- an occurrence that no pattern of moments matches
record IsNoMoment (p : Primitive) : Type 0 where
  pub at : (t : ℕ) → matches (at_moment t) p ≡ false
  pub every : (first period : ℕ) → matches (every_moment first period) p ≡ false

pattern_same : (p : Primitive) → IsNoMoment p → (pattern : Pattern) → pattern_ends pattern p ≡ matches pattern p
pattern_same p none (on_create c) = refl
pattern_same p none (on_update c) = refl
pattern_same p none (on_delete c) = refl
pattern_same p none (on_signal s) = refl
pattern_same p none on_commit = refl
pattern_same p none (at_moment t) = sym (none.at t)
pattern_same p none (every_moment first period) = sym (none.every first period)

event_same : (p : Primitive) → IsNoMoment p → (e : Event) → may_end e p ≡ completes e p
event_same p none (pattern_event pattern) = pattern_same p none pattern
event_same p none (or_event a b) = ap₂ (λ x y. x || y) (event_same p none a) (event_same p none b)
event_same p none (seq_event a b) = event_same p none b
event_same p none (closure_event a t) = event_same p none t

numbers_same : (p : Primitive) → IsNoMoment p → (n : ℕ) (rules : List Rule) → numbers_from (λ e. may_end e p) n rules ≡ triggers_from n rules p
numbers_same p none n [] = refl
numbers_same p none n (rule ∷ rules) = ap₂ (λ b ns. if b then n ∷ ns else ns) (event_same p none rule.event) (numbers_same p none (suc n) rules)

-- an index of these rules
abbrev pub IsIndexOf : RuleLists → Library → Type 0
IsIndexOf l library = (p : Primitive) → listed l p ≡ ending library.rules p

listed_same : (l : RuleLists) (library : Library) → IsIndexOf l library → (p : Primitive) → IsNoMoment p → listed l p ≡ signal_triggers library p
listed_same l library is p none = is p ∙ numbers_same p none 0 library.rules

pub commit_listed : (l : RuleLists) (library : Library) → IsIndexOf l library → listed l commit_reached ≡ signal_triggers library commit_reached
commit_listed l library is = listed_same l library is commit_reached (record { at = λ t. refl; every = λ f p. refl })

pub signal_listed : (l : RuleLists) (library : Library) → IsIndexOf l library → (name : Name) → listed l (signalled name []) ≡ signal_triggers library (signalled name [])
signal_listed l library is name = listed_same l library is (signalled name []) (record { at = λ t. refl; every = λ f p. refl })

-- a statement without statements in it
pub own_listed : (l : RuleLists) (library : Library) → IsIndexOf l library → (s : Statement) → is_plain s ≡ true → listed_by l s ≡ statement_triggers library s
own_listed l library is (create class key assignments) plain = listed_same l library is (created class (pos 0) []) (record { at = λ t. refl; every = λ f p. refl })
own_listed l library is (update class key assignments) plain = listed_same l library is (updated class (pos 0) [] []) (record { at = λ t. refl; every = λ f p. refl })
own_listed l library is (delete class key) plain = listed_same l library is (deleted class (pos 0) []) (record { at = λ t. refl; every = λ f p. refl })
own_listed l library is (signal name arguments) plain = listed_same l library is (signalled name []) (record { at = λ t. refl; every = λ f p. refl })
own_listed l library is (emit e) plain = refl
own_listed l library is abort plain = refl
own_listed l library is veto plain = refl
own_listed l library is (veto_with e) plain = refl
own_listed l library is (on_rule op n) plain = refl
own_listed l library is (when e then_body else_body) plain = cc
own_listed l library is (each x class predicate body) plain = cc
own_listed l library is (for_answer x body) plain = cc
own_listed l library is (with_object x class key body) plain = cc
own_listed l library is (subtransaction body otherwise) plain = cc
own_listed l library is (let_value x a body) plain = cc
own_listed l library is (fire n) plain = cc

-- ---- statements, rules and moments

pub body_marked : (library : Library) (s : Statement) (rest : Body) (set : List Bool)
    → marked (body_triggers library (s then rest)) set ≡ marked (body_triggers library rest) (marked (statement_triggers library s) set)
body_marked library s rest set = marked_append (statement_triggers library s) (body_triggers library rest) set

-- one more rule of a moment's
pub moment_marked : (b : Bool) (n : ℕ) (ns : List ℕ) (set : List Bool) → marked (if b then n ∷ ns else ns) set ≡ marked ns (if b then slice_set set n true else set)
moment_marked true n ns set = refl
moment_marked false n ns set = refl

-- ---- with the commit event

pub rule_split : (library : Library) (rule : Rule) → may_detach rule ≡ true → (body_triggers library rule.action ++ signal_triggers library commit_reached) ≡ rule_triggers library rule
rule_split library rule e = ap (λ b. body_triggers library rule.action ++ (if b then signal_triggers library commit_reached else [])) (sym e)

pub unit_split : (library : Library) (u : Unit) → (begun_by library u ++ signal_triggers library commit_reached) ≡ unit_triggers library u
unit_split library (transaction now body) = refl
unit_split library (moment t) = refl

-- first some rules, and then others
pub marked_twice : (a b ns : List ℕ) (set one two : List Bool) → one ≡ marked a set → two ≡ marked b one → (a ++ b) ≡ ns → two ≡ marked ns set
marked_twice a b ns set one two is_one is_two same = is_two ∙ ap (marked b) is_one ∙ sym (marked_append a b set) ∙ ap (λ ms. marked ms set) same

-- a transaction that signals these, if there are any
pub none_raised : (library : Library) (ss : List (Name × List Sort)) (set : List Bool) → length ss ≡ 0 → set ≡ begun library (raised_by ss) set
none_raised library [] set none = refl
none_raised library (s ∷ ss) set none = absurd (omega (arith, none))

pub raised_marked : (library : Library) (ss : List (Name × List Sort)) (set one two : List Bool) → (ss ≡ [] → ⊥) → one ≡ marked (body_triggers library (signals_in ss)) set
    → two ≡ marked (signal_triggers library commit_reached) one → two ≡ begun library (raised_by ss) set
raised_marked library [] set one two some is_one is_two = absurd (some refl)
raised_marked library (s ∷ ss) set one two some is_one is_two =
    marked_twice (body_triggers library (signals_in (s ∷ ss))) (signal_triggers library commit_reached) (unit_triggers library (transaction 0 (signals_in (s ∷ ss)))) set one two is_one is_two refl

-- Which rules the index lists for a primitive occurrence: those whose event may end with it.
use Rattle.std.specs.Prelude.{ℕ, Bool, true, false, ◌||◌, List, [], pos}
use Rattle.hp_model.specs.Occurrences.{Primitive, created, updated, deleted, signalled}
use Rattle.hp_model.specs.Events.{Pattern, at_moment, every_moment, matches, Event, pattern_event, or_event, seq_event, closure_event}
use Rattle.hp_model.specs.Rules.{Statement, create, update, delete, signal, when, each, for_answer, with_object, subtransaction, let_value, fire, Rule}
use Rattle.hp_rule.specs.Index.{numbers_from}
use Rattle.hp_rule.specs.RuleLists.{listed}
use Rattle.hp_rule.specs.declared.rule_lists.RuleLists.{RuleLists}

-- for what a statement signals itself
abbrev pub listed_by : RuleLists → Statement → List ℕ
listed_by l (create class key assignments) = listed l (created class (pos 0) [])
listed_by l (update class key assignments) = listed l (updated class (pos 0) [] [])
listed_by l (delete class key) = listed l (deleted class (pos 0) [])
listed_by l (signal name arguments) = listed l (signalled name [])
listed_by l s = []

-- whether the pattern matches something that isn't a moment
abbrev pub pattern_ends : Pattern → Primitive → Bool
pattern_ends (at_moment t) p = false
pattern_ends (every_moment first period) p = false
pattern_ends pattern p = matches pattern p

abbrev pub may_end : Event → Primitive → Bool
may_end (pattern_event pattern) p = pattern_ends pattern p
may_end (or_event a b) p = may_end a p || may_end b p
may_end (seq_event a b) p = may_end b p
may_end (closure_event a t) p = may_end t p

-- the numbers of the rules whose event may end with it, in rule order
abbrev pub ending : List Rule → Primitive → List ℕ
ending rules p = numbers_from (λ event. may_end event p) 0 rules

-- the statement has no statement in it, and fires no rule
abbrev pub is_plain : Statement → Bool
is_plain (when e then_body else_body) = false
is_plain (each x class predicate body) = false
is_plain (for_answer x body) = false
is_plain (with_object x class key body) = false
is_plain (subtransaction body otherwise) = false
is_plain (let_value x a body) = false
is_plain (fire n) = false
is_plain s = true

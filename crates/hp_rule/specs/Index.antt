-- Which rules the index of a library lists for a primitive occurrence.
use Rattle.std.specs.Prelude.{ℕ, suc, Bool, true, ◌||◌, List, [], ◌∷◌, if◌then◌else◌}
use Rattle.hp_model.specs.Occurrences.{Primitive, moment_reached}
use Rattle.hp_model.specs.Events.{Pattern, at_moment, every_moment, matches, Event, pattern_event, or_event, seq_event, closure_event}
use Rattle.hp_model.specs.Rules.{Rule}
use Rattle.hp_rule.specs.Noted.{noted_if}

-- whether the pattern may match: any pattern of moments may match at any moment
abbrev pub may_match : Pattern → Primitive → Bool
may_match (at_moment t) (moment_reached u) = true
may_match (every_moment first period) (moment_reached t) = true
may_match pattern p = matches pattern p

-- whether a pattern of the event may match
abbrev pub may_mention : Event → Primitive → Bool
may_mention (pattern_event pattern) p = may_match pattern p
may_mention (or_event a b) p = may_mention a p || may_mention b p
may_mention (seq_event a b) p = may_mention a p || may_mention b p
may_mention (closure_event a t) p = may_mention a p || may_mention t p

-- the numbers of the rules with such an event; the first rule of the list is the n-th
abbrev pub numbers_from : (Event → Bool) → ℕ → List Rule → List ℕ
numbers_from test n [] = []
numbers_from test n (rule ∷ rules) = if test rule.event then n ∷ numbers_from test (suc n) rules else numbers_from test (suc n) rules

-- the numbers of the rules that may mention the occurrence, in rule order
abbrev pub candidates : List Rule → Primitive → List ℕ
candidates rules p = numbers_from (λ event. may_mention event p) 0 rules

-- the list after the rules from the n-th on are added
abbrev pub noted_from : (Event → Bool) → ℕ → List ℕ → List Rule → List ℕ
noted_from test n ns [] = ns
noted_from test n ns (rule ∷ rules) = noted_from test (suc n) (noted_if (test rule.event) n ns) rules

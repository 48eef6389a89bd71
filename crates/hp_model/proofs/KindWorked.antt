-- Worked rows of the kinds: what is kinded, and what isn't.
use Rattle.std.proofs.Common.{◌≡◌, refl, [], ◌∷◌, codes, true, false}
use Rattle.hp_model.specs.Values.{integer_kind, text_kind, boolean, text}
use Rattle.hp_model.specs.Expressions.{Expression, constant, arithmetic, plus, times, quotient, remainder, negated, compared, less, field_of, key_of, new_field, old_field, key_in}
use Rattle.hp_model.specs.Expressions.{argument, occurrence_count, value_named}
use Rattle.hp_model.specs.Events.{Event, pattern_event, on_create, on_update, on_delete, on_signal, or_event, seq_event}
use Rattle.hp_model.specs.Rules.{Query, Aggregate, count_over, sum_over, greatest_over, single, query_entry, no_entry, let_entry, immediate, emit, signal, empty, ◌then◌, Library}
use Rattle.hp_model.specs.Cascade.{transaction}
use Rattle.hp_model.specs.Kinds.{only, Declared, library_kinded, unit_kinded, is_calm, is_condition_calm}
use Rattle.hp_model.proofs.Scripts.{number, acct_class, bal, rule, on_go, script}
use Rattle.hp_model.proofs.Rows.{thinnest_script}

abbrev none : Declared
none = record { signatures = []; fired = [] }

abbrev pays : Declared
pays = record { signatures = (codes "paid", only integer_kind ∷ only text_kind ∷ []) ∷ []; fired = [] }

-- one rule on an event, which emits a value
abbrev emits_on : Event → Expression → Library
emits_on e x = (script (acct_class ∷ []) 8 (rule (codes "r") e immediate [] immediate (emit x then empty) ∷ []) []).library

pub thinnest_kinded : library_kinded thinnest_script.library none ≡ true
thinnest_kinded = refl

-- `new` in a rule on a deletion
pub new_of_a_deletion : library_kinded (emits_on (pattern_event (on_delete 0)) (new_field 0 bal)) none ≡ false
new_of_a_deletion = refl

pub old_of_a_deletion : library_kinded (emits_on (pattern_event (on_delete 0)) (old_field 0 bal)) none ≡ true
old_of_a_deletion = refl

-- the key is known in each of the two, the old balance is not
pub key_of_either : library_kinded (emits_on (or_event (pattern_event (on_create 0)) (pattern_event (on_update 0))) (key_in 0)) none ≡ true
key_of_either = refl

pub old_of_either : library_kinded (emits_on (or_event (pattern_event (on_create 0)) (pattern_event (on_update 0))) (old_field 0 bal)) none ≡ false
old_of_either = refl

-- the second part of a sequence, and a third one
pub second_part : library_kinded (emits_on (seq_event (pattern_event (on_signal (codes "paid"))) (pattern_event (on_update 0))) (arithmetic plus (argument 0 0) (old_field 1 bal))) pays ≡ true
second_part = refl

pub third_part : library_kinded (emits_on (seq_event (pattern_event (on_signal (codes "paid"))) (pattern_event (on_update 0))) (key_in 2)) pays ≡ false
third_part = refl

-- a text is no number, and this signal has no third argument
pub text_plus_one : library_kinded (emits_on (pattern_event (on_signal (codes "paid"))) (arithmetic plus (argument 0 1) (number 1))) pays ≡ false
text_plus_one = refl

pub third_argument : library_kinded (emits_on (pattern_event (on_signal (codes "paid"))) (argument 0 2)) pays ≡ false
third_argument = refl

-- transactions that signal it
pub one_argument : unit_kinded thinnest_script.library pays (transaction 0 (signal (codes "paid") (number 1 ∷ []) then empty)) ≡ false
one_argument = refl

pub three_arguments : unit_kinded thinnest_script.library pays (transaction 0 (signal (codes "paid") (number 1 ∷ constant (text (codes "cash")) ∷ number 2 ∷ []) then empty)) ≡ true
three_arguments = refl

-- a rule that is fired may use the count, and no part
pub fired_count : library_kinded (emits_on (pattern_event (on_update 0)) occurrence_count) (record { signatures = []; fired = 0 ∷ [] }) ≡ true
fired_count = refl

pub fired_part : library_kinded (emits_on (pattern_event (on_update 0)) (key_in 0)) (record { signatures = []; fired = 0 ∷ [] }) ≡ false
fired_part = refl

-- a guard that compares is calm; one that computes isn't
abbrev solvent : Query
solvent = record { name = codes "a"; class = 0; predicate = compared less (field_of (codes "a") bal) (number 0) }

abbrev credit : Query
credit = record { name = codes "a"; class = 0; predicate = compared less (number 100) (arithmetic plus (field_of (codes "a") bal) (new_field 0 bal)) }

pub solvent_calm : is_condition_calm (query_entry solvent ∷ []) ≡ true
solvent_calm = refl

pub credit_faults : is_condition_calm (query_entry credit ∷ []) ≡ false
credit_faults = refl

-- the sum, and the greatest balance, named by a `let` of the condition
abbrev named : Aggregate → Expression → Library
named a x = (script (acct_class ∷ []) 8 (rule (codes "r") on_go immediate (let_entry (codes "v") a ∷ []) immediate (emit x then empty) ∷ []) []).library

abbrev all_balances : Aggregate
all_balances = sum_over (codes "s") 0 (constant (boolean true)) (field_of (codes "s") bal)

pub sum_plus_one : library_kinded (named all_balances (arithmetic plus (value_named (codes "v")) (number 1))) none ≡ true
sum_plus_one = refl

pub sum_of_texts : library_kinded (named (sum_over (codes "s") 0 (constant (boolean true)) (constant (text []))) (number 1)) none ≡ false
sum_of_texts = refl

pub greatest_of_booleans : library_kinded (named (greatest_over (codes "s") 0 (constant (boolean true)) (compared less (field_of (codes "s") bal) (number 0))) (number 1)) none ≡ false
greatest_of_booleans = refl

pub text_by_let : library_kinded (named (single (constant (text []))) (arithmetic plus (value_named (codes "v")) (number 1))) none ≡ false
text_by_let = refl

-- the variable of an aggregate is known in it alone
pub variable_afterwards : library_kinded (named all_balances (key_of (codes "s"))) none ≡ false
variable_afterwards = refl

-- a count never faults, and a sum may
pub count_calm : is_condition_calm (no_entry solvent ∷ let_entry (codes "n") (count_over (codes "s") 0 (constant (boolean true))) ∷ []) ≡ true
count_calm = refl

pub sum_faults : is_condition_calm (let_entry (codes "t") all_balances ∷ []) ≡ false
sum_faults = refl

-- by its constants: half of a balance, the sum of small remainders, a product of small constants
abbrev balance : Expression
balance = field_of (codes "s") bal

abbrev digit : Expression
digit = arithmetic remainder balance (number 10)

pub half_calm : is_calm (arithmetic quotient balance (number 2)) ≡ true
half_calm = refl

-- a key has 64 bits, as a field has
pub key_calm : is_calm (arithmetic remainder (key_of (codes "s")) (number 2)) ≡ true
key_calm = refl

pub digits_calm : is_calm (arithmetic plus digit (arithmetic times digit (number 3))) ≡ true
digits_calm = refl

pub balance_plus_one : is_calm (arithmetic plus balance (number 1)) ≡ false
balance_plus_one = refl

-- the least integer of 64 bits, divided by 1 or -1
pub by_minus_one : is_calm (arithmetic quotient balance (negated (number 1))) ≡ false
by_minus_one = refl

pub by_zero : is_calm (arithmetic remainder (number 1) (number 0)) ≡ false
by_zero = refl

pub by_another : is_calm (arithmetic quotient (number 1) balance) ≡ false
by_another = refl

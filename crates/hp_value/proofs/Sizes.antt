-- How large expressions are.
use Rattle.std.proofs.Common.{ℕ, suc, ◌+◌}
use Rattle.hp_model.specs.Expressions.{Expression, constant, arithmetic, negated, inverted, both, either, compared, field_of, key_of, new_field, old_field, key_in, argument}
use Rattle.hp_model.specs.Expressions.{time_of, occurrence_count, value_named, time_now}

-- the number of operators in an expression
abbrev pub operators : Expression → ℕ
operators (constant v) = 0
operators (arithmetic op a b) = suc (operators a + operators b)
operators (negated a) = suc (operators a)
operators (inverted a) = suc (operators a)
operators (both a b) = suc (operators a + operators b)
operators (either a b) = suc (operators a + operators b)
operators (compared op a b) = suc (operators a + operators b)
operators (field_of x f) = 0
operators (key_of x) = 0
operators (new_field i f) = 0
operators (old_field i f) = 0
operators (key_in i) = 0
operators (argument i j) = 0
operators (time_of i) = 0
operators occurrence_count = 0
operators (value_named x) = 0
operators time_now = 0

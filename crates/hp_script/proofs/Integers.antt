-- An integer is read as a constant.
use Rattle.std.proofs.Common.{arith, ◌≡◌, ◌<◌, ℕ, zero, suc, ℤ, Option, Some, Ok, ap}
use Rattle.std.specs.Prelude.{option_and_then}
use Rattle.std.proofs.lemmas.Option.{none-some}
use Rattle.serde_json.specs.Data.{Data, null, boolean, number, string, array, object}
use Rattle.serde_json.specs.Find.{as_number, as_i64}
use Rattle.hp_model.specs.Values.{integer, ◌>>=◌}
use Rattle.hp_model.specs.Expressions.{constant}
use Rattle.hp_model.specs.Refusals.{Path, whole}
use Rattle.hp_model.specs.Scopes.{Setting}
use Rattle.hp_model.specs.ExpressionGrammar.{number_form, expression_from, expression_within}

pub integer_read : (levels : ℕ) (d : Data) (z : ℤ) → 0 < levels → option_and_then as_i64 (as_number d) ≡ Some z
    → (setting : Setting) (path : Path) → expression_within setting levels path d ≡ Ok (constant (integer z))
unfolding expression_within
integer_read zero d z some h setting path = absurd (omega (arith, some))
integer_read (suc levels) (number n) z some h setting path =
    ap (λ (found : Option ℤ). (whole path found >>= λ i. Ok (number_form i)) >>= λ form. expression_from setting (expression_within setting levels) path form) h
integer_read (suc levels) null z some h setting path = absurd (none-some z h)
integer_read (suc levels) (boolean b) z some h setting path = absurd (none-some z h)
integer_read (suc levels) (string s) z some h setting path = absurd (none-some z h)
integer_read (suc levels) (array ds) z some h setting path = absurd (none-some z h)
integer_read (suc levels) (object ms) z some h setting path = absurd (none-some z h)

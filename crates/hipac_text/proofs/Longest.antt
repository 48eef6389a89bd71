-- Reading one byte more than the longest script is enough.
use Rattle.std.proofs.Common.{◌≡◌, ℕ, ◌<◌, ◌≤◌, List, length, take, cond, inl, inr, sym, ap, ◌∙◌, arith}
use Rattle.std.proofs.lemmas.Bool.{cases_lt, lt-ltb}
use Rattle.std.proofs.lemmas.List.{take_all, length-take-le}
use Rattle.hp_model.specs.Report.{Bytes}
use Rattle.hp_model.specs.Refusals.{over_limit, size_limit}
use Rattle.hp_model.specs.Output.{refusal_text}
use Rattle.hp_report.specs.declared.status.Status.TheVariants.{Refused}
use Rattle.hipac_text.specs.declared.words.Task.{Task}
use Rattle.hipac_text.specs.Ends.{has_answer, status_if, status_of}
use Rattle.hipac_text.specs.Outputs.{answer, output}

abbrev refused_size : Bytes
refused_size = refusal_text (over_limit size_limit)

too_long : (task : Task) (bytes : List ℕ) → 1048576 < length bytes → output task bytes ≡ refused_size
too_long task bytes h = ap (λ b. cond b refused_size (answer task bytes)) (lt-ltb _ _ h)

too_long_refused : (task : Task) (bytes : List ℕ) → 1048576 < length bytes → status_of task bytes ≡ Refused
too_long_refused task bytes h = ap (λ b. cond b Refused (status_if (has_answer task bytes))) (lt-ltb _ _ h)

-- what has one value for all long inputs has the same value for an input and for the part of it that is read
cut : {A : Type 0} (f : List ℕ → A) (most : ℕ) (r : A) (input : List ℕ)
    → ((bytes : List ℕ) → most ≤ length bytes → f bytes ≡ r) → f (take most input) ≡ f input
cut f most r input long =
    elim (cases_lt (length input) most) [
      | inl lt ↦ ap f (take_all most input (omega arith))
      | inr le ↦ long (take most input) (omega (arith, length-take-le most input le)) ∙ sym (long input le)
    ]

pub output_of_take : (task : Task) (input : List ℕ) → output task (take 1048577 input) ≡ output task input
output_of_take task input =
    cut (output task) 1048577 refused_size input (λ bytes h. too_long task bytes (omega arith))

pub status_of_take : (task : Task) (input : List ℕ) → status_of task (take 1048577 input) ≡ status_of task input
status_of_take task input =
    cut (status_of task) 1048577 Refused input (λ bytes h. too_long_refused task bytes (omega arith))

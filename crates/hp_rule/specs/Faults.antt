-- Faults of checks in the model, and the results of checks.
use Rattle.std.specs.Prelude.{◌≡◌, ⊤, Result, Ok, Err}
use Rattle.hp_model.specs.Refusals as M
use Rattle.hp_model.specs.Refusals.{Refusal, wrong_shape, bad_name, over_limit, Decoded}
use Rattle.hp_rule.specs.Places.{path}
use Rattle.hp_rule.specs.declared.fault.Limit.{Limit}
use Rattle.hp_rule.specs.declared.fault.Limit.TheVariants as limits
use Rattle.hp_rule.specs.declared.fault.CheckFault.{CheckFault}
use Rattle.hp_rule.specs.declared.fault.CheckFault.TheVariants as faults
use Rattle.hp_rule.specs.declared.fault.CheckError.{CheckError}
use Rattle.hp_rule.specs.declared.fault.CheckError.TheVariants.{Fault, Memory}

abbrev pub limit : Limit → M.Limit
limit limits.Size = M.size_limit
limit limits.Classes = M.classes_limit
limit limits.Fields = M.fields_limit
limit limits.Rules = M.rules_limit
limit limits.Expression = M.expression_limit
limit limits.Event = M.event_limit
limit limits.Nesting = M.nesting_limit
limit limits.Text = M.text_limit
limit limits.Depth = M.depth_limit_word
limit limits.Arguments = M.arguments_limit
limit limits.Moments = M.moments_limit

abbrev pub fault : CheckFault → Refusal
fault (faults.Shape p) = wrong_shape (path p.items)
fault (faults.Name p) = bad_name (path p.items)
fault (faults.Limit l) = over_limit (limit l)

-- the error is this fault, unless memory ran out
abbrev pub IsFault : CheckError → Refusal → Type 0
IsFault Memory r = ⊤
IsFault (Fault f) r = fault f ≡ r

abbrev pub Fails : {Y : Type 0} → CheckError → Decoded Y → Type 0
Fails Memory check = ⊤
Fails (Fault f) check = check ≡ Err (fault f)

-- the result, with its value mapped by f, is the check's, unless memory ran out
abbrev pub Gives : {X Y : Type 0} → (X → Y) → Result X CheckError → Decoded Y → Type 0
Gives f (Ok x) check = check ≡ Ok (f x)
Gives f (Err e) check = Fails e check

-- it passes exactly if the check does, and otherwise has the check's fault
abbrev pub Passes : Result ⊤ CheckError → Decoded ⊤ → Type 0
Passes done check = Gives (λ u. u) done check

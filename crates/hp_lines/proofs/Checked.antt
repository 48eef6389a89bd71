-- What a checked rule base takes, it could take unchecked.
use Rattle.std.proofs.Common.{◌≡◌, refl, ap, subst, Option, None, Some, Result, Ok, Err}
use Rattle.hp_model.specs.Kinds.{Declared}
use Rattle.hp_model.specs.Report.{Bytes}
use Rattle.hp_lines.specs.Checked.{unless, passed, checked_by}

unless_none : {A : Type 0} (fault : Option Bytes) (x y : A) → unless fault x ≡ Ok y → (fault ≡ None) × (x ≡ y)
unless_none None x y h = (refl, let same : x ≡ y = cc in same)
unless_none (Some refusal) x y h = cc

-- what passed is what was read, and has no fault
pub record Passed {A : Type 0} (fault : A → Option Bytes) (read : Result A Bytes) (x : A) : Type 0 where
  pub read_is : read ≡ Ok x
  pub none : fault x ≡ None

pub passed_read : {A : Type 0} (fault : A → Option Bytes) (read : Result A Bytes) (x : A) → passed fault read ≡ Ok x → Passed fault read x
passed_read fault (Err refusal) x h = cc
passed_read fault (Ok y) x h =
    let both = unless_none (fault y) y x h in
    let same : y ≡ x = both.1 in
    record { read_is = ap Ok same; none = subst (λ z. fault z ≡ None) same both.0 }

pub checked_read : {A : Type 0} (checks : Option Declared) (fault : Declared → A → Option Bytes) (read : Result A Bytes) (x : A) → checked_by checks fault read ≡ Ok x → read ≡ Ok x
checked_read None fault read x h = h
checked_read (Some d) fault read x h = (passed_read (fault d) read x h).read_is

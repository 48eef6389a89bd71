-- What is written of a script, part by part.
use Rattle.std.proofs.Common.{◌≡◌, refl, sym, ap, ◌∙◌, subst, ℕ, List, [], ◌++◌, take, Bool, Option, Some, None, append_assoc, append-nil}
use Rattle.std.specs.Prelude.{IfSome}
use Rattle.hp_model.specs.Report.{Bytes}
use Rattle.hp_model.specs.Kinds.{Declared}
use Rattle.hp_report.specs.Device.{Begins}
use Rattle.hp_analysis.proofs.Signatures.{keeps_same}
use Rattle.hipac_check.specs.Outputs.{check_output, IsChecked}
use Rattle.hp_report.specs.declared.status.Status.{Status}
use Rattle.hipac_check.specs.Ends.{status_of}
use Rattle.hipac_check.proofs.Longest.{output_of_take, status_of_take}

pub whole_text : (v k c o i t0 t1 t2 t3 t4 t5 : Bytes) → t0 ≡ [] → t1 ≡ t0 ++ v → t2 ≡ t1 ++ k → t3 ≡ t2 ++ c → t4 ≡ t3 ++ o → t5 ≡ t4 ++ i → t5 ≡ v ++ (k ++ (c ++ (o ++ i)))
whole_text v k c o i t0 t1 t2 t3 t4 t5 e0 e1 e2 e3 e4 e5 =
    let e : t5 ≡ (((([] ++ v) ++ k) ++ c) ++ o) ++ i = cc in
    e ∙ simp append_assoc

pub three_parts : (a b c t0 t1 t2 t3 : Bytes) → t1 ≡ t0 ++ a → t2 ≡ t1 ++ b → t3 ≡ t2 ++ c → t3 ≡ t0 ++ (a ++ (b ++ c))
three_parts a b c t0 t1 t2 t3 e1 e2 e3 =
    let e : t3 ≡ ((t0 ++ a) ++ b) ++ c = cc in
    e ∙ simp append_assoc

-- before anything is written
begins_before : (w : Option (List ℕ)) (text : List ℕ) → Begins w w text
begins_before None text = ([], text, refl, tt)
begins_before (Some xs) text = ([], text, refl, sym (append-nil xs))

pub checked_before : (w : Option (List ℕ)) (given : Declared) (is_text : Bool) (input : List ℕ) → IsChecked (λ text. Begins w w text) given is_text input
checked_before w given is_text input = (given, keeps_same given, begins_before w (check_output is_text input given given))

pub checked_before_all : (w o : Option (List ℕ)) (given : Declared) (is_text : Bool) → IfSome o (λ input. IsChecked (λ text. Begins w w text) given is_text input)
checked_before_all w None given is_text = tt
checked_before_all w (Some input) given is_text = checked_before w given is_text input

-- the bytes that are read are enough
pub checked_all : (demand : Bytes → Type 0) (given : Declared) (is_text : Bool) (read : List ℕ) (o : Option (List ℕ)) → IfSome o (λ all. read ≡ take 1048577 all)
    → IsChecked demand given is_text read → IfSome o (λ all. IsChecked demand given is_text all)
checked_all demand given is_text read None is h = tt
checked_all demand given is_text read (Some all) is h =
    let d = h.0 in
    (d, h.1, subst demand (output_of_take is_text all given d) (subst (λ bytes. demand (check_output is_text bytes given d)) is h.2))

pub status_all : (is_text : Bool) (read : List ℕ) (status : Status) (o : Option (List ℕ)) → IfSome o (λ all. read ≡ take 1048577 all) → status ≡ status_of is_text read
    → IfSome o (λ all. status ≡ status_of is_text all)
status_all is_text read status None is h = tt
status_all is_text read status (Some all) is h = h ∙ ap (status_of is_text) is ∙ status_of_take is_text all

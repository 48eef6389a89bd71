-- Calls one after another.
use Rattle.std.proofs.Common.{◌≡◌, ap, ◌∙◌, Result, Ok, Err, OnOk, Option}
use Rattle.hp_model.specs.NotationPrint.{Pieces}
use Rattle.hp_print.specs.declared.writer.Writer.{Writer}
use Rattle.hp_print.specs.Written.{step, text_with, Writes}

-- what holds after the last call
pub then_ok : {A E : Type 0} {P Q : Type 0} (r : Result A E) → (P → Q) → OnOk r P → OnOk r Q
then_ok (Ok x) f h = f h
then_ok (Err e) f h = tt

-- what was written of a form, where it is another one
pub onward : {A E B : Type 0} (r : Result B E) (old new : Writer) (put : A → Pieces → Pieces) (a b : Option A) → a ≡ b → OnOk r (Writes old new (step put b)) → OnOk r (Writes old new (step put a))
onward r old new put a b is wrote = then_ok r (λ writes rest. ap (λ o. text_with old (step put o rest)) is ∙ writes rest) wrote

-- what was written, where it is something else
pub instead : {E B : Type 0} (r : Result B E) (old new : Writer) (a b : Option Pieces → Option Pieces) → ((rest : Option Pieces) → a rest ≡ b rest)
    → OnOk r (Writes old new b) → OnOk r (Writes old new a)
instead r old new a b is wrote = then_ok r (λ writes rest. ap (text_with old) (is rest) ∙ writes rest) wrote

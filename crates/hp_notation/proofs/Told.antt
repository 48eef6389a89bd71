-- Readings whose refusals are told as lines.
use Rattle.std.proofs.Common.{◌≡◌, ◌∙◌, Result, Ok, Err, ap, sym}
use Rattle.hp_model.specs.Refusals.{Decoded}
use Rattle.hp_model.specs.TextScripts.{PlacedRefusal}
use Rattle.hp_model.specs.Report.{Bytes}
use Rattle.hp_model.specs.Output.{refusal_text, placed_refusal_text}
use Rattle.hp_script.specs.Mapped as S
use Rattle.hp_script.specs.declared.refusal.DecodeError.{DecodeError}
use Rattle.hp_script.specs.declared.refusal.DecodeError.TheVariants as json
use Rattle.hp_notation.specs.Mapped as M
use Rattle.hp_notation.specs.Readings.{told, Fails, IsTextLine, IsJsonLine}
use Rattle.hp_notation.specs.declared.refusal.TextError.{TextError}
use Rattle.hp_notation.specs.declared.refusal.TextError.TheVariants as text
use Rattle.hp_notation.specs.declared.reading.Unread.{Unread}
use Rattle.hp_notation.specs.declared.reading.Unread.TheVariants.{Refused, Memory}

pub told_ok : {A R : Type 0} (line : R → Bytes) (r : Result A R) (x : A) → told line r ≡ Ok x → r ≡ Ok x
told_ok line (Ok y) x e = let same : y ≡ x = cc in ap (λ z. Ok z) same
told_ok line (Err r) x e = cc

-- ---- refusals as lines

pub text_fails : {B : Type 0} (e : TextError) (u : Unread) (r : Result B PlacedRefusal) → M.Fails e r → IsTextLine e u → Fails u (told placed_refusal_text r)
text_fails (text.Refused t) (Refused line) r fails is = ap (told placed_refusal_text) fails ∙ ap (λ b. Err b) (sym is)
text_fails text.Memory (Refused line) r fails is = absurd is
text_fails e Memory r fails is = tt

pub json_fails : {B : Type 0} (e : DecodeError) (u : Unread) (r : Decoded B) → S.Fails e r → IsJsonLine e u → Fails u (told refusal_text r)
json_fails (json.Refused t) (Refused line) r fails is = ap (told refusal_text) fails ∙ ap (λ b. Err b) (sym is)
json_fails json.Memory (Refused line) r fails is = absurd is
json_fails e Memory r fails is = tt

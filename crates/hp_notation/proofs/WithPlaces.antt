-- The words of a refusal with its place.
use Rattle.std.proofs.Common.{◌≡◌, refl, ◌∷◌, [], ◌++◌}
use Rattle.hp_model.specs.Refusals.{Refusal, unreadable, wrong_shape, bad_number, bad_name, over_limit, unknown_version}
use Rattle.hp_model.specs.Report.{Bytes, words}
use Rattle.hp_model.specs.Output.{reason_words}

pub with_place : (r : Refusal) (p : Bytes) → words (reason_words r ++ p ∷ []) ≡ words (reason_words r) ++ 32 ∷ p
with_place unreadable p = refl
with_place (wrong_shape path) p = refl
with_place (bad_number path) p = refl
with_place (bad_name path) p = refl
with_place (over_limit limit) p = refl
with_place unknown_version p = refl

pub without_place : (r : Refusal) → words (reason_words r ++ []) ≡ words (reason_words r)
without_place unreadable = refl
without_place (wrong_shape path) = refl
without_place (bad_number path) = refl
without_place (bad_name path) = refl
without_place (over_limit limit) = refl
without_place unknown_version = refl

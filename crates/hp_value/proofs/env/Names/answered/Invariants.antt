use Rattle.std.proofs.Common.{◌≡◌, drop, option_map, bytes_eq}
use Rattle.std.specs.Map.{lookup}
use Rattle.hp_value.specs.Mapped.{answered_rows, answers}
use Rattle.hp_value.proofs.Answered.{found_in}
use Rattle.hp_value.proofs.env.Names.answered.Given as goal

abbrev pub invariant-loop-answer : goal.invariant-loop-answer
invariant-loop-answer l = found_in (option_map (λ r. record { key = r.0; row = r.1.now }) l.found) l.name (answers (drop l.answer-index l.kept)) ≡ lookup
    (bytes_eq l.name) (answered_rows (answers l.kept))

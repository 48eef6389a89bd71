use Rattle.std.proofs.Common.{◌≡◌, drop}
use Rattle.std.specs.Prelude.{bytes_eq}
use Rattle.std.specs.Map.{lookup}
use Rattle.hp_value.specs.Mapped.{answers}
use Rattle.hp_fire.proofs.context.Context.kept.Given as goal

abbrev pub invariant-loop-answer : goal.invariant-loop-answer
invariant-loop-answer l = lookup (bytes_eq l.query) (answers (drop l.answer-index l.answer-items)) ≡ lookup (bytes_eq l.query) (answers l.self.answers.now)

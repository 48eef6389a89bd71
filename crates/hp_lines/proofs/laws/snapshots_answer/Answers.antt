use Rattle.hp_lines.proofs.Snapshots.{alike_answer, snapshots_answer}
use Rattle.hp_lines.proofs.laws.snapshots_answer.Goals as goal

pub returns-clause-alike : goal.returns-clause-alike
returns-clause-alike c = alike_answer

pub returns-clause-snapshots : goal.returns-clause-snapshots
returns-clause-snapshots c = snapshots_answer

use Rattle.std.proofs.Common.{refl}
use Rattle.hp_lines.proofs.Kept.{begins_whole}
use Rattle.hp_live.proofs.Fed.{none_written}
use Rattle.hp_live.proofs.server.Server.open.Goals as goal

pub returns-in-Some-clause-output : goal.returns-in-Some-clause-output
returns-in-Some-clause-output g c = rw c.in-Some.is c.open_by_file.ensures.output

pub returns-in-Some-clause-next : goal.returns-in-Some-clause-next
returns-in-Some-clause-next g c = rw c.in-Some.is c.open_by_file.ensures.next

pub returns-in-Some-clause-begins : goal.returns-in-Some-clause-begins
returns-in-Some-clause-begins g c = rw c.in-Some.is c.open_by_file.ensures.begins

pub returns-in-None-clause-output : goal.returns-in-None-clause-output
returns-in-None-clause-output g c = rw c.in-None.is (none_written _ _ refl)

pub returns-in-None-clause-next : goal.returns-in-None-clause-next
returns-in-None-clause-next g c = rw c.in-None.is c.new.ensures

pub returns-in-None-clause-begins : goal.returns-in-None-clause-begins
returns-in-None-clause-begins g c = rw c.in-None.is (begins_whole _ _ _ (none_written _ _ refl))

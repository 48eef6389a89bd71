use Rattle.std.proofs.Common.{map}
use Rattle.hp_view.specs.Mapped.{replaced}
use Rattle.hp_view.proofs.Undoing.{GoesOn-in}
use Rattle.hp_view.proofs.view.View.take_in.Goals as goal

pub returns-clause-goes_on : goal.returns-clause-goes_on
returns-clause-goes_on c = GoesOn-in c.write_all.new.writes.value (map replaced c.write_all.new.undo.items) c.self.view_is c.in_ok-write_all.ensures.back

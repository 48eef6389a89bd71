use Rattle.hp_signals.proofs.SomeBytes.{of_some}
use Rattle.hp_signals.proofs.file.signals_of_file.Goals as goal

pub returns-in-Ok : goal.returns-in-Ok
returns-in-Ok g c = of_some _ _ c.signals_of.ensures

use Rattle.hp_top.proofs.Attempted.{sound_unit, snapshot_held}
use Rattle.hp_top.proofs.runner.Runner.attempt_unit.Goals as goal

pub returns-clause-sound : goal.returns-clause-sound
returns-clause-sound g c =
    sound_unit c.into_parts-reads.result.0 c.into_parts-reads.result.1.value c.in_ok-view.ensures.writes c.into_parts-reads.ensures.reads c.into_parts-reads.ensures.layer c.in_ok-report.ensures

pub returns-clause-reads_held : goal.returns-clause-reads_held
returns-clause-reads_held g c = snapshot_held c.into_parts-reads.result.0 c.in_ok-view.ensures.base c.in_ok-report.ensures.goes_on.base c.into_parts-reads.ensures.reads_held

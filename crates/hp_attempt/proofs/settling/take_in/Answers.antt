use Rattle.std.proofs.Common.{subst}
use Rattle.hp_view.specs.Seeing.{TakesIn}
use Rattle.hp_attempt.proofs.settling.take_in.Goals as goal

pub returns-clause-ok : goal.returns-clause-ok
returns-clause-ok c = record {
  recorded = c.record.new.view;
  only = c.record.ensures.only;
  covers = c.in_ok-record.ensures.covers;
  adds = c.record.ensures.reads;
  takes = subst (TakesIn c.record.new.view c.take_in.new.self) c.deref.ensures c.in_ok-take_in.ensures.ok;
  reads_held = c.in_ok-take_in.ensures.reads_held;
}

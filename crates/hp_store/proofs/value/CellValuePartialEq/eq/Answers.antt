use Rattle.std.proofs.Common.{ap₂, sym, ◌∙◌}
use Rattle.hp_store.specs.Same.{held_same}
use Rattle.hp_store.proofs.Held.{model_test}
use Rattle.hp_store.proofs.value.CellValuePartialEq.eq.Goals as goal

pub returns-in-Row-Row-clause-same : goal.returns-in-Row-Row-clause-same
returns-in-Row-Row-clause-same c = model_test c.eq.result c.args.self.now c.args.other.now (ap₂ held_same c.in-Row-Row.is-0 c.in-Row-Row.is-1 ∙ sym c.eq.ensures)

pub returns-in-Detector-Detector-clause-same : goal.returns-in-Detector-Detector-clause-same
returns-in-Detector-Detector-clause-same c =
    model_test c.eq-in-Detector-Detector.result c.args.self.now c.args.other.now (ap₂ held_same c.in-Detector-Detector.is-0 c.in-Detector-Detector.is-1 ∙ sym c.eq-in-Detector-Detector.ensures)

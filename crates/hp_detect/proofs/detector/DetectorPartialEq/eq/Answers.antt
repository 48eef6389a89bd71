use Rattle.std.proofs.Common.{rules, ◌≡◌, true, sym, ◌∙◌, subst}
use Rattle.std.specs.Bool.{Decides}
use Rattle.hp_value.proofs.Lists.{both_true}
use Rattle.hp_detect.specs.Mapped.{event, known_of}
use Rattle.hp_detect.specs.Same.{event_same, detector_same, detector_decides}
use Rattle.hp_detect.proofs.Compared.{kept_same}
use Rattle.hp_detect.proofs.detector.DetectorPartialEq.eq.Goals as goal

tested_then : (c : goal.After-eq-then-eq) → c.eq-then-eq.result ≡ detector_same c.args.self.now c.args.other.now
tested_then c =
    let one_event : event_same (event c.self.inside.expr.value) (event c.other.inside.expr.value) ≡ true = search rules in
    let here : c.eq-then-eq.result ≡ detector_same (record { event = event c.self.inside.expr.value; known = known_of (event c.self.inside.expr.value) c.self.inside.kept })
    (record { event = event c.other.inside.expr.value; known = known_of (event c.other.inside.expr.value) c.other.inside.kept }) =
    both_true (event_same (event c.self.inside.expr.value) (event c.other.inside.expr.value)) _ _ one_event
    (c.eq-then-eq.ensures ∙ kept_same (event c.self.inside.expr.value) (event c.other.inside.expr.value) c.self.inside.kept c.other.inside.kept c.self.invariant c.other.invariant one_event) in
    search rules

pub returns-then-eq-clause-test : goal.returns-then-eq-clause-test
returns-then-eq-clause-test c = tested_then c

pub returns-then-eq-clause-same : goal.returns-then-eq-clause-same
returns-then-eq-clause-same c =
    subst (λ b. Decides b (c.args.self.now ≡ c.args.other.now)) (sym (tested_then c)) (detector_decides c.args.self.now c.args.other.now)

pub returns-else-eq-clause-same : goal.returns-else-eq-clause-same
returns-else-eq-clause-same c =
    let tested : c.eq.result ≡ detector_same c.args.self.now c.args.other.now = search rules in
    subst (λ b. Decides b (c.args.self.now ≡ c.args.other.now)) (sym tested) (detector_decides c.args.self.now c.args.other.now)

use Rattle.std.proofs.Common.{rules, ◌≡◌, ◌∙◌, []}
use Rattle.hp_model.specs.Knowledge.{knowledge}
use Rattle.hp_detect.specs.Mapped.{event, known_of}
use Rattle.hp_detect.proofs.Steps.{pure_known}
use Rattle.hp_detect.proofs.detector.Detector.fresh.Goals as goal

pub returns-clause-pure : goal.returns-clause-pure
returns-clause-pure c = λ pure past.
    let e = event c.in_ok-try_clone.field-0.value in
    let start : known_of e c.if-is_pure.kept ≡ knowledge e [] = search rules in
    start ∙ pure_known e [] past pure

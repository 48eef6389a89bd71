use Rattle.std.proofs.Common.{◌≡◌, [], Some, Ok, Err, map, ◌∷◌, ap, subst, sym, ◌∙◌, drop, ◌+◌}
use Rattle.std.specs.List.{flat_map}
use Rattle.hp_model.specs.Conditions as model
use Rattle.hp_model.specs.Expressions.{Environment}
use Rattle.hp_value.specs.Mapped as value
use Rattle.hp_query.specs.Findings.{IsVerdict, joined}
use Rattle.hp_query.specs.Looks.{entry_classes}
use Rattle.hp_query.specs.Mapped as mapped
use Rattle.hp_query.proofs.TurnLemmas.{left_at, left_next, left_unasked, asked_last}
use Rattle.hp_query.proofs.VerdictLemmas.{Continues, continues_at, continues_past, continues_found, continues_unsatisfied}
use Rattle.hp_query.proofs.VerdictLemmas.{continues_faulty, continues_last}
use Rattle.hp_query.proofs.condition.evaluate_condition.Goals as goal

pub returns-in_err-keep-in-Ok-Some-clause-asks : goal.returns-in_err-keep-in-Ok-Some-clause-asks
returns-in_err-keep-in-Ok-Some-clause-asks g c =
    asked_last g.L.Look.asks g.met.L.Look.asks_same entry_classes mapped.entry c.args.entries.now c.loop-entry.entry-index c.entry-item.result
    (flat_map entry_classes (map mapped.entry c.args.entries.now)) c.args.look.now c.found.new.look
    c.loop-entry-test.true c.entry-item.is c.found.ensures.asks c.loop-entry.invariant.asked

pub returns-in-Ok-None-clause-asks : goal.returns-in-Ok-None-clause-asks
returns-in-Ok-None-clause-asks g c =
    asked_last g.L.Look.asks g.met.L.Look.asks_same entry_classes mapped.entry c.args.entries.now c.loop-entry.entry-index c.entry-item.result
    (flat_map entry_classes (map mapped.entry c.args.entries.now)) c.args.look.now c.found.new.look
    c.loop-entry-test.true c.entry-item.is c.found.ensures.asks c.loop-entry.invariant.asked

pub returns-in-Err-Cause-clause-asks : goal.returns-in-Err-Cause-clause-asks
returns-in-Err-Cause-clause-asks g c =
    asked_last g.L.Look.asks g.met.L.Look.asks_same entry_classes mapped.entry c.args.entries.now c.loop-entry.entry-index c.entry-item.result
    (flat_map entry_classes (map mapped.entry c.args.entries.now)) c.args.look.now c.found.new.look
    c.loop-entry-test.true c.entry-item.is c.found.ensures.asks c.loop-entry.invariant.asked

pub returns-in-Err-Memory-clause-asks : goal.returns-in-Err-Memory-clause-asks
returns-in-Err-Memory-clause-asks g c =
    asked_last g.L.Look.asks g.met.L.Look.asks_same entry_classes mapped.entry c.args.entries.now c.loop-entry.entry-index c.entry-item.result
    (flat_map entry_classes (map mapped.entry c.args.entries.now)) c.args.look.now c.found.new.look
    c.loop-entry-test.true c.entry-item.is c.found.ensures.asks c.loop-entry.invariant.asked

pub loop-entry-preserved : goal.loop-entry-preserved
loop-entry-preserved g c = record {
  on = g.met.L.Look.goes_on_then c.args.look.now c.loop-entry.look c.found.new.look c.loop-entry.invariant.on c.found.ensures.goes_on;
  asked = left_next g.L.Look.asks (entry_classes (mapped.entry c.entry-item.result)) c.found.new.look c.found.ensures.asks
      (left_at g.L.Look.asks entry_classes mapped.entry c.args.entries.now c.loop-entry.entry-index c.entry-item.result c.loop-entry-test.true c.entry-item.is c.loop-entry.invariant.asked);
  continues = λ world rise allowed.
      let env : Environment = record { occurrence = Some (value.occurrence c.args.occurrence.now); rows = []; values = []; now = c.args.time } in
      let found = mapped.findings c.loop-entry.found in
      let e = mapped.entry c.entry-item.result in
      let so_far = c.loop-entry.invariant.continues world rise (c.found.ensures.narrows world allowed) in
      let next = continues_at mapped.entry c.args.entries.now c.loop-entry.entry-index c.entry-item.result found c.loop-entry-test.true c.entry-item.is so_far in
      let under : value.environment c.new-env.result ≡ model.with_findings env found =
      c.new-env.ensures
      ∙ (λ i. model.with_findings env (record { answers = value.answers (c.deref.ensures.value i); values = value.named_values (c.deref-in-loop-entry.ensures.value i) })) in
      let told =
      subst (λ o. IsVerdict (Ok o) (model.verdict world (value.environment c.new-env.result) (e ∷ []))) c.in-Ok-Some.field-0-is (c.in-Ok-Some.ensures.found world rise allowed) in
      let left = map mapped.entry (drop (c.loop-entry.entry-index + 1) c.args.entries.now) in
      subst (λ f. Continues world env (map mapped.entry c.args.entries.now) f left)
      (ap (λ f. joined found (mapped.finding f)) (sym c.in-Ok-Some.finding-is) ∙ sym c.in_ok-keep-in-Ok-Some.ensures)
      (continues_found found _ e left next (told ∙ ap (λ s. model.verdict world s (e ∷ [])) under));
}

pub returns-in-Ok-None-clause-verdict : goal.returns-in-Ok-None-clause-verdict
returns-in-Ok-None-clause-verdict g c = λ world rise allowed.
    let env : Environment = record { occurrence = Some (value.occurrence c.args.occurrence.now); rows = []; values = []; now = c.args.time } in
    let found = mapped.findings c.loop-entry.found in
    let e = mapped.entry c.entry-item.result in
    let so_far = c.loop-entry.invariant.continues world rise (c.found.ensures.narrows world allowed) in
    let next = continues_at mapped.entry c.args.entries.now c.loop-entry.entry-index c.entry-item.result found c.loop-entry-test.true c.entry-item.is so_far in
    let under : value.environment c.new-env.result ≡ model.with_findings env found =
    c.new-env.ensures
    ∙ (λ i. model.with_findings env (record { answers = value.answers (c.deref.ensures.value i); values = value.named_values (c.deref-in-loop-entry.ensures.value i) })) in
    let told =
    subst (λ o. IsVerdict (Ok o) (model.verdict world (value.environment c.new-env.result) (e ∷ []))) c.in-Ok-None.field-0-is (c.in-Ok-None.ensures.found world rise allowed) in
    continues_unsatisfied found e _ next (told ∙ ap (λ s. model.verdict world s (e ∷ [])) under)

pub returns-in-Err-Cause-clause-verdict : goal.returns-in-Err-Cause-clause-verdict
returns-in-Err-Cause-clause-verdict g c = λ world rise allowed.
    let env : Environment = record { occurrence = Some (value.occurrence c.args.occurrence.now); rows = []; values = []; now = c.args.time } in
    let found = mapped.findings c.loop-entry.found in
    let e = mapped.entry c.entry-item.result in
    let so_far = c.loop-entry.invariant.continues world rise (c.found.ensures.narrows world allowed) in
    let next = continues_at mapped.entry c.args.entries.now c.loop-entry.entry-index c.entry-item.result found c.loop-entry-test.true c.entry-item.is so_far in
    let under : value.environment c.new-env.result ≡ model.with_findings env found =
    c.new-env.ensures
    ∙ (λ i. model.with_findings env (record { answers = value.answers (c.deref.ensures.value i); values = value.named_values (c.deref-in-loop-entry.ensures.value i) })) in
    let told =
    subst (λ h. IsVerdict (Err h) (model.verdict world (value.environment c.new-env.result) (e ∷ []))) c.in-Err-Cause.field-0-is (c.in-Err-Cause.ensures.found world rise allowed) in
    ap (λ cause. model.faulty (value.cause cause)) c.in-Err-Cause.cause-is ∙ continues_faulty found e _ _ next (told ∙ ap (λ s. model.verdict world s (e ∷ [])) under)

pub returns-clause-verdict : goal.returns-clause-verdict
returns-clause-verdict g c = λ world rise allowed.
    let found = mapped.findings c.loop-entry.found in
    continues_last found
    (continues_past mapped.entry c.args.entries.now c.loop-entry.entry-index found c.loop-entry-test.false (c.loop-entry.invariant.continues world rise allowed))

pub returns-clause-asks : goal.returns-clause-asks
returns-clause-asks g c =
    left_unasked g.L.Look.asks g.met.L.Look.asks_same (flat_map entry_classes (map mapped.entry c.args.entries.now)) c.args.look.now c.loop-entry.look c.loop-entry.invariant.asked

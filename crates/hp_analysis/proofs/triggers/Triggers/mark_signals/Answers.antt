use Rattle.std.proofs.Common.{◌≡◌, sym, ap, ◌∙◌, [], string_bytes}
use Rattle.std.proofs.lemmas.Map.Iter.{rest_more}
use Rattle.std.specs.Map.Iter.{deref_pair}
use Rattle.hp_model.specs.Chains.{body_triggers, signal_triggers, statement_triggers}
use Rattle.hp_model.specs.Occurrences.{signalled}
use Rattle.hp_model.specs.Rules.{signal}
use Rattle.hp_analysis.specs.Declarations.{signatures}
use Rattle.hp_analysis.specs.Graphs.{seen}
use Rattle.hp_analysis.specs.Outside.{signals_in}
use Rattle.hp_analysis.specs.Sets.{marked}
use Rattle.hp_analysis.proofs.Marks.{body_marked}
use Rattle.hp_analysis.proofs.triggers.Triggers.mark_signals.Goals as goal

pub loop-name-preserved : goal.loop-name-preserved
loop-name-preserved c =
    let library = seen c.args.self.now in
    let rest = c.next.new.self in
    let set = c.loop-name.set.items in
    let name = string_bytes c.in-Some.name.now in
    let split = rest_more deref_pair c.loop-name.name-iterator rest c.next.result (c.in-Some.name, c.in-Some.field-0-1) c.in-Some.is c.next.ensures.steps in
    let one : c.mark_signal.new.set.items ≡ marked (statement_triggers library (signal name [])) set =
    c.mark_signal.ensures ∙ ap (λ n. marked (signal_triggers library (signalled n [])) set) c.deref.ensures in
    ap (marked (body_triggers library (signals_in (signatures rest)))) one ∙ sym (body_marked library (signal name []) (signals_in (signatures rest)) set)
    ∙ sym (ap (λ es. marked (body_triggers library (signals_in (signatures es))) set) split) ∙ c.loop-name.invariant

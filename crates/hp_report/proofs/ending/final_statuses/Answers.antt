use Rattle.std.proofs.Common.{◌≡◌, ◌+◌, ◌<◌, ◌∙◌, ◌++◌, ◌∷◌, [], ap, sym, subst, map, length, arith}
use Rattle.std.proofs.lemmas.List.{length-map, map-append}
use Rattle.hp_model.specs.Cells.{rule_cell}
use Rattle.hp_store.specs.Stack.{cells_in}
use Rattle.hp_report.specs.Ending.{status_from}
use Rattle.hp_report.specs.Mapped.{library, rule, status}
use Rattle.hp_report.proofs.Ends.{AreSome, one_more_told, all_told}
use Rattle.hp_report.proofs.ending.final_statuses.Goals as goal

pub loop-place-preserved : goal.loop-place-preserved
loop-place-preserved c =
    let lib = library c.args.lib.now in
    let base = cells_in c.args.store.now in
    let count : length lib.rules ≡ length c.rules-place-end.result.now = ap length (sym c.rules-place-end.ensures) ∙ length-map c.rules-place-end.result.now rule in
    let below : c.loop-place.place < length lib.rules = omega (arith, count, c.loop-place-test.true) in
    let one : status c.status_of.result ≡ status_from (base (rule_cell c.loop-place.place)) = c.status_of.ensures ∙ ap (λ n. status_from (base (rule_cell n))) c.in_ok-rule_number.ensures.number in
    let grown : map status c.loop-place.statuses.items ++ status c.status_of.result ∷ [] ≡ map status c.push.new.self.items =
    sym (map-append status c.loop-place.statuses.items (c.status_of.result ∷ [])) ∙ ap (map status) (sym c.in_ok-push.ensures.items) in
    subst (AreSome lib base (c.loop-place.place + 1)) grown
    (one_more_told lib base c.loop-place.place (map status c.loop-place.statuses.items) (status c.status_of.result) below one c.loop-place.invariant)

pub returns : goal.returns
returns c =
    let count : length (library c.args.lib.now).rules ≡ length c.rules-place-end.result.now = ap length (sym c.rules-place-end.ensures) ∙ length-map c.rules-place-end.result.now rule in
    all_told (library c.args.lib.now) (cells_in c.args.store.now) c.loop-place.place (map status c.loop-place.statuses.items) (omega (arith, count, c.loop-place-test.false)) c.loop-place.invariant

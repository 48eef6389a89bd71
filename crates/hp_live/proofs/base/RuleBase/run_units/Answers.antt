use Rattle.std.proofs.Common.{◌≡◌, ◌∙◌, ap, sym, length, map}
use Rattle.std.proofs.lemmas.List.{length-map}
use Rattle.hp_rule.specs.Mapped.{library, unit}
use Rattle.hp_store.specs.Stack.{cells_in}
use Rattle.hp_report.specs.Mapped.{unit_report}
use Rattle.hp_live.proofs.Bases.{ran_from}
use Rattle.hp_live.proofs.base.RuleBase.run_units.Goals as goal

pub returns-clause-reports : goal.returns-clause-reports
returns-clause-reports g c base stands =
    let items = c.run_items-ran in
    let us = map unit c.args.units.now in
    let rs = map unit_report items.result.reports.items in
    let all : length rs ≡ length us = length-map items.result.reports.items unit_report ∙ items.ensures.all c.in_ok-reports.ensures.unstopped ∙ sym (length-map c.args.units.now unit) in
    let led = ran_from (library c.new-runner.result.engine.lib.now) us (cells_in c.args.self.now.store) (cells_in items.new.store) rs base items.ensures.ran all
    (ap (λ l. library l.now) c.new-runner.ensures.lib ∙ ap library c.deref.ensures ∙ sym stands.library_is) stands.ordered stands.cells_are in
    ap (λ v. map unit_report v.items) c.in_ok-reports.ensures.all ∙ sym led.answers

pub returns-clause-state : goal.returns-clause-state
returns-clause-state g c base stands =
    let items = c.run_items-ran in
    let us = map unit c.args.units.now in
    let rs = map unit_report items.result.reports.items in
    let all : length rs ≡ length us = length-map items.result.reports.items unit_report ∙ items.ensures.all c.in_ok-reports.ensures.unstopped ∙ sym (length-map c.args.units.now unit) in
    let led = ran_from (library c.new-runner.result.engine.lib.now) us (cells_in c.args.self.now.store) (cells_in items.new.store) rs base items.ensures.ran all
    (ap (λ l. library l.now) c.new-runner.ensures.lib ∙ ap library c.deref.ensures ∙ sym stands.library_is) stands.ordered stands.cells_are in
    record {
      version_is = stands.version_is;
      library_is = stands.library_is;
      ordered = led.ordered;
      cells_are = led.reaches;
      clock_is = stands.clock_is;
      units_are = stands.units_are;
    }

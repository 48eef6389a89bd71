use Rattle.std.proofs.Common.{◌≡◌, ◌∙◌, ◌+◌, ◌-◌, ◌++◌, refl, ap, sym, subst, map, length, string_bytes, arith}
use Rattle.std.proofs.lemmas.List.{length-map}
use Rattle.hp_model.specs.Cascade.{run_units}
use Rattle.hp_model.specs.Report.{Bytes, units_text}
use Rattle.hp_rule.specs.Mapped.{library, unit}
use Rattle.hp_report.specs.Mapped.{unit_report}
use Rattle.hp_lines.specs.Live.{ok_line}
use Rattle.hp_live.specs.Kept.{StandsFor}
use Rattle.hp_live.specs.Running.{with_state}
use Rattle.hp_live.proofs.base.RuleBase.run.Goals as goal

pub returns-clause-text : goal.returns-clause-text
returns-clause-text g c base stands =
    let later = c.in_ok-reports.ensures.state base stands in
    let e = run_units base.library (map unit c.args.schedule.units.items) base.state in
    let items = c.in_ok-reports.reports.items in
    let reports_are : map unit_report items ≡ e.units = c.in_ok-reports.ensures.reports base stands ∙ ap (λ us. (run_units base.library (map unit us) base.state).units) c.deref.ensures.value in
    let count : length items ≡ length e.units = sym (length-map items unit_report) ∙ ap length reports_are in
    let first : c.in_ok-first.first ≡ c.run_units.new.self.units + 1 = grind arith in
    let above : c.in_ok-above.above ≡ c.in_ok-first.first + length items = grind arith in
    let number : c.in_ok-first.first ≡ base.units + 1 = omega (arith, first, later.units_are) in
    let last : c.in_ok-above.above - 1 ≡ base.units + length e.units = omega (arith, above, number, count) in
    let text_is : string_bytes c.in_ok-text.text ≡ units_text base.library c.args.options.tree (base.units + 1) e.units =
    c.in_ok-text.ensures ∙ ap (λ l. units_text l c.args.options.tree c.in_ok-first.first (map unit_report c.deref-3.result.now)) (ap library c.deref-2.ensures ∙ sym later.library_is)
    ∙ ap (λ n. units_text base.library c.args.options.tree n (map unit_report c.deref-3.result.now)) number
    ∙ ap (λ xs. units_text base.library c.args.options.tree (base.units + 1) (map unit_report xs)) c.deref-3.ensures.value
    ∙ ap (units_text base.library c.args.options.tree (base.units + 1)) reports_are in
    c.in_ok-put_ok.ensures ∙ ap (λ n. string_bytes c.in_ok-text.text ++ ok_line n) last ∙ ap (λ (b : Bytes). b ++ ok_line (base.units + length e.units)) text_is

pub returns-clause-state : goal.returns-clause-state
returns-clause-state g c base stands =
    let later = subst (λ us. StandsFor c.run_units.new.self (with_state base (run_units base.library (map unit us) base.state).state)) c.deref.ensures.value
    (c.in_ok-reports.ensures.state base stands) in
    let e = run_units base.library (map unit c.args.schedule.units.items) base.state in
    let items = c.in_ok-reports.reports.items in
    let reports_are : map unit_report items ≡ e.units = c.in_ok-reports.ensures.reports base stands ∙ ap (λ us. (run_units base.library (map unit us) base.state).units) c.deref.ensures.value in
    let count : length items ≡ length e.units = sym (length-map items unit_report) ∙ ap length reports_are in
    let first : c.in_ok-first.first ≡ c.run_units.new.self.units + 1 = grind arith in
    let above : c.in_ok-above.above ≡ c.in_ok-first.first + length items = grind arith in
    let last : c.in_ok-above.above - 1 ≡ base.units + length e.units = omega (arith, above, first, later.units_are, count) in
    record {
      version_is = later.version_is;
      library_is = later.library_is;
      ordered = later.ordered;
      cells_are = later.cells_are;
      clock_is = refl;
      units_are = last;
    }

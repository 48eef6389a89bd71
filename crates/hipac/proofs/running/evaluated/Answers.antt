use Rattle.std.proofs.Common.{◌≡◌, refl, ◌∙◌, ap, sym, subst, map, length}
use Rattle.std.proofs.lemmas.List.{length-map}
use Rattle.hp_rule.specs.Mapped.{unit as unit_of}
use Rattle.hp_store.specs.Stack.{cells_in}
use Rattle.hp_report.specs.Mapped.{library, unit_report}
use Rattle.hp_script.specs.Mapped.{script as script_of_model}
use Rattle.hp_top.specs.Units.{RanUnits}
use Rattle.hipac.proofs.Evaluated.{script_ran}
use Rattle.hipac.proofs.running.evaluated.Goals as goal

pub returns : goal.returns
returns g c =
    let script = script_of_model c.args.script in
    let lib = script.library in
    let before = cells_in c.in_ok-store.store in
    let after = cells_in c.run_items-ran.new.store in
    let items_are : map unit_of c.deref-2.result.now ≡ script.units = ap (map unit_of) c.deref-2.ensures.value in
    let reports = map unit_report c.in_ok-units.units.items in
    let reports_are : map unit_report c.run_items-ran.result.reports.items ≡ reports = ap (λ v. map unit_report v.items) (sym c.in_ok-units.ensures.all) in
    let lib_is : library c.deref.result.now ≡ lib = ap library c.deref.ensures in
    let ran : RanUnits lib script.units before after reports =
    subst (λ l. RanUnits l script.units before after reports) lib_is
    (subst (λ us. RanUnits (library c.deref.result.now) us before after reports) items_are
    (subst (RanUnits (library c.deref.result.now) (map unit_of c.deref-2.result.now) before after) reports_are c.run_items-ran.ensures.ran)) in
    let all : length reports ≡ length script.units =
    length-map c.in_ok-units.units.items unit_report ∙ ap (λ v. length v.items) c.in_ok-units.ensures.all
    ∙ c.run_items-ran.ensures.all c.in_ok-units.ensures.unstopped
    ∙ ap length c.deref-2.ensures.value ∙ sym (length-map c.args.script.items.items unit_of) in
    let led = script_ran script before after reports c.in_ok-store.ensures ran all in
    record { library_is = refl; units_are = sym led.answers; ordered = led.ordered; cells_are = led.reaches }

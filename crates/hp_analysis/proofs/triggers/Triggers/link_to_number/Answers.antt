use Rattle.std.proofs.Common.{◌≡◌, refl, sym, ap, ◌∙◌, length, Option, Some, None}
use Rattle.std.proofs.lemmas.Option.{slice_get-map, slice_get_read, slice_get_past}
use Rattle.std.specs.Prelude.{slice_get, option_map}
use Rattle.hp_model.specs.Rules.{Rule}
use Rattle.hp_rule.specs.Libraries as libraries
use Rattle.hp_rule.specs.Statements.{rule}
use Rattle.hp_analysis.specs.Graphs.{seen}
use Rattle.hp_analysis.specs.Installed.{rule_in}
use Rattle.hp_analysis.specs.Links.{Link, link_onward}
use Rattle.hp_analysis.proofs.Least.{ok_to}
use Rattle.hp_analysis.proofs.Only.{only_get}
use Rattle.hp_analysis.proofs.triggers.Triggers.link_to_number.Goals as goal

pub returns-in-Some : goal.returns-in-Some
returns-in-Some c =
    let L = libraries.library c.args.self.now.library.now in
    let present = c.args.self.now.present.items in
    let classes = length (seen c.args.self.now).classes in
    let acting = rule_in present classes c.args.from (rule c.args.acting.now) in
    let whole : Option Rule → Option Link = link_onward c.args.from acting c.args.to in
    let found = c.in-Some.next.now in
    let rs = c.rules.result.now in
    let got : slice_get rs c.args.to ≡ Some found = slice_get_read rs (length rs) c.args.to found refl c.in-Some.ensures.lookup.3.0 c.in-Some.ensures.lookup.1 in
    let at : slice_get L.rules c.args.to ≡ Some (rule found) = ap (λ xs. slice_get xs c.args.to) (sym c.rules.ensures) ∙ slice_get-map rule rs c.args.to ∙ ap (option_map rule) got in
    ok_to c.link_to.result (λ l h. h ∙ ap whole (sym (only_get present L c.args.to ∙ ap (option_map (rule_in present classes c.args.to)) at))) c.link_to.ensures

pub returns-in-None : goal.returns-in-None
returns-in-None c =
    let L = libraries.library c.args.self.now.library.now in
    let present = c.args.self.now.present.items in
    let classes = length (seen c.args.self.now).classes in
    let acting = rule_in present classes c.args.from (rule c.args.acting.now) in
    let whole : Option Rule → Option Link = link_onward c.args.from acting c.args.to in
    let rs = c.rules.result.now in
    let got = slice_get_past rs c.args.to c.in-None.ensures.lookup.3 in
    let at : slice_get L.rules c.args.to ≡ None = ap (λ xs. slice_get xs c.args.to) (sym c.rules.ensures) ∙ slice_get-map rule rs c.args.to ∙ ap (option_map rule) got in
    ap whole (sym (only_get present L c.args.to ∙ ap (option_map (rule_in present classes c.args.to)) at))

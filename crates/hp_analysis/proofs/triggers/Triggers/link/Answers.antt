use Rattle.std.proofs.Common.{◌≡◌, refl, sym, ap, ◌∙◌, length, Option, Some, None}
use Rattle.std.proofs.lemmas.Option.{slice_get-map, slice_get_read, slice_get_past}
use Rattle.std.specs.Prelude.{slice_get, option_map}
use Rattle.std.specs.Option.{option_and_then}
use Rattle.hp_model.specs.Rules.{Rule}
use Rattle.hp_rule.specs.Libraries as libraries
use Rattle.hp_rule.specs.Statements.{rule}
use Rattle.hp_analysis.specs.Graphs.{seen}
use Rattle.hp_analysis.specs.Installed.{rule_in}
use Rattle.hp_analysis.specs.Links.{Link, link_onward}
use Rattle.hp_analysis.proofs.Least.{ok_to}
use Rattle.hp_analysis.proofs.Only.{only_get}
use Rattle.hp_analysis.proofs.triggers.Triggers.link.Goals as goal

pub returns-in-Some : goal.returns-in-Some
returns-in-Some c =
    let L = libraries.library c.args.self.now.library.now in
    let present = c.args.self.now.present.items in
    let classes = length (seen c.args.self.now).classes in
    let whole : Option Rule → Option Link = option_and_then (λ r. link_onward c.args.from r c.args.to (slice_get (seen c.args.self.now).rules c.args.to)) in
    let found = c.in-Some.acting.now in
    let rs = c.rules.result.now in
    let got : slice_get rs c.args.from ≡ Some found = slice_get_read rs (length rs) c.args.from found refl c.in-Some.ensures.lookup.3.0 c.in-Some.ensures.lookup.1 in
    let at : slice_get L.rules c.args.from ≡ Some (rule found) = ap (λ xs. slice_get xs c.args.from) (sym c.rules.ensures) ∙ slice_get-map rule rs c.args.from ∙ ap (option_map rule) got in
    ok_to c.link_to_number.result (λ l h. h ∙ ap whole (sym (only_get present L c.args.from ∙ ap (option_map (rule_in present classes c.args.from)) at))) c.link_to_number.ensures

pub returns-in-None : goal.returns-in-None
returns-in-None c =
    let L = libraries.library c.args.self.now.library.now in
    let present = c.args.self.now.present.items in
    let classes = length (seen c.args.self.now).classes in
    let whole : Option Rule → Option Link = option_and_then (λ r. link_onward c.args.from r c.args.to (slice_get (seen c.args.self.now).rules c.args.to)) in
    let rs = c.rules.result.now in
    let got = slice_get_past rs c.args.from c.in-None.ensures.lookup.3 in
    let at : slice_get L.rules c.args.from ≡ None = ap (λ xs. slice_get xs c.args.from) (sym c.rules.ensures) ∙ slice_get-map rule rs c.args.from ∙ ap (option_map rule) got in
    ap whole (sym (only_get present L c.args.from ∙ ap (option_map (rule_in present classes c.args.from)) at))

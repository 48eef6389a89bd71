use Rattle.std.proofs.Common.{rules, tests, ◌∙◌}
use Rattle.std.proofs.lemmas.Iterator.{YieldsList-from_slice}
use Rattle.std.proofs.lemmas.Iterator.Search.{any_from_yields_List}
use Rattle.std.specs.Prelude.{string_bytes}
use Rattle.std.specs.Str.{bytes_eq}
use Rattle.hp_model.specs.Rules.{Assignment}
use Rattle.hp_rule.specs.Statements.{assignment}
use Rattle.hp_rule.proofs.Known.{is_known_item}
use Rattle.hp_rule.proofs.check.pairs.is_assigned.Goals as goal

pub returns : goal.returns
returns c =
    any_from_yields_List (λ p. bytes_eq (string_bytes p.field) c.args.field.now) _ _ c.any.result c.any.ensures.ran
    (YieldsList-from_slice c.args.pairs.now (cc)) (λ x b q k. search (rules, tests))
    ∙ is_known_item assignment (λ (p : Assignment). p.field) c.args.field.now c.args.pairs.now

use Rattle.std.proofs.Common.{rules, ◌∙◌, [], ◌∷◌}
use Rattle.std.proofs.lemmas.Iterator.{YieldsList-from_slice}
use Rattle.std.proofs.lemmas.Iterator.Search.{any_from_yields_List}
use Rattle.hp_query.specs.Mapped.{entry}
use Rattle.hp_model.specs.Checked.{is_known}
use Rattle.hp_model.specs.Scopes.{let_names}
use Rattle.hp_rule.proofs.Known.{names_value_of}
use Rattle.hp_rule.proofs.known_names.is_let.Goals as goal

pub returns : goal.returns
returns c =
    any_from_yields_List (λ e. is_known (let_names (entry e ∷ [])) c.args.name.now) _ _ c.any.result c.any.ensures.ran
    (YieldsList-from_slice c.args.entries.now (cc)) (λ x b q k. search (rules))
    ∙ names_value_of c.args.name.now c.args.entries.now

use Rattle.std.proofs.Common.{rules, ◌∙◌, [], ◌∷◌}
use Rattle.std.proofs.lemmas.Iterator.{YieldsList-from_slice}
use Rattle.std.proofs.lemmas.Iterator.Search.{any_from_yields_List}
use Rattle.hp_query.specs.Mapped.{entry}
use Rattle.hp_model.specs.Checked.{is_known}
use Rattle.hp_model.specs.Scopes.{query_names}
use Rattle.hp_rule.proofs.Known.{names_row_of}
use Rattle.hp_rule.proofs.known_names.is_query.Goals as goal

pub returns : goal.returns
returns c =
    any_from_yields_List (λ e. is_known (query_names (entry e ∷ [])) c.args.name.now) _ _ c.any.result c.any.ensures.ran
    (YieldsList-from_slice c.args.entries.now (cc)) (λ x b q k. search (rules))
    ∙ names_row_of c.args.name.now c.args.entries.now

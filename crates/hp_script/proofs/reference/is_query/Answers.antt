use Rattle.std.proofs.Common.{◌≡◌, ◌∙◌, ap, sym, map}
use Rattle.hp_model.specs.Scopes.{Names, query_names, names_of}
use Rattle.hp_model.specs.Checked as C
use Rattle.hp_model.proofs.WellFormedParts.{known_same}
use Rattle.hp_query.specs.Mapped.{entry}
use Rattle.hp_rule.specs.Named.{names_in, names_step}
use Rattle.hp_rule.specs.declared.known_names.KnownNames.TheVariants.{Entries, rolls-Entries}
use Rattle.hp_rule.specs.declared.known_names.KnownNames.TheOpen.{KnownNames-F}
use Rattle.hp_rule.specs.declared.known_names.KnownNames.TheFolds.{fold-roll-KnownNames}
use Rattle.hp_script.proofs.reference.is_query.Goals as goal

pub returns : goal.returns
returns c =
    let is : names_in (Entries c.args.scope.now.condition) ≡ names_of (map entry c.args.scope.now.condition.now) =
    ap names_in (sym (rolls-Entries c.args.scope.now.condition)) ∙ fold-roll-KnownNames Names names_step (KnownNames-F.Entries c.args.scope.now.condition) in
    c.knows_row.ensures ∙ ap (λ (ns : Names). C.is_known ns.rows c.args.name.now) is ∙ sym (known_same (query_names (map entry c.args.scope.now.condition.now)) c.args.name.now)

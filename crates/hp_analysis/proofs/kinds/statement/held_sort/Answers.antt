use Rattle.std.proofs.Common.{rules, ◌≡◌, sym, ap, ◌∙◌, unwrap_or, Ok, Err}
use Rattle.hp_query.specs.Mapped.{aggregate}
use Rattle.hp_model.specs.Kinds.{any}
use Rattle.hp_rule.specs.Places.{steps}
use Rattle.hp_analysis.specs.Findings.{aggregate_check}
use Rattle.hp_analysis.specs.Kinded.{sort, finding}
use Rattle.hp_analysis.specs.Scopes.{library, declared, scope_in}
use Rattle.hp_analysis.proofs.Judging.{value_in, aggregate_given}
use Rattle.hp_analysis.proofs.kinds.statement.held_sort.Goals as goal

pub returns-in-Ok : goal.returns-in-Ok
returns-in-Ok c =
    let s = c.args.scope.now in
    let path = steps c.args.place.now in
    let a = aggregate c.args.computed.now in
    let is : aggregate_check (library s) (declared s) (scope_in s) path a ≡ Ok (sort c.in-Ok.given) = search rules in
    sym (ap (λ o. unwrap_or o any) (sym (aggregate_given (library s) (declared s) (scope_in s) path a) ∙ ap value_in is))

pub returns-in-Err-Found : goal.returns-in-Err-Found
returns-in-Err-Found c =
    let s = c.args.scope.now in
    let path = steps c.args.place.now in
    let a = aggregate c.args.computed.now in
    let is : aggregate_check (library s) (declared s) (scope_in s) path a ≡ Err (finding c.in-Err-Found.field-0-0) = search rules in
    sym (ap (λ o. unwrap_or o any) (sym (aggregate_given (library s) (declared s) (scope_in s) path a) ∙ ap value_in is))

use Rattle.std.proofs.Common.{subst, ap, ◌∙◌, refl}
use Rattle.hp_model.specs.Conditions as model
use Rattle.hp_value.specs.Mapped.{Meets, environment, expression}
use Rattle.hp_query.specs.Mapped.{keyed_rows}
use Rattle.hp_query.proofs.CandidateLemmas.{selected_of, all_selected_of}
use Rattle.hp_query.proofs.query.selected_rows.Goals as goal

pub returns-in-Selected-clause-answer : goal.returns-in-Selected-clause-answer
returns-in-Selected-clause-answer g c = λ world rise allowed.
    let env = environment c.args.env.now in
    let predicate = expression c.args.predicate.now in
    let are = rw c.in-Selected.is at c.in_ok-found.ensures.rows in
    let true_of = rw c.in-Selected.is at c.in_ok-found.ensures.selected in
    all_selected_of env c.args.name.now predicate (are world rise allowed) (true_of refl world rise allowed)

pub returns-in_default : goal.returns-in_default
returns-in_default g c = record {
  goes_on = c.in_ok-found.ensures.goes_on;
  asks = c.in_ok-found.ensures.asks;
  asks_row = c.in_ok-found.ensures.asks_row;
  narrows = c.in_ok-found.ensures.narrows;
  answer = λ world rise allowed.
      let env = environment c.args.env.now in
      let predicate = expression c.args.predicate.now in
      subst (Meets keyed_rows c.selected.result)
      (ap (model.selected env c.args.name.now predicate) c.rows.ensures ∙ selected_of env c.args.name.now predicate (c.in_ok-found.ensures.rows world rise allowed))
      c.selected.ensures;
}

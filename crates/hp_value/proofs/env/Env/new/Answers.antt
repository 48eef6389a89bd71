use Rattle.std.proofs.Common.{sym, ap, ap₂, ◌∙◌, [], List, option_map}
use Rattle.hp_model.specs.Values.{Name, NamedValues, KeyedRow}
use Rattle.hp_model.specs.Expressions.{Environment}
use Rattle.hp_model.specs.Conditions.{with_values}
use Rattle.hp_value.specs.Mapped.{occurrence, answers, answered_rows, named_values}
use Rattle.hp_value.proofs.Answered.{with_answers_is, with_values_is}
use Rattle.hp_value.proofs.env.Env.new.Goals as goal

pub returns : goal.returns
returns c =
    let found = option_map (λ o. occurrence o.now) c.args.occurrence in
    let f : List (Name × KeyedRow) → NamedValues → Environment = λ rows values. record { occurrence = found; rows = rows; values = values; now = c.args.time } in
    ap₂ f c.new.ensures c.new-2.ensures
    ∙ sym (with_values_is found (answered_rows (answers c.args.answers.now)) [] c.args.time (named_values c.args.values.now))
    ∙ ap (λ (env : Environment). with_values env (named_values c.args.values.now)) (sym (with_answers_is found [] [] c.args.time (answers c.args.answers.now)))

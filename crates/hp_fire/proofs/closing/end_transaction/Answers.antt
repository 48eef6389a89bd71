use Rattle.std.proofs.Common.{rules, ap, sym, ◌≡◌, false}
use Rattle.std.specs.Prelude.{Result, Ok, Err, OnOk}
use Rattle.hp_model.specs.Answers.{is_done}
use Rattle.hp_fire.specs.Mapped.{end}
use Rattle.hp_fire.proofs.Steps.{closes_done, closes_back}
use Rattle.hp_fire.proofs.closing.end_transaction.Goals as goal

both_then : {T E P Q Z : Type 0} (r : Result T E) → OnOk r P → OnOk r Q → (P → Q → Z) → OnOk r Z
both_then (Ok x) p q f = f p q
both_then (Err e) p q f = tt

pub returns-in-Done-clause-closes : goal.returns-in-Done-clause-closes
returns-in-Done-clause-closes c = λ first on at. closes_done (ap end c.in-Done.is) c.commit.ensures on

pub returns-in-Abort-clause-closes : goal.returns-in-Abort-clause-closes
returns-in-Abort-clause-closes c =
    let halts : is_done (end c.args.how.now) ≡ false = search rules in
    both_then c.abort.result c.abort.ensures.ok c.abort.ensures.restores
    (λ back restores first on at. closes_back c.args.mark halts (sym at) on back (restores first on at).goes_on)

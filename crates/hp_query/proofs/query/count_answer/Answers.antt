use Rattle.std.proofs.Common.{◌≡◌, true, true≢false, Ok, sym, ap, ◌∙◌, length, string_bytes}
use Rattle.std.proofs.lemmas.List.{length-map}
use Rattle.std.proofs.lemmas.Result.{err_from_is_err_and}
use Rattle.hp_model.specs.State.{rows_of}
use Rattle.hp_model.specs.Conditions as model
use Rattle.hp_value.specs.Mapped.{environment, expression, keyed_row}
use Rattle.hp_model.specs.Expressions.{constant}
use Rattle.hp_model.specs.Values.{boolean}
use Rattle.hp_value.specs.declared.expr.Expr.{Expr}
use Rattle.hp_query.specs.Candidates.{counted}
use Rattle.hp_query.specs.Looks.{is_always_true}
use Rattle.hp_query.proofs.CandidateLemmas.{selected_of, all_selected_of, all_counted}
use Rattle.hp_query.proofs.query.count_answer.Goals as goal

pub returns-then-is_always_true-clause-count : goal.returns-then-is_always_true-clause-count
returns-then-is_always_true-clause-count g c = λ world rise allowed.
    let query = c.args.query.now in
    let env = environment c.args.env.now in
    let is : expression query.predicate.value ≡ constant (boolean true) = ap expression (sym c.deref.ensures) ∙ c.is_always_true.ensures.told c.if-is_always_true.true in
    ap Ok (c.in_ok-count.ensures.counted world rise allowed)
    ∙ sym (ap (λ p. counted (model.selected env (string_bytes query.name) p (rows_of query.class world))) is ∙ all_counted env (string_bytes query.name) query.class world)

pub returns-then-are_selected-clause-count : goal.returns-then-are_selected-clause-count
returns-then-are_selected-clause-count g c = λ world rise allowed.
    let asked = c.new-asked.result in
    let is = c.new-asked.ensures in
    let env = environment asked.env.now in
    let predicate = expression asked.predicate.now in
    let found = c.in_ok-found.ensures in
    let known = sym c.are_selected.ensures ∙ c.if-are_selected.true in
    ap Ok (sym (length-map c.rows.result.now keyed_row) ∙ ap length c.rows.ensures)
    ∙ ap counted (all_selected_of env asked.name.now predicate (found.rows world rise allowed) (found.selected known world rise allowed))
    ∙ (λ i. counted (model.selected (is.env i) (is.name i) (is.predicate i) (rows_of (is.class i) world)))

pub returns-in_err-count_selected-clause-count : goal.returns-in_err-count_selected-clause-count
returns-in_err-count_selected-clause-count g c = λ world rise allowed.
    let asked = c.new-asked.result in
    let is = c.new-asked.ensures in
    let env = environment asked.env.now in
    let predicate = expression asked.predicate.now in
    let p = err_from_is_err_and c.from_residual-in_err-count_selected.result c.from_residual-in_err-count_selected.ensures.1 in
    rw (p.1, p.2)
    (c.in_err-count_selected.ensures
    ∙ ap (λ rows. counted (model.selected env asked.name.now predicate rows)) c.rows-2.ensures
    ∙ ap counted (selected_of env asked.name.now predicate (c.in_ok-found.ensures.rows world rise allowed))
    ∙ (λ i. counted (model.selected (is.env i) (is.name i) (is.predicate i) (rows_of (is.class i) world))))

pub returns-clause-count : goal.returns-clause-count
returns-clause-count g c = λ world rise allowed.
    let asked = c.new-asked.result in
    let is = c.new-asked.ensures in
    let env = environment asked.env.now in
    let predicate = expression asked.predicate.now in
    c.in_ok-count_selected.ensures
    ∙ ap (λ rows. counted (model.selected env asked.name.now predicate rows)) c.rows-2.ensures
    ∙ ap counted (selected_of env asked.name.now predicate (c.in_ok-found.ensures.rows world rise allowed))
    ∙ (λ i. counted (model.selected (is.env i) (is.name i) (is.predicate i) (rows_of (is.class i) world)))

pub returns-in_err-found-clause-asks_count : goal.returns-in_err-found-clause-asks_count
returns-in_err-found-clause-asks_count g c = λ always.
    absurd (true≢false (sym always ∙ ap (λ (e : Expr). is_always_true (expression e)) (sym c.deref.ensures) ∙ sym c.is_always_true.ensures.test ∙ c.if-is_always_true.false))

pub returns-then-are_selected-clause-asks_count : goal.returns-then-are_selected-clause-asks_count
returns-then-are_selected-clause-asks_count g c = λ always.
    absurd (true≢false (sym always ∙ ap (λ (e : Expr). is_always_true (expression e)) (sym c.deref.ensures) ∙ sym c.is_always_true.ensures.test ∙ c.if-is_always_true.false))

pub returns-in_err-count_selected-clause-asks_count : goal.returns-in_err-count_selected-clause-asks_count
returns-in_err-count_selected-clause-asks_count g c = λ always.
    absurd (true≢false (sym always ∙ ap (λ (e : Expr). is_always_true (expression e)) (sym c.deref.ensures) ∙ sym c.is_always_true.ensures.test ∙ c.if-is_always_true.false))

pub returns-clause-asks_count : goal.returns-clause-asks_count
returns-clause-asks_count g c = λ always.
    absurd (true≢false (sym always ∙ ap (λ (e : Expr). is_always_true (expression e)) (sym c.deref.ensures) ∙ sym c.is_always_true.ensures.test ∙ c.if-is_always_true.false))

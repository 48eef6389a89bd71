use Rattle.std.proofs.Common.{◌≡◌, sym, ap, ◌∙◌, subst, suc, ◌+◌, ◌-◌, Bool, true, false, map, rules, arith}
use Rattle.hp_model.specs.NotationTokens.{Tokens, size, semicolon}
use Rattle.hp_model.specs.NotationTree.{nodes}
use Rattle.hp_model.specs.NotationPhrases.{is_mark, begins, past}
use Rattle.hp_model.specs.NotationStatements as S
use Rattle.hp_text.specs.Mapped.{node_view, tokens_view, Stops}
use Rattle.hp_text.proofs.Listing.{after, nodes_more, statements_more, statements_over, statements_stops, statements_none}
use Rattle.hp_text.proofs.body.+body.Goals as goal
use Rattle.hp_text.proofs.body.+body.Goals.{statements-then-is_mark-2, statements-else-is_mark-2}
use Rattle.std.proofs.Common.{Ok}

pub statements-returns-then-is_mark : goal.statements-returns-then-is_mark
statements-returns-then-is_mark t c =
    let l = c.loop-done in
    let n = c.count-count.result in
    let ns = map node_view l.statements.items in
    let whole = S.statements (S.statement (S.bodies_within c.args.inner)) (size (tokens_view c.args.tokens.now)) (tokens_view c.args.tokens.now) in
    let is : n - l.done ≡ suc (n - (l.done + 1)) = omega arith in
    statements_over (S.statement (S.bodies_within c.args.inner)) whole (n - l.done) (n - (l.done + 1)) ns (tokens_view l.tokens) l.invariant is (sym c.is_mark.ensures ∙ c.if-is_mark.true)
    ∙ ap (λ rest. Ok (nodes ns, rest)) (sym c.skip.ensures)

pub statements-returns-in_err-statement : goal.statements-returns-in_err-statement
statements-returns-in_err-statement t c =
    let l = c.loop-done in
    let n = c.count-count.result in
    let whole = S.statements (S.statement (S.bodies_within c.args.inner)) (size (tokens_view c.args.tokens.now)) (tokens_view c.args.tokens.now) in
    let is : n - l.done ≡ suc (n - (l.done + 1)) = omega arith in
    let stops : Stops c.in_err-statement.field-0.0 whole = statements_stops (S.statement (S.bodies_within c.args.inner)) whole (n - l.done) (n - (l.done + 1))
    (map node_view l.statements.items) (tokens_view l.tokens) c.in_err-statement.field-0.0 l.invariant is (sym c.is_mark.ensures ∙ c.if-is_mark.false) c.in_err-statement.ensures in
    search rules

past_no_semicolon : (ts : Tokens) → begins (is_mark semicolon) ts ≡ false → S.past_semicolon ts ≡ ts
past_no_semicolon ts is = let pick : Bool → Tokens = λ b. elim b [ true ↦ past ts | false ↦ ts ] in ap pick is

past_one_semicolon : (ts : Tokens) → begins (is_mark semicolon) ts ≡ true → S.past_semicolon ts ≡ past ts
past_one_semicolon ts is = let pick : Bool → Tokens = λ b. elim b [ true ↦ past ts | false ↦ ts ] in ap pick is

pub statements-loop-done-preserved : goal.statements-loop-done-preserved
statements-loop-done-preserved t c =
    let l = c.loop-done in
    let n = c.count-count.result in
    let next = tokens_view c.statement.new.tokens in
    let whole = S.statements (S.statement (S.bodies_within c.args.inner)) (size (tokens_view c.args.tokens.now)) (tokens_view c.args.tokens.now) in
    let is : n - l.done ≡ suc (n - (l.done + 1)) = omega arith in
    let on = statements_more (S.statement (S.bodies_within c.args.inner)) whole (n - l.done) (n - (l.done + 1)) (map node_view l.statements.items)
    (node_view c.in_ok-statement.statement) (tokens_view l.tokens) next l.invariant is (sym c.is_mark.ensures ∙ c.if-is_mark.false) c.in_ok-statement.ensures
    ∙ ap (λ ns. after ns (S.statements (S.statement (S.bodies_within c.args.inner)) (n - (l.done + 1)) (S.past_semicolon next)))
    (nodes_more l.statements.items c.push.new.self.items c.in_ok-statement.statement c.in_ok-push.ensures.items) in
    let rest : S.past_semicolon next ≡ tokens_view c.if-is_mark-2.tokens = elim c.if-is_mark-2.branch [
      | statements-then-is_mark-2 w ↦ past_one_semicolon next (sym c.is_mark-in-loop-done.ensures ∙ w.if-is_mark-2.true) ∙ sym w.skip-then-is_mark-2.ensures ∙ ap tokens_view (sym w.tokens-is)
      | statements-else-is_mark-2 w ↦ past_no_semicolon next (sym c.is_mark-in-loop-done.ensures ∙ w.if-is_mark-2.false) ∙ ap tokens_view (sym w.tokens-is)
    ] in
    on ∙ ap (λ s. after (map node_view c.push.new.self.items) (S.statements (S.statement (S.bodies_within c.args.inner)) (n - (l.done + 1)) s)) rest

pub statements-returns : goal.statements-returns
statements-returns t c =
    let l = c.loop-done in
    let n = c.count-count.result in
    let whole = S.statements (S.statement (S.bodies_within c.args.inner)) (size (tokens_view c.args.tokens.now)) (tokens_view c.args.tokens.now) in
    let is : n - l.done ≡ 0 = omega arith in
    subst (λ s. Stops s whole) (sym c.fault.ensures) (statements_none (S.statement (S.bodies_within c.args.inner)) whole (n - l.done) (map node_view l.statements.items)
    (tokens_view l.tokens) l.invariant is)

use Rattle.std.proofs.Common.{◌≡◌, sym, ap, ◌∙◌, subst, ◌-◌, ◌<◌, Some, Ok, arith}
use Rattle.hp_model.specs.NotationTokens.{spelling}
use Rattle.hp_model.specs.NotationPhrases.{past, joined, chain_from}
use Rattle.hp_model.specs.NotationExpressions.{expressions_within, operator, product}
use Rattle.hp_text.specs.Mapped.{mark_view, node_view, tokens_view, Reads}
use Rattle.hp_text.specs.Operands.{unary_operand}
use Rattle.hp_text.proofs.Chains.{chain_on}
use Rattle.hp_text.proofs.expression.+expression.Goals as goal

pub sum_from-returns : goal.sum_from-returns
sum_from-returns t c =
    let n = c.args.operators in
    let ts = tokens_view c.args.tokens.now in
    let more = tokens_view c.product.new.tokens in
    let w = spelling (mark_view c.in-Some.operator) in
    let some : 0 < n = omega arith in
    let is : operator 5 ts ≡ Some (w, past ts) = sym c.in-Some.ensures in
    let reads : product (expressions_within c.args.inner) (past ts) ≡ Ok (node_view c.in_ok-right.right, more) =
    subst (λ s. product (expressions_within c.args.inner) s ≡ Ok (node_view c.in_ok-right.right, more)) c.skip.ensures c.in_ok-right.ensures in
    let on = chain_on (product (expressions_within c.args.inner)) (operator 5) n (node_view c.args.left) ts (past ts) more w (node_view c.in_ok-right.right) some is reads in
    let whole = on ∙ ap (λ l. chain_from (product (expressions_within c.args.inner)) (operator 5) (n - 1) l more)
    (sym (c.in_ok-joined.ensures ∙ ap (λ v. joined v (node_view c.args.left) (node_view c.in_ok-right.right)) c.spelling.ensures)) in
    subst (λ r. Reads node_view c.sum_from.result c.sum_from.new.tokens r) (sym whole) c.sum_from.ensures

pub product_from-returns : goal.product_from-returns
product_from-returns t c =
    let n = c.args.operators in
    let ts = tokens_view c.args.tokens.now in
    let more = tokens_view c.unary.new.tokens in
    let w = spelling (mark_view c.in-Some.operator) in
    let some : 0 < n = omega arith in
    let is : operator 6 ts ≡ Some (w, past ts) = sym c.in-Some.ensures in
    let reads : unary_operand c.args.inner (past ts) ≡ Ok (node_view c.in_ok-right.right, more) =
    subst (λ s. unary_operand c.args.inner s ≡ Ok (node_view c.in_ok-right.right, more)) c.skip.ensures c.in_ok-right.ensures in
    let on = chain_on (unary_operand c.args.inner) (operator 6) n (node_view c.args.left) ts (past ts) more w (node_view c.in_ok-right.right) some is reads in
    let whole = on ∙ ap (λ l. chain_from (unary_operand c.args.inner) (operator 6) (n - 1) l more)
    (sym (c.in_ok-joined.ensures ∙ ap (λ v. joined v (node_view c.args.left) (node_view c.in_ok-right.right)) c.spelling.ensures)) in
    subst (λ r. Reads node_view c.product_from.result c.product_from.new.tokens r) (sym whole) c.product_from.ensures

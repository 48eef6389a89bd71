use Rattle.std.proofs.Common.{◌≡◌, sym, ap, ◌∙◌, suc, ◌+◌, ◌-◌, map, rules, arith}
use Rattle.hp_model.specs.NotationTokens.{size, if_mark}
use Rattle.hp_model.specs.NotationPhrases.{repeated, is_mark}
use Rattle.hp_model.specs.NotationScripts.{condition}
use Rattle.hp_text.specs.Mapped.{node_view, tokens_view, Stops}
use Rattle.hp_text.proofs.Listing.{after, nodes_more, repeated_more, repeated_over, repeated_stops, repeated_none}
use Rattle.hp_text.proofs.rule.conditions.Goals as goal

pub returns-then-not-is_mark : goal.returns-then-not-is_mark
returns-then-not-is_mark c =
    let l = c.loop-done in
    let whole = repeated (is_mark if_mark) (condition c.args.lets) (size (tokens_view c.args.tokens.now)) (tokens_view c.args.tokens.now) in
    repeated_over (is_mark if_mark) (condition c.args.lets) whole (c.count-count.result - l.done) (map node_view l.queries.items) (tokens_view l.tokens)
    l.invariant (sym c.is_mark.ensures ∙ c.if-not-is_mark.true)

pub returns-in_err-query : goal.returns-in_err-query
returns-in_err-query c =
    let l = c.loop-done in
    let n = c.count-count.result in
    let whole = repeated (is_mark if_mark) (condition c.args.lets) (size (tokens_view c.args.tokens.now)) (tokens_view c.args.tokens.now) in
    let is : n - l.done ≡ suc (n - (l.done + 1)) = omega arith in
    let stops : Stops c.in_err-query.field-0.0 whole = repeated_stops (is_mark if_mark) (condition c.args.lets) whole (n - l.done) (n - (l.done + 1))
    (map node_view l.queries.items) (tokens_view l.tokens) c.in_err-query.field-0.0 l.invariant is (sym c.is_mark.ensures ∙ c.if-not-is_mark.false) c.in_err-query.ensures in
    search rules

pub loop-done-preserved : goal.loop-done-preserved
loop-done-preserved c =
    let l = c.loop-done in
    let n = c.count-count.result in
    let next = tokens_view c.condition.new.tokens in
    let whole = repeated (is_mark if_mark) (condition c.args.lets) (size (tokens_view c.args.tokens.now)) (tokens_view c.args.tokens.now) in
    let is : n - l.done ≡ suc (n - (l.done + 1)) = omega arith in
    repeated_more (is_mark if_mark) (condition c.args.lets) whole (n - l.done) (n - (l.done + 1)) (map node_view l.queries.items) (node_view c.in_ok-query.query)
    (tokens_view l.tokens) next l.invariant is (sym c.is_mark.ensures ∙ c.if-not-is_mark.false) c.in_ok-query.ensures
    ∙ ap (λ ns. after ns (repeated (is_mark if_mark) (condition c.args.lets) (n - (l.done + 1)) next)) (nodes_more l.queries.items c.push.new.self.items c.in_ok-query.query c.in_ok-push.ensures.items)

pub returns : goal.returns
returns c =
    let l = c.loop-done in
    let n = c.count-count.result in
    let whole = repeated (is_mark if_mark) (condition c.args.lets) (size (tokens_view c.args.tokens.now)) (tokens_view c.args.tokens.now) in
    let is : n - l.done ≡ 0 = omega arith in
    repeated_none (is_mark if_mark) (condition c.args.lets) whole (n - l.done) (map node_view l.queries.items) (tokens_view l.tokens) l.invariant is

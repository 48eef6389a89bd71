use Rattle.std.proofs.Common.{◌≡◌, sym, ap, ◌∙◌, subst, suc, ◌+◌, ◌-◌, map, Ok, rules, arith}
use Rattle.hp_model.specs.NotationTokens.{size}
use Rattle.hp_model.specs.NotationTree.{nodes}
use Rattle.hp_model.specs.NotationPhrases.{past, listed}
use Rattle.hp_text.specs.Mapped.{node_view, tokens_view, Stops}
use Rattle.hp_text.specs.Lists.{phrase_of}
use Rattle.hp_text.proofs.Listing.{after, nodes_more, listed_more, listed_last, listed_stops, listed_none}
use Rattle.hp_text.proofs.lists.listed.Goals as goal

pub returns-then-not-is_mark : goal.returns-then-not-is_mark
returns-then-not-is_mark c =
    let l = c.loop-done in
    let n = c.count-count.result in
    let part = phrase_of c.args.kind in
    let ts = tokens_view l.tokens in
    let next = tokens_view c.read_part.new.tokens in
    let whole = listed part (size (tokens_view c.args.tokens.now)) (tokens_view c.args.tokens.now) in
    let is : n - l.done ≡ suc (n - (l.done + 1)) = omega arith in
    listed_last part whole (n - l.done) (n - (l.done + 1)) (map node_view l.parts.items) (node_view c.in_ok-part.part) ts next l.invariant is c.in_ok-part.ensures
    (sym c.is_mark.ensures ∙ c.if-not-is_mark.true)
    ∙ ap (λ ns. Ok (nodes ns, next)) (nodes_more l.parts.items c.push.new.self.items c.in_ok-part.part c.in_ok-push.ensures.items)

pub returns-in_err-part : goal.returns-in_err-part
returns-in_err-part c =
    let l = c.loop-done in
    let n = c.count-count.result in
    let part = phrase_of c.args.kind in
    let whole = listed part (size (tokens_view c.args.tokens.now)) (tokens_view c.args.tokens.now) in
    let is : n - l.done ≡ suc (n - (l.done + 1)) = omega arith in
    let stops : Stops c.in_err-part.field-0.0 whole = listed_stops part whole (n - l.done) (n - (l.done + 1)) (map node_view l.parts.items) (tokens_view l.tokens)
    c.in_err-part.field-0.0 l.invariant is c.in_err-part.ensures in
    search rules

pub loop-done-preserved : goal.loop-done-preserved
loop-done-preserved c =
    let l = c.loop-done in
    let n = c.count-count.result in
    let part = phrase_of c.args.kind in
    let ts = tokens_view l.tokens in
    let next = tokens_view c.read_part.new.tokens in
    let whole = listed part (size (tokens_view c.args.tokens.now)) (tokens_view c.args.tokens.now) in
    let is : n - l.done ≡ suc (n - (l.done + 1)) = omega arith in
    listed_more part whole (n - l.done) (n - (l.done + 1)) (map node_view l.parts.items) (node_view c.in_ok-part.part) ts next l.invariant is c.in_ok-part.ensures
    (sym c.is_mark.ensures ∙ c.if-not-is_mark.false)
    ∙ ap (λ ns. after ns (listed part (n - (l.done + 1)) (past next))) (nodes_more l.parts.items c.push.new.self.items c.in_ok-part.part c.in_ok-push.ensures.items)
    ∙ ap (λ rest. after (map node_view c.push.new.self.items) (listed part (n - (l.done + 1)) rest)) (sym c.skip.ensures)

pub returns : goal.returns
returns c =
    let l = c.loop-done in
    let n = c.count-count.result in
    let part = phrase_of c.args.kind in
    let whole = listed part (size (tokens_view c.args.tokens.now)) (tokens_view c.args.tokens.now) in
    let is : n - l.done ≡ 0 = omega arith in
    subst (λ s. Stops s whole) (sym c.fault.ensures) (listed_none part whole (n - l.done) (map node_view l.parts.items) (tokens_view l.tokens) l.invariant is)

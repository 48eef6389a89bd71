use Rattle.std.proofs.Common.{◌≡◌, sym, ap, ◌∙◌, suc, ◌+◌, ◌-◌, map, rules, arith}
use Rattle.hp_model.specs.NotationTokens.{size}
use Rattle.hp_model.specs.NotationPhrases.{repeated}
use Rattle.hp_text.specs.Scripts.{begins_part, phrase_of}
use Rattle.hp_text.specs.Mapped.{node_view, tokens_view, Stops}
use Rattle.hp_text.proofs.Listing.{after, nodes_more, repeated_more, repeated_over, repeated_stops, repeated_none}
use Rattle.hp_text.proofs.script.repeated.Goals as goal

pub returns-then-not-begins : goal.returns-then-not-begins
returns-then-not-begins c =
    let l = c.loop-done in
    let whole = repeated (begins_part c.args.kind) (phrase_of c.args.kind) (size (tokens_view c.args.tokens.now)) (tokens_view c.args.tokens.now) in
    repeated_over (begins_part c.args.kind) (phrase_of c.args.kind) whole (c.count-count.result - l.done) (map node_view l.parts.items) (tokens_view l.tokens)
    l.invariant (sym c.begins.ensures ∙ c.if-not-begins.true)

pub returns-in_err-part : goal.returns-in_err-part
returns-in_err-part c =
    let l = c.loop-done in
    let n = c.count-count.result in
    let whole = repeated (begins_part c.args.kind) (phrase_of c.args.kind) (size (tokens_view c.args.tokens.now)) (tokens_view c.args.tokens.now) in
    let is : n - l.done ≡ suc (n - (l.done + 1)) = omega arith in
    let stops : Stops c.in_err-part.field-0.0 whole = repeated_stops (begins_part c.args.kind) (phrase_of c.args.kind) whole (n - l.done) (n - (l.done + 1))
    (map node_view l.parts.items) (tokens_view l.tokens) c.in_err-part.field-0.0 l.invariant is (sym c.begins.ensures ∙ c.if-not-begins.false) c.in_err-part.ensures in
    search rules

pub loop-done-preserved : goal.loop-done-preserved
loop-done-preserved c =
    let l = c.loop-done in
    let n = c.count-count.result in
    let next = tokens_view c.read_part.new.tokens in
    let whole = repeated (begins_part c.args.kind) (phrase_of c.args.kind) (size (tokens_view c.args.tokens.now)) (tokens_view c.args.tokens.now) in
    let is : n - l.done ≡ suc (n - (l.done + 1)) = omega arith in
    repeated_more (begins_part c.args.kind) (phrase_of c.args.kind) whole (n - l.done) (n - (l.done + 1)) (map node_view l.parts.items) (node_view c.in_ok-part.part)
    (tokens_view l.tokens) next l.invariant is (sym c.begins.ensures ∙ c.if-not-begins.false) c.in_ok-part.ensures
    ∙ ap (λ ns. after ns (repeated (begins_part c.args.kind) (phrase_of c.args.kind) (n - (l.done + 1)) next))
    (nodes_more l.parts.items c.push.new.self.items c.in_ok-part.part c.in_ok-push.ensures.items)

pub returns : goal.returns
returns c =
    let l = c.loop-done in
    let n = c.count-count.result in
    let whole = repeated (begins_part c.args.kind) (phrase_of c.args.kind) (size (tokens_view c.args.tokens.now)) (tokens_view c.args.tokens.now) in
    let is : n - l.done ≡ 0 = omega arith in
    repeated_none (begins_part c.args.kind) (phrase_of c.args.kind) whole (n - l.done) (map node_view l.parts.items) (tokens_view l.tokens) l.invariant is

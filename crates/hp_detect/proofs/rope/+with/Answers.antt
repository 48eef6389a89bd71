use Rattle.std.proofs.Common.{rules, arith, ◌≡◌, sym, ap, ◌∙◌, subst, length}
use Rattle.std.specs.Prelude.{IfOk}
use Rattle.std.specs.declared.sync.Arc.{Arc}
use Rattle.std.specs.declared.alloc.Global.{Global}
use Rattle.std.proofs.lemmas.Result.{IfOk-weaker}
use Rattle.std.proofs.Math.Nat.{le-max_right}
use Rattle.hp_detect.specs.declared.rope.Rope.{Rope}
use Rattle.hp_detect.specs.Ropes.{laid_out, shape, IsCounted}
use Rattle.hp_detect.specs.Shapes.{one_chunk, node, height, IsLow, IsGrown, IsBalanced}
use Rattle.hp_detect.proofs.Heights.{grown_balanced, balanced_low, chunk_beside, node_beside, TakesBeside, IsNext, next_beside, next_second}
use Rattle.hp_detect.proofs.Counted.{fewer_chunks, no_fewer_chunks, one_more_chunk}
use Rattle.hp_detect.proofs.rope.+with.Goals as goal

pub with-requires : goal.with-requires
with-requires t c =
    let whole : shape c.args.rope.now.value ≡ node (shape c.in-Both.first.value) (shape c.in-Both.second.value) = ap shape (sym c.deref.ensures ∙ c.in-Both.is) in
    let parts : IsBalanced (node (shape c.in-Both.first.value) (shape c.in-Both.second.value)) = subst IsBalanced whole c.requires.balanced in
    let counted : IsCounted c.in-Both.first.value × IsCounted c.in-Both.second.value = search rules in
    let lower = le-max_right (height (shape c.in-Both.first.value)) (height (shape c.in-Both.second.value)) in
    (omega (arith, ap height whole, lower, c.decreases), (counted.1, (grown_balanced (shape c.in-Both.second.value) parts.1, c.requires.full)))

-- the second part grows

next_then : (t : _) (c : goal.After-both-then-count t)
    → IfOk c.both-then-count.result (λ (r : Arc Rope Global). IsNext (shape c.args.rope.now.value) (shape r.value))
next_then t c =
    let first = c.in-Both.first.value in
    let second = c.in-Both.second.value in
    let more = c.in_ok-more-in-Both.more.value in
    let whole : shape c.args.rope.now.value ≡ node (shape first) (shape second) = ap shape (sym c.deref.ensures ∙ c.in-Both.is) in
    let counted : IsCounted first × IsCounted second = search rules in
    let few =
    fewer_chunks second first c.count.result c.count-in-Both.result counted.1 counted.0 (c.count.ensures ∙ ap (λ r. length (laid_out r)) c.deref-in-Both.ensures)
    (c.count-in-Both.ensures ∙ ap (λ r. length (laid_out r)) c.deref-in-Both-2.ensures) c.if-count.true in
    let grows = c.in_ok-more-in-Both.ensures in
    let one = one_more_chunk second more c.args.last counted.1 grows.counted.1 grows.counted.0 c.requires.full in
    IfOk-weaker c.both-then-count.result (λ (r : Arc Rope Global). shape r.value ≡ node (shape first) (shape more))
    (λ (r : Arc Rope Global). IsNext (shape c.args.rope.now.value) (shape r.value))
    (λ r is. next_second (shape first) (shape second) (shape more) whole is few one grows.grown) c.both-then-count.ensures.shape

pub returns-then-count-clause-balanced : goal.returns-then-count-clause-balanced
returns-then-count-clause-balanced t c =
    IfOk-weaker c.both-then-count.result (λ (r : Arc Rope Global). IsNext (shape c.args.rope.now.value) (shape r.value)) (λ (r : Arc Rope Global). IsBalanced (shape r.value))
    (λ r next. next.balanced c.requires.balanced) (next_then t c)

pub returns-then-count-clause-grown : goal.returns-then-count-clause-grown
returns-then-count-clause-grown t c =
    IfOk-weaker c.both-then-count.result (λ (r : Arc Rope Global). IsNext (shape c.args.rope.now.value) (shape r.value))
    (λ (r : Arc Rope Global). IsGrown (shape c.args.rope.now.value) → IsGrown (shape r.value)) (λ r next. next.grown) (next_then t c)

pub returns-then-count-clause-low : goal.returns-then-count-clause-low
returns-then-count-clause-low t c =
    IfOk-weaker c.both-then-count.result (λ (r : Arc Rope Global). IsNext (shape c.args.rope.now.value) (shape r.value)) (λ (r : Arc Rope Global). IsLow (shape r.value))
    (λ r next. balanced_low (shape r.value) (next.balanced c.requires.balanced)) (next_then t c)

-- the chunk is put beside a chunk

next_leaf : (t : _) (c : goal.After-both t) → IfOk c.both.result (λ (r : Arc Rope Global). IsNext (shape c.args.rope.now.value) (shape r.value))
next_leaf t c =
    let whole : shape c.args.rope.now.value ≡ one_chunk = ap shape (sym c.deref.ensures ∙ c.in-Leaf.is) in
    IfOk-weaker c.both.result (λ (r : Arc Rope Global). shape r.value ≡ node (shape c.args.rope.now.value) (shape c.in_ok-leaf-in-Leaf.field-0.value))
    (λ (r : Arc Rope Global). IsNext (shape c.args.rope.now.value) (shape r.value))
    (λ r is. next_beside (subst TakesBeside (sym whole) chunk_beside) c.in_ok-leaf-in-Leaf.ensures.shape is) c.both.ensures.shape

pub returns-in_ok-leaf-in-Leaf-clause-balanced : goal.returns-in_ok-leaf-in-Leaf-clause-balanced
returns-in_ok-leaf-in-Leaf-clause-balanced t c =
    IfOk-weaker c.both.result (λ (r : Arc Rope Global). IsNext (shape c.args.rope.now.value) (shape r.value)) (λ (r : Arc Rope Global). IsBalanced (shape r.value))
    (λ r next. next.balanced c.requires.balanced) (next_leaf t c)

pub returns-in_ok-leaf-in-Leaf-clause-grown : goal.returns-in_ok-leaf-in-Leaf-clause-grown
returns-in_ok-leaf-in-Leaf-clause-grown t c =
    IfOk-weaker c.both.result (λ (r : Arc Rope Global). IsNext (shape c.args.rope.now.value) (shape r.value))
    (λ (r : Arc Rope Global). IsGrown (shape c.args.rope.now.value) → IsGrown (shape r.value)) (λ r next. next.grown) (next_leaf t c)

pub returns-in_ok-leaf-in-Leaf-clause-low : goal.returns-in_ok-leaf-in-Leaf-clause-low
returns-in_ok-leaf-in-Leaf-clause-low t c =
    IfOk-weaker c.both.result (λ (r : Arc Rope Global). IsNext (shape c.args.rope.now.value) (shape r.value)) (λ (r : Arc Rope Global). IsLow (shape r.value))
    (λ r next. balanced_low (shape r.value) (next.balanced c.requires.balanced)) (next_leaf t c)

-- the chunk is put beside a tree whose second part has grown

next_beside_both : (t : _) (c : goal.After-both-in-Both t) → IfOk c.both-in-Both.result (λ (r : Arc Rope Global). IsNext (shape c.args.rope.now.value) (shape r.value))
next_beside_both t c =
    let first = c.in-Both.first.value in
    let second = c.in-Both.second.value in
    let whole : shape c.args.rope.now.value ≡ node (shape first) (shape second) = ap shape (sym c.deref.ensures ∙ c.in-Both.is) in
    let counted : IsCounted first × IsCounted second = search rules in
    let many =
    no_fewer_chunks second first c.count.result c.count-in-Both.result counted.1 counted.0 (c.count.ensures ∙ ap (λ r. length (laid_out r)) c.deref-in-Both.ensures)
    (c.count-in-Both.ensures ∙ ap (λ r. length (laid_out r)) c.deref-in-Both-2.ensures) c.if-count.false in
    IfOk-weaker c.both-in-Both.result (λ (r : Arc Rope Global). shape r.value ≡ node (shape c.args.rope.now.value) (shape c.in_ok-leaf-in-Both.field-0.value))
    (λ (r : Arc Rope Global). IsNext (shape c.args.rope.now.value) (shape r.value))
    (λ r is. next_beside (subst TakesBeside (sym whole) (node_beside (shape first) (shape second) many)) c.in_ok-leaf-in-Both.ensures.shape is) c.both-in-Both.ensures.shape

pub returns-in_ok-leaf-in-Both-clause-balanced : goal.returns-in_ok-leaf-in-Both-clause-balanced
returns-in_ok-leaf-in-Both-clause-balanced t c =
    IfOk-weaker c.both-in-Both.result (λ (r : Arc Rope Global). IsNext (shape c.args.rope.now.value) (shape r.value)) (λ (r : Arc Rope Global). IsBalanced (shape r.value))
    (λ r next. next.balanced c.requires.balanced) (next_beside_both t c)

pub returns-in_ok-leaf-in-Both-clause-grown : goal.returns-in_ok-leaf-in-Both-clause-grown
returns-in_ok-leaf-in-Both-clause-grown t c =
    IfOk-weaker c.both-in-Both.result (λ (r : Arc Rope Global). IsNext (shape c.args.rope.now.value) (shape r.value))
    (λ (r : Arc Rope Global). IsGrown (shape c.args.rope.now.value) → IsGrown (shape r.value)) (λ r next. next.grown) (next_beside_both t c)

pub returns-in_ok-leaf-in-Both-clause-low : goal.returns-in_ok-leaf-in-Both-clause-low
returns-in_ok-leaf-in-Both-clause-low t c =
    IfOk-weaker c.both-in-Both.result (λ (r : Arc Rope Global). IsNext (shape c.args.rope.now.value) (shape r.value)) (λ (r : Arc Rope Global). IsLow (shape r.value))
    (λ r next. balanced_low (shape r.value) (next.balanced c.requires.balanced)) (next_beside_both t c)

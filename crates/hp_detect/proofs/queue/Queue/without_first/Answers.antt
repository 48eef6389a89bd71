use Rattle.std.proofs.Common.{rules, ◌≡◌, ◌++◌, ◌+◌, ap, ap₂, ◌∙◌, arith, drop}
use Rattle.hp_detect.specs.Ropes.{rest_laid_out}
use Rattle.hp_detect.proofs.Runs.{drop_more}
use Rattle.hp_detect.proofs.queue.Queue.without_first.Goals as goal

pub returns-then-self-len : goal.returns-then-self-len
returns-then-self-len c =
    let q = c.self.inside in
    let same_head : c.in_ok-clone.field-0 ≡ q.head = search rules in
    let same_middle : rest_laid_out c.in_ok-shared.field-0 ≡ rest_laid_out q.middle = search rules in
    let same_tail : c.in_ok-clone-2.field-0 ≡ q.tail = search rules in
    ap₂ (λ xs ys. drop (q.taken + 1) xs ++ ys) same_head (ap₂ (λ xs ys. xs ++ ys) same_middle same_tail)
    ∙ drop_more q.taken q.head (rest_laid_out q.middle ++ q.tail) (omega (arith, c.if-self-len.true, c.len.ensures)) ∙ ap (drop 1) c.self.view_is

use Rattle.std.proofs.Common.{rules, arith, ◌≡◌, sym, ap, ◌∙◌, subst}
use Rattle.std.proofs.Math.Nat.{le-max_left}
use Rattle.hp_detect.specs.Ropes.{shape, IsCounted}
use Rattle.hp_detect.specs.Shapes.{node, height, IsBalanced}
use Rattle.hp_detect.proofs.Heights.{settled_balanced, IsLess}
use Rattle.hp_detect.proofs.Counted.{no_more_left, less_first}
use Rattle.hp_detect.proofs.rope.+split_first.Goals as goal

pub split_first-requires : goal.split_first-requires
split_first-requires t c =
    let left = c.deref.result.now in
    let right = c.in-Both.right.value in
    let whole : shape c.args.rope.now ≡ node (shape left) (shape right) = ap shape c.in-Both.is ∙ ap (λ l. node (shape l) (shape right)) (sym c.deref.ensures) in
    let parts : IsBalanced (node (shape left) (shape right)) = subst IsBalanced whole c.requires.balanced in
    let counted : IsCounted left = search rules in
    (omega (arith, ap height whole, le-max_left (height (shape left)) (height (shape right)), c.decreases), (counted, settled_balanced (shape left) parts.0))

less : (t : _) (c : goal.In_ok-others-in-Both t) → IsLess (shape c.args.rope.now) (shape c.in_ok-others-in-Both.others.value)
less t c =
    let left = c.deref.result.now in
    let right = c.in-Both.right.value in
    let rest = c.in_ok-first-in-Both.field-0.rest in
    let split = c.in_ok-first-in-Both.ensures in
    let whole : shape c.args.rope.now ≡ node (shape left) (shape right) = ap shape c.in-Both.is ∙ ap (λ l. node (shape l) (shape right)) (sym c.deref.ensures) in
    let counted : IsCounted left = search rules in
    less_first rest (shape left) (shape right) whole c.in_ok-others-in-Both.ensures.shape
    (no_more_left left c.in_ok-first-in-Both.field-0.first rest counted split.rest split.laid_out) split.settled split.worn

pub returns-in_ok-others-in-Both-clause-balanced : goal.returns-in_ok-others-in-Both-clause-balanced
returns-in_ok-others-in-Both-clause-balanced t c = (less t c).balanced c.requires.balanced

pub returns-in_ok-others-in-Both-clause-settled : goal.returns-in_ok-others-in-Both-clause-settled
returns-in_ok-others-in-Both-clause-settled t c = (less t c).settled

pub returns-in_ok-others-in-Both-clause-worn : goal.returns-in_ok-others-in-Both-clause-worn
returns-in_ok-others-in-Both-clause-worn t c = (less t c).worn

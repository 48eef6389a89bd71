-- Chains of operators, one operator at a time.
use Rattle.std.proofs.Common.{◌≡◌, ap, ◌∙◌, ℕ, zero, suc, ◌-◌, ◌<◌, List, Some, Ok, Err, arith}
use Rattle.hp_model.specs.Values.{◌>>=◌}
use Rattle.hp_model.specs.NotationTokens.{Tokens}
use Rattle.hp_model.specs.NotationTree.{Node, Phrase}
use Rattle.hp_model.specs.NotationPhrases.{Operator, joined, chained, chain_from}

-- an operator and its right operand follow
pub chain_on : (operand : Phrase Node) (op : Operator) (n : ℕ) (left : Node) (ts rest more : Tokens) (w : List ℕ) (right : Node)
    → 0 < n → op ts ≡ Some (w, rest) → operand rest ≡ Ok (right, more) → chain_from operand op n left ts ≡ chain_from operand op (n - 1) (joined w left right) more
unfolding chain_from
chain_on operand op zero left ts rest more w right some is reads = absurd (omega arith)
chain_on operand op (suc n) left ts rest more w right some is reads =
    let less : n ≡ suc n - 1 = omega arith in
    ap (chained operand (chain_from operand op n) left ts) is ∙ ap (λ q. q >>= λ p. chain_from operand op n (joined w left p.0) p.1) reads
    ∙ ap (λ k. chain_from operand op k (joined w left right) more) less

-- an operator without a right operand follows
pub chain_broken : (operand : Phrase Node) (op : Operator) (n : ℕ) (left : Node) (ts rest : Tokens) (w : List ℕ) (at : ℕ)
    → 0 < n → op ts ≡ Some (w, rest) → operand rest ≡ Err at → chain_from operand op n left ts ≡ Err at
unfolding chain_from
chain_broken operand op zero left ts rest w at some is fails = absurd (omega arith)
chain_broken operand op (suc n) left ts rest w at some is fails =
    ap (chained operand (chain_from operand op n) left ts) is ∙ ap (λ q. q >>= λ p. chain_from operand op n (joined w left p.0) p.1) fails

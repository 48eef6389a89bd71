-- How phrases read the tokens of pieces, and how readings compose.
use Rattle.std.proofs.Common.{Err, ◌≡◌, refl, sym, ap, ◌∙◌, subst, ℕ, zero, suc, ◌+◌, ◌<◌, ◌≤◌, Bool, true, false, List, [], ◌∷◌, length, Option, Some, None, Result, Ok, arith, inl, inr, ◌⊎◌}
use Rattle.std.specs.Prelude.{nat_lt}
use Rattle.std.proofs.lemmas.Bool.{cases_lt, lt-ltb, le-ltb, ne_eqb, eq-eqb}
use Rattle.serde_json.specs.Data.{Data, no_items, item}
use Rattle.hp_model.specs.Values.{◌>>=◌}
use Rattle.hp_model.specs.NotationTokens.{Mark, point, comma, close_parenthesis, spelling, reserved_word, Token, mark, word, quoted, number, string, Tokens, token, ending, size}
use Rattle.hp_model.specs.NotationTree.{Node, Nodes, no_nodes, node, data_of, items_of, Phrase}
use Rattle.hp_model.specs.NotationPhrases.{is_mark, begins, past, listed, repeated, Operator, joined, with_right, most_operators, unchained, chained, chain_from}
use Rattle.hp_model.specs.NotationExpressions.{level_of, operator, chain}
use Rattle.hp_model.specs.NotationForms.{items, form_data}
use Rattle.hp_model.specs.NotationPrint.{Gap, tight, space, Pieces, sign, enclosed_if, name_token, token_of_name, first_is}

pub no_fault : {A : Type 0} → {x : A} {n : ℕ} → Err n ≡ Ok x → ⊥
no_fault e = cc

pub bind_ok : {A B : Type 0} (r : Result A ℕ) (x : A) (f : A → Result B ℕ) → r ≡ Ok x → (r >>= f) ≡ f x
bind_ok r x f e = ap (λ q. q >>= f) e

-- ---- the tokens of pieces

-- the tokens of pieces, with these offsets
abbrev pub stream : (ℕ → ℕ) → Pieces → Tokens
stream o [] = ending (o 0)
stream o (p ∷ ps) = token (o 0) p.token (stream (λ i. o (suc i)) ps)

pub size-stream : (o : ℕ → ℕ) (k : Pieces) → size (stream o k) ≡ length k
size-stream o [] = refl
size-stream o (p ∷ ps) = ap suc (size-stream (λ i. o (suc i)) ps)

-- how tightly a token binds to the operand before it: an operator by its level, and a point most of all
abbrev pub mark_binding : Mark → ℕ
mark_binding point = 9
mark_binding m = level_of m

abbrev pub token_binding : Token → ℕ
token_binding (mark m) = mark_binding m
token_binding t = 0

abbrev pub binding : Pieces → ℕ
binding [] = 0
binding (p ∷ ps) = token_binding p.token

level-binding : (m : Mark) → level_of m ≤ mark_binding m
level-binding point = omega arith
level-binding m = omega arith

operator_of_mark : (level : ℕ) (m : Mark) (at : ℕ) (ts : Tokens) → mark_binding m < level → operator level (token at (mark m) ts) ≡ None
operator_of_mark level m at ts h = rw (ne_eqb (level_of m) level (λ e. omega (arith, level-binding m))) refl

-- no operator of this level stands here
pub no_operator : (level : ℕ) (k : Pieces) (o : ℕ → ℕ) → binding k < level → operator level (stream o k) ≡ None
no_operator level [] o h = refl
no_operator level (p ∷ k) o h = go p.token h
  where
    go : (t : Token) → token_binding t < level → operator level (token (o 0) t (stream (λ i. o (suc i)) k)) ≡ None
    go (mark m) h = operator_of_mark level m (o 0) (stream (λ i. o (suc i)) k) h
    go (word w) h = refl
    go (quoted x) h = refl
    go (number n) h = refl
    go (string s) h = refl

no_point_mark : (m : Mark) → mark_binding m < 9 → is_mark point (mark m) ≡ false
no_point_mark point h = absurd (omega arith)
no_point_mark m h = refl

pub no_point : (k : Pieces) (o : ℕ → ℕ) → binding k < 9 → begins (is_mark point) (stream o k) ≡ false
no_point [] o h = refl
no_point (p ∷ k) o h = go p.token h
  where
    go : (t : Token) → token_binding t < 9 → is_mark point t ≡ false
    go (mark m) h = no_point_mark m h
    go (word w) h = refl
    go (quoted x) h = refl
    go (number n) h = refl
    go (string s) h = refl

-- ---- readings

-- a phrase reads these tokens as a value, and leaves the tokens of k
pub record Reading (P : Phrase Node) (d : Data) (ts : Tokens) (k : Pieces) : Type 0 where
  pub node : Node
  pub next : ℕ → ℕ
  pub same : data_of node ≡ d
  pub reads : P ts ≡ Ok (node, stream next k)

-- what f writes is read as this value, before all that binds less tightly
abbrev pub ReadsBy : Phrase Node → ℕ → (Gap → Pieces → Pieces) → Data → Type 0
ReadsBy P p f d = (gap : Gap) (k : Pieces) (o : ℕ → ℕ) → binding k < p → Reading P d (stream o (f gap k)) k

-- a phrase goes on, with this value as its left operand. The value has fewer operators than levels
pub record Chaining (operand : Phrase Node) (op : Operator) (P : Phrase Node) (levels : ℕ) (d : Data) (ts : Tokens) (k : Pieces) : Type 0 where
  pub node : Node
  pub next : ℕ → ℕ
  pub turns : ℕ
  pub enough : most_operators < turns + levels
  pub same : data_of node ≡ d
  pub reads : P ts ≡ chain_from operand op turns node (stream next k)

abbrev pub ChainsBy : Phrase Node → Operator → Phrase Node → (p levels : ℕ) → (Gap → Pieces → Pieces) → Data → Type 0
ChainsBy operand op P p levels f d = (gap : Gap) (k : Pieces) (o : ℕ → ℕ) → binding k < p → Chaining operand op P levels d (stream o (f gap k)) k

-- what f writes has more pieces than those that follow
abbrev pub Grows : (Gap → Pieces → Pieces) → Type 0
Grows f = (gap : Gap) (k : Pieces) → length k < length (f gap k)

pub grows_enclosed : (b : Bool) (f : Gap → Pieces → Pieces) → Grows f → Grows (enclosed_if b f)
grows_enclosed true f g gap k = omega (arith, g tight (sign tight close_parenthesis k))
grows_enclosed false f g gap k = g gap k

-- ---- chains

-- an operand begins a chain
pub begins_chain : (operand : Phrase Node) (op : Operator) (p levels : ℕ) (f : Gap → Pieces → Pieces) (d : Data) → 0 < levels → ReadsBy operand p f d
    → ChainsBy operand op (chain operand op) p levels f d
begins_chain operand op p levels f d some left gap k o h =
    let l = left gap k o h in
    record { node = l.node; next = l.next; turns = most_operators; enough = omega arith; same = l.same; reads = rw l.reads refl }

pub ends : (operand : Phrase Node) (op : Operator) (turns : ℕ) (n : Node) (ts : Tokens) → op ts ≡ None → chain_from operand op turns n ts ≡ Ok (n, ts)
unfolding chain_from
ends operand op zero n ts none = ap (unchained n ts) none
ends operand op (suc turns) n ts none = ap (chained operand (chain_from operand op turns) n ts) none

-- a chain ends where no operator of its level follows
pub ends_chain : (operand : Phrase Node) (level : ℕ) (P : Phrase Node) (p levels : ℕ) (f : Gap → Pieces → Pieces) (d : Data) → level ≤ p
    → ChainsBy operand (operator level) P p levels f d → ReadsBy P level f d
ends_chain operand level P p levels f d least left gap k o h =
    let l = left gap k o (omega arith) in
    record {
      node = l.node;
      next = l.next;
      same = l.same;
      reads = l.reads ∙ ends operand (operator level) l.turns l.node (stream l.next k) (no_operator level k l.next h);
    }

joined_same : (tag : List ℕ) (a b : Node) (c d : Data) → data_of a ≡ c → data_of b ≡ d → data_of (joined tag a b) ≡ form_data tag (c ∷ d ∷ [])
joined_same tag a b c d p q = λ i. form_data tag (p i ∷ q i ∷ [])

-- an operator and an operand go on with a chain
pub chain_on : (operand : Phrase Node) (op : Operator) (P : Phrase Node) (tag : List ℕ) (m : Mark) (ts : Tokens) (g : Gap → Pieces → Pieces) (k : Pieces) (c d : Data) (fewer levels : ℕ)
    → ((o : ℕ → ℕ) → op (stream o (sign space m (g space k))) ≡ Some (tag, stream (λ i. o (suc i)) (g space k))) → fewer < levels → levels ≤ 64
    → Chaining operand op P fewer c ts (sign space m (g space k)) → ((o : ℕ → ℕ) → Reading operand d (stream o (g space k)) k)
    → Chaining operand op P levels (form_data tag (c ∷ d ∷ [])) ts k
unfolding chain_from
chain_on operand op P tag m ts g k c d fewer levels some more few l right = turn l.turns refl
  where
    turn : (turns : ℕ) → l.turns ≡ turns → Chaining operand op P levels (form_data tag (c ∷ d ∷ [])) ts k
    turn zero e = absurd (omega (arith, l.enough))
    turn (suc turns) e =
        let rest = λ (i : ℕ). l.next (suc i) in
        let r = right rest in
        let here = stream l.next (sign space m (g space k)) in
        record {
          node = joined tag l.node r.node;
          next = r.next;
          turns = turns;
          enough = omega (arith, l.enough);
          same = joined_same tag l.node r.node c d l.same r.same;
          reads = l.reads ∙ ap (λ n. chain_from operand op n l.node here) e ∙ ap (chained operand (chain_from operand op turns) l.node here) (some l.next)
              ∙ ap (λ q. q >>= λ x. chain_from operand op turns (joined tag l.node x.0) x.1) r.reads;
        }

pub chain_step : (operand : Phrase Node) (level : ℕ) (P : Phrase Node) (p : ℕ) (m : Mark) (f g : Gap → Pieces → Pieces) (c d : Data) (fewer levels : ℕ)
    → level_of m ≡ level → mark_binding m < p → fewer < levels → levels ≤ 64 → ChainsBy operand (operator level) P p fewer f c → ReadsBy operand p g d
    → ChainsBy operand (operator level) P p levels (λ gap k. f gap (sign space m (g space k))) (form_data (spelling m) (c ∷ d ∷ []))
chain_step operand level P p m f g c d fewer levels is binds more few left right gap k o h =
    chain_on operand (operator level) P (spelling m) m (stream o (f gap (sign space m (g space k)))) g k c d fewer levels (λ next. rw (eq-eqb (level_of m) level is) refl)
    more few (left gap (sign space m (g space k)) o binds) (λ next. right space k next h)

-- ---- an operator with one operand on each side

abbrev pub two_sides : (left right : Phrase Node) → (level : ℕ) → Phrase Node
two_sides left right level ts = left ts >>= λ p. with_right right p.0 p.1 (operator level p.1)

-- no operator follows
pub one_side : (left right : Phrase Node) (level p : ℕ) (f : Gap → Pieces → Pieces) (d : Data) → level ≤ p → ReadsBy left p f d → ReadsBy (two_sides left right level) level f d
one_side left right level p f d least l gap k o h =
    let a = l gap k o (omega arith) in
    record {
      node = a.node;
      next = a.next;
      same = a.same;
      reads = ap (λ q. q >>= λ x. with_right right x.0 x.1 (operator level x.1)) a.reads
          ∙ ap (with_right right a.node (stream a.next k)) (no_operator level k a.next h);
    }

pub two_sides_read : (left right : Phrase Node) (level p q : ℕ) (m : Mark) (f g : Gap → Pieces → Pieces) (c d : Data)
    → level_of m ≡ level → mark_binding m < p → ReadsBy left p f c → ReadsBy right q g d
    → ReadsBy (two_sides left right level) q (λ gap k. f gap (sign space m (g space k))) (form_data (spelling m) (c ∷ d ∷ []))
two_sides_read left right level p q m f g c d is binds l r gap k o h =
    let a = l gap (sign space m (g space k)) o binds in
    let rest = λ (i : ℕ). a.next (suc i) in
    let b = r space k rest h in
    let some : operator level (stream a.next (sign space m (g space k))) ≡ Some (spelling m, stream rest (g space k)) = rw (eq-eqb (level_of m) level is) refl in
    record {
      node = joined (spelling m) a.node b.node;
      next = b.next;
      same = joined_same (spelling m) a.node b.node c d a.same b.same;
      reads = ap (λ q. q >>= λ x. with_right right x.0 x.1 (operator level x.1)) a.reads
          ∙ ap (with_right right a.node (stream a.next (sign space m (g space k)))) some ∙ ap (λ q. q >>= λ x. Ok (joined (spelling m) a.node x.0, x.1)) b.reads;
    }

-- ---- parentheses and names

-- what is written with parentheses where it needs them
pub enclosed_cases : (level p : ℕ) (f : Gap → Pieces → Pieces) (Good : (Gap → Pieces → Pieces) → Type 0) → (level < p → Good (enclosed_if true f)) → (p ≤ level → Good (enclosed_if false f))
    → Good (enclosed_if (nat_lt level p) f)
enclosed_cases level p f Good below above = go (cases_lt level p)
  where
    go : (level < p) ⊎ (p ≤ level) → Good (enclosed_if (nat_lt level p) f)
    go (inl h) = subst (λ b. Good (enclosed_if b f)) (sym (lt-ltb level p h)) (below h)
    go (inr h) = subst (λ b. Good (enclosed_if b f)) (sym (le-ltb level p h)) (above h)

pub name_cases : (x : List ℕ) (Good : Token → Type 0) → Good (word x) → Good (quoted x) → Good (name_token x)
name_cases x Good p q = go (reserved_word x)
  where
    go : (m : Option Mark) → Good (token_of_name x m)
    go None = p
    go (Some m) = q

-- ---- the first token of pieces

pub begins-stream : (is : Token → Bool) (k : Pieces) (o : ℕ → ℕ) → begins is (stream o k) ≡ first_is is k
begins-stream is [] o = refl
begins-stream is (p ∷ k) o = refl

-- ---- lists

-- parts that follow one another are read
pub record Repeats (begins_part : Token → Bool) (part : Phrase Node) (ds : List Data) (turns : ℕ) (ts : Tokens) (k : Pieces) : Type 0 where
  pub nodes : Nodes
  pub next : ℕ → ℕ
  pub same : items_of nodes ≡ items ds
  pub reads : repeated begins_part part turns ts ≡ Ok (nodes, stream next k)

abbrev pub RepeatsBy : (Token → Bool) → Phrase Node → List Data → (ps k : Pieces) → Type 0
RepeatsBy begins_part part ds ps k = (o : ℕ → ℕ) (turns : ℕ) → length ps ≤ turns → Repeats begins_part part ds turns (stream o ps) k

pub repeats_none : (begins_part : Token → Bool) (part : Phrase Node) (k : Pieces) → first_is begins_part k ≡ false → RepeatsBy begins_part part [] k k
repeats_none begins_part part k none o zero h = record { nodes = no_nodes; next = o; same = refl; reads = refl }
repeats_none begins_part part k none o (suc turns) h = record {
  nodes = no_nodes;
  next = o;
  same = refl;
  reads = ap (λ b. elim b as (λ _. Result (Nodes × Tokens) ℕ) [
    | true ↦ part (stream o k) >>= λ p. repeated begins_part part turns p.1 >>= λ q. Ok (node p.0 q.0, q.1)
    | false ↦ Ok (no_nodes, stream o k)
  ]) (begins-stream begins_part k o ∙ none);
}

pub repeats_more : (begins_part : Token → Bool) (part : Phrase Node) (d : Data) (ds : List Data) (ps qs k : Pieces) → first_is begins_part ps ≡ true → length qs < length ps
    → ((o : ℕ → ℕ) → Reading part d (stream o ps) qs) → RepeatsBy begins_part part ds qs k → RepeatsBy begins_part part (d ∷ ds) ps k
repeats_more begins_part part d ds ps qs k first less one others o zero h = absurd (omega arith)
repeats_more begins_part part d ds ps qs k first less one others o (suc turns) h =
    let r = one o in
    let rest = others r.next turns (omega arith) in
    record {
      nodes = node r.node rest.nodes;
      next = rest.next;
      same = λ i. item (r.same i) (rest.same i);
      reads = ap (λ b. elim b as (λ _. Result (Nodes × Tokens) ℕ) [
        | true ↦ part (stream o ps) >>= λ p. repeated begins_part part turns p.1 >>= λ q. Ok (node p.0 q.0, q.1)
        | false ↦ Ok (no_nodes, stream o ps)
      ]) (begins-stream begins_part ps o ∙ first)
          ∙ ap (λ q. q >>= λ p. repeated begins_part part turns p.1 >>= λ x. Ok (node p.0 x.0, x.1)) r.reads
          ∙ ap (λ q. q >>= λ x. Ok (node r.node x.0, x.1)) rest.reads;
    }

-- parts with commas between them are read
pub record Lists (part : Phrase Node) (ds : List Data) (turns : ℕ) (ts : Tokens) (k : Pieces) : Type 0 where
  pub nodes : Nodes
  pub next : ℕ → ℕ
  pub same : items_of nodes ≡ items ds
  pub reads : listed part turns ts ≡ Ok (nodes, stream next k)

abbrev pub ListsBy : Phrase Node → List Data → (ps k : Pieces) → Type 0
ListsBy part ds ps k = (o : ℕ → ℕ) (turns : ℕ) → length ps ≤ turns → Lists part ds turns (stream o ps) k

abbrev list_rest : Phrase Node → ℕ → Node × Tokens → Bool → Result (Nodes × Tokens) ℕ
list_rest part turns p is_comma = elim is_comma as (λ _. Result (Nodes × Tokens) ℕ) [
  | true ↦ listed part turns (past p.1) >>= λ q. Ok (node p.0 q.0, q.1)
  | false ↦ Ok (node p.0 no_nodes, p.1)
]

pub lists_one : (part : Phrase Node) (d : Data) (ps k : Pieces) → first_is (is_mark comma) k ≡ false → length k < length ps → ((o : ℕ → ℕ) → Reading part d (stream o ps) k)
    → ListsBy part (d ∷ []) ps k
lists_one part d ps k none less one o zero h = absurd (omega arith)
lists_one part d ps k none less one o (suc turns) h =
    let r = one o in
    record {
      nodes = node r.node no_nodes;
      next = r.next;
      same = λ i. item (r.same i) no_items;
      reads = ap (λ q. q >>= λ p. list_rest part turns p (begins (is_mark comma) p.1)) r.reads
          ∙ ap (list_rest part turns (r.node, stream r.next k)) (begins-stream (is_mark comma) k r.next ∙ none);
    }

pub lists_more : (part : Phrase Node) (d : Data) (ds : List Data) (ps qs k : Pieces) → suc (length qs) < length ps → ((o : ℕ → ℕ) → Reading part d (stream o ps) (sign tight comma qs))
    → ListsBy part ds qs k → ListsBy part (d ∷ ds) ps k
lists_more part d ds ps qs k less one others o zero h = absurd (omega arith)
lists_more part d ds ps qs k less one others o (suc turns) h =
    let r = one o in
    let rest = others (λ i. r.next (suc i)) turns (omega arith) in
    record {
      nodes = node r.node rest.nodes;
      next = rest.next;
      same = λ i. item (r.same i) (rest.same i);
      reads = ap (λ q. q >>= λ p. list_rest part turns p (begins (is_mark comma) p.1)) r.reads ∙ ap (λ q. q >>= λ x. Ok (node r.node x.0, x.1)) rest.reads;
    }

-- Lists, one part at a time.
use Rattle.std.proofs.Common.{◌≡◌, refl, sym, ap, ◌∙◌, ℕ, zero, suc, Bool, true, false, List, [], ◌∷◌, ◌++◌, length, map, Result, Ok, Err}
use Rattle.hp_model.specs.Values.{◌>>=◌}
use Rattle.hp_model.specs.NotationTokens.{Token, Tokens, size, comma, close_brace, place}
use Rattle.hp_model.specs.NotationTree.{Node, Nodes, no_nodes, node, nodes, Phrase}
use Rattle.hp_model.specs.NotationPhrases.{is_mark, begins, past, listed, repeated}
use Rattle.hp_model.specs.NotationStatements.{past_semicolon, statements}
use Rattle.hp_text.specs.declared.token.Placed.{Placed}
use Rattle.hp_text.specs.declared.token.Ending.{Ending}
use Rattle.hp_text.specs.declared.token.Ending.TheVariants.{End, Unreadable}
use Rattle.hp_text.specs.declared.tokens.Tokens as D
use Rattle.hp_text.specs.declared.node.Node as V
use Rattle.hp_text.specs.declared.fault.Stop.{Stop}
use Rattle.hp_text.specs.declared.fault.Stop.TheVariants.{Fault, Memory}
use Rattle.std.proofs.lemmas.List.{map-append}
use Rattle.hp_text.specs.Mapped.{before, ending_view, node_view, tokens_view, Stops}

size-before : (ps : List Placed) (e : Ending) → size (before ps (ending_view e)) ≡ length ps
size-before [] (End at) = refl
size-before [] (Unreadable at) = refl
size-before (p ∷ ps) e = ap suc (size-before ps e)

pub size_of_tokens : (t : D.Tokens) → size (tokens_view t) ≡ length t.placed.now
size_of_tokens t = size-before t.placed.now t.ending

-- one more part
pub nodes_more : (old new : List V.Node) (x : V.Node) → new ≡ old ++ x ∷ [] → map node_view old ++ node_view x ∷ [] ≡ map node_view new
nodes_more old new x e = sym (ap (map node_view) e ∙ map-append node_view old (x ∷ []))

-- a list that was begun with these parts
abbrev pub after : List Node → Result (Nodes × Tokens) ℕ → Result (Nodes × Tokens) ℕ
after [] r = r
after (n ∷ ns) r = after ns r >>= λ q. Ok (node n q.0, q.1)

after_more : (ns : List Node) (x : Node) (r : Result (Nodes × Tokens) ℕ) → after ns (r >>= λ q. Ok (node x q.0, q.1)) ≡ after (ns ++ x ∷ []) r
after_more [] x r = refl
after_more (n ∷ ns) x r = ap (λ s. s >>= λ q. Ok (node n q.0, q.1)) (after_more ns x r)

after_err : (ns : List Node) (at : ℕ) → after ns (Err at) ≡ Err at
after_err [] at = refl
after_err (n ∷ ns) at = ap (λ s. s >>= λ q. Ok (node n q.0, q.1)) (after_err ns at)

after_all : (ns : List Node) (ts : Tokens) → after ns (Ok (no_nodes, ts)) ≡ Ok (nodes ns, ts)
after_all [] ts = refl
after_all (n ∷ ns) ts = ap (λ s. s >>= λ q. Ok (node n q.0, q.1)) (after_all ns ts)

-- ---- parts with commas between them

-- what comes after a part, where another one follows or not
abbrev then_listed : (part : Phrase Node) → ℕ → Node → Tokens → Bool → Result (Nodes × Tokens) ℕ
then_listed part n x next true = listed part n (past next) >>= λ q. Ok (node x q.0, q.1)
then_listed part n x next false = Ok (node x no_nodes, next)

listed_on : (part : Phrase Node) (n : ℕ) (x : Node) (ts next : Tokens) (b : Bool) → part ts ≡ Ok (x, next) → begins (is_mark comma) next ≡ b
    → listed part (suc n) ts ≡ then_listed part n x next b
listed_on part n x ts next b reads is =
    ap (λ r. r >>= λ (p : Node × Tokens). then_listed part n p.0 p.1 (begins (is_mark comma) p.1)) reads ∙ ap (then_listed part n x next) is

pub listed_more : (part : Phrase Node) (whole : Result (Nodes × Tokens) ℕ) (n m : ℕ) (ns : List Node) (x : Node) (ts next : Tokens)
    → whole ≡ after ns (listed part n ts) → n ≡ suc m → part ts ≡ Ok (x, next) → begins (is_mark comma) next ≡ true
    → whole ≡ after (ns ++ x ∷ []) (listed part m (past next))
listed_more part whole n m ns x ts next so_far is reads more =
    so_far ∙ ap (λ k. after ns (listed part k ts)) is ∙ ap (after ns) (listed_on part m x ts next true reads more) ∙ after_more ns x (listed part m (past next))

pub listed_last : (part : Phrase Node) (whole : Result (Nodes × Tokens) ℕ) (n m : ℕ) (ns : List Node) (x : Node) (ts next : Tokens)
    → whole ≡ after ns (listed part n ts) → n ≡ suc m → part ts ≡ Ok (x, next) → begins (is_mark comma) next ≡ false
    → whole ≡ Ok (nodes (ns ++ x ∷ []), next)
listed_last part whole n m ns x ts next so_far is reads last =
    so_far ∙ ap (λ k. after ns (listed part k ts)) is ∙ ap (after ns) (listed_on part m x ts next false reads last) ∙ after_more ns x (Ok (no_nodes, next))
    ∙ after_all (ns ++ x ∷ []) next

listed_broken : (part : Phrase Node) (whole : Result (Nodes × Tokens) ℕ) (n m : ℕ) (ns : List Node) (ts : Tokens) (at : ℕ)
    → whole ≡ after ns (listed part n ts) → n ≡ suc m → part ts ≡ Err at → whole ≡ Err at
listed_broken part whole n m ns ts at so_far is fails =
    so_far ∙ ap (λ k. after ns (listed part k ts)) is
    ∙ ap (λ r. after ns (r >>= λ (p : Node × Tokens). then_listed part m p.0 p.1 (begins (is_mark comma) p.1))) fails ∙ after_err ns at

pub listed_stops : (part : Phrase Node) (whole : Result (Nodes × Tokens) ℕ) (n m : ℕ) (ns : List Node) (ts : Tokens) (stop : Stop)
    → whole ≡ after ns (listed part n ts) → n ≡ suc m → Stops stop (part ts) → Stops stop whole
listed_stops part whole n m ns ts (Fault at) so_far is fails = listed_broken part whole n m ns ts at so_far is fails
listed_stops part whole n m ns ts Memory so_far is fails = tt

pub listed_none : (part : Phrase Node) (whole : Result (Nodes × Tokens) ℕ) (n : ℕ) (ns : List Node) (ts : Tokens)
    → whole ≡ after ns (listed part n ts) → n ≡ 0 → whole ≡ Err (place ts)
listed_none part whole n ns ts so_far is = so_far ∙ ap (λ k. after ns (listed part k ts)) is ∙ after_err ns (place ts)

-- ---- parts that each begin with such a token

abbrev then_repeated : (is : Token → Bool) (part : Phrase Node) → ℕ → Tokens → Bool → Result (Nodes × Tokens) ℕ
then_repeated is part n ts true = part ts >>= λ p. repeated is part n p.1 >>= λ q. Ok (node p.0 q.0, q.1)
then_repeated is part n ts false = Ok (no_nodes, ts)

pub repeated_more : (is : Token → Bool) (part : Phrase Node) (whole : Result (Nodes × Tokens) ℕ) (n m : ℕ) (ns : List Node) (x : Node) (ts next : Tokens)
    → whole ≡ after ns (repeated is part n ts) → n ≡ suc m → begins is ts ≡ true → part ts ≡ Ok (x, next)
    → whole ≡ after (ns ++ x ∷ []) (repeated is part m next)
repeated_more is part whole n m ns x ts next so_far less more reads =
    so_far ∙ ap (λ k. after ns (repeated is part k ts)) less ∙ ap (λ b. after ns (then_repeated is part m ts b)) more
    ∙ ap (λ r. after ns (r >>= λ (p : Node × Tokens). repeated is part m p.1 >>= λ q. Ok (node p.0 q.0, q.1))) reads ∙ after_more ns x (repeated is part m next)

pub repeated_over : (is : Token → Bool) (part : Phrase Node) (whole : Result (Nodes × Tokens) ℕ) (n : ℕ) (ns : List Node) (ts : Tokens)
    → whole ≡ after ns (repeated is part n ts) → begins is ts ≡ false → whole ≡ Ok (nodes ns, ts)
repeated_over is part whole zero ns ts so_far over = so_far ∙ after_all ns ts
repeated_over is part whole (suc n) ns ts so_far over = so_far ∙ ap (λ b. after ns (then_repeated is part n ts b)) over ∙ after_all ns ts

pub repeated_none : (is : Token → Bool) (part : Phrase Node) (whole : Result (Nodes × Tokens) ℕ) (n : ℕ) (ns : List Node) (ts : Tokens)
    → whole ≡ after ns (repeated is part n ts) → n ≡ 0 → whole ≡ Ok (nodes ns, ts)
repeated_none is part whole n ns ts so_far less = so_far ∙ ap (λ k. after ns (repeated is part k ts)) less ∙ after_all ns ts

repeated_broken : (is : Token → Bool) (part : Phrase Node) (whole : Result (Nodes × Tokens) ℕ) (n m : ℕ) (ns : List Node) (ts : Tokens) (at : ℕ)
    → whole ≡ after ns (repeated is part n ts) → n ≡ suc m → begins is ts ≡ true → part ts ≡ Err at → whole ≡ Err at
repeated_broken is part whole n m ns ts at so_far less more fails =
    so_far ∙ ap (λ k. after ns (repeated is part k ts)) less ∙ ap (λ b. after ns (then_repeated is part m ts b)) more
    ∙ ap (λ r. after ns (r >>= λ (p : Node × Tokens). repeated is part m p.1 >>= λ q. Ok (node p.0 q.0, q.1))) fails ∙ after_err ns at

pub repeated_stops : (is : Token → Bool) (part : Phrase Node) (whole : Result (Nodes × Tokens) ℕ) (n m : ℕ) (ns : List Node) (ts : Tokens) (stop : Stop)
    → whole ≡ after ns (repeated is part n ts) → n ≡ suc m → begins is ts ≡ true → Stops stop (part ts) → Stops stop whole
repeated_stops is part whole n m ns ts (Fault at) so_far less more fails = repeated_broken is part whole n m ns ts at so_far less more fails
repeated_stops is part whole n m ns ts Memory so_far less more fails = tt

-- ---- statements

abbrev then_statements : (statement : Phrase Node) → ℕ → Tokens → Bool → Result (Nodes × Tokens) ℕ
then_statements statement n ts true = Ok (no_nodes, past ts)
then_statements statement n ts false = statement ts >>= λ p. statements statement n (past_semicolon p.1) >>= λ q. Ok (node p.0 q.0, q.1)

pub statements_more : (statement : Phrase Node) (whole : Result (Nodes × Tokens) ℕ) (n m : ℕ) (ns : List Node) (x : Node) (ts next : Tokens)
    → whole ≡ after ns (statements statement n ts) → n ≡ suc m → begins (is_mark close_brace) ts ≡ false → statement ts ≡ Ok (x, next)
    → whole ≡ after (ns ++ x ∷ []) (statements statement m (past_semicolon next))
statements_more statement whole n m ns x ts next so_far less more reads =
    so_far ∙ ap (λ k. after ns (statements statement k ts)) less ∙ ap (λ b. after ns (then_statements statement m ts b)) more
    ∙ ap (λ r. after ns (r >>= λ (p : Node × Tokens). statements statement m (past_semicolon p.1) >>= λ q. Ok (node p.0 q.0, q.1))) reads
    ∙ after_more ns x (statements statement m (past_semicolon next))

pub statements_over : (statement : Phrase Node) (whole : Result (Nodes × Tokens) ℕ) (n m : ℕ) (ns : List Node) (ts : Tokens)
    → whole ≡ after ns (statements statement n ts) → n ≡ suc m → begins (is_mark close_brace) ts ≡ true → whole ≡ Ok (nodes ns, past ts)
statements_over statement whole n m ns ts so_far less over =
    so_far ∙ ap (λ k. after ns (statements statement k ts)) less ∙ ap (λ b. after ns (then_statements statement m ts b)) over ∙ after_all ns (past ts)

statements_broken : (statement : Phrase Node) (whole : Result (Nodes × Tokens) ℕ) (n m : ℕ) (ns : List Node) (ts : Tokens) (at : ℕ)
    → whole ≡ after ns (statements statement n ts) → n ≡ suc m → begins (is_mark close_brace) ts ≡ false → statement ts ≡ Err at → whole ≡ Err at
statements_broken statement whole n m ns ts at so_far less more fails =
    so_far ∙ ap (λ k. after ns (statements statement k ts)) less ∙ ap (λ b. after ns (then_statements statement m ts b)) more
    ∙ ap (λ r. after ns (r >>= λ (p : Node × Tokens). statements statement m (past_semicolon p.1) >>= λ q. Ok (node p.0 q.0, q.1))) fails ∙ after_err ns at

pub statements_stops : (statement : Phrase Node) (whole : Result (Nodes × Tokens) ℕ) (n m : ℕ) (ns : List Node) (ts : Tokens) (stop : Stop)
    → whole ≡ after ns (statements statement n ts) → n ≡ suc m → begins (is_mark close_brace) ts ≡ false → Stops stop (statement ts) → Stops stop whole
statements_stops statement whole n m ns ts (Fault at) so_far less more fails = statements_broken statement whole n m ns ts at so_far less more fails
statements_stops statement whole n m ns ts Memory so_far less more fails = tt

pub statements_none : (statement : Phrase Node) (whole : Result (Nodes × Tokens) ℕ) (n : ℕ) (ns : List Node) (ts : Tokens)
    → whole ≡ after ns (statements statement n ts) → n ≡ 0 → whole ≡ Err (place ts)
statements_none statement whole n ns ts so_far less = so_far ∙ ap (λ k. after ns (statements statement k ts)) less ∙ after_err ns (place ts)

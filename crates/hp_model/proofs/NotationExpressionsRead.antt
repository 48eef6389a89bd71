-- The canonical text of an expression is read as the expression.
use Rattle.std.proofs.Common.{◌≡◌, refl, ap, ◌∙◌, ℕ, zero, suc, ◌+◌, ◌*◌, ◌<◌, ◌≤◌, ◌^◌, max, ℤ, pos, negsuc, Bool, true, false, List, [], ◌∷◌, length, codes, Result, Ok, arith}
use Rattle.std.specs.Prelude.{nat_lt, bytes_eq}
use Rattle.std.proofs.lemmas.Bool.{lt-ltb}
use Rattle.serde_json.specs.Data.{Data, string}
use Rattle.hp_model.specs.Values.{◌>>=◌}
use Rattle.hp_model.specs.NotationTokens.{Mark, and_mark, or_mark, not_mark, equal_sign, unequal_sign, less_sign, at_most_sign, greater_sign, at_least_sign, plus_sign, times_sign}
use Rattle.hp_model.specs.NotationTokens.{divided_sign, percent_sign, minus_sign, open_parenthesis, close_parenthesis, point, key_mark, spelling, mark, word, quoted, number}
use Rattle.hp_model.specs.NotationTokens.{string as string_token, Tokens, token, ending, unreadable}
use Rattle.hp_model.specs.NotationTree as T
use Rattle.hp_model.specs.NotationTree.{Node, data_of, form, Phrase}
use Rattle.hp_model.specs.NotationPhrases.{is_mark, begins, past, passed}
use Rattle.hp_model.specs.NotationExpressions.{Deeper, level_of, operator, row_field, primary, negative, of_row, named, alone, unary, product, sum, comparison, negation}
use Rattle.hp_model.specs.NotationExpressions.{conjunction, expression, expressions_within, any_expression, any_sum}
use Rattle.hp_model.specs.NotationForms.{Expression, integer, truth, text, Operator, either, both, equal, unequal, less, at_most, greater, at_least, plus, minus, times, quotient}
use Rattle.hp_model.specs.NotationForms.{remainder, operator_mark, operation, inverted, negated, Image, new_image, old_image, field_of, key_of, value, now, image_field, key_in}
use Rattle.hp_model.specs.NotationForms.{time_of, argument, occurrence_count, expression_data, form_data, natural_data}
use Rattle.hp_model.specs.NotationPrint.{Gap, tight, space, Pieces, at_gap, sign, free, name, natural, value_token_of, enclosed_if, part_pieces, expression_level, left_level}
use Rattle.hp_model.specs.NotationPrint.{right_level, negated_level, expression_pieces, expression_in}
use Rattle.hp_model.specs.NotationLaws.{Fits, IsWritableExpression, expression_levels}
use Rattle.hp_model.proofs.NotationReadings.{stream, mark_binding, binding, no_point, Reading, ReadsBy, ChainsBy, Grows, begins_chain, ends_chain, chain_step, one_side, two_sides}
use Rattle.hp_model.proofs.NotationReadings.{two_sides_read, enclosed_cases, name_cases, no_fault, grows_enclosed}

-- ---- what was read at one level is read at the next looser one

-- no operand begins with `-` or is a number
unary_reads : (deeper : Deeper) (ts : Tokens) (r : Node × Tokens) → primary deeper ts ≡ Ok r → unary deeper ts ≡ Ok r
unary_reads deeper (token at (mark minus_sign) ts) r e = absurd (no_fault e)
unary_reads deeper (token at (mark m) ts) r e = e
unary_reads deeper (token at (word w) ts) r e = e
unary_reads deeper (token at (quoted x) ts) r e = e
unary_reads deeper (token at (number n) ts) r e = absurd (no_fault e)
unary_reads deeper (token at (string_token s) ts) r e = e
unary_reads deeper (ending at) r e = e
unary_reads deeper (unreadable at) r e = e

-- no comparison begins with `not`
negation_reads : (deeper : Deeper) (ts : Tokens) (r : Node × Tokens) → comparison deeper ts ≡ Ok r → negation deeper ts ≡ Ok r
unfolding comparison sum product negation
negation_reads deeper (token at (mark not_mark) ts) r e = absurd (no_fault e)
negation_reads deeper (token at (mark m) ts) r e = e
negation_reads deeper (token at (word w) ts) r e = e
negation_reads deeper (token at (quoted x) ts) r e = e
negation_reads deeper (token at (number n) ts) r e = e
negation_reads deeper (token at (string_token s) ts) r e = e
negation_reads deeper (ending at) r e = e
negation_reads deeper (unreadable at) r e = e

module _ (deeper : Deeper) (levels : ℕ) (some : 0 < levels) (f : Gap → Pieces → Pieces) (d : Data) where
  unary_of : ReadsBy (primary deeper) 9 f d → ReadsBy (unary deeper) 9 f d
  unary_of by gap k o h =
      let r = by gap k o h in
      record { node = r.node; next = r.next; same = r.same; reads = unary_reads deeper (stream o (f gap k)) (r.node, stream r.next k) r.reads }

  product_chain_of : ReadsBy (unary deeper) 9 f d → ChainsBy (unary deeper) (operator 6) (product deeper) 9 levels f d
  unfolding product
  product_chain_of by = begins_chain (unary deeper) (operator 6) 9 levels f d some by

  product_of : ChainsBy (unary deeper) (operator 6) (product deeper) 9 levels f d → ReadsBy (product deeper) 6 f d
  product_of by = ends_chain (unary deeper) 6 (product deeper) 9 levels f d (omega arith) by

  sum_chain_of : ReadsBy (product deeper) 6 f d → ChainsBy (product deeper) (operator 5) (sum deeper) 6 levels f d
  unfolding sum
  sum_chain_of by = begins_chain (product deeper) (operator 5) 6 levels f d some by

  sum_of : ChainsBy (product deeper) (operator 5) (sum deeper) 6 levels f d → ReadsBy (sum deeper) 5 f d
  sum_of by = ends_chain (product deeper) 5 (sum deeper) 6 levels f d (omega arith) by

  comparison_of : ReadsBy (sum deeper) 5 f d → ReadsBy (comparison deeper) 4 f d
  unfolding comparison
  comparison_of by = one_side (sum deeper) (sum deeper) 4 5 f d (omega arith) by

  negation_of : ReadsBy (comparison deeper) 4 f d → ReadsBy (negation deeper) 4 f d
  negation_of by gap k o h =
      let r = by gap k o h in
      record { node = r.node; next = r.next; same = r.same; reads = negation_reads deeper (stream o (f gap k)) (r.node, stream r.next k) r.reads }

  conjunction_of : ReadsBy (negation deeper) 4 f d → ReadsBy (conjunction deeper) 2 f d
  unfolding conjunction
  conjunction_of by = one_side (negation deeper) deeper.conjunction 2 4 f d (omega arith) by

  expression_of : ReadsBy (conjunction deeper) 2 f d → ReadsBy (expression deeper) 1 f d
  unfolding expression
  expression_of by = one_side (conjunction deeper) deeper.expression 1 2 f d (omega arith) by

-- ---- the ladder of levels

data Rank : Type 0 where
  rank_1 rank_2 rank_3 rank_4 rank_5 rank_6 rank_7 rank_8 : Rank

abbrev rank_level : Rank → ℕ
rank_level rank_1 = 1
rank_level rank_2 = 2
rank_level rank_3 = 3
rank_level rank_4 = 4
rank_level rank_5 = 5
rank_level rank_6 = 6
rank_level rank_7 = 7
rank_level rank_8 = 8

module _ (deeper : Deeper) (levels : ℕ) (some : 0 < levels) (f : Gap → Pieces → Pieces) (d : Data) where
  -- what f writes is read at the level of this rank
  abbrev Base : Rank → Type 0
  Base rank_1 = ReadsBy (expression deeper) 1 f d
  Base rank_2 = ReadsBy (conjunction deeper) 2 f d
  Base rank_3 = ReadsBy (negation deeper) 4 f d
  Base rank_4 = ReadsBy (comparison deeper) 4 f d
  Base rank_5 = ChainsBy (product deeper) (operator 5) (sum deeper) 6 levels f d
  Base rank_6 = ChainsBy (unary deeper) (operator 6) (product deeper) 9 levels f d
  Base rank_7 = ReadsBy (unary deeper) 9 f d
  Base rank_8 = ReadsBy (primary deeper) 9 f d

  at_unary : (rank : Rank) → Base rank → 7 ≤ rank_level rank → ReadsBy (unary deeper) 9 f d
  at_unary rank_8 b h = unary_of deeper levels some f d b
  at_unary rank_7 b h = b
  at_unary rank b h = absurd (omega arith)

  at_product_chain : (rank : Rank) → Base rank → 6 ≤ rank_level rank → ChainsBy (unary deeper) (operator 6) (product deeper) 9 levels f d
  at_product_chain rank_8 b h = product_chain_of deeper levels some f d (at_unary rank_8 b (omega arith))
  at_product_chain rank_7 b h = product_chain_of deeper levels some f d (at_unary rank_7 b (omega arith))
  at_product_chain rank_6 b h = b
  at_product_chain rank b h = absurd (omega arith)

  at_sum_chain : (rank : Rank) → Base rank → 5 ≤ rank_level rank → ChainsBy (product deeper) (operator 5) (sum deeper) 6 levels f d
  at_sum_chain rank_5 b h = b
  at_sum_chain rank_4 b h = absurd (omega arith)
  at_sum_chain rank_3 b h = absurd (omega arith)
  at_sum_chain rank_2 b h = absurd (omega arith)
  at_sum_chain rank_1 b h = absurd (omega arith)
  at_sum_chain rank b h = sum_chain_of deeper levels some f d (product_of deeper levels some f d (at_product_chain rank b (omega arith)))

  at_comparison : (rank : Rank) → Base rank → 4 ≤ rank_level rank → ReadsBy (comparison deeper) 4 f d
  at_comparison rank_4 b h = b
  at_comparison rank_3 b h = absurd (omega arith)
  at_comparison rank_2 b h = absurd (omega arith)
  at_comparison rank_1 b h = absurd (omega arith)
  at_comparison rank b h = comparison_of deeper levels some f d (sum_of deeper levels some f d (at_sum_chain rank b (omega arith)))

  at_negation : (rank : Rank) → Base rank → 3 ≤ rank_level rank → ReadsBy (negation deeper) 4 f d
  at_negation rank_3 b h = b
  at_negation rank_2 b h = absurd (omega arith)
  at_negation rank_1 b h = absurd (omega arith)
  at_negation rank b h = negation_of deeper levels some f d (at_comparison rank b (omega arith))

  at_conjunction : (rank : Rank) → Base rank → 2 ≤ rank_level rank → ReadsBy (conjunction deeper) 2 f d
  at_conjunction rank_2 b h = b
  at_conjunction rank_1 b h = absurd (omega arith)
  at_conjunction rank b h = conjunction_of deeper levels some f d (at_negation rank b (omega arith))

  at_expression : (rank : Rank) → Base rank → ReadsBy (expression deeper) 1 f d
  at_expression rank_1 b = b
  at_expression rank b = expression_of deeper levels some f d (at_conjunction rank b (omega arith))

pub levels_positive : (y : Expression) → 0 < expression_levels y
levels_positive (operation op a b) = omega arith
levels_positive (inverted a) = omega arith
levels_positive (negated a) = omega arith
levels_positive y = omega arith

-- how an expression without parentheses is read, with this number of levels left
record Own (x : Expression) (l : ℕ) : Type 0 where
  rank : Rank
  fits : (p : ℕ) → p ≤ 7 → p ≤ expression_level x → p ≤ rank_level rank
  base : Base (expressions_within l) (expression_levels x) (levels_positive x) (expression_pieces x) (expression_data x) rank
  -- after a `-`
  operand : 8 ≤ negated_level x → ReadsBy (primary (expressions_within l)) 9 (expression_pieces x) (expression_data x)

abbrev Owned : Expression → Type 0
Owned x = (l : ℕ) → l < 64 → 2 * expression_levels x ≤ l + 2 → Own x l

module _ (x : Expression) (own : Owned x) where
  -- in parentheses, which nest a level deeper
  parenthesized : (l : ℕ) → l < 64 → 2 * expression_levels x ≤ l + 1 → ReadsBy (primary (expressions_within l)) 9 (enclosed_if true (expression_pieces x)) (expression_data x)
  unfolding expressions_within
  parenthesized zero few h gap k o q = absurd (omega (arith, levels_positive x))
  parenthesized (suc l) few h gap k o q =
      let inner = own l (omega arith) (omega arith) in
      let r = at_expression (expressions_within l) (expression_levels x) (levels_positive x) (expression_pieces x) (expression_data x) inner.rank inner.base
      tight (sign tight close_parenthesis k) (λ i. o (suc i)) (omega arith) in
      record {
        node = r.node;
        next = λ i. r.next (suc i);
        same = r.same;
        reads = ap (λ q. q >>= λ e. passed (is_mark close_parenthesis) e.1 >>= λ rest. Ok (e.0, rest)) r.reads;
      }

  module _ (l : ℕ) (few : l < 64) (h : 2 * expression_levels x ≤ l + 1) where
    abbrev deep : Deeper
    deep = expressions_within l

    abbrev written : Gap → Pieces → Pieces
    written = expression_pieces x

    abbrev paren : Gap → Pieces → Pieces
    paren = enclosed_if true (expression_pieces x)

    abbrev dat : Data
    dat = expression_data x

    mine : Own x l
    mine = own l few (omega arith)

    in_expression : ReadsBy (expression deep) 1 (expression_in 1 x) dat
    in_expression = enclosed_cases (expression_level x) 1 written (λ g. ReadsBy (expression deep) 1 g dat)
        (λ _. at_expression deep (expression_levels x) (levels_positive x) paren dat rank_8 (parenthesized l few h))
        (λ above. at_expression deep (expression_levels x) (levels_positive x) written dat mine.rank mine.base)

    in_conjunction : ReadsBy (conjunction deep) 2 (expression_in 2 x) dat
    in_conjunction = enclosed_cases (expression_level x) 2 written (λ g. ReadsBy (conjunction deep) 2 g dat)
        (λ _. at_conjunction deep (expression_levels x) (levels_positive x) paren dat rank_8 (parenthesized l few h) (omega arith))
        (λ above. at_conjunction deep (expression_levels x) (levels_positive x) written dat mine.rank mine.base (mine.fits 2 (omega arith) above))

    in_negation : ReadsBy (negation deep) 4 (expression_in 3 x) dat
    in_negation = enclosed_cases (expression_level x) 3 written (λ g. ReadsBy (negation deep) 4 g dat)
        (λ _. at_negation deep (expression_levels x) (levels_positive x) paren dat rank_8 (parenthesized l few h) (omega arith))
        (λ above. at_negation deep (expression_levels x) (levels_positive x) written dat mine.rank mine.base (mine.fits 3 (omega arith) above))

    in_sum_chain : ChainsBy (product deep) (operator 5) (sum deep) 6 (expression_levels x) (expression_in 5 x) dat
    in_sum_chain = enclosed_cases (expression_level x) 5 written (λ g. ChainsBy (product deep) (operator 5) (sum deep) 6 (expression_levels x) g dat)
        (λ _. at_sum_chain deep (expression_levels x) (levels_positive x) paren dat rank_8 (parenthesized l few h) (omega arith))
        (λ above. at_sum_chain deep (expression_levels x) (levels_positive x) written dat mine.rank mine.base (mine.fits 5 (omega arith) above))

    in_sum : ReadsBy (sum deep) 5 (expression_in 5 x) dat
    in_sum = sum_of deep (expression_levels x) (levels_positive x) (expression_in 5 x) dat in_sum_chain

    in_product_chain : ChainsBy (unary deep) (operator 6) (product deep) 9 (expression_levels x) (expression_in 6 x) dat
    in_product_chain = enclosed_cases (expression_level x) 6 written (λ g. ChainsBy (unary deep) (operator 6) (product deep) 9 (expression_levels x) g dat)
        (λ _. at_product_chain deep (expression_levels x) (levels_positive x) paren dat rank_8 (parenthesized l few h) (omega arith))
        (λ above. at_product_chain deep (expression_levels x) (levels_positive x) written dat mine.rank mine.base (mine.fits 6 (omega arith) above))

    in_product : ReadsBy (product deep) 6 (expression_in 6 x) dat
    in_product = product_of deep (expression_levels x) (levels_positive x) (expression_in 6 x) dat in_product_chain

    in_unary : ReadsBy (unary deep) 9 (expression_in 7 x) dat
    in_unary = enclosed_cases (expression_level x) 7 written (λ g. ReadsBy (unary deep) 9 g dat)
        (λ _. at_unary deep (expression_levels x) (levels_positive x) paren dat rank_8 (parenthesized l few h) (omega arith))
        (λ above. at_unary deep (expression_levels x) (levels_positive x) written dat mine.rank mine.base (mine.fits 7 (omega arith) above))

    after_minus : ReadsBy (primary deep) 9 (enclosed_if (nat_lt (negated_level x) 8) written) dat
    after_minus = enclosed_cases (negated_level x) 8 written (λ g. ReadsBy (primary deep) 9 g dat) (λ _. parenthesized l few h) (λ above. mine.operand above)

-- ---- what an expression writes comes before what follows

grows_part : (i : ℕ) (k : Pieces) → length k ≤ length (part_pieces i k)
grows_part zero k = omega arith
grows_part (suc i) k = omega arith

pub grows_expression : (x : Expression) → Grows (expression_pieces x)
grows_expression (integer (pos n)) gap k = omega arith
grows_expression (integer (negsuc n)) gap k = omega arith
grows_expression (truth b) gap k = omega arith
grows_expression (text s) gap k = omega arith
grows_expression (operation op a b) gap k =
    let right = enclosed_if (nat_lt (expression_level b) (right_level op)) (expression_pieces b) space k in
    let one = grows_enclosed (nat_lt (expression_level b) (right_level op)) (expression_pieces b) (grows_expression b) space k in
    let two = grows_enclosed (nat_lt (expression_level a) (left_level op)) (expression_pieces a) (grows_expression a) gap (sign space (operator_mark op) right) in
    omega arith
grows_expression (inverted a) gap k =
    let one = grows_enclosed (nat_lt (expression_level a) 3) (expression_pieces a) (grows_expression a) space k in
    omega arith
grows_expression (negated a) gap k =
    let one = grows_enclosed (nat_lt (negated_level a) 8) (expression_pieces a) (grows_expression a) tight k in
    omega arith
grows_expression (field_of x f) gap k = omega arith
grows_expression (key_of x) gap k = omega arith
grows_expression (value x) gap k = omega arith
grows_expression now gap k = omega arith
grows_expression (image_field image i f) gap k = let one = grows_part i (sign tight point (name tight f k)) in omega arith
grows_expression (key_in i) gap k = let one = grows_part i (sign tight point (sign tight key_mark k)) in omega arith
grows_expression (time_of i) gap k = let one = grows_part i (sign tight point (free tight (codes "time") k)) in omega arith
grows_expression (argument i j) gap k =
    let one = grows_part i (sign tight point (free tight (codes "arg") (sign tight open_parenthesis (natural tight j (sign tight close_parenthesis k))))) in
    omega arith
grows_expression occurrence_count gap k = omega arith

pub grows_in : (p : ℕ) (x : Expression) → Grows (expression_in p x)
grows_in p x = grows_enclosed (nat_lt (expression_level x) p) (expression_pieces x) (grows_expression x)

-- ---- operands

-- one that is a primary
own_primary : (x : Expression) (l : ℕ) → expression_level x ≡ 8 → ReadsBy (primary (expressions_within l)) 9 (expression_pieces x) (expression_data x) → Own x l
own_primary x l e by = record { rank = rank_8; fits = λ p a b. omega arith; base = by; operand = λ _. by }

own_integer : (z : ℤ) (l : ℕ) → IsWritableExpression (integer z) → Own (integer z) l
own_integer (pos n) l fits = record {
  rank = rank_7;
  fits = λ p a b. omega arith;
  base = λ gap k o h. record { node = T.integer (o 0) (pos n); next = λ i. o (suc i); same = refl; reads = rw (lt-ltb n (2 ^ 63) fits) refl };
  operand = λ h. absurd (omega arith);
}
own_integer (negsuc n) l fits = record {
  rank = rank_7;
  fits = λ p a b. omega arith;
  base = λ gap k o h. record { node = T.integer (o 0) (negsuc n); next = λ i. o (suc (suc i)); same = refl; reads = refl };
  operand = λ h. absurd (omega arith);
}

own_truth : (b : Bool) (l : ℕ) → Own (truth b) l
own_truth true l = own_primary (truth true) l refl (λ gap k o h. record { node = T.truth (o 0) true; next = λ i. o (suc i); same = refl; reads = refl })
own_truth false l = own_primary (truth false) l refl (λ gap k o h. record { node = T.truth (o 0) false; next = λ i. o (suc i); same = refl; reads = refl })

own_text : (s : List ℕ) (l : ℕ) → Own (text s) l
own_text s l = own_primary (text s) l refl (λ gap k o h. record { node = T.text (o 0) s; next = λ i. o (suc i); same = refl; reads = refl })

own_field : (x f : List ℕ) (l : ℕ) → Own (field_of x f) l
own_field x f l = own_primary (field_of x f) l refl
    (λ gap k o h.
    name_cases x (λ t. Reading (primary (expressions_within l)) (expression_data (field_of x f)) (stream o (at_gap gap t (sign tight point (name tight f k)))) k)
    (name_cases f (λ t. Reading (primary (expressions_within l)) (expression_data (field_of x f)) (stream o (at_gap gap (word x) (sign tight point (at_gap tight t k)))) k)
    (record { node = form (o 0) (codes "of") (T.text (o 0) x ∷ T.text (o 2) f ∷ []); next = λ i. o (suc (suc (suc i))); same = refl; reads = refl })
    (record { node = form (o 0) (codes "of") (T.text (o 0) x ∷ T.text (o 2) f ∷ []); next = λ i. o (suc (suc (suc i))); same = refl; reads = refl }))
    (name_cases f (λ t. Reading (primary (expressions_within l)) (expression_data (field_of x f)) (stream o (at_gap gap (quoted x) (sign tight point (at_gap tight t k)))) k)
    (record { node = form (o 0) (codes "of") (T.text (o 0) x ∷ T.text (o 2) f ∷ []); next = λ i. o (suc (suc (suc i))); same = refl; reads = refl })
    (record { node = form (o 0) (codes "of") (T.text (o 0) x ∷ T.text (o 2) f ∷ []); next = λ i. o (suc (suc (suc i))); same = refl; reads = refl })))

own_key : (x : List ℕ) (l : ℕ) → Own (key_of x) l
own_key x l = own_primary (key_of x) l refl
    (λ gap k o h.
    name_cases x (λ t. Reading (primary (expressions_within l)) (expression_data (key_of x)) (stream o (at_gap gap t (sign tight point (sign tight key_mark k)))) k)
    (record { node = form (o 0) (codes "key") (T.text (o 0) x ∷ []); next = λ i. o (suc (suc (suc i))); same = refl; reads = refl })
    (record { node = form (o 0) (codes "key") (T.text (o 0) x ∷ []); next = λ i. o (suc (suc (suc i))); same = refl; reads = refl }))

named_alone : (at : ℕ) (is_now : Bool) (x : Node) (ts : Tokens) → begins (is_mark point) ts ≡ false → named at is_now x ts ≡ Ok (alone at is_now x, ts)
named_alone at is_now x ts e = ap (λ b. elim b as (λ _. Result (Node × Tokens) ℕ) [ true ↦ of_row at x (past ts) | false ↦ Ok (alone at is_now x, ts) ]) e

own_value : (x : List ℕ) (l : ℕ) → Own (value x) l
own_value x l = own_primary (value x) l refl (λ gap k o h. by gap k o h (bytes_eq x (codes "now")) refl)
  where
    by : (gap : Gap) (k : Pieces) (o : ℕ → ℕ) → binding k < 9 → (is_now : Bool) → bytes_eq x (codes "now") ≡ is_now
        → Reading (primary (expressions_within l)) (expression_data (value x)) (stream o (at_gap gap (value_token_of x is_now) k)) k
    by gap k o h true e = record {
      node = form (o 0) (codes "value") (T.text (o 0) x ∷ []);
      next = λ i. o (suc i);
      same = refl;
      reads = named_alone (o 0) false (T.text (o 0) x) (stream (λ i. o (suc i)) k) (no_point k (λ i. o (suc i)) h);
    }
    by gap k o h false e =
        name_cases x (λ t. Reading (primary (expressions_within l)) (expression_data (value x)) (stream o (at_gap gap t k)) k)
        (record {
          node = form (o 0) (codes "value") (T.text (o 0) x ∷ []);
          next = λ i. o (suc i);
          same = refl;
          reads = ap (λ b. named (o 0) b (T.text (o 0) x) (stream (λ i. o (suc i)) k)) e
              ∙ named_alone (o 0) false (T.text (o 0) x) (stream (λ i. o (suc i)) k) (no_point k (λ i. o (suc i)) h);
        })
        (record {
          node = form (o 0) (codes "value") (T.text (o 0) x ∷ []);
          next = λ i. o (suc i);
          same = refl;
          reads = named_alone (o 0) false (T.text (o 0) x) (stream (λ i. o (suc i)) k) (no_point k (λ i. o (suc i)) h);
        })

own_now : (l : ℕ) → Own now l
own_now l = own_primary now l refl
    (λ gap k o h. record {
      node = form (o 0) (codes "now") [];
      next = λ i. o (suc i);
      same = refl;
      reads =
          named_alone (o 0) true (T.text (o 0) (codes "now")) (stream (λ i. o (suc i)) k) (no_point k (λ i. o (suc i)) h);
    })

row_field_read : (at : ℕ) (tag : List ℕ) (i : ℕ) (f : List ℕ) (k : Pieces) (o : ℕ → ℕ) → Fits i
    → Reading (row_field at tag) (form_data tag (natural_data i ∷ string f ∷ [])) (stream o (part_pieces i (sign tight point (name tight f k)))) k
row_field_read at tag zero f k o fits =
    name_cases f (λ t. Reading (row_field at tag) (form_data tag (natural_data 0 ∷ string f ∷ [])) (stream o (sign tight point (at_gap tight t k))) k)
    (record { node = form at tag (T.integer (o 0) (pos 0) ∷ T.text (o 1) f ∷ []); next = λ i. o (suc (suc i)); same = refl; reads = refl })
    (record { node = form at tag (T.integer (o 0) (pos 0) ∷ T.text (o 1) f ∷ []); next = λ i. o (suc (suc i)); same = refl; reads = refl })
row_field_read at tag (suc i) f k o fits =
    name_cases f (λ t. Reading (row_field at tag) (form_data tag (natural_data (suc i) ∷ string f ∷ [])) (stream o (part_pieces (suc i) (sign tight point (at_gap tight t k)))) k)
    (record {
      node = form at tag (T.integer (o 1) (pos (suc i)) ∷ T.text (o 4) f ∷ []);
      next = λ i. o (suc (suc (suc (suc (suc i)))));
      same = refl;
      reads = rw (lt-ltb (suc i) (2 ^ 63) fits) refl;
    })
    (record {
      node = form at tag (T.integer (o 1) (pos (suc i)) ∷ T.text (o 4) f ∷ []);
      next = λ i. o (suc (suc (suc (suc (suc i)))));
      same = refl;
      reads = rw (lt-ltb (suc i) (2 ^ 63) fits) refl;
    })

own_image : (image : Image) (i : ℕ) (f : List ℕ) (l : ℕ) → Fits i → Own (image_field image i f) l
own_image new_image i f l fits = own_primary (image_field new_image i f) l refl
    (λ gap k o h.
    let r = row_field_read (o 0) (codes "new") i f k (λ j. o (suc j)) fits in
    record { node = r.node; next = r.next; same = r.same; reads = r.reads })
own_image old_image i f l fits = own_primary (image_field old_image i f) l refl
    (λ gap k o h.
    let r = row_field_read (o 0) (codes "old") i f k (λ j. o (suc j)) fits in
    record { node = r.node; next = r.next; same = r.same; reads = r.reads })

own_key_in : (i l : ℕ) → Fits i → Own (key_in i) l
own_key_in zero l fits = own_primary (key_in zero) l refl
    (λ gap k o h. record { node = form (o 0) (codes "id") (T.integer (o 1) (pos 0) ∷ []); next = λ i. o (suc (suc (suc i))); same = refl; reads = refl })
own_key_in (suc i) l fits = own_primary (key_in (suc i)) l refl
    (λ gap k o h. record {
      node = form (o 0) (codes "id") (T.integer (o 2) (pos (suc i)) ∷ []);
      next = λ i. o (suc (suc (suc (suc (suc (suc i))))));
      same = refl;
      reads = rw (lt-ltb (suc i) (2 ^ 63) fits) refl;
    })

own_time : (i l : ℕ) → Fits i → Own (time_of i) l
own_time zero l fits = own_primary (time_of zero) l refl
    (λ gap k o h. record { node = form (o 0) (codes "time") (T.integer (o 1) (pos 0) ∷ []); next = λ i. o (suc (suc (suc i))); same = refl; reads = refl })
own_time (suc i) l fits = own_primary (time_of (suc i)) l refl
    (λ gap k o h. record {
      node = form (o 0) (codes "time") (T.integer (o 2) (pos (suc i)) ∷ []);
      next = λ i. o (suc (suc (suc (suc (suc (suc i))))));
      same = refl;
      reads = rw (lt-ltb (suc i) (2 ^ 63) fits) refl;
    })

own_argument : (i j l : ℕ) → Fits i → Fits j → Own (argument i j) l
own_argument zero j l fits small = own_primary (argument zero j) l refl
    (λ gap k o h. record {
      node = form (o 0) (codes "arg") (T.integer (o 1) (pos 0) ∷ T.integer (o 4) (pos j) ∷ []);
      next = λ i. o (suc (suc (suc (suc (suc (suc i))))));
      same = refl;
      reads = rw (lt-ltb j (2 ^ 63) small) refl;
    })
own_argument (suc i) j l fits small = own_primary (argument (suc i) j) l refl
    (λ gap k o h. record {
      node = form (o 0) (codes "arg") (T.integer (o 2) (pos (suc i)) ∷ T.integer (o 7) (pos j) ∷ []);
      next = λ i. o (suc (suc (suc (suc (suc (suc (suc (suc (suc i)))))))));
      same = refl;
      reads = rw (lt-ltb (suc i) (2 ^ 63) fits, lt-ltb j (2 ^ 63) small) refl;
    })

own_count : (l : ℕ) → Own occurrence_count l
own_count l = own_primary occurrence_count l refl
    (λ gap k o h. record { node = form (o 0) (codes "count") []; next = λ i. o (suc (suc (suc i))); same = refl; reads = refl })

-- ---- operators

weaker : (P : Phrase Node) (p q : ℕ) (f : Gap → Pieces → Pieces) (d : Data) → p ≤ q → ReadsBy P q f d → ReadsBy P p f d
weaker P p q f d least by gap k o h = by gap k o (omega arith)

negative_reads : (deeper : Deeper) (at : ℕ) (ts : Tokens) (r : Node × Tokens) → primary deeper ts ≡ Ok r → negative deeper at ts ≡ Ok (form at (codes "neg") (r.0 ∷ []), r.1)
negative_reads deeper at (token b (number n) ts) r e = absurd (no_fault e)
negative_reads deeper at (token b (mark m) ts) r e = ap (λ q. q >>= λ p. Ok (form at (codes "neg") (p.0 ∷ []), p.1)) e
negative_reads deeper at (token b (word w) ts) r e = ap (λ q. q >>= λ p. Ok (form at (codes "neg") (p.0 ∷ []), p.1)) e
negative_reads deeper at (token b (quoted x) ts) r e = ap (λ q. q >>= λ p. Ok (form at (codes "neg") (p.0 ∷ []), p.1)) e
negative_reads deeper at (token b (string_token s) ts) r e = ap (λ q. q >>= λ p. Ok (form at (codes "neg") (p.0 ∷ []), p.1)) e
negative_reads deeper at (ending b) r e = ap (λ q. q >>= λ p. Ok (form at (codes "neg") (p.0 ∷ []), p.1)) e
negative_reads deeper at (unreadable b) r e = ap (λ q. q >>= λ p. Ok (form at (codes "neg") (p.0 ∷ []), p.1)) e

own_negated : (a : Expression) → Owned a → Owned (negated a)
own_negated a own l few h =
    let by : ReadsBy (unary (expressions_within l)) 9 (expression_pieces (negated a)) (expression_data (negated a)) = λ gap k o q.
    let r = after_minus a own l few (omega arith) tight k (λ i. o (suc i)) q in
    record {
      node = form (o 0) (codes "neg") (r.node ∷ []);
      next = r.next;
      same = ap (λ d. form_data (codes "neg") (d ∷ [])) r.same;
      reads = negative_reads (expressions_within l) (o 0) (stream (λ i. o (suc i)) (enclosed_if (nat_lt (negated_level a) 8) (expression_pieces a) tight k)) (r.node, stream r.next k) r.reads;
    } in
    record { rank = rank_7; fits = λ p a b. omega arith; base = by; operand = λ q. absurd (omega arith) }

own_inverted : (a : Expression) → Owned a → Owned (inverted a)
unfolding negation expressions_within
own_inverted a own zero few h = absurd (omega (arith, levels_positive a))
own_inverted a own (suc l) few h =
    let by : ReadsBy (negation (expressions_within (suc l))) 4 (expression_pieces (inverted a)) (expression_data (inverted a)) = λ gap k o q.
    let r = in_negation a own l (omega arith) (omega arith) space k (λ i. o (suc i)) q in
    record {
      node = form (o 0) (codes "not") (r.node ∷ []);
      next = r.next;
      same = ap (λ d. form_data (codes "not") (d ∷ [])) r.same;
      reads = ap (λ q. q >>= λ p. Ok (form (o 0) (codes "not") (p.0 ∷ []), p.1)) r.reads;
    } in
    record { rank = rank_3; fits = λ p a b. omega arith; base = by; operand = λ q. absurd (omega arith) }

module _ (a b : Expression) (left : Owned a) (right : Owned b) where
  abbrev Operated : Operator → Type 0
  Operated op = Owned (operation op a b)

  own_product : (m : Mark) (l : ℕ) → l < 64 → 2 * suc (max (expression_levels a) (expression_levels b)) ≤ l + 2 → level_of m ≡ 6 → mark_binding m < 9
      → ChainsBy (unary (expressions_within l)) (operator 6) (product (expressions_within l)) 9 (suc (max (expression_levels a) (expression_levels b)))
      (λ gap k. expression_in 6 a gap (sign space m (expression_in 7 b space k)))
      (form_data (spelling m) (expression_data a ∷ expression_data b ∷ []))
  own_product m l few h is binds =
      chain_step (unary (expressions_within l)) 6 (product (expressions_within l)) 9 m (expression_in 6 a) (expression_in 7 b) (expression_data a)
      (expression_data b) (expression_levels a) (suc (max (expression_levels a) (expression_levels b))) is binds
      (omega arith) (omega arith) (in_product_chain a left l few (omega arith)) (in_unary b right l few (omega arith))

  own_sum : (m : Mark) (l : ℕ) → l < 64 → 2 * suc (max (expression_levels a) (expression_levels b)) ≤ l + 2 → level_of m ≡ 5 → mark_binding m < 6
      → ChainsBy (product (expressions_within l)) (operator 5) (sum (expressions_within l)) 6 (suc (max (expression_levels a) (expression_levels b)))
      (λ gap k. expression_in 5 a gap (sign space m (expression_in 6 b space k)))
      (form_data (spelling m) (expression_data a ∷ expression_data b ∷ []))
  own_sum m l few h is binds =
      chain_step (product (expressions_within l)) 5 (sum (expressions_within l)) 6 m (expression_in 5 a) (expression_in 6 b) (expression_data a)
      (expression_data b) (expression_levels a) (suc (max (expression_levels a) (expression_levels b))) is binds
      (omega arith) (omega arith) (in_sum_chain a left l few (omega arith)) (in_product b right l few (omega arith))

  own_relation : (m : Mark) (l : ℕ) → l < 64 → 2 * suc (max (expression_levels a) (expression_levels b)) ≤ l + 2 → level_of m ≡ 4 → mark_binding m < 5
      → ReadsBy (comparison (expressions_within l)) 4 (λ gap k. expression_in 5 a gap (sign space m (expression_in 5 b space k)))
      (form_data (spelling m) (expression_data a ∷ expression_data b ∷ []))
  unfolding comparison
  own_relation m l few h is binds =
      let deep = expressions_within l in
      let f = λ (gap : Gap) (k : Pieces). expression_in 5 a gap (sign space m (expression_in 5 b space k)) in
      weaker (two_sides (sum deep) (sum deep) 4) 4 5 f (form_data (spelling m) (expression_data a ∷ expression_data b ∷ [])) (omega arith)
      (two_sides_read (sum deep) (sum deep) 4 5 5 m (expression_in 5 a) (expression_in 5 b) (expression_data a) (expression_data b) is binds
      (in_sum a left l few (omega arith)) (in_sum b right l few (omega arith)))

  own_both : Operated both
  unfolding expressions_within conjunction
  own_both zero few h = absurd (omega (arith, levels_positive a))
  own_both (suc l) few h = record {
    rank = rank_2;
    fits = λ p a b. omega arith;
    base = two_sides_read (negation (expressions_within (suc l))) (conjunction (expressions_within l)) 2 4 2 and_mark (expression_in 3 a) (expression_in 2 b) (expression_data a) (expression_data b)
        refl (omega arith) (in_negation a left (suc l) few (omega arith)) (in_conjunction b right l (omega arith) (omega arith));
    operand = λ q. absurd (omega arith);
  }

  own_either : Operated either
  unfolding expressions_within expression
  own_either zero few h = absurd (omega (arith, levels_positive a))
  own_either (suc l) few h = record {
    rank = rank_1;
    fits = λ p a b. omega arith;
    base = two_sides_read (conjunction (expressions_within (suc l))) (expression (expressions_within l)) 1 2 1 or_mark (expression_in 2 a) (expression_in 1 b) (expression_data a) (expression_data b)
        refl (omega arith) (in_conjunction a left (suc l) few (omega arith)) (in_expression b right l (omega arith) (omega arith));
    operand = λ q. absurd (omega arith);
  }

  own_operation : (op : Operator) → Operated op
  own_operation either l few h = own_either l few h
  own_operation both l few h = own_both l few h
  own_operation equal l few h = record { rank = rank_4; fits = λ p a b. omega arith; base = own_relation equal_sign l few h refl (omega arith); operand = λ q. absurd (omega arith) }
  own_operation unequal l few h = record { rank = rank_4; fits = λ p a b. omega arith; base = own_relation unequal_sign l few h refl (omega arith); operand = λ q. absurd (omega arith) }
  own_operation less l few h = record { rank = rank_4; fits = λ p a b. omega arith; base = own_relation less_sign l few h refl (omega arith); operand = λ q. absurd (omega arith) }
  own_operation at_most l few h = record { rank = rank_4; fits = λ p a b. omega arith; base = own_relation at_most_sign l few h refl (omega arith); operand = λ q. absurd (omega arith) }
  own_operation greater l few h = record { rank = rank_4; fits = λ p a b. omega arith; base = own_relation greater_sign l few h refl (omega arith); operand = λ q. absurd (omega arith) }
  own_operation at_least l few h = record { rank = rank_4; fits = λ p a b. omega arith; base = own_relation at_least_sign l few h refl (omega arith); operand = λ q. absurd (omega arith) }
  own_operation plus l few h = record { rank = rank_5; fits = λ p a b. omega arith; base = own_sum plus_sign l few h refl (omega arith); operand = λ q. absurd (omega arith) }
  own_operation minus l few h = record { rank = rank_5; fits = λ p a b. omega arith; base = own_sum minus_sign l few h refl (omega arith); operand = λ q. absurd (omega arith) }
  own_operation times l few h = record { rank = rank_6; fits = λ p a b. omega arith; base = own_product times_sign l few h refl (omega arith); operand = λ q. absurd (omega arith) }
  own_operation quotient l few h = record { rank = rank_6; fits = λ p a b. omega arith; base = own_product divided_sign l few h refl (omega arith); operand = λ q. absurd (omega arith) }
  own_operation remainder l few h = record { rank = rank_6; fits = λ p a b. omega arith; base = own_product percent_sign l few h refl (omega arith); operand = λ q. absurd (omega arith) }

-- ---- all expressions

owned : (x : Expression) → IsWritableExpression x → Owned x
owned (integer z) w l few h = own_integer z l w
owned (truth b) w l few h = own_truth b l
owned (text s) w l few h = own_text s l
owned (operation op a b) w l few h = own_operation a b (owned a w.0) (owned b w.1) op l few h
owned (inverted a) w l few h = own_inverted a (owned a w) l few h
owned (negated a) w l few h = own_negated a (owned a w) l few h
owned (field_of x f) w l few h = own_field x f l
owned (key_of x) w l few h = own_key x l
owned (value x) w l few h = own_value x l
owned now w l few h = own_now l
owned (image_field image i f) w l few h = own_image image i f l w.0
owned (key_in i) w l few h = own_key_in i l w
owned (time_of i) w l few h = own_time i l w
owned (argument i j) w l few h = own_argument i j l w.0 w.1
owned occurrence_count w l few h = own_count l

-- an expression in any place of a script
pub any_expression_read : (x : Expression) → IsWritableExpression x → expression_levels x ≤ 32 → ReadsBy any_expression 1 (expression_pieces x) (expression_data x)
unfolding expressions_within
any_expression_read x w h = let mine = owned x w 63 (omega arith) (omega arith) in at_expression (expressions_within 63) (expression_levels x) (levels_positive x)
    (expression_pieces x) (expression_data x) mine.rank mine.base

pub any_sum_read : (x : Expression) → IsWritableExpression x → expression_levels x ≤ 32 → ReadsBy any_sum 5 (expression_in 5 x) (expression_data x)
any_sum_read x w h = in_sum x (owned x w) 63 (omega arith) (omega arith)

-- in parentheses
pub enclosed_expression_read : (x : Expression) → IsWritableExpression x → expression_levels x ≤ 32 → ReadsBy any_expression 1 (enclosed_if true (expression_pieces x)) (expression_data x)
unfolding expressions_within
enclosed_expression_read x w h =
    at_expression (expressions_within 63) (expression_levels x) (levels_positive x) (enclosed_if true (expression_pieces x)) (expression_data x) rank_8
    (parenthesized x (owned x w) 63 (omega arith) (omega arith))

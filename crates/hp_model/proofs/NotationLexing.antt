-- The tokens of the text of some pieces are their tokens.
use Rattle.std.proofs.Common.{◌≡◌, refl, sym, ap, ◌∙◌, subst, ℕ, zero, suc, ◌+◌, ◌*◌, ◌<◌, ◌≤◌, ◌^◌, Bool, true, false, cond, ◌&&◌, ◌||◌, ◌==◌, List, [], ◌∷◌, ◌++◌, length, take}
use Rattle.std.proofs.Common.{drop, map, get_or, codes, decimal, replicate, Option, Some, None, option_map, append_assoc, arith, inl, inr, ◌⊎◌}
use Rattle.std.specs.Prelude.{nat_lt, nat_le, slice_index, flat_map, if◌then◌else◌}
use Rattle.std.proofs.lemmas.Bool.{cases_eq, cases_lt, ne_eqb, le-ltb, le-leb, lt-leb, ltb-true, and_from, and_parts, or_parts, or_from, true≢false}
use Rattle.std.proofs.Math.Seq.{take-append_seam}
use Rattle.std.proofs.lemmas.Fmt.{decimal_is_IsNumeral, decimal_digit, first_decimal}
use Rattle.std.proofs.lemmas.Str.Parse.{digit_from_value}
use Rattle.std.specs.List.{prefix_len, list_all}
use Rattle.std.specs.Char.{is_ascii_alphabetic, is_ascii_digit, encode_utf8}
use Rattle.std.specs.Str.{is_utf8}
use Rattle.std.specs.Str.Parse.{AllDigits, digits_value}
use Rattle.json.specs.Text.{code_unit, short_escape}
use Rattle.hp_model.specs.Report.{escaped}
use Rattle.hp_model.specs.Parts.{is_name, is_name_byte}
use Rattle.hp_model.specs.NotationTokens.{Mark, on_mark, if_mark, do_mark, where_mark, as_mark, set_mark, else_mark, otherwise_mark, then_mark, until_mark, and_mark, or_mark}
use Rattle.hp_model.specs.NotationTokens.{not_mark, true_mark, false_mark, new_mark, old_mark, event_mark, key_mark, immediate_mark, deferred_mark, separate_mark, dependent_mark}
use Rattle.hp_model.specs.NotationTokens.{exclusive_mark, create_mark, update_mark, delete_mark, signal_mark, emit_mark, each_mark, for_mark, with_mark, sub_mark, abort_mark}
use Rattle.hp_model.specs.NotationTokens.{veto_mark, install_mark, enable_mark, disable_mark, remove_mark, fire_mark, open_brace, close_brace, open_parenthesis, close_parenthesis}
use Rattle.hp_model.specs.NotationTokens.{open_bracket, close_bracket, comma, colon, semicolon, point, equal_sign, unequal_sign, less_sign, at_most_sign, greater_sign}
use Rattle.hp_model.specs.NotationTokens.{at_least_sign, plus_sign, minus_sign, times_sign, divided_sign, percent_sign, Token, mark, word, quoted, number, string, spelling}
use Rattle.hp_model.specs.NotationTokens.{reserved_word, word_token, word_rest, word_lexeme, string_lexeme, quoted_word_lexeme, number_lexeme, closed, content, found, faulty}
use Rattle.hp_model.specs.NotationTokens.{letter, digit, beginning, lexeme, lexeme_at, Tokens, token, ending, tokens_from, tokens_at, tokens, tokens_of}
use Rattle.hp_model.specs.NotationPhrases.{is_mark}
use Rattle.hp_model.specs.NotationPrint.{Gap, tight, space, line, paragraph, Pieces, token_text, is_wordlike, would_join, widened, gap_after, gap_text, text_after, text_of}
use Rattle.hp_model.specs.NotationLaws.{IsSpelt, AreSpelt, all_tokens, token_of}

-- ---- lists

-- the run of what passes goes on to the rest, where nothing passes
run_to : (p : ℕ → Bool) (xs r : List ℕ) → list_all p xs ≡ true → prefix_len p r ≡ 0 → prefix_len p (xs ++ r) ≡ length xs
run_to p [] r all stop = stop
run_to p (x ∷ xs) r all stop =
    let parts = and_parts _ _ all in
    let others = run_to p xs r parts.1 stop in
    ap (λ b. cond b (1 + prefix_len p (xs ++ r)) 0) parts.0 ∙ omega arith

drop_seam : (xs ys : List ℕ) → drop (length xs) (xs ++ ys) ≡ ys
drop_seam [] ys = refl
drop_seam (x ∷ xs) ys = drop_seam xs ys

-- ---- passing over bytes

-- the tokens go on after some bytes, wherever that is
abbrev GoesOn : (ℕ → Tokens) → Tokens → List ℕ → Type 0
GoesOn e ts r = (at : ℕ) × (ts ≡ tokens_from e 0 at r)

passes : (e : ℕ → Tokens) (at : ℕ) (xs r : List ℕ) → GoesOn e (tokens_from e (length xs) at (xs ++ r)) r
unfolding tokens_from
passes e at [] r = (at, refl)
passes e at (x ∷ xs) r = passes e (suc at) xs r

passes_quote : (e : ℕ → Tokens) (at : ℕ) (xs : List ℕ) (y : ℕ) (r : List ℕ) → GoesOn e (tokens_from e (suc (length xs)) at (xs ++ y ∷ r)) r
unfolding tokens_from
passes_quote e at [] y r = (suc at, refl)
passes_quote e at (x ∷ xs) y r = passes_quote e (suc at) xs y r

-- the token t is read from some bytes, and r comes after it
abbrev Reads : (ℕ → Tokens) → (at : ℕ) → Token → (bytes r : List ℕ) → Type 0
Reads e at t bytes r = (next : ℕ) × (tokens_from e 0 at bytes ≡ token at t (tokens_from e 0 next r))

reads_by : (e : ℕ → Tokens) (at : ℕ) (t : Token) (more b : ℕ) (bs r : List ℕ) → lexeme b bs ≡ found t more → GoesOn e (tokens_from e more (suc at) bs) r → Reads e at t (b ∷ bs) r
unfolding tokens_from
reads_by e at t more b bs r is on = (on.0, ap (λ l. tokens_at l at (λ n. tokens_from e n (suc at) bs)) is ∙ ap (token at t) on.1)

-- ---- words

word_found : (b : ℕ) (bs r : List ℕ) → is_name (b ∷ bs) ≡ true → prefix_len is_name_byte r ≡ 0
    → lexeme b (bs ++ r) ≡ found (word_token (b ∷ bs) (reserved_word (b ∷ bs))) (length bs)
unfolding lexeme
word_found b bs r ok stop =
    let parts = and_parts _ _ ok in
    let size = and_parts _ _ parts.1 in
    let short : nat_le (suc (length bs)) 32 ≡ true = le-leb _ 32 (ltb-true (length bs) 32 size.0) in
    let alphabetic : is_ascii_alphabetic b ≡ true = parts.0 in
    let begins : beginning b ≡ letter = rw alphabetic refl in
    let t = word_token (b ∷ bs) (reserved_word (b ∷ bs)) in
    ap (λ k. lexeme_at k b (bs ++ r)) begins ∙ ap (λ n. word_lexeme (b ∷ take n (bs ++ r)) n) (run_to is_name_byte bs r size.1 stop)
    ∙ ap (λ w. word_lexeme (b ∷ w) (length bs)) (take-append_seam bs r) ∙ ap (λ s. if s then found t (length bs) else faulty 0) short

word_read : (e : ℕ → Tokens) (at : ℕ) (w r : List ℕ) → is_name w ≡ true → prefix_len is_name_byte r ≡ 0
    → Reads e at (word_token w (reserved_word w)) (w ++ r) r
word_read e at [] r ok stop = absurd (true≢false (sym ok))
word_read e at (b ∷ bs) r ok stop = reads_by e at _ (length bs) b (bs ++ r) r (word_found b bs r ok stop) (passes e (suc at) bs r)

quoted_found : (b : ℕ) (bs r : List ℕ) → is_name (b ∷ bs) ≡ true → lexeme 96 ((b ∷ bs) ++ 96 ∷ r) ≡ found (quoted (b ∷ bs)) (suc (length (b ∷ bs)))
unfolding lexeme
quoted_found b bs r ok =
    let parts = and_parts _ _ ok in
    let size = and_parts _ _ parts.1 in
    let short : nat_le (suc (length bs)) 32 ≡ true = le-leb _ 32 (ltb-true (length bs) 32 size.0) in
    let whole = (b ∷ bs) ++ 96 ∷ r in
    ap (λ s. if s then quoted_word_lexeme whole (suc (word_rest (bs ++ 96 ∷ r))) else faulty 1) parts.0
    ∙ ap (λ n. quoted_word_lexeme whole (suc n)) (run_to is_name_byte bs (96 ∷ r) size.1 refl)
    ∙ ap (λ w. if nat_le (length (b ∷ w)) 32 then (if slice_index (drop (length bs) (bs ++ 96 ∷ r)) 0 == 96 then found (quoted (b ∷ w)) (suc (suc (length bs)))
    else faulty (suc (suc (length bs)))) else faulty 0) (take-append_seam bs (96 ∷ r))
    ∙ ap (λ s. if s then (if slice_index (drop (length bs) (bs ++ 96 ∷ r)) 0 == 96 then found (quoted (b ∷ bs)) (suc (suc (length bs))) else faulty (suc (suc (length bs)))) else faulty 0) short
    ∙ ap (λ l. if slice_index l 0 == 96 then found (quoted (b ∷ bs)) (suc (suc (length bs))) else faulty (suc (suc (length bs)))) (drop_seam bs (96 ∷ r))

quoted_read : (e : ℕ → Tokens) (at : ℕ) (x r : List ℕ) → is_name x ≡ true → Reads e at (quoted x) (96 ∷ (x ++ 96 ∷ r)) r
quoted_read e at [] r ok = absurd (true≢false (sym ok))
quoted_read e at (b ∷ bs) r ok = reads_by e at _ _ 96 ((b ∷ bs) ++ 96 ∷ r) r (quoted_found b bs r ok) (passes_quote e (suc at) (b ∷ bs) 96 r)

-- ---- numbers

all_ascii_digits : (ds : List ℕ) → AllDigits 10 ds → list_all is_ascii_digit ds ≡ true
all_ascii_digits [] h = refl
all_ascii_digits (d ∷ ds) h =
    let range = digit_from_value d h.0 in
    and_from _ _ (and_from _ _ (le-leb 48 d range.0) (le-leb d 57 range.1)) (all_ascii_digits ds h.1)

no_digit : (c : ℕ) → is_name_byte c ≡ false → is_ascii_digit c ≡ false
no_digit c h = (or_parts _ _ (or_parts _ _ (or_parts _ _ h).0).0).0

stops : (b : Bool) (n : ℕ) → cond b (1 + n) 0 ≡ 0 → b ≡ false
stops true n e = absurd (omega arith)
stops false n e = refl

no_digits : (r : List ℕ) → prefix_len is_name_byte r ≡ 0 → prefix_len is_ascii_digit r ≡ 0
no_digits [] h = refl
no_digits (c ∷ r) h = ap (λ b. cond b (1 + prefix_len is_ascii_digit r) 0) (no_digit c (stops (is_name_byte c) (prefix_len is_name_byte r) h))

digit_begins : (b : ℕ) → (48 ≤ b) × (b ≤ 57) → beginning b ≡ digit
digit_begins b range =
    let upper : (nat_le 65 b && nat_le b 90) ≡ false = rw (lt-leb 65 b (omega arith)) refl in
    let lower : (nat_le 97 b && nat_le b 122) ≡ false = rw (lt-leb 97 b (omega arith)) refl in
    let no_letter : is_ascii_alphabetic b ≡ false = or_from _ _ upper lower in
    let is_digit : is_ascii_digit b ≡ true = and_from _ _ (le-leb 48 b range.0) (le-leb b 57 range.1) in
    rw (no_letter, is_digit) refl

number_found : (b : ℕ) (bs r : List ℕ) → AllDigits 10 (b ∷ bs) → ((b == 48) && nat_lt 0 (length bs)) ≡ false
    → digits_value 10 (b ∷ bs) ≤ 2 ^ 63 → prefix_len is_name_byte r ≡ 0 → lexeme b (bs ++ r) ≡ found (number (digits_value 10 (b ∷ bs))) (length bs)
unfolding lexeme
number_found b bs r all first small stop =
    let fits : nat_lt (2 ^ 63) (digits_value 10 (b ∷ bs)) ≡ false = le-ltb _ _ small in
    ap (λ k. lexeme_at k b (bs ++ r)) (digit_begins b (digit_from_value b all.0))
    ∙ ap (λ n. number_lexeme (b ∷ take n (bs ++ r)) n) (run_to is_ascii_digit bs r (all_ascii_digits bs all.1) (no_digits r stop))
    ∙ ap (λ w. number_lexeme (b ∷ w) (length bs)) (take-append_seam bs r)
    ∙ ap (λ s. if s then faulty 0 else found (number (digits_value 10 (b ∷ bs))) (length bs)) (or_from _ _ first fits)

number_read : (e : ℕ → Tokens) (at n : ℕ) (r : List ℕ) → n ≤ 2 ^ 63 → prefix_len is_name_byte r ≡ 0 → Reads e at (number n) (decimal n ++ r) r
number_read e at n r small stop = go (decimal n) refl (cases_lt 0 n)
  where
    numeral : (0 < length (decimal n)) × AllDigits 10 (decimal n) × (digits_value 10 (decimal n) ≡ n)
    numeral = let h = decimal_is_IsNumeral n (omega arith) in (h.0.0, h.0.1, h.1)

    first : (b : ℕ) (bs : List ℕ) → decimal n ≡ b ∷ bs → (0 < n) ⊎ (n ≤ 0) → ((b == 48) && nat_lt 0 (length bs)) ≡ false
    first b bs is (inl some) =
        let above : 48 < b = subst (λ l. 48 < get_or l 0 0) is (first_decimal n some (omega arith)) in
        rw (ne_eqb b 48 (λ e. omega arith)) refl
    first b bs is (inr none) =
        let zero_digit = subst (λ k. decimal k ≡ (48 + k) ∷ []) (omega arith) (decimal_digit 0 (omega arith)) in
        let same : b ∷ bs ≡ (48 + n) ∷ [] = sym is ∙ zero_digit in
        subst (λ l. ((get_or l 0 0 == 48) && nat_lt 0 (length (drop 1 l))) ≡ false) (sym same) (go_zero (48 + n == 48))
      where
        go_zero : (b : Bool) → (b && false) ≡ false
        go_zero true = refl
        go_zero false = refl

    go : (ds : List ℕ) → decimal n ≡ ds → (0 < n) ⊎ (n ≤ 0) → Reads e at (number n) (ds ++ r) r
    go [] is which = absurd (omega (arith, subst (λ l. 0 < length l) is numeral.0))
    go (b ∷ bs) is which =
        let value : digits_value 10 (b ∷ bs) ≡ n = subst (λ l. digits_value 10 l ≡ n) is numeral.2 in
        let found_it = number_found b bs r (subst (AllDigits 10) is numeral.1) (first b bs is which) (omega arith) stop in
        subst (λ k. Reads e at (number k) ((b ∷ bs) ++ r) r) value (reads_by e at _ (length bs) b (bs ++ r) r found_it (passes e (suc at) bs r))

-- ---- texts

-- the size of some bytes before others
longer : List ℕ → ℕ → ℕ
longer [] n = n
longer (b ∷ bs) n = suc (longer bs n)

longer-length : (xs ys : List ℕ) → longer xs (length ys) ≡ length (xs ++ ys)
unfolding longer
longer-length [] ys = refl
longer-length (x ∷ xs) ys = ap suc (longer-length xs ys)

-- what a text is written for this byte is read as the byte
abbrev IsEscaped : ℕ → Type 0
IsEscaped x = (t : List ℕ) (n : ℕ) (r : List ℕ) → content 0 r ≡ closed t n → content 0 (escaped x ++ r) ≡ closed (x ∷ t) (longer (escaped x) n)

-- P holds below n, counted down from the top
abbrev Each : (ℕ → Type 0) → ℕ → Type 0
Each P zero = Unit {0}
Each P (suc n) = P n × Each P n

each_sound : (P : ℕ → Type 0) (n : ℕ) → Each P n → (x : ℕ) → x < n → P x
each_sound P zero h x lt = absurd (omega arith)
each_sound P (suc n) h x lt = go (each_sound P n h.1 x) (cases_eq x n)
  where
    go : (x < n → P x) → (x ≡ n) ⊎ (x ≡ n → ⊥) → P x
    go below (inl e) = subst P (sym e) h.0
    go below (inr ne) = below (omega arith)

controls_escaped : Each IsEscaped 32
unfolding content code_unit short_escape encode_utf8 longer
controls_escaped = (
  λ t n r e. rw e refl,
  (
    λ t n r e. rw e refl,
    (
      λ t n r e. rw e refl,
      (
        λ t n r e. rw e refl,
        (
          λ t n r e. rw e refl,
          (
            λ t n r e. rw e refl,
            (
              λ t n r e. rw e refl,
              (
                λ t n r e. rw e refl,
                (
                  λ t n r e. rw e refl,
                  (
                    λ t n r e. rw e refl,
                    (
                      λ t n r e. rw e refl,
                      (
                        λ t n r e. rw e refl,
                        (
                          λ t n r e. rw e refl,
                          (
                            λ t n r e. rw e refl,
                            (
                              λ t n r e. rw e refl,
                              (
                                λ t n r e. rw e refl,
                                (
                                  λ t n r e. rw e refl,
                                  (
                                    λ t n r e. rw e refl,
                                    (
                                      λ t n r e. rw e refl,
                                      (
                                        λ t n r e. rw e refl,
                                        (
                                          λ t n r e. rw e refl,
                                          (
                                            λ t n r e. rw e refl,
                                            (
                                              λ t n r e. rw e refl,
                                              (
                                                λ t n r e. rw e refl,
                                                (
                                                  λ t n r e. rw e refl,
                                                  (λ t n r e. rw e refl, (λ t n r e. rw e refl, (λ t n r e. rw e refl, (λ t n r e. rw e refl, (λ t n r e. rw e refl, (λ t n r e. rw e refl, (λ t n r e. rw e refl, tt))))))),
                                                ),
                                              ),
                                            ),
                                          ),
                                        ),
                                      ),
                                    ),
                                  ),
                                ),
                              ),
                            ),
                          ),
                        ),
                      ),
                    ),
                  ),
                ),
              ),
            ),
          ),
        ),
      ),
    ),
  ),
)

quote_escaped : IsEscaped 34
unfolding content short_escape longer
quote_escaped t n r e = rw e refl

backslash_escaped : IsEscaped 92
unfolding content short_escape longer
backslash_escaped t n r e = rw e refl

escaped_plain : (x : ℕ) → (x ≡ 34 → ⊥) → (x ≡ 92 → ⊥) → 32 ≤ x → escaped x ≡ x ∷ []
escaped_plain x q b l =
    rw (
      ne_eqb x 34 q,
      ne_eqb x 92 b,
      ne_eqb x 8 (λ e. omega arith),
      ne_eqb x 12 (λ e. omega arith),
      ne_eqb x 10 (λ e. omega arith),
      ne_eqb x 13 (λ e. omega arith),
      ne_eqb x 9 (λ e. omega arith),
      le-ltb x 32 l,
    ) refl

plain_escaped : (x : ℕ) → (x ≡ 34 → ⊥) → (x ≡ 92 → ⊥) → 32 ≤ x → IsEscaped x
unfolding content longer
plain_escaped x q b l t n r e =
    subst (λ l. content 0 (l ++ r) ≡ closed (x ∷ t) (longer l n)) (sym (escaped_plain x q b l)) (rw (ne_eqb x 34 q, ne_eqb x 92 b, le-ltb x 32 l, e) refl)

all_escaped : (x : ℕ) → IsEscaped x
all_escaped x = go (cases_eq x 34) (cases_eq x 92) (cases_lt x 32)
  where
    go : (x ≡ 34) ⊎ (x ≡ 34 → ⊥) → (x ≡ 92) ⊎ (x ≡ 92 → ⊥) → (x < 32) ⊎ (32 ≤ x) → IsEscaped x
    go (inl e) b c = subst IsEscaped (sym e) quote_escaped
    go (inr q) (inl e) c = subst IsEscaped (sym e) backslash_escaped
    go (inr q) (inr b) (inl c) = each_sound IsEscaped 32 controls_escaped x c
    go (inr q) (inr b) (inr l) = plain_escaped x q b l

content_read : (s r : List ℕ) → content 0 (flat_map escaped s ++ 34 ∷ r) ≡ closed s (length (flat_map escaped s))
unfolding content
content_read [] r = refl
content_read (x ∷ s) r =
    let others = flat_map escaped s in
    ap (content 0) (append_assoc (escaped x) others (34 ∷ r)) ∙ all_escaped x s (length others) (others ++ 34 ∷ r) (content_read s r)
    ∙ ap (closed (x ∷ s)) (longer-length (escaped x) others)

string_read : (e : ℕ → Tokens) (at : ℕ) (s r : List ℕ) → Reads e at (string s) (34 ∷ (flat_map escaped s ++ 34 ∷ r)) r
unfolding lexeme
string_read e at s r = reads_by e at (string s) _ 34 (flat_map escaped s ++ 34 ∷ r) r (ap string_lexeme (content_read s r)) (passes_quote e (suc at) (flat_map escaped s) 34 r)

-- ---- what may follow a token

abbrev is_angle : Token → Bool
is_angle t = is_mark less_sign t || is_mark greater_sign t

-- a byte doesn't continue a token
record FollowsByte (t : Token) (c : ℕ) : Type 0 where
  word : is_wordlike t ≡ true → is_name_byte c ≡ false
  angle : is_angle t ≡ true → (c == 61) ≡ false

-- some bytes begin with one that doesn't continue a token
abbrev Starts : Token → List ℕ → Type 0
Starts t bytes = (c : ℕ) × (r : List ℕ) × (bytes ≡ c ∷ r) × FollowsByte t c

-- some bytes, or none, don't continue a token
record Follows (t : Token) (r : List ℕ) : Type 0 where
  word : is_wordlike t ≡ true → prefix_len is_name_byte r ≡ 0
  angle : is_angle t ≡ true → (slice_index r 0 == 61) ≡ false

follows_end : (t : Token) → Follows t []
follows_end t = record { word = λ _. refl; angle = λ _. refl }

follows : (t : Token) (bytes : List ℕ) → Starts t bytes → Follows t bytes
follows t bytes s = subst (Follows t) (sym s.2) (record { word = λ h. ap (λ b. cond b (1 + prefix_len is_name_byte s.1) 0) (s.3.word h); angle = λ h. s.3.angle h })

starts_apart : (t : Token) (c : ℕ) (r : List ℕ) → is_name_byte c ≡ false → (c == 61) ≡ false → Starts t (c ∷ r)
starts_apart t c r p q = (c, r, refl, record { word = λ _. p; angle = λ _. q })

starts_word : (t : Token) (c : ℕ) (r : List ℕ) → is_wordlike t ≡ false → (c == 61) ≡ false → Starts t (c ∷ r)
starts_word t c r p q = (c, r, refl, record { word = λ h. absurd (true≢false (sym h ∙ p)); angle = λ _. q })

starts_equal : (t : Token) (r : List ℕ) → is_angle t ≡ false → Starts t (61 ∷ r)
starts_equal t r p = (61, r, refl, record { word = λ _. refl; angle = λ h. absurd (true≢false (sym h ∙ p)) })

no_words : (x y : Bool) → ((x && true) || (y && false)) ≡ false → x ≡ false
no_words true y h = h
no_words false y h = refl

no_angle : (x y : Bool) → ((x && false) || (y && true)) ≡ false → y ≡ false
no_angle true true h = h
no_angle true false h = refl
no_angle false true h = h
no_angle false false h = refl

mark_starts : (t : Token) (m : Mark) → would_join t (mark m) ≡ false → Starts t (spelling m)
unfolding reserved_word
mark_starts t on_mark h = starts_word t 111 (codes "n") (no_words _ _ h) refl
mark_starts t if_mark h = starts_word t 105 (codes "f") (no_words _ _ h) refl
mark_starts t do_mark h = starts_word t 100 (codes "o") (no_words _ _ h) refl
mark_starts t where_mark h = starts_word t 119 (codes "here") (no_words _ _ h) refl
mark_starts t as_mark h = starts_word t 97 (codes "s") (no_words _ _ h) refl
mark_starts t set_mark h = starts_word t 115 (codes "et") (no_words _ _ h) refl
mark_starts t else_mark h = starts_word t 101 (codes "lse") (no_words _ _ h) refl
mark_starts t otherwise_mark h = starts_word t 111 (codes "therwise") (no_words _ _ h) refl
mark_starts t then_mark h = starts_word t 116 (codes "hen") (no_words _ _ h) refl
mark_starts t until_mark h = starts_word t 117 (codes "ntil") (no_words _ _ h) refl
mark_starts t and_mark h = starts_word t 97 (codes "nd") (no_words _ _ h) refl
mark_starts t or_mark h = starts_word t 111 (codes "r") (no_words _ _ h) refl
mark_starts t not_mark h = starts_word t 110 (codes "ot") (no_words _ _ h) refl
mark_starts t true_mark h = starts_word t 116 (codes "rue") (no_words _ _ h) refl
mark_starts t false_mark h = starts_word t 102 (codes "alse") (no_words _ _ h) refl
mark_starts t new_mark h = starts_word t 110 (codes "ew") (no_words _ _ h) refl
mark_starts t old_mark h = starts_word t 111 (codes "ld") (no_words _ _ h) refl
mark_starts t event_mark h = starts_word t 101 (codes "vent") (no_words _ _ h) refl
mark_starts t key_mark h = starts_word t 107 (codes "ey") (no_words _ _ h) refl
mark_starts t immediate_mark h = starts_word t 105 (codes "mmediate") (no_words _ _ h) refl
mark_starts t deferred_mark h = starts_word t 100 (codes "eferred") (no_words _ _ h) refl
mark_starts t separate_mark h = starts_word t 115 (codes "eparate") (no_words _ _ h) refl
mark_starts t dependent_mark h = starts_word t 100 (codes "ependent") (no_words _ _ h) refl
mark_starts t exclusive_mark h = starts_word t 101 (codes "xclusive") (no_words _ _ h) refl
mark_starts t create_mark h = starts_word t 99 (codes "reate") (no_words _ _ h) refl
mark_starts t update_mark h = starts_word t 117 (codes "pdate") (no_words _ _ h) refl
mark_starts t delete_mark h = starts_word t 100 (codes "elete") (no_words _ _ h) refl
mark_starts t signal_mark h = starts_word t 115 (codes "ignal") (no_words _ _ h) refl
mark_starts t emit_mark h = starts_word t 101 (codes "mit") (no_words _ _ h) refl
mark_starts t each_mark h = starts_word t 101 (codes "ach") (no_words _ _ h) refl
mark_starts t for_mark h = starts_word t 102 (codes "or") (no_words _ _ h) refl
mark_starts t with_mark h = starts_word t 119 (codes "ith") (no_words _ _ h) refl
mark_starts t sub_mark h = starts_word t 115 (codes "ub") (no_words _ _ h) refl
mark_starts t abort_mark h = starts_word t 97 (codes "bort") (no_words _ _ h) refl
mark_starts t veto_mark h = starts_word t 118 (codes "eto") (no_words _ _ h) refl
mark_starts t install_mark h = starts_word t 105 (codes "nstall") (no_words _ _ h) refl
mark_starts t enable_mark h = starts_word t 101 (codes "nable") (no_words _ _ h) refl
mark_starts t disable_mark h = starts_word t 100 (codes "isable") (no_words _ _ h) refl
mark_starts t remove_mark h = starts_word t 114 (codes "emove") (no_words _ _ h) refl
mark_starts t fire_mark h = starts_word t 102 (codes "ire") (no_words _ _ h) refl
mark_starts t open_brace h = starts_apart t 123 [] refl refl
mark_starts t close_brace h = starts_apart t 125 [] refl refl
mark_starts t open_parenthesis h = starts_apart t 40 [] refl refl
mark_starts t close_parenthesis h = starts_apart t 41 [] refl refl
mark_starts t open_bracket h = starts_apart t 91 [] refl refl
mark_starts t close_bracket h = starts_apart t 93 [] refl refl
mark_starts t comma h = starts_apart t 44 [] refl refl
mark_starts t colon h = starts_apart t 58 [] refl refl
mark_starts t semicolon h = starts_apart t 59 [] refl refl
mark_starts t point h = starts_apart t 46 [] refl refl
mark_starts t equal_sign h = starts_equal t [] (no_angle _ _ h)
mark_starts t unequal_sign h = starts_apart t 33 (codes "=") refl refl
mark_starts t less_sign h = starts_apart t 60 [] refl refl
mark_starts t at_most_sign h = starts_apart t 60 (codes "=") refl refl
mark_starts t greater_sign h = starts_apart t 62 [] refl refl
mark_starts t at_least_sign h = starts_apart t 62 (codes "=") refl refl
mark_starts t plus_sign h = starts_apart t 43 [] refl refl
mark_starts t minus_sign h = starts_apart t 45 [] refl refl
mark_starts t times_sign h = starts_apart t 42 [] refl refl
mark_starts t divided_sign h = starts_apart t 47 [] refl refl
mark_starts t percent_sign h = starts_apart t 37 [] refl refl

letter_starts : (t : Token) (w : List ℕ) → is_name w ≡ true → is_wordlike t ≡ false → Starts t w
letter_starts t [] ok h = absurd (true≢false (sym ok))
letter_starts t (b ∷ bs) ok h = starts_word t b bs h (ne_eqb b 61 (λ e. true≢false (sym (subst (λ k. is_name (k ∷ bs) ≡ true) e ok))))

digit_starts : (t : Token) (ds : List ℕ) → 0 < length ds → AllDigits 10 ds → is_wordlike t ≡ false → Starts t ds
digit_starts t [] size all h = absurd (omega arith)
digit_starts t (d ∷ ds) size all h = let range = digit_from_value d all.0 in starts_word t d ds h (ne_eqb d 61 (λ e. omega arith))

token_starts : (t u : Token) → IsSpelt u → would_join t u ≡ false → Starts t (token_text u)
token_starts t (mark m) spelt apart = mark_starts t m apart
token_starts t (word w) spelt apart = letter_starts t w spelt.0 (no_words _ _ apart)
token_starts t (quoted x) spelt apart = starts_apart t 96 (x ++ 96 ∷ []) refl refl
token_starts t (number n) spelt apart = let h = decimal_is_IsNumeral n (omega arith) in digit_starts t (decimal n) h.0.0 h.0.1 (no_words _ _ apart)
token_starts t (string s) spelt apart = starts_apart t 34 (flat_map escaped s ++ 34 ∷ []) refl refl

gap_starts : (t u : Token) (g : Gap) (rest : List ℕ) → IsSpelt u → (joins : Bool) → would_join t u ≡ joins
    → Starts t (gap_text (elim joins [ true ↦ widened g | false ↦ g ]) ++ (token_text u ++ rest))
gap_starts t u tight rest spelt true is = starts_apart t 32 _ refl refl
gap_starts t u space rest spelt true is = starts_apart t 32 _ refl refl
gap_starts t u (line d) rest spelt true is = starts_apart t 10 _ refl refl
gap_starts t u paragraph rest spelt true is = starts_apart t 10 _ refl refl
gap_starts t u tight rest spelt false is =
    let first = token_starts t u spelt is in
    (first.0, first.1 ++ rest, ap (λ l. l ++ rest) first.2, first.3)
gap_starts t u space rest spelt false is = starts_apart t 32 _ refl refl
gap_starts t u (line d) rest spelt false is = starts_apart t 10 _ refl refl
gap_starts t u paragraph rest spelt false is = starts_apart t 10 _ refl refl

text_follows : (t : Token) (ps : Pieces) (tail : List ℕ) → AreSpelt ps → Follows t tail → Follows t (text_after (Some t) ps ++ tail)
text_follows t [] tail spelt f = f
text_follows t (p ∷ ps) tail spelt f =
    let first = gap_starts t p.token p.gap (text_after (Some p.token) ps) spelt.0 (would_join t p.token) refl in
    follows t _ (first.0, first.1 ++ tail, ap (λ l. l ++ tail) first.2, first.3)

-- ---- all tokens

mark_read : (e : ℕ → Tokens) (at : ℕ) (m : Mark) (r : List ℕ) → Follows (mark m) r → Reads e at (mark m) (spelling m ++ r) r
unfolding reserved_word tokens_from lexeme
mark_read e at on_mark r f = word_read e at (codes "on") r refl (f.word refl)
mark_read e at if_mark r f = word_read e at (codes "if") r refl (f.word refl)
mark_read e at do_mark r f = word_read e at (codes "do") r refl (f.word refl)
mark_read e at where_mark r f = word_read e at (codes "where") r refl (f.word refl)
mark_read e at as_mark r f = word_read e at (codes "as") r refl (f.word refl)
mark_read e at set_mark r f = word_read e at (codes "set") r refl (f.word refl)
mark_read e at else_mark r f = word_read e at (codes "else") r refl (f.word refl)
mark_read e at otherwise_mark r f = word_read e at (codes "otherwise") r refl (f.word refl)
mark_read e at then_mark r f = word_read e at (codes "then") r refl (f.word refl)
mark_read e at until_mark r f = word_read e at (codes "until") r refl (f.word refl)
mark_read e at and_mark r f = word_read e at (codes "and") r refl (f.word refl)
mark_read e at or_mark r f = word_read e at (codes "or") r refl (f.word refl)
mark_read e at not_mark r f = word_read e at (codes "not") r refl (f.word refl)
mark_read e at true_mark r f = word_read e at (codes "true") r refl (f.word refl)
mark_read e at false_mark r f = word_read e at (codes "false") r refl (f.word refl)
mark_read e at new_mark r f = word_read e at (codes "new") r refl (f.word refl)
mark_read e at old_mark r f = word_read e at (codes "old") r refl (f.word refl)
mark_read e at event_mark r f = word_read e at (codes "event") r refl (f.word refl)
mark_read e at key_mark r f = word_read e at (codes "key") r refl (f.word refl)
mark_read e at immediate_mark r f = word_read e at (codes "immediate") r refl (f.word refl)
mark_read e at deferred_mark r f = word_read e at (codes "deferred") r refl (f.word refl)
mark_read e at separate_mark r f = word_read e at (codes "separate") r refl (f.word refl)
mark_read e at dependent_mark r f = word_read e at (codes "dependent") r refl (f.word refl)
mark_read e at exclusive_mark r f = word_read e at (codes "exclusive") r refl (f.word refl)
mark_read e at create_mark r f = word_read e at (codes "create") r refl (f.word refl)
mark_read e at update_mark r f = word_read e at (codes "update") r refl (f.word refl)
mark_read e at delete_mark r f = word_read e at (codes "delete") r refl (f.word refl)
mark_read e at signal_mark r f = word_read e at (codes "signal") r refl (f.word refl)
mark_read e at emit_mark r f = word_read e at (codes "emit") r refl (f.word refl)
mark_read e at each_mark r f = word_read e at (codes "each") r refl (f.word refl)
mark_read e at for_mark r f = word_read e at (codes "for") r refl (f.word refl)
mark_read e at with_mark r f = word_read e at (codes "with") r refl (f.word refl)
mark_read e at sub_mark r f = word_read e at (codes "sub") r refl (f.word refl)
mark_read e at abort_mark r f = word_read e at (codes "abort") r refl (f.word refl)
mark_read e at veto_mark r f = word_read e at (codes "veto") r refl (f.word refl)
mark_read e at install_mark r f = word_read e at (codes "install") r refl (f.word refl)
mark_read e at enable_mark r f = word_read e at (codes "enable") r refl (f.word refl)
mark_read e at disable_mark r f = word_read e at (codes "disable") r refl (f.word refl)
mark_read e at remove_mark r f = word_read e at (codes "remove") r refl (f.word refl)
mark_read e at fire_mark r f = word_read e at (codes "fire") r refl (f.word refl)
mark_read e at open_brace r f = (suc at, refl)
mark_read e at close_brace r f = (suc at, refl)
mark_read e at open_parenthesis r f = (suc at, refl)
mark_read e at close_parenthesis r f = (suc at, refl)
mark_read e at open_bracket r f = (suc at, refl)
mark_read e at close_bracket r f = (suc at, refl)
mark_read e at comma r f = (suc at, refl)
mark_read e at colon r f = (suc at, refl)
mark_read e at semicolon r f = (suc at, refl)
mark_read e at point r f = (suc at, refl)
mark_read e at equal_sign r f = (suc at, refl)
mark_read e at unequal_sign r f = (suc (suc at), refl)
mark_read e at less_sign [] f = (suc at, refl)
mark_read e at less_sign (c ∷ r) f = (suc at, rw (f.angle refl) refl)
mark_read e at at_most_sign r f = (suc (suc at), refl)
mark_read e at greater_sign [] f = (suc at, refl)
mark_read e at greater_sign (c ∷ r) f = (suc at, rw (f.angle refl) refl)
mark_read e at at_least_sign r f = (suc (suc at), refl)
mark_read e at plus_sign r f = (suc at, refl)
mark_read e at minus_sign r f = (suc at, refl)
mark_read e at times_sign r f = (suc at, refl)
mark_read e at divided_sign r f = (suc at, refl)
mark_read e at percent_sign r f = (suc at, refl)

token_read : (e : ℕ → Tokens) (at : ℕ) (t : Token) (r : List ℕ) → IsSpelt t → Follows t r → Reads e at t (token_text t ++ r) r
token_read e at (mark m) r spelt f = mark_read e at m r f
token_read e at (word w) r spelt f = subst (λ o. Reads e at (word_token w o) (w ++ r) r) spelt.1 (word_read e at w r spelt.0 (f.word refl))
token_read e at (quoted x) r spelt f = subst (λ l. Reads e at (quoted x) (96 ∷ l) r) (sym (append_assoc x (96 ∷ []) r)) (quoted_read e at x r spelt)
token_read e at (number n) r spelt f = number_read e at n r spelt (f.word refl)
token_read e at (string s) r spelt f =
    subst (λ l. Reads e at (string s) (34 ∷ l) r) (sym (append_assoc (flat_map escaped s) (34 ∷ []) r)) (string_read e at s r)

spaces_passed : (e : ℕ → Tokens) (at n : ℕ) (r : List ℕ) → GoesOn e (tokens_from e 0 at (replicate n 32 ++ r)) r
unfolding tokens_from lexeme
spaces_passed e at zero r = (at, refl)
spaces_passed e at (suc n) r = spaces_passed e (suc at) n r

gap_passed : (e : ℕ → Tokens) (at : ℕ) (g : Gap) (r : List ℕ) → GoesOn e (tokens_from e 0 at (gap_text g ++ r)) r
unfolding tokens_from lexeme
gap_passed e at tight r = (at, refl)
gap_passed e at space r = (suc at, refl)
gap_passed e at (line d) r = spaces_passed e (suc at) (2 * d) r
gap_passed e at paragraph r = (suc (suc at), refl)

-- what stands after the last piece has no token: nothing, or a line feed
pub record IsTail (tail : List ℕ) : Type 0 where
  follows_all : (t : Token) → Follows t tail
  is_blank : (at : ℕ) → all_tokens (tokens_from ending 0 at tail) ≡ Some []

pub no_tail : IsTail []
unfolding tokens_from
no_tail = record { follows_all = follows_end; is_blank = λ at. refl }

pub line_feed_tail : IsTail (10 ∷ [])
unfolding tokens_from lexeme
line_feed_tail = record { follows_all = λ t. follows t (10 ∷ []) (starts_apart t 10 [] refl refl); is_blank = λ at. refl }

pieces_read : (before : Option Token) (at : ℕ) (ps : Pieces) (tail : List ℕ) → IsTail tail → AreSpelt ps
    → all_tokens (tokens_from ending 0 at (text_after before ps ++ tail)) ≡ Some (map token_of ps)
pieces_read before at [] tail end spelt = end.is_blank at
pieces_read before at (p ∷ ps) tail end spelt =
    let t = p.token in
    let rest = text_after (Some t) ps in
    let g = gap_after before t p.gap in
    let gap = gap_passed ending at g (token_text t ++ (rest ++ tail)) in
    let one = token_read ending gap.0 t (rest ++ tail) spelt.0 (text_follows t ps tail spelt.1 (end.follows_all t)) in
    let whole : (gap_text g ++ (token_text t ++ rest)) ++ tail ≡ gap_text g ++ (token_text t ++ (rest ++ tail))
    = append_assoc (gap_text g) (token_text t ++ rest) tail ∙ ap (λ l. gap_text g ++ l) (append_assoc (token_text t) rest tail) in
    ap (λ l. all_tokens (tokens_from ending 0 at l)) whole ∙ ap all_tokens (gap.1 ∙ one.1)
    ∙ ap (option_map (λ others. t ∷ others)) (pieces_read (Some t) one.0 ps tail end spelt.1)

pub tokens_read : (ps : Pieces) (tail : List ℕ) → IsTail tail → AreSpelt ps → is_utf8 (text_of ps ++ tail) ≡ true → all_tokens (tokens (text_of ps ++ tail)) ≡ Some (map token_of ps)
unfolding tokens text_of
tokens_read ps tail end spelt utf8 = ap (λ b. all_tokens (tokens_of b (text_after None ps ++ tail))) utf8 ∙ pieces_read None 0 ps tail end spelt

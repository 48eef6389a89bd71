-- The steps of the definition of a text in quotes, at a place of the whole text.
use Rattle.std.proofs.Common.{◌≡◌, refl, sym, ap, ◌∙◌, subst, inl, inr, ◌⊎◌, ℕ, zero, suc, ◌+◌, ◌-◌, ◌<◌, ◌≤◌, Bool, true, false, not, ◌||◌, cond, ◌==◌, nat_lt, List, [], ◌∷◌}
use Rattle.std.proofs.Common.{◌++◌, length, take, drop, get_or, Some, None, arith}
use Rattle.std.specs.Prelude.{if◌then◌else◌}
use Rattle.std.specs.List.{prefix_len}
use Rattle.std.proofs.lemmas.List.{drop_more, append_assoc, append-nil, drop-drop, drop_all, get_or-drop, length-drop}
use Rattle.std.proofs.lemmas.Bool.{or_parts, not-true, eqb-true, cases_lt, eq-eqb, true≢false, ne_eqb, lt-ltb, le-ltb}
use Rattle.std.proofs.lemmas.List.Sums.{prefix_len-le-length}
use Rattle.std.proofs.lemmas.Str.{IsCharBoundary-end, IsCharBoundary-before_ascii, IsCharBoundary-after_ascii}
use Rattle.std.specs.Str.{IsUtf8, IsCharBoundary}
use Rattle.hp_model.specs.NotationTokens.{Character, escape, character, Content, closed, broken, preceded, content_at, content}
use Rattle.hp_text.specs.Lexemes.{is_plain, EndsInAscii}

-- some bytes stand before, which have been read as a text
abbrev pub preceded_by : List ℕ → ℕ → Content → Content
preceded_by bytes n (closed text size) = closed (bytes ++ text) (n + size)
preceded_by bytes n (broken distance) = broken (n + distance)

preceded_by_one : (bytes : List ℕ) (c : Content) → preceded bytes c ≡ preceded_by bytes 1 c
preceded_by_one bytes (closed text size) = let e : suc size ≡ 1 + size = omega arith in ap (closed (bytes ++ text)) e
preceded_by_one bytes (broken distance) = let e : suc distance ≡ 1 + distance = omega arith in ap broken e

pub preceded_twice : (a b : List ℕ) (m n : ℕ) (c : Content) → preceded_by a m (preceded_by b n c) ≡ preceded_by (a ++ b) (m + n) c
preceded_twice a b m n (closed text size) =
    let e : m + (n + size) ≡ (m + n) + size = omega arith in
    ap (λ k. closed (a ++ (b ++ text)) k) e ∙ ap (λ t. closed t ((m + n) + size)) (sym (append_assoc a b text))
preceded_twice a b m n (broken distance) = let e : m + (n + distance) ≡ (m + n) + distance = omega arith in ap broken e

pub preceded_by_none : (c : Content) → c ≡ preceded_by [] 0 c
preceded_by_none (closed text size) = let e : size ≡ 0 + size = omega arith in ap (closed text) e
preceded_by_none (broken distance) = let e : distance ≡ 0 + distance = omega arith in ap broken e

-- bytes that belong to the character before are passed over
content_past : (n : ℕ) (bs : List ℕ) → n ≤ length bs → content n bs ≡ preceded_by [] n (content 0 (drop n bs))
unfolding content
content_past zero bs le = preceded_by_none (content 0 bs)
content_past (suc n) [] le = absurd (omega arith)
content_past (suc n) (b ∷ bs) le =
    let rest = content 0 (drop n bs) in
    let e : 1 + n ≡ suc n = omega arith in
    ap (preceded []) (content_past n bs (omega arith)) ∙ preceded_by_one [] (preceded_by [] n rest) ∙ preceded_twice [] [] 1 n rest ∙ ap (λ k. preceded_by [] k rest) e

-- ---- runs of bytes that stand for themselves

plain_byte : (x : ℕ) (xs : List ℕ) → is_plain x ≡ true → content 0 (x ∷ xs) ≡ preceded (x ∷ []) (content 0 xs)
unfolding content
plain_byte x xs is =
    let none = or_parts (x == 34) _ (not-true _ is) in
    let others = or_parts (x == 92) _ none.1 in
    let itself : Character = record { bytes = x ∷ []; more = 0 } in
    λ i. content_at (none.0 i) (if others.0 i then escape xs else (if others.1 i then None else Some itself)) (λ n. content n xs)

run_byte : (p : Bool) (x n : ℕ) (xs : List ℕ) → is_plain x ≡ p → content 0 xs ≡ preceded_by (take n xs) n (content 0 (drop n xs))
    → content 0 (x ∷ xs) ≡ preceded_by (take (cond p (1 + n) 0) (x ∷ xs)) (cond p (1 + n) 0) (content 0 (drop (cond p (1 + n) 0) (x ∷ xs)))
run_byte false x n xs e ih = preceded_by_none (content 0 (x ∷ xs))
run_byte true x n xs e ih =
    let rest = content 0 (drop n xs) in
    let next : suc n ≡ 1 + n = omega arith in
    let one : preceded_by ((x ∷ []) ++ take n xs) (1 + n) rest ≡ preceded_by (take (suc n) (x ∷ xs)) (suc n) (content 0 (drop (suc n) (x ∷ xs))) =
    ap (λ k. preceded_by (x ∷ take n xs) k rest) (sym next) in
    plain_byte x xs e ∙ ap (preceded (x ∷ [])) ih ∙ preceded_by_one (x ∷ []) (preceded_by (take n xs) n rest) ∙ preceded_twice (x ∷ []) (take n xs) 1 n rest
    ∙ one ∙ ap (λ k. preceded_by (take k (x ∷ xs)) k (content 0 (drop k (x ∷ xs)))) next

content_run : (xs : List ℕ) → content 0 xs ≡ preceded_by (take (prefix_len is_plain xs) xs) (prefix_len is_plain xs) (content 0 (drop (prefix_len is_plain xs) xs))
content_run [] = preceded_by_none (content 0 [])
content_run (x ∷ xs) = run_byte (is_plain x) x (prefix_len is_plain xs) xs refl (content_run xs)

content_to : (d : List ℕ) (i n : ℕ) → n ≡ prefix_len is_plain (drop i d) → content 0 (drop i d) ≡ preceded_by (take n (drop i d)) n (content 0 (drop (i + n) d))
content_to d i n is =
    let p = prefix_len is_plain (drop i d) in
    content_run (drop i d) ∙ ap (λ l. preceded_by (take p (drop i d)) p (content 0 l)) (drop-drop p i d) ∙ ap (λ k. preceded_by (take k (drop i d)) k (content 0 (drop (i + k) d))) (sym is)

-- ---- where a run stops

at_byte : (d : List ℕ) (i : ℕ) → i < length d → content 0 (drop i d) ≡ content_at (get_or d i 0 == 34) (character (get_or d i 0) (drop (i + 1) d)) (λ n. content n (drop (i + 1) d))
unfolding content
at_byte d i h = ap (content 0) (drop_more d i 0 h)

pub at_end : (d : List ℕ) (i : ℕ) → length d ≤ i → content 0 (drop i d) ≡ broken 0
unfolding content
at_end d i h = ap (content 0) (drop_all i d h)

pub at_quote : (d : List ℕ) (i : ℕ) → i < length d → get_or d i 0 ≡ 34 → content 0 (drop i d) ≡ closed [] 0
at_quote d i h e =
    at_byte d i h ∙ ap (λ b. content_at b (character (get_or d i 0) (drop (i + 1) d)) (λ n. content n (drop (i + 1) d))) (eq-eqb (get_or d i 0) 34 e)

pub at_control : (d : List ℕ) (i : ℕ) → i < length d → get_or d i 0 < 32 → content 0 (drop i d) ≡ broken 0
at_control d i h e =
    let x = get_or d i 0 in
    let xs = drop (i + 1) d in
    let quote : (x == 34) ≡ false = ne_eqb x 34 (λ z. omega arith) in
    let slash : (x == 92) ≡ false = ne_eqb x 92 (λ z. omega arith) in
    let low : nat_lt x 32 ≡ true = lt-ltb x 32 e in
    let itself : Character = record { bytes = x ∷ []; more = 0 } in
    at_byte d i h ∙ (λ j. content_at (quote j) (if slash j then escape xs else (if low j then None else Some itself)) (λ n. content n xs))

at_slash : (d : List ℕ) (i : ℕ) → i < length d → get_or d i 0 ≡ 92 → content 0 (drop i d) ≡ content_at false (escape (drop (i + 1) d)) (λ n. content n (drop (i + 1) d))
at_slash d i h e =
    let x = get_or d i 0 in
    let xs = drop (i + 1) d in
    let quote : (x == 34) ≡ false = ne_eqb x 34 (λ z. omega arith) in
    let slash : (x == 92) ≡ true = eq-eqb x 92 e in
    let itself : Character = record { bytes = x ∷ []; more = 0 } in
    at_byte d i h ∙ (λ j. content_at (quote j) (if slash j then escape xs else (if nat_lt x 32 then None else Some itself)) (λ n. content n xs))

pub at_broken : (d : List ℕ) (i : ℕ) → i < length d → get_or d i 0 ≡ 92 → escape (drop (i + 1) d) ≡ None → content 0 (drop i d) ≡ broken 0
at_broken d i h e none = at_slash d i h e ∙ ap (λ c. content_at false c (λ n. content n (drop (i + 1) d))) none

pub at_escape : (d : List ℕ) (i : ℕ) (c : Character) → i < length d → get_or d i 0 ≡ 92 → escape (drop (i + 1) d) ≡ Some c → c.more ≤ length (drop (i + 1) d)
    → content 0 (drop i d) ≡ preceded_by c.bytes (1 + c.more) (content 0 (drop (i + 1 + c.more) d))
at_escape d i c h e some le =
    let xs = drop (i + 1) d in
    let rest = content 0 (drop c.more xs) in
    at_slash d i h e ∙ ap (λ r. content_at false r (λ n. content n xs)) some ∙ ap (preceded c.bytes) (content_past c.more xs le)
    ∙ preceded_by_one c.bytes (preceded_by [] c.more rest) ∙ preceded_twice c.bytes [] 1 c.more rest
    ∙ (λ j. preceded_by (append-nil c.bytes j) (1 + c.more) (content 0 (drop-drop c.more (i + 1) d j)))

stops_byte : (p : Bool) (x n : ℕ) (xs : List ℕ) → p ≡ is_plain x → (n < length xs → is_plain (get_or xs n 0) ≡ false) → cond p (1 + n) 0 < length (x ∷ xs)
    → is_plain (get_or (x ∷ xs) (cond p (1 + n) 0) 0) ≡ false
stops_byte false x n xs e ih h = sym e
stops_byte true x n xs e ih h = let next : 1 + n ≡ suc n = omega arith in ap (λ k. is_plain (get_or (x ∷ xs) k 0)) next ∙ ih (omega arith)

stops_there : (xs : List ℕ) → prefix_len is_plain xs < length xs → is_plain (get_or xs (prefix_len is_plain xs) 0) ≡ false
stops_there [] h = absurd (omega arith)
stops_there (x ∷ xs) h = stops_byte (is_plain x) x (prefix_len is_plain xs) xs refl (stops_there xs) h

stops_at : (d : List ℕ) (i n : ℕ) → n ≡ prefix_len is_plain (drop i d) → i + n < length d → is_plain (get_or d (i + n) 0) ≡ false
stops_at d i n is h =
    let p = prefix_len is_plain (drop i d) in
    ap is_plain (ap (λ k. get_or d (i + k) 0) is ∙ sym (get_or-drop i d p 0)) ∙ stops_there (drop i d) (omega (arith, length-drop i d))

-- what stops a run and is no quote and no control character is a backslash
pub stop_is_slash : (d : List ℕ) (i n : ℕ) → n ≡ prefix_len is_plain (drop i d) → i + n < length d → (get_or d (i + n) 0 ≡ 34 → ⊥) → 32 ≤ get_or d (i + n) 0 → get_or d (i + n) 0 ≡ 92
stop_is_slash d i n is h q l =
    let x = get_or d (i + n) 0 in
    let there : is_plain x ≡ false = stops_at d i n is h in
    eqb-true x 92 (last (x == 92) (sym (λ j. not (ne_eqb x 34 q j || ((x == 92) || le-ltb x 32 l j))) ∙ there))
  where
    last : (b : Bool) → not (false || (b || false)) ≡ false → b ≡ true
    last true e = refl
    last false e = absurd (true≢false e)

plain_above : (x : ℕ) → 128 ≤ x → is_plain x ≡ true
plain_above x h =
    let quote : (x == 34) ≡ false = ne_eqb x 34 (λ z. omega arith) in
    let slash : (x == 92) ≡ false = ne_eqb x 92 (λ z. omega arith) in
    let low : nat_lt x 32 ≡ false = le-ltb x 32 (omega arith) in
    λ j. not (quote j || (slash j || low j))

-- a run ends where the text may be cut
pub run_ends : (d : List ℕ) (i n : ℕ) → i ≤ length d → n ≡ prefix_len is_plain (drop i d) → IsCharBoundary d (i + n)
run_ends d i n within is = go (cases_lt (i + n) (length d))
  where
    below : i + n < length d → get_or d (i + n) 0 < 128
    below h = elim (cases_lt (get_or d (i + n) 0) 128) [
      | inl small ↦ small
      | inr large ↦ absurd (true≢false (sym (plain_above (get_or d (i + n) 0) large) ∙ stops_at d i n is h))
    ]

    go : (i + n < length d) ⊎ (length d ≤ i + n) → IsCharBoundary d (i + n)
    go (inl h) = IsCharBoundary-before_ascii d (i + n) h (below h)
    go (inr h) =
        let last : length d ≡ i + n = omega (arith, prefix_len-le-length is_plain (drop i d), length-drop i d) in
        subst (IsCharBoundary d) last (IsCharBoundary-end d)

-- so does an escape
pub escape_ends : (d : List ℕ) (i more : ℕ) → IsUtf8 d → 0 < more → i ≤ length d → EndsInAscii more (drop i d) → IsCharBoundary d (i + more)
escape_ends d i more text some within ends =
    let e : i + (more - 1) + 1 ≡ i + more = omega arith in
    subst (IsCharBoundary d) e (IsCharBoundary-after_ascii d (i + (more - 1)) text (omega (arith, ends.0, length-drop i d)) (subst (λ x. x < 128) (get_or-drop i d (more - 1) 0) ends.1))

-- ---- a text from its beginning on

module _ (whole : Content) (d f : List ℕ) (start at n : ℕ) (so_far : whole ≡ preceded_by f (at - start) (content 0 (drop at d))) (from : start ≤ at) (is : n ≡ prefix_len is_plain (drop at d)) where
  run_read : whole ≡ preceded_by (f ++ take n (drop at d)) (at + n - start) (content 0 (drop (at + n) d))
  run_read =
      let rest = content 0 (drop (at + n) d) in
      let e : at - start + n ≡ at + n - start = omega arith in
      so_far ∙ ap (preceded_by f (at - start)) (content_to d at n is) ∙ preceded_twice f (take n (drop at d)) (at - start) n rest ∙ ap (λ k. preceded_by (f ++ take n (drop at d)) k rest) e

  pub broken_there : content 0 (drop (at + n) d) ≡ broken 0 → broken (at + n - start) ≡ whole
  broken_there here =
      let e : at + n - start + 0 ≡ at + n - start = omega arith in
      sym (run_read ∙ ap (preceded_by (f ++ take n (drop at d)) (at + n - start)) here ∙ ap broken e)

  pub closed_there : content 0 (drop (at + n) d) ≡ closed [] 0 → closed (f ++ take n (drop at d)) (at + n - start) ≡ whole
  closed_there here =
      let e : at + n - start + 0 ≡ at + n - start = omega arith in
      sym (run_read ∙ ap (preceded_by (f ++ take n (drop at d)) (at + n - start)) here ∙ ap (closed ((f ++ take n (drop at d)) ++ [])) e
      ∙ ap (λ t. closed t (at + n - start)) (append-nil (f ++ take n (drop at d))))

  pub goes_on : (c : Character) → content 0 (drop (at + n) d) ≡ preceded_by c.bytes (1 + c.more) (content 0 (drop (at + n + 1 + c.more) d))
      → whole ≡ preceded_by ((f ++ take n (drop at d)) ++ c.bytes) (at + n + 1 + c.more - start) (content 0 (drop (at + n + 1 + c.more) d))
  goes_on c here =
      let rest = content 0 (drop (at + n + 1 + c.more) d) in
      let e : at + n - start + (1 + c.more) ≡ at + n + 1 + c.more - start = omega arith in
      run_read ∙ ap (preceded_by (f ++ take n (drop at d)) (at + n - start)) here ∙ preceded_twice (f ++ take n (drop at d)) c.bytes (at + n - start) (1 + c.more) rest
      ∙ ap (λ k. preceded_by ((f ++ take n (drop at d)) ++ c.bytes) k rest) e

-- Next moments, and lists of due ones.
use Rattle.std.proofs.Common.{◌≡◌, ℕ, zero, suc, ◌+◌, ◌-◌, ◌*◌, ◌/◌, ◌%◌, ◌^◌, ◌<◌, ◌≤◌, ◌||◌, min, length, Bool, true, false, cond, List, [], ◌∷◌, ◌++◌, Option, Some, None}
use Rattle.std.proofs.Common.{filter, map, take, get_or, append-nil, append_assoc, inl, inr, refl, sym, ap, ◌∙◌, arith}
use Rattle.std.proofs.lemmas.Bool.{cases_lt, lt-ltb, le-ltb}
use Rattle.std.proofs.lemmas.List.{length-append, take_more, map-append}
use Rattle.std.proofs.lemmas.List.Folds.{list_any-append}
use Rattle.std.proofs.lemmas.Bool.Decides.{nat_tests}
use Rattle.std.proofs.lemmas.Nat.{mod-mul-add, div-add-mod', mod_below}
use Rattle.std.specs.List.{range_with_len}
use Rattle.hp_model.specs.Occurrences.{moment_reached}
use Rattle.hp_model.specs.Events.{is_multiple, mentions}
use Rattle.hp_model.specs.Rules as R
use Rattle.hp_model.specs.Decode.{names_moment}
use Rattle.hp_rule.specs.Mapped.{rule}
use Rattle.hp_rule.specs.declared.rule.Rule.{Rule}
use Rattle.hp_script.specs.Moments.{IsNext, NextOf, earlier, limited}

-- ---- the multiples of a period after a first moment

-- what is s above a multiple is no multiple, and what is a period above one is
rest_at : (d q r s p : ℕ) → d ≡ q * p + r → r + s < p → (d + s) % p ≡ r + s
rest_at d q r s p e lt = ap (λ x. (x + s) % p) e ∙ ap (λ x. x % p) (let a : q * p + r + s ≡ q * p + (r + s) = omega arith in a) ∙ mod-mul-add q p (r + s) lt

whole_at : (d q r p : ℕ) → d ≡ q * p + r → r < p → (d + (p - r)) % p ≡ 0
whole_at d q r p e lt =
    ap (λ x. x % p) (let a : d + (p - r) ≡ (q + 1) * p + 0 = grind arith in a) ∙ mod-mul-add (q + 1) p 0 (omega arith)

named_at : (first period m : ℕ) → first ≤ m → (m - first) % suc period ≡ 0 → is_multiple first (suc period) m ≡ true
named_at first period m le e = grind (arith, nat_tests)

unnamed_at : (first period m k : ℕ) → first ≤ m → 0 < k → (m - first) % suc period ≡ k → is_multiple first (suc period) m ≡ false
unnamed_at first period m k le pos e = grind (arith, nat_tests)

next_above : (first period after : ℕ) → first ≤ after → IsNext (is_multiple first (suc period)) after (after + (suc period - (after - first) % suc period))
next_above first period after le =
    let p = suc period in
    let d = after - first in
    let r = d % p in
    let q = d / p in
    let lt : r < p = mod_below d p (omega arith) in
    let e : d ≡ q * p + r = sym (div-add-mod' d p) in
    record {
      above = omega arith;
      is = named_at first period (after + (p - r)) (omega arith) (ap (λ x. x % p) (let a : after + (p - r) - first ≡ d + (p - r) = omega arith in a) ∙ whole_at d q r p e lt);
      first = λ m above below fits. unnamed_at first period m (m - after + r) (omega arith) (omega arith)
          (ap (λ x. x % p) (let a : m - first ≡ d + (m - after) = omega arith in a) ∙ rest_at d q r (m - after) p e (omega arith) ∙ (let a : r + (m - after) ≡ m - after + r = omega arith in a));
    }

pub next_multiple : (first period after : ℕ) → first ≤ after → 0 < period → IsNext (is_multiple first period) after (after + (period - (after - first) % period))
next_multiple first zero after le pos = absurd (omega arith)
next_multiple first (suc period) after le pos = next_above first period after le

first_is : (first period : ℕ) → is_multiple first period first ≡ true
first_is first zero = grind (arith, nat_tests)
first_is first (suc period) = named_at first period first (omega arith) (ap (λ x. x % suc period) (let a : first - first ≡ 0 * suc period + 0 = omega arith in a)
    ∙ mod-mul-add 0 (suc period) 0 (omega arith))

none_before : (first period m : ℕ) → m < first → is_multiple first period m ≡ false
none_before first zero m lt = grind (arith, nat_tests)
none_before first (suc period) m lt = grind (arith, nat_tests)

pub multiple_before_first : (first period after : ℕ) → after < first → IsNext (is_multiple first period) after first
multiple_before_first first period after lt = record {
  above = lt;
  is = first_is first period;
  first = λ m above below fits. none_before first period m below;
}

-- a period of 0 gives the first moment alone
pub no_multiple : (first period after : ℕ) → first ≤ after → period ≡ 0 → (m : ℕ) → after < m → is_multiple first period m ≡ false
no_multiple first zero after le e m above = grind (arith, nat_tests)
no_multiple first (suc period) after le e m above = absurd (omega (arith, e))

-- ---- the earlier of two

or_left : (x y : Bool) → x ≡ true → (x || y) ≡ true
or_left x y e = rw e refl

or_right : (x y : Bool) → y ≡ true → (x || y) ≡ true
or_right true y e = refl
or_right false y e = e

or_none : (x y : Bool) → x ≡ false → y ≡ false → (x || y) ≡ false
or_none x y e f = rw (e, f) refl

at_both : (p q : ℕ → Bool) (after a b n : ℕ) → n ≡ min a b → IsNext p after a → IsNext q after b → IsNext (λ m. p m || q m) after n
at_both p q after a b n e ha hb = record {
  above = let l = ha.above in let r = hb.above in omega arith;
  is = elim (cases_lt a b) [
    | inl lt ↦ let is_a : n ≡ a = omega arith in or_left (p n) (q n) (ap p is_a ∙ ha.is)
    | inr le ↦ let is_b : n ≡ b = omega arith in or_right (p n) (q n) (ap q is_b ∙ hb.is)
  ];
  first = λ m above below fits. or_none (p m) (q m) (ha.first m above (omega arith) fits) (hb.first m above (omega arith) fits);
}

-- the next of what one or another names
pub next_of_both : (p q : ℕ → Bool) (after : ℕ) (a b : Option ℕ) → NextOf p after a → NextOf q after b → NextOf (λ m. p m || q m) after (earlier a b)
next_of_both p q after None None ha hb = λ m h lt. or_none (p m) (q m) (ha m h lt) (hb m h lt)
next_of_both p q after None (Some b) ha hb = record {
  above = hb.above;
  is = or_right (p b) (q b) hb.is;
  first = λ m above below fits. or_none (p m) (q m) (ha m above fits) (hb.first m above below fits);
}
next_of_both p q after (Some a) None ha hb = record {
  above = ha.above;
  is = or_left (p a) (q a) ha.is;
  first = λ m above below fits. or_none (p m) (q m) (ha.first m above below fits) (hb m above fits);
}
next_of_both p q after (Some a) (Some b) ha hb = at_both p q after a b (min a b) refl ha hb

or_false : (x : Bool) → (x || false) ≡ x
or_false true = refl
or_false false = refl

names_one_more : (front : List R.Rule) (r : R.Rule) (m : ℕ) → names_moment (front ++ r ∷ []) m ≡ (names_moment front m || mentions r.event (moment_reached m))
names_one_more front r m =
    list_any-append (λ (s : R.Rule). mentions s.event (moment_reached m)) front (r ∷ [])
    ∙ ap (λ b. names_moment front m || b) (or_false (mentions r.event (moment_reached m)))

next_as : (p q : ℕ → Bool) (after : ℕ) (o : Option ℕ) → ((m : ℕ) → q m ≡ p m) → NextOf p after o → NextOf q after o
next_as p q after None same h = λ m above fits. same m ∙ h m above fits
next_as p q after (Some n) same h = record {
  above = h.above;
  is = same n ∙ h.is;
  first = λ m above below fits. same m ∙ h.first m above below fits;
}

-- the next of what the rules up to one name, and that one
pub next_of_more : (rs : List Rule) (i : ℕ) (d : Rule) (after : ℕ) (a b : Option ℕ) → i < length rs → NextOf (names_moment (map rule (take i rs))) after a
    → NextOf (λ t. mentions (rule (get_or rs i d)).event (moment_reached t)) after b → NextOf (names_moment (map rule (take (i + 1) rs))) after (earlier a b)
next_of_more rs i d after a b lt ha hb =
    let front = map rule (take i rs) in
    let r = rule (get_or rs i d) in
    next_as (λ m. names_moment front m || mentions r.event (moment_reached m)) (names_moment (map rule (take (i + 1) rs))) after (earlier a b)
    (λ m. ap (λ (l : List Rule). names_moment (map rule l) m) (take_more rs i d lt) ∙ ap (λ (l : List R.Rule). names_moment l m) (map-append rule (take i rs) (get_or rs i d ∷ []))
    ∙ names_one_more front r m)
    (next_of_both (names_moment front) (λ t. mentions r.event (moment_reached t)) after a b ha hb)

-- ---- lists of due moments

abbrev due_in : (named : ℕ → Bool) → (a n : ℕ) → List ℕ
due_in named a n = filter named (range_with_len a n)

abbrev due_of : (named : ℕ → Bool) → (after until : ℕ) → List ℕ
due_of named after until = due_in named (after + 1) (until - after)

none_due : (named : ℕ → Bool) (k a : ℕ) → ((m : ℕ) → a ≤ m → m < a + k → named m ≡ false) → due_in named a k ≡ []
none_due named zero a h = refl
none_due named (suc k) a h =
    let here : named a ≡ false = h a (omega arith) (omega arith) in
    ap (λ b. cond b (a ∷ due_in named (a + 1) k) (due_in named (a + 1) k)) here ∙ none_due named k (a + 1) (λ m low high. h m (omega arith) (omega arith))

first_due : (named : ℕ → Bool) (j k a n t : ℕ) → a + j ≡ n → t ≡ suc (j + k) → named n ≡ true → ((m : ℕ) → a ≤ m → m < n → named m ≡ false)
    → due_in named a t ≡ n ∷ due_in named (n + 1) k
first_due named zero k a n t e total is first =
    let same : a ≡ n = omega arith in
    let long : t ≡ suc k = omega arith in
    ap (due_in named a) long ∙ ap (λ x. due_in named x (suc k)) same ∙ ap (λ b. cond b (n ∷ due_in named (n + 1) k) (due_in named (n + 1) k)) is
first_due named (suc j) k a n t e total is first =
    let long : t ≡ suc (suc (j + k)) = omega arith in
    let here : named a ≡ false = first a (omega arith) (omega arith) in
    ap (due_in named a) long ∙ ap (λ b. cond b (a ∷ due_in named (a + 1) (suc (j + k))) (due_in named (a + 1) (suc (j + k)))) here
    ∙ first_due named j k (a + 1) n (suc (j + k)) (omega arith) refl is (λ m low high. first m (omega arith) (omega arith))

-- the due moments so far, and those above `now`, are all
pub record SoFar (named : ℕ → Bool) (after until now : ℕ) (moments : List ℕ) : Type 0 where
  pub all : moments ++ due_of named now until ≡ due_of named after until
  pub within : now ≤ until
  pub few : length moments ≤ 1000

few_kept : (ds ms : List ℕ) → ds ≡ ms → length ms ≤ 1000 → Some ms ≡ limited ds
few_kept ds ms e le = rw e (ap (λ b. cond b None (Some ms)) (sym (le-ltb _ _ le)))

none_left : (named : ℕ → Bool) (after until now : ℕ) (ms : List ℕ) → SoFar named after until now ms → ((m : ℕ) → now < m → m ≤ until → named m ≡ false)
    → Some ms ≡ limited (due_of named after until)
none_left named after until now ms s none =
    let empty : due_of named now until ≡ [] = none_due named (until - now) (now + 1) (λ m low high. none m (omega arith) (let w = s.within in omega arith)) in
    few_kept (due_of named after until) ms (sym s.all ∙ ap (λ (l : List ℕ). ms ++ l) empty ∙ append-nil ms) s.few

pub ended : (named : ℕ → Bool) (after until now : ℕ) (ms : List ℕ) → until < 2 ^ 63 → SoFar named after until now ms → NextOf named now None → Some ms ≡ limited (due_of named after until)
ended named after until now ms fits s none = none_left named after until now ms s (λ m low high. none m low (omega arith))

pub passed : (named : ℕ → Bool) (after until now n : ℕ) (ms : List ℕ) → until < 2 ^ 63 → SoFar named after until now ms → IsNext named now n → until < n → Some ms ≡ limited (due_of named after until)
passed named after until now n ms fits s next lt = none_left named after until now ms s (λ m low high. next.first m low (omega arith) (omega arith))

one_more : (named : ℕ → Bool) (after until now n : ℕ) (ms : List ℕ) → until < 2 ^ 63 → SoFar named after until now ms → IsNext named now n → n ≤ until
    → ms ++ (n ∷ due_of named n until) ≡ due_of named after until
one_more named after until now n ms fits s next le =
    let above = next.above in
    let here : due_of named now until ≡ n ∷ due_of named n until =
    first_due named (n - (now + 1)) (until - n) (now + 1) n (until - now) (omega arith) (omega arith) next.is (λ m low high. next.first m (omega arith) high (omega arith)) in
    ap (λ (l : List ℕ). ms ++ l) (sym here) ∙ s.all

pub too_many : (named : ℕ → Bool) (after until now n : ℕ) (ms : List ℕ) → until < 2 ^ 63 → SoFar named after until now ms → IsNext named now n → n ≤ until → length ms ≡ 1000
    → None ≡ limited (due_of named after until)
too_many named after until now n ms fits s next le full =
    let e = one_more named after until now n ms fits s next le in
    let long : 1000 < length (due_of named after until) = rw (← e, length-append) (rw full (omega arith)) in
    ap (λ b. cond b None (Some (due_of named after until))) (sym (lt-ltb _ _ long))

pub goes_on : (named : ℕ → Bool) (after until now n : ℕ) (ms new : List ℕ) → until < 2 ^ 63 → SoFar named after until now ms → IsNext named now n → n ≤ until → length ms < 1000 → new ≡ ms ++ n ∷ []
    → SoFar named after until n new
goes_on named after until now n ms new fits s next le room e = record {
  all = ap (λ (l : List ℕ). l ++ due_of named n until) e ∙ append_assoc ms (n ∷ []) (due_of named n until) ∙ one_more named after until now n ms fits s next le;
  within = le;
  few = rw (e, length-append) (omega arith);
}

-- Trees of ropes stay balanced, and are low.
use Rattle.std.proofs.Common.{◌≡◌, refl, sym, ap, ◌∙◌, subst, ℕ, suc, ◌+◌, ◌*◌, ◌-◌, ◌^◌, ◌<◌, ◌≤◌, inl, inr, max, arith}
use Rattle.std.proofs.lemmas.Bool.{cases_lt}
use Rattle.std.proofs.Math.Nat.{max-eq_left, max-eq_right, le-max_left, le-max_right, pow-succ'}
use Rattle.std.proofs.Math.Pow.{pow_mono}
use Rattle.hp_detect.specs.Shapes.{Shape, one_chunk, node, height, chunks, IsFull, IsGrown, IsWorn, IsSettled, IsBalanced, IsLow}

-- ---- powers of two

twice : (n : ℕ) → 2 ^ suc n ≡ 2 ^ n + 2 ^ n
twice n = omega (arith, pow-succ' 2 n)

twice_max : (m n most : ℕ) → 2 ^ m + 2 ^ m ≤ most → 2 ^ n + 2 ^ n ≤ most → 2 ^ suc (max m n) ≤ most
twice_max m n most p q =
    elim (cases_lt m n) [
      | inl less ↦ let low : m ≤ n = omega (arith, less) in
          subst (λ k. 2 ^ suc k ≤ most) (sym (max-eq_right low)) (omega (arith, twice n, q))
      | inr low ↦ subst (λ k. 2 ^ suc k ≤ most) (sym (max-eq_left low)) (omega (arith, twice m, p))
    ]

-- ---- how many chunks a tree has

pub some : (s : Shape) → 0 < chunks s
some one_chunk = omega arith
some (node a b) = omega (arith, some a)

most : (s : Shape) → chunks s ≤ 2 ^ height s
most one_chunk = omega arith
most (node a b) =
    omega (arith, most a, most b, twice (max (height a) (height b)), pow_mono (le-max_left (height a) (height b)), pow_mono (le-max_right (height a) (height b)))

-- the parts of a full tree are full, and of one size
record AreFull (a b : Shape) : Type 0 where
  first : IsFull a
  second : IsFull b
  same : chunks a ≡ chunks b

full_parts : (a b : Shape) → IsFull (node a b) → AreFull a b
full_parts a b full =
    let more = pow_mono (le-max_left (height a) (height b)) in
    let more' = pow_mono (le-max_right (height a) (height b)) in
    let whole = twice (max (height a) (height b)) in
    let few = most a in
    let few' = most b in
    record { first = omega (arith, full); second = omega (arith, full); same = omega (arith, full) }

-- ---- one kind of tree is another

pub full_worn : (s : Shape) → IsFull s → IsWorn s
full_worn one_chunk full = tt
full_worn (node a b) full =
    let parts = full_parts a b full in
    (full_worn a parts.first, parts.second, omega (arith, parts.same))

pub full_grown : (s : Shape) → IsFull s → IsGrown s
full_grown one_chunk full = tt
full_grown (node a b) full =
    let parts = full_parts a b full in
    (parts.first, full_grown b parts.second, omega (arith, parts.same))

pub worn_settled : (s : Shape) → IsWorn s → IsSettled s
worn_settled one_chunk worn = tt
worn_settled (node a b) worn = (full_grown b worn.1, inl worn.0)

pub grown_settled : (s : Shape) → IsGrown s → IsSettled s
grown_settled one_chunk grown = tt
grown_settled (node a b) grown = (grown.1, inl (full_worn a grown.0))

pub settled_balanced : (s : Shape) → IsSettled s → IsBalanced s
settled_balanced one_chunk settled = tt
settled_balanced (node a b) settled = (elim settled.1 [ inl worn ↦ worn_settled a worn | inr more ↦ more.0 ], settled.0)

pub grown_balanced : (s : Shape) → IsGrown s → IsBalanced s
grown_balanced s grown = settled_balanced s (grown_settled s grown)

-- ---- the room that a tree of a height has

grown_room : (s : Shape) → IsGrown s → 2 ^ height s < chunks s + chunks s
grown_room one_chunk grown = omega arith
grown_room (node a b) grown =
    let n = chunks a + chunks b in
    let low : 2 ^ height (node a b) ≤ n + n - 1 =
    twice_max (height a) (height b) (n + n - 1) (omega (arith, grown.0, some b)) (omega (arith, grown_room b grown.1, grown.2)) in
    omega (arith, low, some a)

worn_room : (s : Shape) → IsWorn s → 2 ^ height s ≤ chunks s + chunks s
worn_room one_chunk worn = omega arith
worn_room (node a b) worn =
    twice_max (height a) (height b) _ (omega (arith, worn_room a worn.0, worn.2)) (omega (arith, worn.1))

settled_room : (s : Shape) → IsSettled s → 2 ^ height s ≤ 4 * chunks s
settled_room one_chunk settled = omega arith
settled_room (node a b) settled =
    twice_max (height a) (height b) _
    (elim settled.1 [ inl worn ↦ omega (arith, worn_room a worn) | inr more ↦ omega (arith, settled_room a more.0, more.1) ])
    (omega (arith, grown_room b settled.0))

pub balanced_low : (s : Shape) → IsBalanced s → IsLow s
balanced_low one_chunk rope = omega arith
balanced_low (node a b) rope =
    twice_max (height a) (height b) _ (omega (arith, settled_room a rope.0)) (omega (arith, grown_room b rope.1))

-- ---- one chunk more

-- this tree is full or settled, so that one chunk more is put beside it
pub record TakesBeside (s : Shape) : Type 0 where
  pub balanced : IsBalanced s → IsBalanced (node s one_chunk)
  pub grown : IsGrown s → IsGrown (node s one_chunk)

grown_up : (a b : Shape) → IsGrown (node a b) → chunks a ≤ chunks b → IsFull (node a b)
grown_up a b grown many =
    let same : chunks a ≡ chunks b = omega (arith, grown.2, many) in
    elim (cases_lt (height a) (height b)) [
      | inl less ↦ absurd (omega (arith, pow_mono less, twice (height a), grown_room b grown.1, grown.0, same))
      | inr low ↦ subst (λ k. chunks a + chunks b ≡ 2 ^ suc k) (sym (max-eq_left low)) (omega (arith, twice (height a), grown.0, same))
    ]

pub chunk_beside : TakesBeside one_chunk
chunk_beside = record { balanced = λ _. (tt, tt); grown = λ _. (refl, tt, omega arith) }

pub node_beside : (a b : Shape) → chunks a ≤ chunks b → TakesBeside (node a b)
node_beside a b many = record {
  balanced = λ rope. ((rope.1, inr (rope.0, many)), tt);
  grown = λ grown. (grown_up a b grown many, tt, omega (arith, some a, some b));
}

pub second_grown : (a b more : Shape) → chunks b < chunks a → chunks more ≡ chunks b + 1 → IsGrown more → IsGrown (node a b) → IsGrown (node a more)
second_grown a b more few one grows grown = (grown.0, grows, omega (arith, few, one))

-- ---- one chunk less in the first part

pub worn_less : (a b less : Shape) → chunks less ≤ chunks a → IsWorn less → IsWorn (node a b) → IsWorn (node less b)
worn_less a b less few left worn = (left, worn.1, omega (arith, few, worn.2))

pub settled_less : (a b less : Shape) → chunks less ≤ chunks a → (IsWorn a → IsWorn less) → (IsSettled a → IsSettled less)
    → IsSettled (node a b) → IsSettled (node less b)
settled_less a b less few worn left settled =
    (settled.0, elim settled.1 [ inl was ↦ inl (worn was) | inr more ↦ inr (left more.0, omega (arith, few, more.1)) ])

-- ---- what one call makes of a tree

-- a tree after one chunk more
pub record IsNext (s r : Shape) : Type 0 where
  pub balanced : IsBalanced s → IsBalanced r
  pub grown : IsGrown s → IsGrown r

pub next_beside : {s l r : Shape} → TakesBeside s → l ≡ one_chunk → r ≡ node s l → IsNext s r
next_beside {s} {l} {r} takes one is =
    let whole : r ≡ node s one_chunk = is ∙ ap (node s) one in
    record { balanced = λ h. subst IsBalanced (sym whole) (takes.balanced h); grown = λ h. subst IsGrown (sym whole) (takes.grown h) }

pub next_second : {s r : Shape} (a b more : Shape) → s ≡ node a b → r ≡ node a more → chunks b < chunks a → chunks more ≡ chunks b + 1 → (IsGrown b → IsGrown more) → IsNext s r
next_second {s} {r} a b more from is few one grows = record {
  balanced = λ h. let w : IsBalanced (node a b) = subst IsBalanced from h in subst IsBalanced (sym is) (w.0, grows w.1);
  grown = λ h. let w : IsGrown (node a b) = subst IsGrown from h in subst IsGrown (sym is) (second_grown a b more few one (grows w.1) w);
}

-- a tree after one chunk less
pub record IsLess (s r : Shape) : Type 0 where
  pub balanced : IsBalanced s → IsBalanced r
  pub settled : IsSettled s → IsSettled r
  pub worn : IsWorn s → IsWorn r

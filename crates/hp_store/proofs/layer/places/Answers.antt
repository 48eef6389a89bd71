use Rattle.std.proofs.Common.{◌≡◌, ◌+◌, ◌-◌, ◌<◌, ◌≤◌, ◌∙◌, ℕ, ℤ, List, length, take, drop, drop-drop, to_z, of_z, w64, ap, sym, subst, arith}
use Rattle.std.specs.declared.cmp.Ordering.TheVariants.{Less, Equal, Greater}
use Rattle.std.specs.Ordering.{int_cmp}
use Rattle.std.specs.List.{HoldsAt}
use Rattle.std.specs.List.Sorted.{IsStrictlySortedBy, IsPartitionPoint}
use Rattle.std.proofs.lemmas.Int.{to_z-of_z}
use Rattle.std.proofs.lemmas.List.{take_rest}
use Rattle.hp_store.proofs.Searching.{searchable, below_gap, above_gap, below_hit, above_hit}
use Rattle.hp_store.proofs.layer.places.Goals as goal

count : (from at : ℕ) → from + at - from ≡ at
count from at = omega arith

-- what stands from a place on behind a place
further : (keys : List ℤ) (from next place : ℕ) → place ≡ from + next → drop place keys ≡ drop next (drop from keys)
further keys from next place is = ap (λ n. drop n keys) is ∙ sym (drop-drop next from keys)

found : (c : goal.In-Ok) → HoldsAt (λ x. int_cmp x c.args.key ≡ Equal) (drop c.args.from c.args.keys.now) c.in-Ok.at
found c =
    subst (λ (l : List ℤ). HoldsAt (λ x. int_cmp x c.args.key ≡ Equal) l c.in-Ok.at) (take_rest c.args.keys.now c.args.from)
    (subst (λ (k : ℤ). HoldsAt (λ x. int_cmp x k ≡ Equal) (take (length c.args.keys.now - c.args.from) (drop c.args.from c.args.keys.now)) c.in-Ok.at)
    (to_z-of_z w64 c.args.key c.ranges.key) c.in-Ok.ensures.ok)

found_within : (c : goal.In-Ok) → c.in-Ok.at < length (drop c.args.from c.args.keys.now)
found_within c = subst (λ (l : List ℤ). c.in-Ok.at < length l) (take_rest c.args.keys.now c.args.from) c.in-Ok.ensures.bound

split : (c : goal.In-Err) → IsStrictlySortedBy int_cmp (drop c.args.from c.args.keys.now)
    → IsPartitionPoint (λ x. int_cmp x c.args.key ≡ Less) (λ x. int_cmp x c.args.key ≡ Greater) (drop c.args.from c.args.keys.now) c.in-Err.at
split c rise =
    subst (λ (l : List ℤ). IsPartitionPoint (λ x. int_cmp x c.args.key ≡ Less) (λ x. int_cmp x c.args.key ≡ Greater) l c.in-Err.at) (take_rest c.args.keys.now c.args.from)
    (subst (λ (k : ℤ). IsPartitionPoint (λ x. int_cmp x k ≡ Less) (λ x. int_cmp x k ≡ Greater) (take (length c.args.keys.now - c.args.from) (drop c.args.from c.args.keys.now)) c.in-Err.at)
    (to_z-of_z w64 c.args.key c.ranges.key)
    (c.in-Err.ensures.position
    (searchable (take (length c.args.keys.now - c.args.from) (drop c.args.from c.args.keys.now)) (to_z w64 (of_z w64 c.args.key))
    (subst (IsStrictlySortedBy int_cmp) (sym (take_rest c.args.keys.now c.args.from)) rise))))

split_within : (c : goal.In-Err) → c.in-Err.at ≤ length (drop c.args.from c.args.keys.now)
split_within c = subst (λ (l : List ℤ). c.in-Err.at ≤ length l) (take_rest c.args.keys.now c.args.from) c.in-Err.ensures.bound

pub returns-in-Ok-clause-below : goal.returns-in-Ok-clause-below
returns-in-Ok-clause-below c = λ rise.
    let rest : List ℤ = drop c.args.from c.args.keys.now in
    ap (λ n. take n rest) (count c.args.from c.in-Ok.at) ∙ below_hit rest c.args.key c.in-Ok.at rise (found_within c) (found c)

pub returns-in-Ok-clause-above : goal.returns-in-Ok-clause-above
returns-in-Ok-clause-above c = λ rise.
    let rest : List ℤ = drop c.args.from c.args.keys.now in
    further c.args.keys.now c.args.from (c.in-Ok.at + 1) (c.args.from + c.in-Ok.at + 1) (omega arith) ∙ above_hit rest c.args.key c.in-Ok.at rise (found_within c) (found c)

pub returns-in-Err-clause-below : goal.returns-in-Err-clause-below
returns-in-Err-clause-below c = λ rise.
    let rest : List ℤ = drop c.args.from c.args.keys.now in
    let parts = split c rise in
    ap (λ n. take n rest) (count c.args.from c.in-Err.at) ∙ below_gap rest c.args.key c.in-Err.at (split_within c) parts.0 parts.1

pub returns-in-Err-clause-above : goal.returns-in-Err-clause-above
returns-in-Err-clause-above c = λ rise.
    let rest : List ℤ = drop c.args.from c.args.keys.now in
    let parts = split c rise in
    further c.args.keys.now c.args.from c.in-Err.at (c.args.from + c.in-Err.at) (omega arith) ∙ above_gap rest c.args.key c.in-Err.at (split_within c) parts.0 parts.1

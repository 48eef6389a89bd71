use Rattle.std.proofs.Common.{◌≡◌, ◌+◌, ◌∙◌, ℤ, to_z, of_z, w64, subst}
use Rattle.std.specs.declared.cmp.Ordering.TheVariants.{Less, Equal, Greater}
use Rattle.std.specs.Ordering.{int_cmp}
use Rattle.std.specs.List.{HoldsAt}
use Rattle.std.specs.List.Sorted.{IsPartitionPoint}
use Rattle.std.proofs.lemmas.Int.{to_z-of_z}
use Rattle.std.proofs.lemmas.List.{take_rest}
use Rattle.hp_store.proofs.Searching.{searchable, below_gap, above_gap, below_hit, above_hit}
use Rattle.hp_store.proofs.layer.around.Goals as goal

pub returns-in-Ok-clause-below : goal.returns-in-Ok-clause-below
returns-in-Ok-clause-below c =
    below_hit c.args.keys.now c.args.key c.in-Ok.at c.requires c.in-Ok.ensures.bound
    (subst (λ (k : ℤ). HoldsAt (λ x. int_cmp x k ≡ Equal) c.args.keys.now c.in-Ok.at) (to_z-of_z w64 c.args.key c.ranges.key) c.in-Ok.ensures.ok)

pub returns-in-Ok-clause-above : goal.returns-in-Ok-clause-above
returns-in-Ok-clause-above c =
    take_rest c.args.keys.now (c.in-Ok.at + 1)
    ∙ above_hit c.args.keys.now c.args.key c.in-Ok.at c.requires c.in-Ok.ensures.bound
    (subst (λ (k : ℤ). HoldsAt (λ x. int_cmp x k ≡ Equal) c.args.keys.now c.in-Ok.at) (to_z-of_z w64 c.args.key c.ranges.key) c.in-Ok.ensures.ok)

pub returns-in-Err-clause-below : goal.returns-in-Err-clause-below
returns-in-Err-clause-below c =
    let split = subst (λ (k : ℤ). IsPartitionPoint (λ x. int_cmp x k ≡ Less) (λ x. int_cmp x k ≡ Greater) c.args.keys.now c.in-Err.at) (to_z-of_z w64 c.args.key c.ranges.key)
    (c.in-Err.ensures.position (searchable c.args.keys.now (to_z w64 (of_z w64 c.args.key)) c.requires)) in
    below_gap c.args.keys.now c.args.key c.in-Err.at c.in-Err.ensures.bound split.0 split.1

pub returns-in-Err-clause-above : goal.returns-in-Err-clause-above
returns-in-Err-clause-above c =
    let split = subst (λ (k : ℤ). IsPartitionPoint (λ x. int_cmp x k ≡ Less) (λ x. int_cmp x k ≡ Greater) c.args.keys.now c.in-Err.at) (to_z-of_z w64 c.args.key c.ranges.key)
    (c.in-Err.ensures.position (searchable c.args.keys.now (to_z w64 (of_z w64 c.args.key)) c.requires)) in
    take_rest c.args.keys.now c.in-Err.at ∙ above_gap c.args.keys.now c.args.key c.in-Err.at c.in-Err.ensures.bound split.0 split.1

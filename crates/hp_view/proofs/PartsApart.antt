-- Parts of a class told apart.
use Rattle.std.proofs.Common.{◌≡◌, refl, ap, Bool, true, false, ◌||◌, Option, Some, None}
use Rattle.std.specs.Bool.{Decides}
use lib.Pointwise.{bytes_decides}
use Rattle.hp_model.specs.Values.{Value}
use Rattle.hp_model.specs.ClassParts.{Attribute, key_attribute, field_attribute, ClassPart}
use Rattle.hp_value.specs.Same.{value_decides, both_decide}
use Rattle.hp_view.specs.Parts.{same_attribute, same_bound, same_part}

attribute_decides : (a b : Attribute) → Decides (same_attribute a b) (a ≡ b)
attribute_decides key_attribute key_attribute = (λ e. refl, λ e. refl)
attribute_decides (field_attribute f) (field_attribute g) = (λ e. ap field_attribute ((bytes_decides f g).0 e), λ e. (bytes_decides f g).1 (cc))
attribute_decides a b = (λ e. cc, λ e. cc)

bound_decides : (v w : Option Value) → Decides (same_bound v w) (v ≡ w)
bound_decides None None = (λ e. refl, λ e. refl)
bound_decides (Some v) (Some w) = (λ e. ap Some ((value_decides v w).0 e), λ e. (value_decides v w).1 (cc))
bound_decides v w = (λ e. cc, λ e. cc)

pub part_decides : (p q : ClassPart) → Decides (same_part p q) (p ≡ q)
part_decides p q =
    both_decide _ _ (attribute_decides p.attribute q.attribute)
    (both_decide _ _ (bound_decides p.low q.low) (bound_decides p.high q.high) (λ e f. (e, f)) (λ both. both))
    (λ e f. λ i. record { attribute = e i; low = f.0 i; high = f.1 i }) (λ e. (ap (λ r. r.attribute) e, (ap (λ r. r.low) e, ap (λ r. r.high) e)))

pub same_part_itself : (p : ClassPart) → same_part p p ≡ true
same_part_itself p = (part_decides p p).1 refl

pub either_true : (a : Bool) {b : Bool} → b ≡ true → (a || b) ≡ true
either_true true e = refl
either_true false e = e

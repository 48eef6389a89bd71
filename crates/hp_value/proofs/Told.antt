-- What derived comparisons tell: they are true exactly where what the two stand for is equal.
use Rattle.std.proofs.Common.{◌≡◌, refl, ap, List, [], ◌∷◌, Bool, map, string_bytes}
use lib.Pointwise.{pointwise, bytes_decides}
use Rattle.std.specs.Bool.{Decides}
use Rattle.hp_model.specs.Values as V
use Rattle.hp_value.specs.declared.value.Kind.{Kind}
use Rattle.hp_value.specs.declared.value.Kind.TheVariants.{Int, Bool as Truth, Text}
use Rattle.hp_value.specs.declared.row.Field.{Field}
use Rattle.hp_value.specs.declared.row.ClassDef.{ClassDef}
use Rattle.hp_value.specs.contracts.value.KindPartialEq.TheImpl as kinds
use Rattle.hp_value.specs.contracts.row.FieldPartialEq.TheImpl as fields
use Rattle.hp_value.specs.contracts.row.ClassDefPartialEq.TheImpl as classes
use Rattle.hp_value.specs.Mapped.{kind, field, class_def}
use Rattle.hp_value.specs.Same.{both_decide}

-- lists are the same place by place exactly where what they stand for is equal
pub lists_told : {A B : Type 0} (f : A → B) (E : A → A → Bool) → ((x y : A) → Decides (E x y) (f x ≡ f y)) → (xs ys : List A)
    → Decides (pointwise E xs ys) (map f xs ≡ map f ys)
lists_told f E told [] [] = (λ e. refl, λ e. refl)
lists_told f E told [] (y ∷ ys) = (λ e. cc, λ e. cc)
lists_told f E told (x ∷ xs) [] = (λ e. cc, λ e. cc)
lists_told f E told (x ∷ xs) (y ∷ ys) = both_decide _ _ (told x y) (lists_told f E told xs ys) (λ e h i. e i ∷ h i) (λ e. (cc, cc))

kinds_told : (k l : Kind) → Decides (kinds.ghosts.eq k l) (kind k ≡ kind l)
kinds_told Int Int = (λ e. refl, λ e. refl)
kinds_told Truth Truth = (λ e. refl, λ e. refl)
kinds_told Text Text = (λ e. refl, λ e. refl)
kinds_told k l = (λ e. cc, λ e. cc)

fields_told : (f g : Field) → Decides (fields.ghosts.eq f g) (field f ≡ field g)
fields_told f g =
    let make : V.Name → V.Kind → V.Field = λ n k. record { name = n; kind = k } in
    both_decide _ _ (bytes_decides (string_bytes f.name) (string_bytes g.name)) (kinds_told f.kind g.kind)
    (λ d e i. make (d i) (e i)) (λ e. (ap (λ x. x.name) e, ap (λ x. x.kind) e))

pub classes_told : (c d : ClassDef) → Decides (classes.ghosts.eq c d) (class_def c ≡ class_def d)
classes_told c d =
    let make : V.Name → List V.Field → V.ClassDef = λ n fs. record { name = n; fields = fs } in
    both_decide _ _ (bytes_decides (string_bytes c.name) (string_bytes d.name))
    (lists_told field fields.ghosts.eq fields_told c.fields.value.items d.fields.value.items)
    (λ e h i. make (e i) (h i)) (λ e. (ap (λ x. x.name) e, ap (λ x. x.fields) e))

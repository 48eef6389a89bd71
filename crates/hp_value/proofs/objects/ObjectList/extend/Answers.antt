use Rattle.std.proofs.Common.{◌≡◌, ◌-◌, ◌∙◌, ◌++◌, ◌∷◌, [], List, map, take, drop, refl, sym, ap, subst, arith}
use Rattle.hp_value.specs.declared.row.KeyedRow.{KeyedRow}
use Rattle.hp_value.specs.Mapped.{keyed_row}
use Rattle.hp_value.specs.Rows.{names_of, first_names, AreNamed}
use Rattle.hp_value.proofs.Rows.{named_alike, named_push, named_at, extended, extended_all, part_named}
use Rattle.hp_value.proofs.objects.ObjectList.extend.Goals as goal

pub loop-object-init : goal.loop-object-init
loop-object-init c = record {
  so_far = refl;
  part = λ alike.
      part_named (first_names c.args.other.now) c.args.other.now c.deref.result.now (take (c.args.end - c.args.start) (drop c.args.start c.deref.result.now)) c.args.start (c.args.end - c.args.start)
      (ap (map keyed_row) c.deref.ensures.value ∙ c.other.view_is) refl (c.is_like-are_alike.ensures alike).0;
  alike = λ alike. (c.is_like-are_alike.ensures alike).1;
}

pub add-requires : goal.add-requires
add-requires c = λ alike.
    let ns = first_names c.args.other.now in
    named_alike ns (c.loop-object.self ++ keyed_row c.in_ok-clone.field-0 ∷ [])
    (named_push ns c.loop-object.self (keyed_row c.in_ok-clone.field-0) (c.loop-object.invariant.alike alike)
    (ap (λ k. names_of k.row) c.in_ok-clone.ensures.cases ∙ named_at ns _ c.loop-object.object-index c.object-item.result c.loop-object-test.true
    c.object-item.is (c.loop-object.invariant.part alike)))

pub loop-object-preserved : goal.loop-object-preserved
loop-object-preserved c =
    let ns = first_names c.args.other.now in
    let items : List KeyedRow = take (c.args.end - c.args.start) (drop c.args.start c.deref.result.now) in
    let pushed : c.add.new.self ≡ c.loop-object.self ++ keyed_row c.object-item.result ∷ [] = c.in_ok-add.ensures.ok ∙ ap (λ k. c.loop-object.self ++ k ∷ []) c.in_ok-clone.ensures.cases in
    record {
      so_far = extended c.args.self.now c.loop-object.self c.add.new.self items c.loop-object.object-index c.object-item.result c.loop-object-test.true
          c.object-item.is c.loop-object.invariant.so_far pushed;
      part = c.loop-object.invariant.part;
      alike = λ alike.
          subst (AreNamed ns) (sym pushed)
          (named_push ns c.loop-object.self (keyed_row c.object-item.result) (c.loop-object.invariant.alike alike)
          (named_at ns items c.loop-object.object-index c.object-item.result c.loop-object-test.true c.object-item.is (c.loop-object.invariant.part alike)));
    }

pub returns : goal.returns
returns c =
    extended_all c.args.self.now c.loop-object.self c.args.other.now c.deref.result.now (take (c.args.end - c.args.start) (drop c.args.start c.deref.result.now))
    c.args.start (c.args.end - c.args.start)
    c.loop-object.object-index (ap (map keyed_row) c.deref.ensures.value ∙ c.other.view_is) refl (omega (arith, c.loop-object-test.false)) c.loop-object.invariant.so_far

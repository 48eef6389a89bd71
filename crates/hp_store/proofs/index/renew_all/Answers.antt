use Rattle.std.proofs.Common.{rules, arith, ◌≡◌, sym, ap, ◌∙◌, subst, ℕ, ℤ, ◌<◌, List, length}
use Rattle.std.specs.Prelude.{All, slice_index_or, slice_set}
use Rattle.std.proofs.lemmas.List.{set-get_or}
use Rattle.std.proofs.lemmas.List.Elements.{All-get_or}
use Rattle.hp_model.specs.Cells.{object_cell}
use Rattle.hp_value.specs.Mapped.{cell}
use Rattle.hp_store.specs.declared.index.Index.{Index}
use Rattle.hp_store.proofs.index.renew_all.Goals as goal

-- an index that is left as it was leaves all as they were
stays : (P : Index → Type 0) (first now : List Index) (i : ℕ) (was renewed : Index) → now ≡ first → i < length now → was ≡ slice_index_or now i was
    → (P was → renewed ≡ was) → All P first → slice_set now i renewed ≡ first
stays P first now i was renewed same within is keeps all =
    let here : P was = subst P (sym is) (All-get_or P now i was within (subst (All P) (sym same) all)) in
    ap (slice_set now i) (keeps here ∙ is) ∙ set-get_or now i was ∙ same

pub loop-i-preserved : goal.loop-i-preserved
loop-i-preserved c =
    let within : c.loop-i.i < length c.loop-i.indexes.items = omega arith in
    record {
      elsewhere = λ all.
          stays (λ (i : Index). (key : ℤ) → cell c.args.cell ≡ object_cell i.class key → ⊥) c.args.indexes.now.items c.loop-i.indexes.items c.loop-i.i c.index_mut.result.now c.renew_at.new.self
          (c.loop-i.invariant.elsewhere all) within c.index_mut.ensures.value (λ other. (c.renew_at.ensures.elsewhere other).1) all;
      same = search rules;
      done = search rules;
      rest = search rules;
    }

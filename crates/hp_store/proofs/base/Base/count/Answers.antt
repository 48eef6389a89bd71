use Rattle.std.proofs.Common.{refl, sym, ◌∙◌, ℤ, []}
use Rattle.std.specs.Map.{keys_of}
use Rattle.std.proofs.lemmas.List.{length-map}
use Rattle.hp_store.specs.declared.value.CellValue.{CellValue}
use Rattle.hp_store.proofs.Based.{table_keys, no_keys_rise}
use Rattle.hp_store.proofs.base.Base.count.Goals as goal

pub returns-in-Some-clause-count : goal.returns-in-Some-clause-count
returns-in-Some-clause-count c =
    let es = c.in-Some.table.now.entries in
    record {
      keys = keys_of es;
      are = table_keys c.args.self.now c.args.class es (keys_of es) (sym c.in-Some.ensures) c.len.ensures.ordered refl;
      number = length-map es (λ (e : ℤ × CellValue). e.0) ∙ sym c.len.ensures.len;
    }

pub returns-in-None-clause-count : goal.returns-in-None-clause-count
returns-in-None-clause-count c = record {
  keys = [];
  are = table_keys c.args.self.now c.args.class [] [] c.in-None.ensures no_keys_rise refl;
  number = refl;
}

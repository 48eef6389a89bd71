use Rattle.std.proofs.Common.{◌≡◌, ◌∙◌, ap, map, filter}
use Rattle.std.specs.declared.ops.Bound.TheVariants.{Included}
use Rattle.std.specs.BTreeMap.Range.{entries_between}
use Rattle.hp_value.specs.declared.row.Row.{Row}
use Rattle.hp_query.specs.declared.plain.ObjectName.{ObjectName}
use Rattle.hp_query.proofs.PlainLemmas.{name_cmp, in_class, keys_between}
use Rattle.hp_query.proofs.plain.class_entries.Goals as goal

pub returns : goal.returns
returns c =
    let entries = c.args.rows.now.entries in
    let is : c.range.result ≡ filter (λ (e : ObjectName × Row). in_class c.args.class e.0) entries =
    c.range.ensures.between c.new.ensures.exhausted
    ∙ (λ i. entries_between name_cmp (Included (c.new.ensures.start i)) (Included (c.new.ensures.end i)) entries) in
    ap (map (λ (e : ObjectName × Row). e.0.key)) is ∙ keys_between entries c.args.class c.requires

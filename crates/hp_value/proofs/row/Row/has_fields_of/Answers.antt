use Rattle.std.proofs.Common.{◌≡◌, sym, ap, ◌∙◌, string_bytes, Vec, Global, arith, length}
use lib.Pointwise.{bytes_decides}
use Rattle.std.specs.Cmp.{unsigned_Decides}
use Rattle.hp_model.specs.Values.{Name}
use Rattle.std.specs.Prelude.{List}
use Rattle.hp_value.specs.declared.row.Field.{Field}
use Rattle.hp_value.specs.declared.row.RowLists.{RowLists}
use Rattle.hp_value.specs.Rows.{row_of, names_of}
use Rattle.hp_value.proofs.Lists.{same_parts, first_of}
use Rattle.hp_value.proofs.Rows.{field_name, names_by_fields}
use Rattle.hp_value.proofs.row.Row.has_fields_of.Goals as goal

abbrev names_in : RowLists → List Name
names_in l = names_of (row_of l.fields.value.items l.values.items)

pub returns-then-eq : goal.returns-then-eq
returns-then-eq c = λ h.
    let lists = c.deref.result.now in
    let others = c.deref-2.result.now in
    let as_long = (unsigned_Decides c.len.result c.len-then-eq.result).0 h in
    let long : length lists.values.items ≡ length others.values.items = omega (arith, as_long, c.len.ensures, c.len-then-eq.ensures) in
    let named = same_parts _ field_name (λ (f g : Field) e. (bytes_decides (string_bytes f.name) (string_bytes g.name)).0 (first_of _ _ e)) _ _ (sym c.eq.ensures ∙ c.if-eq.true) in
    let fields = ap (λ (l : Vec Field Global). names_of (row_of l.items lists.values.items)) c.deref-3.ensures in
    let other_fields = ap (λ (l : Vec Field Global). names_of (row_of l.items others.values.items)) c.deref-4.ensures in
    let same = names_by_fields _ _ lists.values.items others.values.items named long in
    sym (ap names_of c.self.view_is) ∙ (sym (ap names_in c.deref.ensures) ∙ (sym fields ∙ (same ∙ (other_fields ∙ (ap names_in c.deref-2.ensures ∙ ap names_of c.other.view_is)))))

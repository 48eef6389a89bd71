-- The lines of the objects in a store are those of each state that has its cells.
use Rattle.std.proofs.Common.{◌≡◌, refl, sym, ap, ◌∙◌, subst, ℕ, ℤ, List, [], ◌∷◌, ◌++◌, append-nil, map, flat_map, Option, Some, None, is_some, option_map, ◌+◌, ◌≤◌, String, string_bytes, arith}
use Rattle.std.specs.declared.alloc.Global.{Global}
use Rattle.std.specs.List.{All}
use Rattle.std.proofs.lemmas.List.Elements.{All-head, All-tail}
use Rattle.hp_model.specs.Values.{ClassDef, Row, KeyedRow}
use Rattle.hp_model.specs.Rules.{Library}
use Rattle.hp_model.specs.State.{State, IsOrdered, find_object, rows_of}
use Rattle.hp_model.specs.Cells.{Cells, cells, CellValue, row_value, object_cell, AreKeys}
use Rattle.hp_model.specs.Report.{Bytes, objects_text}
use Rattle.hp_model.proofs.BridgesKeys.{keys_are_class_keys, rows_found}
use Rattle.hp_report.specs.Text.{Gains, object_line, class_text, line_of_row}
use Rattle.hp_report.specs.Stored.{stored_line, stored_lines, IsObjectText, GainsOf}
use Rattle.hp_report.proofs.ByClass.{before_class, none_before_first, class_put, all_below}

-- ---- one object

row_line : (library : Library) (class : ℕ) (key : ℤ) (row : Option Row) → stored_line library class key (option_map row_value row) ≡ line_of_row library class key row
row_line library class key None = refl
row_line library class key (Some row) = refl

pub object_stored : (library : Library) (base : Cells) (class : ℕ) (key : ℤ) (text : Bytes)
    → text ≡ stored_line library class key (base (object_cell class key)) → IsObjectText library base class key text
object_stored library base class key text is = record {
  from = λ S same.
      is ∙ ap (λ (b : Cells). stored_line library class key (b (object_cell class key))) (sym same)
      ∙ row_line library class key (find_object S.objects class key);
}

-- ---- the objects of a class

each_line : (library : Library) (S : State) (class : ℕ) (rows : List KeyedRow)
    → All (λ (r : KeyedRow). find_object S.objects class r.key ≡ Some r.row) rows
    → stored_lines library (cells library S) class (map (λ (r : KeyedRow). r.key) rows) ≡ flat_map (object_line library class) rows
each_line library S class [] found = refl
each_line library S class (r ∷ rs) found =
    let finds : KeyedRow → Type 0 = λ r. find_object S.objects class r.key ≡ Some r.row in
    let rest = stored_lines library (cells library S) class (map (λ (r : KeyedRow). r.key) rs) in
    ap (λ (row : Option Row). stored_line library class r.key (option_map row_value row) ++ rest) (All-head finds r rs found)
    ∙ ap (λ (b : Bytes). object_line library class r ++ b) (each_line library S class rs (All-tail finds r rs found))

has_row : (row : Option Row) → is_some (option_map row_value row) ≡ is_some row
has_row None = refl
has_row (Some row) = refl

class_lines : (library : Library) (S : State) (class : ℕ) (keys : List ℤ) → IsOrdered library S → AreKeys (cells library S) class keys
    → stored_lines library (cells library S) class keys ≡ class_text library class S.objects
class_lines library S class keys ordered are =
    ap (stored_lines library (cells library S) class)
    (keys_are_class_keys class S.objects keys ordered.objects_rise are.rise (λ key. are.has key ∙ has_row (find_object S.objects class key)))
    ∙ each_line library S class (rows_of class S.objects) (rows_found class S.objects ordered.objects_rise)

pub class_gained : (library : Library) (base : Cells) (class : ℕ) (keys : List ℤ) (old new : String Global)
    → AreKeys base class keys → Gains old new (stored_lines library base class keys) → GainsOf library base (λ S. class_text library class S.objects) old new
class_gained library base class keys old new are is = record {
  from = λ S ordered same.
      is ∙ ap (λ (b : Bytes). string_bytes old ++ b)
      (subst (λ (b : Cells). AreKeys b class keys → stored_lines library b class keys ≡ class_text library class S.objects) same
      (class_lines library S class keys ordered) are);
}

-- ---- the objects of all classes

-- none are added yet
pub none_yet : (library : Library) (base : Cells) (out : String Global) → GainsOf library base (λ S. objects_text library (before_class 0 S.objects)) out out
none_yet library base out = record {
  from = λ S ordered same.
      sym (append-nil (string_bytes out)) ∙ ap (λ os. string_bytes out ++ objects_text library os) (sym (none_before_first S.objects));
}

-- those of one class more, after those of the classes before it
pub class_more : (library : Library) (base : Cells) (class index : ℕ) (old before now : String Global) → class ≡ index
    → GainsOf library base (λ S. objects_text library (before_class index S.objects)) old before → GainsOf library base (λ S. class_text library class S.objects) before now
    → GainsOf library base (λ S. objects_text library (before_class (index + 1) S.objects)) old now
class_more library base class index old before now is so_far next = record {
  from = λ S ordered same.
      class_put library index S.objects (string_bytes old) (string_bytes before) (string_bytes now) ordered.objects_rise (so_far.from S ordered same)
      (next.from S ordered same ∙ ap (λ c. string_bytes before ++ class_text library c S.objects) is);
}

-- those of the classes up to a bound are all
pub classes_whole : (library : Library) (base : Cells) (bound index : ℕ) (old now : String Global)
    → ((class : ℕ) (key : ℤ) → bound ≤ class → base (object_cell class key) ≡ None) → bound ≤ index
    → GainsOf library base (λ S. objects_text library (before_class index S.objects)) old now → GainsOf library base (λ S. objects_text library S.objects) old now
classes_whole library base bound index old now none reached so_far = record {
  from = λ S ordered same.
      so_far.from S ordered same
      ∙ ap (λ os. string_bytes old ++ objects_text library os) (all_below library base S index ordered same (λ class key up. none class key (omega (arith, reached, up))));
}

-- ---- libraries with the same classes

pub same_lines : (names library : Library) (base : Cells) (class : ℕ) (keys : List ℤ) → names.classes ≡ library.classes
    → stored_lines names base class keys ≡ stored_lines library base class keys
same_lines names library base class keys p =
    let shown : List ClassDef → Library = λ cs. record { classes = cs; rules = names.rules; depth_limit = names.depth_limit } in
    ap (λ cs. stored_lines (shown cs) base class keys) p

pub same_line : (names library : Library) (class : ℕ) (key : ℤ) (value : Option CellValue) → names.classes ≡ library.classes
    → stored_line names class key value ≡ stored_line library class key value
same_line names library class key value p =
    let shown : List ClassDef → Library = λ cs. record { classes = cs; rules = names.rules; depth_limit = names.depth_limit } in
    ap (λ cs. stored_line (shown cs) class key value) p

-- What a view shows to a query.
use Rattle.std.proofs.Common.{◌≡◌, refl, ap, sym, ◌∙◌, ℕ, ℤ, List, length, slice_index_or, Option, Some, None, is_some, Ok}
use Rattle.std.specs.Prelude.{option_map}
use Rattle.std.specs.List.{last_or}
use Rattle.hp_model.specs.Values.{Row, KeyedRow}
use Rattle.hp_model.specs.ClassParts.{ClassPart, picked}
use Rattle.hp_model.specs.State.{Objects, find_object, rows_of}
use Rattle.hp_model.specs.Cells.{row_value, over, AreKeys, AreObjects}
use Rattle.hp_model.proofs.BridgesKeys.{ObjectsRise, class_keys, has_keys, rising_keys, keys_are_class_keys, rows_found}
use Rattle.hp_value.specs.Mapped.{keys_of}
use Rattle.hp_view.specs.Seeing.{Seeing, written, ShowsKeys, ShowsGreatest, ShowsCount, ShowsObjects, ShowsPart}
use Rattle.hp_store.proofs.Counted.{one_count}
use Rattle.hp_view.proofs.Counting.{keys_count}
use Rattle.hp_view.proofs.Greatest.{one_greatest, keys_greatest}
use Rattle.hp_view.proofs.Wholes.{same_rows}
use Rattle.hp_view.specs.Looks.{Allows}
use Rattle.hp_query.proofs.PartLemmas.{part_picked}

some_row : (o : Option Row) → is_some (option_map row_value o) ≡ is_some o
some_row None = refl
some_row (Some row) = refl

-- the keys of a class that were read are those in each world
pub keys_shown : {v : Seeing} {class : ℕ} {keys : List ℤ} → ShowsKeys v class keys → (world : Objects) → ObjectsRise world → Allows v world → keys ≡ class_keys class world
keys_shown {v} {class} {keys} shows world rise allowed =
    let are : AreKeys (over allowed.base (written v)) class keys = shows.everywhere allowed.base allowed.held in
    keys_are_class_keys class world keys rise are.rise (λ key. are.has key ∙ ap is_some (allowed.objects class key) ∙ some_row (find_object world class key))

-- a class that was read as a whole is the one in each world
pub objects_shown : {v : Seeing} {class : ℕ} {objects : List KeyedRow} → ShowsObjects v class objects → (world : Objects) → ObjectsRise world → Allows v world → objects ≡ rows_of class world
objects_shown {v} {class} {objects} shows world rise allowed =
    let base = over allowed.base (written v) in
    let are : AreObjects base class objects = shows.everywhere allowed.base allowed.held in
    let keys : keys_of objects ≡ class_keys class world =
    keys_are_class_keys class world (keys_of objects) rise are.keys.rise (λ key. are.keys.has key ∙ ap is_some (allowed.objects class key) ∙ some_row (find_object world class key)) in
    same_rows base class objects (rows_of class world) keys are.rows
    (λ i d below. allowed.objects class (slice_index_or (rows_of class world) i d).key ∙ ap (option_map row_value) (rows_found class world rise i d below))

-- a part of a class that was read is picked from the objects in each world
pub part_shown : {v : Seeing} {class : ℕ} {p : ClassPart} {objects : List KeyedRow} → ShowsPart v class p objects → (world : Objects) → ObjectsRise world
    → Allows v world → picked p (rows_of class world) ≡ Ok objects
part_shown {v} {class} {p} {objects} shows world rise allowed =
    part_picked (over allowed.base (written v)) class p objects world rise (shows.everywhere allowed.base allowed.held) (allowed.objects class)

-- a greatest key that was read is the last of the class's keys in each world
pub greatest_shown : {v : Seeing} {class : ℕ} {greatest : Option ℤ} → ShowsGreatest v class greatest → (world : Objects) → ObjectsRise world → Allows v world
    → greatest ≡ last_or None (class_keys class world)
greatest_shown {v} {class} {greatest} shows world rise allowed =
    one_greatest (shows.everywhere allowed.base allowed.held)
    (keys_greatest (over allowed.base (written v)) class (class_keys class world)
    (record { rise = rising_keys class world rise; has = λ key. has_keys class key world ∙ sym (ap is_some (allowed.objects class key) ∙ some_row (find_object world class key)) }))

-- a number of objects that was read is that of the class's keys in each world
pub count_shown : {v : Seeing} {class count : ℕ} → ShowsCount v class count → (world : Objects) → ObjectsRise world → Allows v world → count ≡ length (class_keys class world)
count_shown {v} {class} {count} shows world rise allowed =
    one_count (shows.everywhere allowed.base allowed.held)
    (keys_count
    (record { rise = rising_keys class world rise; has = λ key. has_keys class key world ∙ sym (ap is_some (allowed.objects class key) ∙ some_row (find_object world class key)) }))

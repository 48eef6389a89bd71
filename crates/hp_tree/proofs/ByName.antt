-- Look-ups and changes in the order of the program's names are those by the model's names.
use Rattle.std.proofs.Common.{◌≡◌, refl, ap, ◌∙◌, List, [], ◌∷◌, Some}
use Rattle.std.specs.Prelude.{cond, Bool, true, false}
use Rattle.std.specs.Ordering.{nat_cmp, int_cmp, ordering_then, match_ordering}
use Rattle.std.specs.declared.cmp.Ordering.{Ordering}
use Rattle.std.specs.declared.cmp.Ordering.TheVariants.{Less, Equal, Greater}
use Rattle.std.specs.Map.{lookup, remove_entry}
use Rattle.std.specs.BTreeMap.{insert_entry, is_at}
use Rattle.hp_model.specs.Values.{Row}
use Rattle.hp_model.specs.State.{find_object, write_object, remove_object}
use Rattle.hp_tree.specs.declared.objects.ObjectName.{ObjectName}
use Rattle.hp_tree.specs.Names.{object_name, objects_of}

-- the order of names that the map keeps
abbrev pub names_cmp : ObjectName → ObjectName → Ordering
names_cmp a b = ordering_then (nat_cmp a.class b.class) (int_cmp a.key b.key)

pub find_is : (rows : List (ObjectName × Row)) (n : ObjectName) → lookup (is_at (names_cmp n)) rows ≡ find_object (objects_of rows) n.class n.key
find_is [] n = refl
find_is (e ∷ rows) n = ap (cond (is_at (names_cmp n) e.0) (Some e.1)) (find_is rows n)

insert_at : (o : Ordering) (n : ObjectName) (r : Row) (e : ObjectName × Row) (rows more : List (ObjectName × Row))
    → objects_of (match_ordering o ((n, r) ∷ e ∷ rows) ((e.0, r) ∷ rows) (e ∷ more))
    ≡ match_ordering o ((object_name n, r) ∷ (object_name e.0, e.1) ∷ objects_of rows) ((object_name e.0, r) ∷ objects_of rows) ((object_name e.0, e.1) ∷ objects_of more)
insert_at Less n r e rows more = refl
insert_at Equal n r e rows more = refl
insert_at Greater n r e rows more = refl

pub insert_is : (rows : List (ObjectName × Row)) (n : ObjectName) (r : Row) → objects_of (insert_entry names_cmp rows n r) ≡ write_object (objects_of rows) n.class n.key r
insert_is [] n r = refl
insert_is (e ∷ rows) n r =
    insert_at (names_cmp n e.0) n r e rows (insert_entry names_cmp rows n r)
    ∙ ap (λ more. match_ordering (names_cmp n e.0) ((object_name n, r) ∷ (object_name e.0, e.1) ∷ objects_of rows) ((object_name e.0, r) ∷ objects_of rows) ((object_name e.0, e.1) ∷ more))
    (insert_is rows n r)

remove_at : (here : Bool) (e : ObjectName × Row) (rows more : List (ObjectName × Row))
    → objects_of (cond here rows (e ∷ more)) ≡ cond here (objects_of rows) ((object_name e.0, e.1) ∷ objects_of more)
remove_at true e rows more = refl
remove_at false e rows more = refl

pub remove_is : (rows : List (ObjectName × Row)) (n : ObjectName) → objects_of (remove_entry (is_at (names_cmp n)) rows) ≡ remove_object (objects_of rows) n.class n.key
remove_is [] n = refl
remove_is (e ∷ rows) n =
    remove_at (is_at (names_cmp n) e.0) e rows (remove_entry (is_at (names_cmp n)) rows)
    ∙ ap (λ more. cond (is_at (names_cmp n) e.0) (objects_of rows) ((object_name e.0, e.1) ∷ more)) (remove_is rows n)

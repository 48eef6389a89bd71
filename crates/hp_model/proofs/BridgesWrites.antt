-- The effect of a write on a state's cells.
use Rattle.std.proofs.Common.{◌≡◌, refl, ap, sym, ◌∙◌, subst, ℕ, ℤ, ◌<◌, Bool, true, false, ◌≢◌, List, [], ◌∷◌, map, length, Option, Some, None}
use Rattle.std.specs.Prelude.{◌==◌, option_map, if◌then◌else◌}
use Rattle.std.specs.declared.cmp.Ordering.{Ordering}
use Rattle.std.specs.declared.cmp.Ordering.TheVariants.{Less, Equal, Greater}
use Rattle.std.specs.Ordering.{match_ordering}
use Rattle.std.specs.BTreeMap.{insert_entry, is_at}
use Rattle.std.specs.FinMap.Entries.{by_order, put, find, find-put}
use Rattle.std.proofs.lemmas.Bool.{eqb-false}
use Rattle.std.proofs.lemmas.Bool.Decides.{Decides-eqb}
use Rattle.std.proofs.lemmas.Cmp.{eq_by_cmp_equiv}
use Rattle.std.proofs.lemmas.Grind.{get_or-set_at}
use Rattle.std.proofs.lemmas.List.{set-get_or, get_or-set_other}
use Rattle.std.proofs.lemmas.Map.{lookup-remove_entry}
use Rattle.std.proofs.lemmas.Map.Keys.{IsDistinct-from_sorted}
use Rattle.hp_model.specs.Values.{Row}
use Rattle.hp_model.specs.Events.{is_pure}
use Rattle.hp_model.specs.Rules.{Library, rule_at}
use Rattle.hp_model.specs.State.{ObjectName, compare_names, object_name, Objects, find_object, write_object, remove_object, State, absent, RuleState, rule_state, with_status}
use Rattle.hp_model.specs.State.{with_objects, with_rule, IsOrdered}
use Rattle.hp_model.specs.Cells.{Cell, object_cell, rule_cell, detector_cell, CellValue, row_value, Cells, cells, status_in, knowledge_in, Changes, no_changes, changed, over, same_cell, with_change}
use Rattle.hp_model.proofs.Ordered.{names_total}
use Rattle.hp_model.proofs.BridgesCells.{name_at, same_turn, stacked, over-over, over-with_change, stacked-with_change}
use Rattle.hp_model.proofs.BridgesKeys.{ObjectsRise}
use Rattle.hp_model.proofs.BridgesReads.{knowledge_in-pure, detector-cells-pure}

-- a state with one cell changed
pub record ChangesCell (library : Library) (S T : State) (cell : Cell) (x : Option CellValue) : Type 0 where
  pub at : (q : Cell) → cells library T q ≡ changed (cells library S q) (if same_cell cell q then Some x else None)

-- the same change of a layer
pub cells_changed : (library : Library) (S T : State) (cell : Cell) (x : Option CellValue) (base : Cells) (before after : Changes)
    → ChangesCell library S T cell x → after ≡ with_change before cell (Some x) → cells library S ≡ over base before → cells library T ≡ over base after
cells_changed library S T cell x base before after changes is from =
    (λ i q. (changes.at q ∙ ap (λ (c : Cells). changed (c q) (if same_cell cell q then Some x else None)) from ∙ over-with_change base before cell x q) i)
    ∙ ap (over base) (sym is)

-- many changes
pub cells_over : (library : Library) (S T : State) (layer : Changes) (base : Cells) (before after : Changes)
    → cells library T ≡ over (cells library S) layer → after ≡ stacked before layer → cells library S ≡ over base before → cells library T ≡ over base after
cells_over library S T layer base before after changes is from =
    changes ∙ ap (λ c. over c layer) from ∙ over-over base before layer ∙ ap (over base) (sym is)

-- ---- objects

module _ {K X : Type 0} (cmp : K → K → Ordering) where
  same_order : (r : Ordering) (a b c : List (K × X)) → match_ordering r a b c ≡ by_order r a b c
  same_order Less a b c = refl
  same_order Equal a b c = refl
  same_order Greater a b c = refl

  insert_entry-put : (k : K) (v : X) (es : List (K × X)) → insert_entry cmp es k v ≡ put cmp k v es
  insert_entry-put k v [] = refl
  insert_entry-put k v (e ∷ es) =
      same_order (cmp k e.0) ((k, v) ∷ e ∷ es) ((e.0, v) ∷ es) (e ∷ insert_entry cmp es k v)
      ∙ ap (λ l. by_order (cmp k e.0) ((k, v) ∷ e ∷ es) ((e.0, v) ∷ es) (e ∷ l)) (insert_entry-put k v es)

-- the object that is found after a write, and after a removal
pub find_object-write : (objects : Objects) (class : ℕ) (key : ℤ) (row : Row) (d : ℕ) (l : ℤ)
    → find_object (write_object objects class key row) d l ≡ (if same_cell (object_cell class key) (object_cell d l) then Some row else find_object objects d l)
find_object-write objects class key row d l =
    ap (find compare_names (object_name d l)) (insert_entry-put compare_names (object_name class key) row objects)
    ∙ find-put compare_names names_total (object_name d l) (object_name class key) row objects
    ∙ ap (λ b. if b then Some row else find_object objects d l) (name_at d l (object_name class key) ∙ same_turn (object_cell d l) (object_cell class key))

pub find_object-remove : (objects : Objects) (class : ℕ) (key : ℤ) (d : ℕ) (l : ℤ) → ObjectsRise objects
    → find_object (remove_object objects class key) d l ≡ (if same_cell (object_cell class key) (object_cell d l) then None else find_object objects d l)
find_object-remove objects class key d l rise =
    lookup-remove_entry (eq_by_cmp_equiv names_total) (is_at (compare_names (object_name class key))) ((eq_by_cmp_equiv names_total).congr (object_name class key)) (object_name d l) objects
    (IsDistinct-from_sorted compare_names (map (λ (o : ObjectName × Row). o.0) objects) rise)
    ∙ ap (λ b. if b then None else find_object objects d l) (name_at class key (object_name d l))

row_choice : (b : Bool) (o new : Option Row) → option_map row_value (if b then new else o) ≡ changed (option_map row_value o) (if b then Some (option_map row_value new) else None)
row_choice true o new = refl
row_choice false o new = refl

-- an object written, and one removed
pub write_changes : (library : Library) (S : State) (class : ℕ) (key : ℤ) (row : Row)
    → ChangesCell library S (with_objects S (write_object S.objects class key row)) (object_cell class key) (Some (row_value row))
write_changes library S class key row = record { at = at }
  where
    at : (q : Cell) → cells library (with_objects S (write_object S.objects class key row)) q ≡ changed (cells library S q)
        (if same_cell (object_cell class key) q then Some (Some (row_value row)) else None)
    at (object_cell d l) =
        ap (option_map row_value) (find_object-write S.objects class key row d l)
        ∙ row_choice (same_cell (object_cell class key) (object_cell d l)) (find_object S.objects d l) (Some row)
    at (rule_cell n) = refl
    at (detector_cell n) = refl

pub remove_changes : (library : Library) (S : State) (class : ℕ) (key : ℤ) → IsOrdered library S
    → ChangesCell library S (with_objects S (remove_object S.objects class key)) (object_cell class key) None
remove_changes library S class key ordered = record { at = at }
  where
    at : (q : Cell) → cells library (with_objects S (remove_object S.objects class key)) q ≡ changed (cells library S q) (if same_cell (object_cell class key) q then Some None else None)
    at (object_cell d l) =
        ap (option_map row_value) (find_object-remove S.objects class key d l ordered.objects_rise)
        ∙ row_choice (same_cell (object_cell class key) (object_cell d l)) (find_object S.objects d l) None
    at (rule_cell n) = refl
    at (detector_cell n) = refl

-- ---- rules

-- the rule whose state is written, and every other
pub rule_state-here : (S : State) (n : ℕ) (r : RuleState) → n < length S.rules → rule_state (with_rule S n r) n ≡ r
rule_state-here S n r below = get_or-set_at S.rules n n r (with_status absent) refl below

pub rule_state-apart : (S : State) (n m : ℕ) (r : RuleState) → m ≢ n → rule_state (with_rule S n r) m ≡ rule_state S m
rule_state-apart S n m r apart = get_or-set_other S.rules n m r (with_status absent) apart

-- writing a rule's present state changes nothing
pub with_rule-same : (S : State) (n : ℕ) → with_rule S n (rule_state S n) ≡ S
with_rule-same S n i = record { objects = S.objects; rules = set-get_or S.rules n (with_status absent) i }

-- a rule's two cells, from the rule's state
abbrev pub rule_layer : Library → ℕ → RuleState → Changes
rule_layer library n r =
    with_change (with_change no_changes (rule_cell n) (Some (status_in r.status))) (detector_cell n) (Some (knowledge_in (rule_at library n) r.status r))

-- the cells after a rule's state is written
pub rule_cells : (library : Library) (S : State) (n : ℕ) (r : RuleState) → n < length S.rules → cells library (with_rule S n r) ≡ over (cells library S) (rule_layer library n r)
rule_cells library S n r below i q = at q i
  where
    in_rule : (m : ℕ) (b : Bool) → (n == m) ≡ b → status_in (rule_state (with_rule S n r) m).status ≡ changed (status_in (rule_state S m).status) (if b then Some (status_in r.status) else None)
    in_rule m true is = ap (λ (t : RuleState). status_in t.status) (subst (λ k. rule_state (with_rule S n r) k ≡ r) ((Decides-eqb n m).0 is) (rule_state-here S n r below))
    in_rule m false is = ap (λ (t : RuleState). status_in t.status) (rule_state-apart S n m r (λ e. eqb-false n m is (sym e)))

    in_detector : (m : ℕ) (b : Bool) → (n == m) ≡ b
        → knowledge_in (rule_at library m) (rule_state (with_rule S n r) m).status (rule_state (with_rule S n r) m)
        ≡ changed (knowledge_in (rule_at library m) (rule_state S m).status (rule_state S m)) (if b then Some (knowledge_in (rule_at library n) r.status r) else None)
    in_detector m true is =
        subst (λ k. knowledge_in (rule_at library k) (rule_state (with_rule S n r) k).status (rule_state (with_rule S n r) k) ≡ knowledge_in (rule_at library n) r.status r) ((Decides-eqb n m).0 is)
        (ap (λ (t : RuleState). knowledge_in (rule_at library n) t.status t) (rule_state-here S n r below))
    in_detector m false is = ap (λ (t : RuleState). knowledge_in (rule_at library m) t.status t) (rule_state-apart S n m r (λ e. eqb-false n m is (sym e)))

    at : (q : Cell) → cells library (with_rule S n r) q ≡ over (cells library S) (rule_layer library n r) q
    at (object_cell d l) = refl
    at (rule_cell m) = in_rule m (n == m) refl
    at (detector_cell m) = in_detector m (n == m) refl

-- the same two changes of a layer
pub rule_changed : (library : Library) (S : State) (n : ℕ) (r : RuleState) (base : Cells) (before after : Changes) → n < length S.rules
    → after ≡ with_change (with_change before (rule_cell n) (Some (status_in r.status))) (detector_cell n) (Some (knowledge_in (rule_at library n) r.status r))
    → cells library S ≡ over base before → cells library (with_rule S n r) ≡ over base after
rule_changed library S n r base before after below is from =
    cells_over library S (with_rule S n r) (rule_layer library n r) base before after (rule_cells library S n r below)
    (is ∙ sym (stacked-with_change before (with_change no_changes (rule_cell n) (Some (status_in r.status))) (detector_cell n) (knowledge_in (rule_at library n) r.status r)
    ∙ ap (λ layer. with_change layer (detector_cell n) (Some (knowledge_in (rule_at library n) r.status r))) (stacked-with_change before no_changes (rule_cell n) (status_in r.status))))
    from

-- where the rule's event doesn't look back, only the rule's cell changes
pub pure_rule_changes : (library : Library) (S : State) (n : ℕ) (r : RuleState) → n < length S.rules → is_pure (rule_at library n).event ≡ true
    → ChangesCell library S (with_rule S n r) (rule_cell n) (status_in r.status)
pure_rule_changes library S n r below pure = record { at = at }
  where
    in_detector : (m : ℕ) (b : Bool) → (n == m) ≡ b
        → changed (cells library S (detector_cell m)) (if b then Some (knowledge_in (rule_at library n) r.status r) else None) ≡ cells library S (detector_cell m)
    in_detector m true is =
        knowledge_in-pure (rule_at library n) r.status r pure
        ∙ sym (subst (λ k. cells library S (detector_cell k) ≡ None) ((Decides-eqb n m).0 is) (detector-cells-pure library S n pure))
    in_detector m false is = refl

    at : (q : Cell) → cells library (with_rule S n r) q ≡ changed (cells library S q) (if same_cell (rule_cell n) q then Some (status_in r.status) else None)
    at (object_cell d l) = refl
    at (rule_cell m) = λ i. rule_cells library S n r below i (rule_cell m)
    at (detector_cell m) = (λ i. rule_cells library S n r below i (detector_cell m)) ∙ in_detector m (n == m) refl

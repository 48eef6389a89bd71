-- Recorded reads, found by what was looked at.
use Rattle.std.proofs.Common.{◌≡◌, refl, sym, ap, ap₂, ◌∙◌, subst, ℕ, zero, suc, take, Bool, true, false, ◌&&◌, ◌||◌, ◌==◌, cond, List, [], ◌∷◌, ◌++◌, map, Option, Some, None, is_some}
use Rattle.std.specs.List.{list_any}
use Rattle.std.specs.Map.{lookup}
use Rattle.std.specs.Prelude.{IfSome}
use Rattle.std.specs.Option.{option_copied}
use Rattle.std.specs.Borrow.{Bor}
use Rattle.std.proofs.lemmas.Bool.Decides.{Decides-eqb}
use Rattle.std.specs.declared.sync.Arc.{Arc}
use Rattle.std.specs.declared.alloc.Global.{Global}
use Rattle.hp_model.specs.ClassParts.{ClassPart}
use Rattle.hp_model.specs.Cells.{Cells, Read, ReadHolds, ReadsHold, Holds, AreKeys, AreObjects}
use Rattle.hp_model.proofs.BridgesCells.{exact_cell}
use Rattle.hp_value.specs.declared.cell.Cell.{Cell}
use Rattle.hp_value.specs.declared.objects.ObjectList.{ObjectList}
use Rattle.hp_value.specs.declared.cell.Cell.TheVariants.{Object, Rule, Detector}
use Rattle.hp_value.specs.Mapped.{cell}
use Rattle.hp_view.specs.declared.reads.Seen.{Seen}
use Rattle.hp_view.specs.declared.reads.Seen.TheVariants.{Cell as OfCell, Keys as OfKeys, Greatest as OfGreatest, Count as OfCount, Part as OfPart}
use Rattle.hp_view.specs.declared.reads.Found.{Found}
use Rattle.hp_view.specs.declared.reads.Found.TheVariants.{Value, Keys, Greatest, Count, Objects, Part}
use Rattle.hp_view.specs.declared.reads.PartState.{PartState}
use Rattle.hp_view.specs.declared.reads.PartState.TheVariants.{WasRead, IsTaken}
use Rattle.hp_view.specs.contracts.reads.SeenPartialEq.TheImpl as seeing
use Rattle.hp_view.specs.Mapped.{read, value_found, keys_found, part_found, found_whole, class_read}
use Rattle.hp_view.specs.Numbered.{IsNumbered, AreNumbered, is_read_of, IsStateOf}
use Rattle.hp_view.specs.Parts.{same_part, number_of}
use Rattle.hp_view.specs.Seeing.{class_was_read, part_was_read, number_was_read}
use Rattle.hp_view.proofs.PartsApart.{same_part_itself, part_decides, either_true}

-- where a look-up stops is where the read is one of what is looked up
told_apart : (s : Seen) (e : Seen × Found) → IsNumbered e → seeing.ghosts.eq s e.0 ≡ is_read_of s (read e)
told_apart (OfCell (Object c k)) (OfCell (Object d l), found) n = refl
told_apart (OfCell (Object c k)) (OfCell (Rule m), found) n = refl
told_apart (OfCell (Object c k)) (OfCell (Detector m), found) n = refl
told_apart (OfCell (Rule m)) (OfCell (Object d l), found) n = refl
told_apart (OfCell (Rule m)) (OfCell (Rule o), found) n = refl
told_apart (OfCell (Rule m)) (OfCell (Detector o), found) n = refl
told_apart (OfCell (Detector m)) (OfCell (Object d l), found) n = refl
told_apart (OfCell (Detector m)) (OfCell (Rule o), found) n = refl
told_apart (OfCell (Detector m)) (OfCell (Detector o), found) n = refl
told_apart (OfCell q) (OfKeys class, Value v) n = refl
told_apart (OfCell q) (OfKeys class, Keys keys) n = refl
told_apart (OfCell q) (OfKeys class, Greatest key) n = refl
told_apart (OfCell q) (OfKeys class, Count count) n = refl
told_apart (OfCell q) (OfKeys class, Objects objects) n = refl
told_apart (OfCell q) (OfKeys class, Part part) n = refl
told_apart (OfCell q) (OfGreatest class, found) n = refl
told_apart (OfCell q) (OfCount class, found) n = refl
told_apart (OfCell q) (OfPart class m, found) n = refl
told_apart (OfKeys class) (OfCell q, found) n = refl
told_apart (OfKeys class) (OfKeys m, Value v) n = refl
told_apart (OfKeys class) (OfKeys m, Keys keys) n = refl
told_apart (OfKeys class) (OfKeys m, Greatest key) n = refl
told_apart (OfKeys class) (OfKeys m, Count count) n = refl
told_apart (OfKeys class) (OfKeys m, Objects objects) n = refl
told_apart (OfKeys class) (OfKeys m, Part part) n = refl
told_apart (OfKeys class) (OfGreatest m, found) n = refl
told_apart (OfKeys class) (OfCount m, found) n = refl
told_apart (OfKeys class) (OfPart m o, found) n = refl
told_apart (OfGreatest class) (OfCell q, found) n = refl
told_apart (OfGreatest class) (OfKeys m, Value v) n = refl
told_apart (OfGreatest class) (OfKeys m, Keys keys) n = refl
told_apart (OfGreatest class) (OfKeys m, Greatest key) n = refl
told_apart (OfGreatest class) (OfKeys m, Count count) n = refl
told_apart (OfGreatest class) (OfKeys m, Objects objects) n = refl
told_apart (OfGreatest class) (OfKeys m, Part part) n = refl
told_apart (OfGreatest class) (OfGreatest m, found) n = refl
told_apart (OfGreatest class) (OfCount m, found) n = refl
told_apart (OfGreatest class) (OfPart m o, found) n = refl
told_apart (OfCount class) (OfCell q, found) n = refl
told_apart (OfCount class) (OfKeys m, Value v) n = refl
told_apart (OfCount class) (OfKeys m, Keys keys) n = refl
told_apart (OfCount class) (OfKeys m, Greatest key) n = refl
told_apart (OfCount class) (OfKeys m, Count count) n = refl
told_apart (OfCount class) (OfKeys m, Objects objects) n = refl
told_apart (OfCount class) (OfKeys m, Part part) n = refl
told_apart (OfCount class) (OfGreatest m, found) n = refl
told_apart (OfCount class) (OfCount m, found) n = refl
told_apart (OfCount class) (OfPart m o, found) n = refl
told_apart (OfPart class m) (OfCell q, found) n = refl
told_apart (OfPart class m) (OfKeys d, Value v) n = refl
told_apart (OfPart class m) (OfKeys d, Keys keys) n = refl
told_apart (OfPart class m) (OfKeys d, Greatest key) n = refl
told_apart (OfPart class m) (OfKeys d, Count count) n = refl
told_apart (OfPart class m) (OfKeys d, Objects objects) n = refl
told_apart (OfPart class m) (OfKeys d, Part part) n = refl
told_apart (OfPart class m) (OfGreatest d, found) n = refl
told_apart (OfPart class m) (OfCount d, found) n = refl
told_apart (OfPart class m) (OfPart d o, found) n = ap (λ k. class == d && m == k) n

some_or : (b : Bool) (found : Found) (rest : Option Found) → is_some (cond b (Some found) rest) ≡ (b || is_some rest)
some_or true found rest = refl
some_or false found rest = refl

-- something is recorded where it was read
pub recorded : (s : Seen) (es : List (Seen × Found)) → AreNumbered es → is_some (lookup (seeing.ghosts.eq s) es) ≡ list_any (is_read_of s) (map read es)
recorded s [] n = refl
recorded s (e ∷ es) n =
    some_or (seeing.ghosts.eq s e.0) e.1 (lookup (seeing.ghosts.eq s) es)
    ∙ (λ i. told_apart s e n.0 i || recorded s es n.1 i)

-- what is recorded for a class tells its keys
class_told : (base : Cells) (class : ℕ) (found : Found) → ReadHolds base (class_read class found) → AreKeys base class (keys_found found)
class_told base class (Value v) told = told
class_told base class (Keys keys) told = told
class_told base class (Greatest key) told = told
class_told base class (Count count) told = told
class_told base class (Objects objects) told = told.keys
class_told base class (Part part) told = told

-- the keys that are recorded for a class are told
pub told_keys : (class : ℕ) (found : Found) (base : Cells) (es : List (Seen × Found)) → lookup (seeing.ghosts.eq (OfKeys class)) es ≡ Some found
    → ReadsHold base (map read es) → AreKeys base class (keys_found found)
told_keys class found base [] h told = cc
told_keys class found base ((OfCell q, other) ∷ es) h told = told_keys class found base es h told.1
told_keys class found base ((OfGreatest n, other) ∷ es) h told = told_keys class found base es h told.1
told_keys class found base ((OfCount n, other) ∷ es) h told = told_keys class found base es h told.1
told_keys class found base ((OfPart n m, other) ∷ es) h told = told_keys class found base es h told.1
told_keys class found base ((OfKeys n, other) ∷ es) h told = by (class == n) refl h (λ g. told_keys class found base es g told.1)
  where
    by : (b : Bool) → (class == n) ≡ b → cond b (Some other) (lookup (seeing.ghosts.eq (OfKeys class)) es) ≡ Some found
        → (lookup (seeing.ghosts.eq (OfKeys class)) es ≡ Some found → AreKeys base class (keys_found found)) → AreKeys base class (keys_found found)
    by true e h rest =
        let same : other ≡ found = cc in
        subst (λ f. AreKeys base class (keys_found f)) same (subst (λ k. AreKeys base k (keys_found other)) (sym ((Decides-eqb class n).0 e)) (class_told base n other told.0))
    by false e h rest = rest h

-- all objects that are recorded for a class are told
pub told_objects : (class : ℕ) (objects : Arc ObjectList Global) (base : Cells) (es : List (Seen × Found)) → lookup (seeing.ghosts.eq (OfKeys class)) es ≡ Some (Objects objects)
    → ReadsHold base (map read es) → AreObjects base class objects.value
told_objects class objects base [] h told = cc
told_objects class objects base ((OfCell q, other) ∷ es) h told = told_objects class objects base es h told.1
told_objects class objects base ((OfGreatest n, other) ∷ es) h told = told_objects class objects base es h told.1
told_objects class objects base ((OfCount n, other) ∷ es) h told = told_objects class objects base es h told.1
told_objects class objects base ((OfPart n m, other) ∷ es) h told = told_objects class objects base es h told.1
told_objects class objects base ((OfKeys n, other) ∷ es) h told = by (class == n) refl h (λ g. told_objects class objects base es g told.1)
  where
    by : (b : Bool) → (class == n) ≡ b → cond b (Some other) (lookup (seeing.ghosts.eq (OfKeys class)) es) ≡ Some (Objects objects)
        → (lookup (seeing.ghosts.eq (OfKeys class)) es ≡ Some (Objects objects) → AreObjects base class objects.value) → AreObjects base class objects.value
    by true e h rest =
        let same : other ≡ Objects objects = cc in
        subst (λ k. AreObjects base k objects.value) (sym ((Decides-eqb class n).0 e)) (subst (λ f. ReadHolds base (class_read n f)) same told.0)
    by false e h rest = rest h

-- what is recorded for a cell is told
pub told_value : (q : Cell) (found : Found) (base : Cells) (es : List (Seen × Found)) → lookup (seeing.ghosts.eq (OfCell q)) es ≡ Some found
    → ReadsHold base (map read es) → value_found found ≡ base (cell q)
told_value q found base [] h told = cc
told_value q found base ((OfKeys n, other) ∷ es) h told = told_value q found base es h told.1
told_value q found base ((OfGreatest n, other) ∷ es) h told = told_value q found base es h told.1
told_value q found base ((OfCount n, other) ∷ es) h told = told_value q found base es h told.1
told_value q found base ((OfPart n m, other) ∷ es) h told = told_value q found base es h told.1
told_value q found base ((OfCell p, other) ∷ es) h told = by (seeing.ghosts.eq (OfCell q) (OfCell p)) refl h (λ g. told_value q found base es g told.1)
  where
    by : (b : Bool) → seeing.ghosts.eq (OfCell q) (OfCell p) ≡ b → cond b (Some other) (lookup (seeing.ghosts.eq (OfCell q)) es) ≡ Some found
        → (lookup (seeing.ghosts.eq (OfCell q)) es ≡ Some found → value_found found ≡ base (cell q)) → value_found found ≡ base (cell q)
    by true e h rest =
        let same : other ≡ found = cc in
        ap value_found (sym same) ∙ sym told.0 ∙ sym (ap base (exact_cell (cell q) (cell p) (sym (told_apart (OfCell q) (OfCell p, other) tt) ∙ e)))
    by false e h rest = rest h

pub value_told : (q : Cell) (r : Option (Bor Found)) (es : List (Seen × Found)) → option_copied r ≡ lookup (seeing.ghosts.eq (OfCell q)) es
    → IfSome r (λ found. (base : Cells) → Holds base (map read es) → value_found found.now ≡ base (cell q))
value_told q None es is = tt
value_told q (Some found) es is = λ base held. told_value q found.now base es (sym is) held.each

-- ---- classes that were read as a whole

-- what is recorded for a class has all of its objects
abbrev pub is_whole : Option Found → Bool
is_whole None = false
is_whole (Some found) = found_whole found

whole_or : (b : Bool) (found : Found) (rest : Option Found) → is_whole (cond b (Some found) rest) ≡ cond b (is_whole (Some found)) (is_whole rest)
whole_or true found rest = refl
whole_or false found rest = refl

-- all objects of a class are recorded where it was read as a whole
pub whole_recorded : (class : ℕ) (es : List (Seen × Found)) → is_whole (lookup (seeing.ghosts.eq (OfKeys class)) es) ≡ class_was_read (map read es) class
whole_recorded class [] = refl
whole_recorded class ((OfCell q, other) ∷ es) = whole_recorded class es
whole_recorded class ((OfGreatest n, other) ∷ es) = whole_recorded class es
whole_recorded class ((OfCount n, other) ∷ es) = whole_recorded class es
whole_recorded class ((OfPart n m, other) ∷ es) = whole_recorded class es
whole_recorded class ((OfKeys n, Value v) ∷ es) = whole_or (class == n) (Value v) (lookup (seeing.ghosts.eq (OfKeys class)) es) ∙ ap (cond (class == n) false) (whole_recorded class es)
whole_recorded class ((OfKeys n, Keys keys) ∷ es) = whole_or (class == n) (Keys keys) (lookup (seeing.ghosts.eq (OfKeys class)) es) ∙ ap (cond (class == n) false) (whole_recorded class es)
whole_recorded class ((OfKeys n, Greatest key) ∷ es) = whole_or (class == n) (Greatest key) (lookup (seeing.ghosts.eq (OfKeys class)) es) ∙ ap (cond (class == n) false) (whole_recorded class es)
whole_recorded class ((OfKeys n, Count count) ∷ es) = whole_or (class == n) (Count count) (lookup (seeing.ghosts.eq (OfKeys class)) es) ∙ ap (cond (class == n) false) (whole_recorded class es)
whole_recorded class ((OfKeys n, Objects objects) ∷ es) = whole_or (class == n) (Objects objects) (lookup (seeing.ghosts.eq (OfKeys class)) es) ∙ ap (cond (class == n) true) (whole_recorded class es)
whole_recorded class ((OfKeys n, Part part) ∷ es) = whole_or (class == n) (Part part) (lookup (seeing.ghosts.eq (OfKeys class)) es) ∙ ap (cond (class == n) false) (whole_recorded class es)

pub first_false : (a b : Bool) → (a || b) ≡ false → a ≡ false
first_false true b h = h
first_false false b h = refl

-- one entry more
pub numbered_more : (es : List (Seen × Found)) (e : Seen × Found) → AreNumbered es → IsNumbered e → AreNumbered (es ++ e ∷ [])
numbered_more [] e n fits = (fits, tt)
numbered_more (f ∷ fs) e n fits = (n.0, numbered_more fs e n.1 fits)

-- the first ones
pub numbered_first : (n : ℕ) (es : List (Seen × Found)) → AreNumbered es → AreNumbered (take n es)
numbered_first zero es all = tt
numbered_first (suc n) [] all = tt
numbered_first (suc n) (e ∷ es) all = (all.0, numbered_first n es all.1)

-- ---- parts

-- the part under its number is read
pub told_number : (class n : ℕ) (found : Found) (es : List (Seen × Found)) → lookup (seeing.ghosts.eq (OfPart class n)) es ≡ Some found → part_was_read (map read es) class (part_found found) ≡ true
told_number class n found [] h = cc
told_number class n found ((OfCell q, other) ∷ es) h = told_number class n found es h
told_number class n found ((OfKeys d, Value v) ∷ es) h = told_number class n found es h
told_number class n found ((OfKeys d, Keys keys) ∷ es) h = told_number class n found es h
told_number class n found ((OfKeys d, Greatest key) ∷ es) h = told_number class n found es h
told_number class n found ((OfKeys d, Count count) ∷ es) h = told_number class n found es h
told_number class n found ((OfKeys d, Objects objects) ∷ es) h = told_number class n found es h
told_number class n found ((OfKeys d, Part part) ∷ es) h = told_number class n found es h
told_number class n found ((OfGreatest d, other) ∷ es) h = told_number class n found es h
told_number class n found ((OfCount d, other) ∷ es) h = told_number class n found es h
told_number class n found ((OfPart d m, other) ∷ es) h = by (class == d) (n == m) refl h (λ g. told_number class n found es g)
  where
    by : (b c : Bool) → (class == d) ≡ b → cond (b && c) (Some other) (lookup (seeing.ghosts.eq (OfPart class n)) es) ≡ Some found
        → (lookup (seeing.ghosts.eq (OfPart class n)) es ≡ Some found → part_was_read (map read es) class (part_found found) ≡ true)
        → (class == d && same_part (part_found found) (part_found other) || part_was_read (map read es) class (part_found found)) ≡ true
    by true true e h rest = ap₂ (λ x y. x && y || part_was_read (map read es) class (part_found found)) e
        (subst (λ f. same_part (part_found found) (part_found f) ≡ true) (sym (the_same h)) (same_part_itself (part_found found)))
      where
        the_same : Some other ≡ Some found → other ≡ found
        the_same g = cc
    by true false e h rest = either_true (class == d && same_part (part_found found) (part_found other)) (rest h)
    by false c e h rest = either_true (class == d && same_part (part_found found) (part_found other)) (rest h)

-- what a comparison with it says
pub compared_state : (class n : ℕ) (found : Found) (part : ClassPart) (state : PartState) (es : List (Seen × Found)) → lookup (seeing.ghosts.eq (OfPart class n)) es ≡ Some found
    → number_was_read (map read es) class (number_of part) ≡ true → state ≡ cond (same_part (part_found found) part) WasRead IsTaken → IsStateOf (map read es) class part state
compared_state class n found part state es h there is = subst (IsStateOf (map read es) class part) (sym is) (by (same_part (part_found found) part) refl)
  where
    by : (b : Bool) → same_part (part_found found) part ≡ b → IsStateOf (map read es) class part (cond b WasRead IsTaken)
    by true e = subst (λ p. part_was_read (map read es) class p ≡ true) ((part_decides (part_found found) part).0 e) (told_number class n found es h)
    by false e = there

pub none_there : {A : Type 0} (o : Option A) → is_some o ≡ false → o ≡ None
none_there None h = refl
none_there (Some a) h = cc

-- what a look-up gave, read through its reference
pub seen_same : {A : Type 0} {r : Option (Bor A)} {b : Bor A} {found : Option A} → r ≡ Some b → option_copied r ≡ found → found ≡ Some b.now
seen_same is copied = sym copied ∙ ap option_copied is

pub seen_none : {A : Type 0} {r : Option (Bor A)} {found : Option A} → r ≡ None → option_copied r ≡ found → found ≡ None
seen_none is copied = sym copied ∙ ap option_copied is

pub copied_some : {A : Type 0} (r : Option (Bor A)) → is_some r ≡ is_some (option_copied r)
copied_some None = refl
copied_some (Some a) = refl

-- the objects that were found, read through their reference
pub told_whole : {now : List Read} (class : ℕ) (found : Found) (es : List (Seen × Found)) (r : Option (Bor (Arc ObjectList Global)))
    → lookup (seeing.ghosts.eq (OfKeys class)) es ≡ Some found → IfSome r (λ objects. found ≡ Objects objects.now)
    → map read es ≡ now → IfSome r (λ objects. (base : Cells) → Holds base now → AreObjects base class objects.now.value)
told_whole class found es None there some is = tt
told_whole class found es (Some objects) there some is = λ base held. told_objects class objects.now base es (there ∙ ap Some some) (subst (Holds base) (sym is) held).each

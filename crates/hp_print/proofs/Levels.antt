-- What holds of the expressions of forms.
use Rattle.std.proofs.Common.{◌≡◌, refl, sym, ap, ◌∙◌, subst, arith, ◌<◌, ◌≤◌, ℕ, Bool, true, false, List, [], ◌∷◌, length, map, codes, Option, Some, None}
use Rattle.std.specs.Prelude.{⊤, IfSome, if◌then◌else◌, bytes_eq, option_and_then}
use Rattle.std.specs.Option.{option_or}
use lib.Pointwise.{bytes_decides}
use Rattle.serde_json.specs.Data.{Data}
use Rattle.hp_model.specs.Json.{beside}
use Rattle.hp_model.specs.Parts.{name_of}
use Rattle.hp_model.specs.NotationForms as F
use Rattle.hp_model.specs.NotationForms.{Expression, operator_mark}
use Rattle.hp_model.specs.NotationExpressions.{level_of}
use Rattle.hp_model.specs.NotationTokens.{spelling}
use Rattle.hp_model.specs.NotationPrint.{expression_level}
use Rattle.hp_model.specs.NotationValues.{Table, chosen, of_one, of_two, natural_of, with_word, all_operators, operator_of, expression_of_none, expressions_of_one}
use Rattle.hp_model.specs.NotationValues.{expression_of_one, expressions_of_two, expression_of_two, expression_of_form}

pub if_one : {A B : Type 0} (P : B → Type 0) (f : A → B) → ((x : A) → P (f x)) → (o : Option A) → IfSome (of_one f o) P
if_one P f holds None = tt
if_one P f holds (Some x) = holds x

pub if_two : {A B C : Type 0} (P : C → Type 0) (f : A → B → C) → ((x : A) (y : B) → P (f x y)) → (a : Option A) (b : Option B) → IfSome (of_two f a b) P
if_two P f holds None b = tt
if_two P f holds (Some x) None = tt
if_two P f holds (Some x) (Some y) = holds x y

-- each entry of a table makes what P says
abbrev pub AllMake : {A : Type 0} → (A → Type 0) → Table A → Type 0
AllMake P [] = ⊤
AllMake P (entry ∷ entries) = IfSome (entry.1 tt) P × AllMake P entries

pub if_chosen : {A : Type 0} (P : A → Type 0) (word : List ℕ) (table : Table A) → AllMake P table → IfSome (chosen (beside word table)) P
if_chosen P word [] all = tt
if_chosen P word (entry ∷ entries) all = go (if_chosen P word entries all.1) (bytes_eq word entry.0)
  where
    go : IfSome (chosen (beside word entries)) P → (b : Bool) → IfSome (chosen (if b then Some entry.1 else beside word entries)) P
    go others true = all.0
    go others false = others

pub if_or : {A : Type 0} (P : A → Type 0) (a b : Option A) → IfSome a P → IfSome b P → IfSome (option_or a b) P
if_or P None b first second = second
if_or P (Some x) b first second = first

pub if_then : {A B : Type 0} (P : B → Type 0) (f : A → Option B) → ((x : A) → IfSome (f x) P) → (o : Option A) → IfSome (option_and_then f o) P
if_then P f holds None = tt
if_then P f holds (Some x) = holds x

pub apart : (a b : List ℕ) → (a ≡ b → ⊥) → bytes_eq a b ≡ false
apart a b differ = go (bytes_eq a b) refl
  where
    go : (c : Bool) → bytes_eq a b ≡ c → c ≡ false
    go true same = absurd (differ ((bytes_decides a b).0 same))
    go false same = refl

-- ---- operators and other forms of two parts

found_spelling : (word : List ℕ) (ops : List F.Operator) (op : F.Operator) → beside word (map with_word ops) ≡ Some op → word ≡ spelling (operator_mark op)
found_spelling word [] op is = cc
found_spelling word (o ∷ ops) op is = go (found_spelling word ops op) (bytes_eq word (spelling (operator_mark o))) refl is
  where
    go : (beside word (map with_word ops) ≡ Some op → word ≡ spelling (operator_mark op)) → (b : Bool) → bytes_eq word (spelling (operator_mark o)) ≡ b
        → (if b then Some o else beside word (map with_word ops)) ≡ Some op → word ≡ spelling (operator_mark op)
    go others true same found = let one : o ≡ op = cc in (bytes_decides word (spelling (operator_mark o))).0 same ∙ ap (λ p. spelling (operator_mark p)) one
    go others false same found = others found

none_beside : (op : F.Operator) (a b : Data) → chosen (beside (spelling (operator_mark op)) (expressions_of_two a b)) ≡ None
none_beside F.either a b = refl
none_beside F.both a b = refl
none_beside F.equal a b = refl
none_beside F.unequal a b = refl
none_beside F.less a b = refl
none_beside F.at_most a b = refl
none_beside F.greater a b = refl
none_beside F.at_least a b = refl
none_beside F.plus a b = refl
none_beside F.minus a b = refl
none_beside F.times a b = refl
none_beside F.quotient a b = refl
none_beside F.remainder a b = refl

pub or_none : {A : Type 0} (a b : Option A) → b ≡ None → option_or a b ≡ a
or_none None b is = is
or_none (Some x) b is = refl

-- a word that is an operator makes an operation
pub operation_form : (operand : Data → Option Expression) (word : List ℕ) (op : F.Operator) (a b : Data) → operator_of word ≡ Some op
    → expression_of_two operand word a b ≡ of_two (F.operation op) (operand a) (operand b)
operation_form operand word op a b is =
    let spelt = found_spelling word all_operators op is in
    let none : chosen (beside word (expressions_of_two a b)) ≡ None = ap (λ w. chosen (beside w (expressions_of_two a b))) spelt ∙ none_beside op a b in
    ap (λ o. option_or (option_and_then (λ p. of_two (F.operation p) (operand a) (operand b)) o) (chosen (beside word (expressions_of_two a b)))) is
    ∙ or_none (of_two (F.operation op) (operand a) (operand b)) _ none

pub other_form : (operand : Data → Option Expression) (word : List ℕ) (a b : Data) → operator_of word ≡ None
    → expression_of_two operand word a b ≡ chosen (beside word (expressions_of_two a b))
other_form operand word a b is = ap (λ o. option_or (option_and_then (λ p. of_two (F.operation p) (operand a) (operand b)) o) (chosen (beside word (expressions_of_two a b)))) is

-- ---- levels

abbrev Has : ℕ → Expression → Type 0
Has n e = n ≡ expression_level e

pub level_alone : (word : List ℕ) → IfSome (expression_of_none word) (λ e. 8 ≡ expression_level e)
level_alone word = go (bytes_eq word (codes "now")) (bytes_eq word (codes "count"))
  where
    go : (a b : Bool) → IfSome (if a then Some F.now else (if b then Some F.occurrence_count else None)) (λ e. 8 ≡ expression_level e)
    go true b = refl
    go false true = refl
    go false false = tt

pub level_one : (operand : Data → Option Expression) (word : List ℕ) (a : Data) → bytes_eq word (codes "not") ≡ false → bytes_eq word (codes "neg") ≡ false
    → IfSome (expression_of_one operand word a) (λ e. 8 ≡ expression_level e)
level_one operand word a inverted negated =
    rw (inverted, negated)
    (if_chosen (Has 8) word
    ((codes "key", λ _. of_one F.key_of (name_of a)) ∷ (codes "value", λ _. of_one F.value (name_of a)) ∷ (codes "id", λ _. of_one F.key_in (natural_of a))
    ∷ (codes "time", λ _. of_one F.time_of (natural_of a)) ∷ [])
    (if_one (Has 8) F.key_of (λ x. refl) _, (if_one (Has 8) F.value (λ x. refl) _, (if_one (Has 8) F.key_in (λ x. refl) _, (if_one (Has 8) F.time_of (λ x. refl) _, tt)))))

pub level_operation : (operand : Data → Option Expression) (word : List ℕ) (op : F.Operator) (a b : Data) → operator_of word ≡ Some op
    → IfSome (expression_of_two operand word a b) (λ e. level_of (operator_mark op) ≡ expression_level e)
level_operation operand word op a b is =
    subst (λ o. IfSome o (Has (level_of (operator_mark op)))) (sym (operation_form operand word op a b is))
    (if_two (Has (level_of (operator_mark op))) (F.operation op) (λ x y. refl) (operand a) (operand b))

pub level_other : (operand : Data → Option Expression) (word : List ℕ) (a b : Data) → operator_of word ≡ None
    → IfSome (expression_of_two operand word a b) (λ e. 8 ≡ expression_level e)
level_other operand word a b is =
    subst (λ o. IfSome o (Has 8)) (sym (other_form operand word a b is))
    (if_chosen (Has 8) word (expressions_of_two a b) (
      if_two (Has 8) F.field_of (λ x y. refl) _ _,
      (
        if_two (Has 8) (F.image_field F.new_image) (λ x y. refl) _ _,
        (if_two (Has 8) (F.image_field F.old_image) (λ x y. refl) _ _, (if_two (Has 8) F.argument (λ x y. refl) _ _, tt)),
      ),
    ))

-- ---- forms are compound

-- no literal
abbrev pub IsCompound : Expression → Type 0
IsCompound (F.integer z) = ⊥
IsCompound (F.truth b) = ⊥
IsCompound (F.text s) = ⊥
IsCompound (F.operation op a b) = ⊤
IsCompound (F.inverted a) = ⊤
IsCompound (F.negated a) = ⊤
IsCompound (F.field_of x f) = ⊤
IsCompound (F.key_of x) = ⊤
IsCompound (F.value x) = ⊤
IsCompound F.now = ⊤
IsCompound (F.image_field image i f) = ⊤
IsCompound (F.key_in i) = ⊤
IsCompound (F.time_of i) = ⊤
IsCompound (F.argument i j) = ⊤
IsCompound F.occurrence_count = ⊤

compound_alone : (word : List ℕ) → IfSome (expression_of_none word) IsCompound
compound_alone word = go (bytes_eq word (codes "now")) (bytes_eq word (codes "count"))
  where
    go : (a b : Bool) → IfSome (if a then Some F.now else (if b then Some F.occurrence_count else None)) IsCompound
    go true b = tt
    go false true = tt
    go false false = tt

pub compound_form : (operand : Data → Option Expression) (word : List ℕ) (ps : List Data) → IfSome (expression_of_form operand word ps) IsCompound
compound_form operand word [] = compound_alone word
compound_form operand word (a ∷ []) =
    if_chosen IsCompound word (expressions_of_one operand a) (
      if_one IsCompound F.inverted (λ x. tt) _,
      (
        if_one IsCompound F.negated (λ x. tt) _,
        (if_one IsCompound F.key_of (λ x. tt) _, (if_one IsCompound F.value (λ x. tt) _, (if_one IsCompound F.key_in (λ x. tt) _, (if_one IsCompound F.time_of (λ x. tt) _, tt)))),
      ),
    )
compound_form operand word (a ∷ b ∷ []) =
    if_or IsCompound (option_and_then (λ op. of_two (F.operation op) (operand a) (operand b)) (operator_of word)) _
    (if_then IsCompound (λ op. of_two (F.operation op) (operand a) (operand b)) (λ op. if_two IsCompound (F.operation op) (λ x y. tt) _ _) (operator_of word))
    (if_chosen IsCompound word (expressions_of_two a b) (
      if_two IsCompound F.field_of (λ x y. tt) _ _,
      (
        if_two IsCompound (F.image_field F.new_image) (λ x y. tt) _ _,
        (if_two IsCompound (F.image_field F.old_image) (λ x y. tt) _ _, (if_two IsCompound F.argument (λ x y. tt) _ _, tt)),
      ),
    ))
compound_form operand word (a ∷ b ∷ c ∷ ps) = tt

-- ---- levels of forms whose parts are values of a list

pub form_level_one : {V : Type 0} (f : V → Data) (operand : Data → Option Expression) (word : List ℕ) (vs : List V) → 1 ≤ length vs → length vs < 2
    → (word ≡ codes "not" → ⊥) → (word ≡ codes "neg" → ⊥) → IfSome (expression_of_form operand word (map f vs)) (λ e. 8 ≡ expression_level e)
form_level_one f operand word [] least below inverted negated = absurd (omega (arith, least))
form_level_one f operand word (v ∷ []) least below inverted negated = level_one operand word (f v) (apart _ _ inverted) (apart _ _ negated)
form_level_one f operand word (v ∷ u ∷ vs) least below inverted negated = absurd (omega (arith, below))

pub form_level_operation : {V : Type 0} (f : V → Data) (operand : Data → Option Expression) (word : List ℕ) (op : F.Operator) (n : ℕ) (vs : List V) → 2 ≤ length vs → length vs < 3
    → operator_of word ≡ Some op → n ≡ level_of (operator_mark op) → IfSome (expression_of_form operand word (map f vs)) (λ e. n ≡ expression_level e)
form_level_operation f operand word op n [] least below is level = absurd (omega (arith, least))
form_level_operation f operand word op n (v ∷ []) least below is level = absurd (omega (arith, least))
form_level_operation f operand word op n (v ∷ u ∷ []) least below is level =
    subst (λ m. IfSome (expression_of_two operand word (f v) (f u)) (λ e. m ≡ expression_level e)) (sym level) (level_operation operand word op (f v) (f u) is)
form_level_operation f operand word op n (v ∷ u ∷ w ∷ vs) least below is level = absurd (omega (arith, below))

pub form_level_other : {V : Type 0} (f : V → Data) (operand : Data → Option Expression) (word : List ℕ) (vs : List V) → 2 ≤ length vs → length vs < 3
    → operator_of word ≡ None → IfSome (expression_of_form operand word (map f vs)) (λ e. 8 ≡ expression_level e)
form_level_other f operand word [] least below is = absurd (omega (arith, least))
form_level_other f operand word (v ∷ []) least below is = absurd (omega (arith, least))
form_level_other f operand word (v ∷ u ∷ []) least below is = level_other operand word (f v) (f u) is
form_level_other f operand word (v ∷ u ∷ w ∷ vs) least below is = absurd (omega (arith, below))

pub form_level_alone : {V : Type 0} (f : V → Data) (operand : Data → Option Expression) (word : List ℕ) (vs : List V) → length vs < 1
    → IfSome (expression_of_form operand word (map f vs)) (λ e. 8 ≡ expression_level e)
form_level_alone f operand word [] below = level_alone word
form_level_alone f operand word (v ∷ vs) below = absurd (omega (arith, below))

pub form_level_more : {V : Type 0} (f : V → Data) (operand : Data → Option Expression) (word : List ℕ) (vs : List V) → 3 ≤ length vs
    → IfSome (expression_of_form operand word (map f vs)) (λ e. 8 ≡ expression_level e)
form_level_more f operand word [] least = absurd (omega (arith, least))
form_level_more f operand word (v ∷ []) least = absurd (omega (arith, least))
form_level_more f operand word (v ∷ u ∷ []) least = absurd (omega (arith, least))
form_level_more f operand word (v ∷ u ∷ w ∷ vs) least = tt

-- Whether a name is among those of a list's items.
use Rattle.std.proofs.Common.{◌≡◌, ◌∙◌, Bool, true, false, ◌||◌, List, [], ◌∷◌, ◌++◌, map, refl, ap, string_bytes}
use Rattle.std.specs.List.{list_any}
use Rattle.std.specs.Str.{bytes_eq}
use Rattle.hp_model.specs.Values.{Name}
use Rattle.hp_model.specs.Checked.{is_known, query_names}
use Rattle.hp_model.specs.Scopes.{let_names}
use Rattle.hp_query.specs.Mapped.{entry}
use Rattle.hp_query.specs.declared.entry.Entry.{Entry}
use Rattle.hp_query.specs.declared.entry.Entry.TheVariants as E

any_among : {A B : Type 0} (f : A → B) (test : B → Bool) (xs : List A) → list_any (λ x. test (f x)) xs ≡ list_any test (map f xs)
any_among f test [] = refl
any_among f test (x ∷ xs) = ap (λ b. test (f x) || b) (any_among f test xs)

-- f says what an item stands for, and g names that
pub is_known_item : {A B : Type 0} (f : A → B) (g : B → Name) (name : Name) (xs : List A)
    → list_any (λ x. bytes_eq (g (f x)) name) xs ≡ is_known (map g (map f xs)) name
is_known_item f g name xs = any_among f (λ y. bytes_eq (g y) name) xs ∙ any_among g (λ n. bytes_eq n name) (map f xs)

one_more : (b : Bool) {x y : Bool} → x ≡ y → ((b || false) || x) ≡ (b || y)
one_more true e = refl
one_more false e = e

-- whether an entry of a condition has this name, as a row's or as a value's
pub names_row_of : (name : Name) (es : List Entry) → list_any (λ e. is_known (query_names (entry e ∷ [])) name) es ≡ is_known (query_names (map entry es)) name
names_row_of name [] = refl
names_row_of name (E.Query q ∷ es) = one_more (bytes_eq (string_bytes q.name) name) (names_row_of name es)
names_row_of name (E.No q ∷ es) = names_row_of name es
names_row_of name (E.Let x a ∷ es) = names_row_of name es

pub names_value_of : (name : Name) (es : List Entry) → list_any (λ e. is_known (let_names (entry e ∷ [])) name) es ≡ is_known (let_names (map entry es)) name
names_value_of name [] = refl
names_value_of name (E.Query q ∷ es) = names_value_of name es
names_value_of name (E.No q ∷ es) = names_value_of name es
names_value_of name (E.Let x a ∷ es) = one_more (bytes_eq (string_bytes x) name) (names_value_of name es)

-- a name is taken if it means a row or a value
pub taken_by_either : (rows values : List Name) (name : Name) → (is_known rows name || is_known values name) ≡ is_known (rows ++ values) name
taken_by_either [] values name = refl
taken_by_either (x ∷ rows) values name = by (bytes_eq x name) _ _ (taken_by_either rows values name)
  where
    by : (b r v : Bool) {w : Bool} → (r || v) ≡ w → ((b || r) || v) ≡ (b || w)
    by true r v e = refl
    by false r v e = e

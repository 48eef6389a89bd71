-- What is declared of a signal, as it is stored.
use Rattle.std.proofs.Common.{◌≡◌, refl, sym, ap, subst, ◌∙◌, ℕ, Bool, true, false, true≢false, cond, List, [], ◌∷◌, ◌++◌, Option, Some, None, map, bytes_eq, if◌then◌else◌, ◌||◌, ◌==◌}
use Rattle.std.specs.Prelude.{unwrap_or, option_map, is_some, IfSome, String, string_bytes}
use Rattle.std.proofs.lemmas.Slice.Eq.{bytes_eq-Decides}
use Rattle.std.specs.Global.{Vec}
use Rattle.std.specs.List.{list_any}
use Rattle.std.proofs.lemmas.List.Folds.{list_any-append}
use Rattle.std.specs.BTreeMap.{BTreeMap, UpdatesBy, is_at}
use Rattle.std.specs.String.{string_cmp}
use Rattle.std.specs.Ordering.{nat_cmp}
use Rattle.std.specs.Cmp.Lexicographic.{slice_cmp}
use Rattle.std.specs.Map.{lookup}
use Rattle.std.specs.declared.alloc.Global.{Global}
use Rattle.std.proofs.lemmas.Map.Text.{btree_map_updates_text, is_eq-slice_cmp}
use Rattle.hp_model.specs.Kinds as K
use Rattle.hp_analysis.specs.Kinded.{sort}
use Rattle.hp_analysis.specs.Declarations.{signatures, sorts_found, Keeps, KeepsFired}
use Rattle.hp_analysis.specs.declared.kinds.sort.Sort.{Sort}

chosen : (b : Bool) (v : Vec Sort) (found : Option (List K.Sort)) (stored : Option (Vec Sort)) → unwrap_or found [] ≡ sorts_found stored
    → unwrap_or (cond b (Some (map sort v.items)) found) [] ≡ sorts_found (cond b (Some v) stored)
chosen true v found stored same = refl
chosen false v found stored same = same

pub found_is : (entries : List (String Global × Vec Sort)) (name : List ℕ)
    → unwrap_or (lookup (bytes_eq name) (signatures entries)) [] ≡ sorts_found (lookup (is_at (λ k. slice_cmp nat_cmp name (string_bytes k))) entries)
found_is [] name = refl
found_is (e ∷ es) name =
    let stored = lookup (is_at (λ (k : String Global). slice_cmp nat_cmp name (string_bytes k))) es in
    chosen (bytes_eq name (string_bytes e.0)) e.1 (lookup (bytes_eq name) (signatures es)) stored (found_is es name)
    ∙ ap (λ b. sorts_found (cond b (Some e.1) stored)) (sym (is_eq-slice_cmp name (string_bytes e.0)))

pub declared_is : (before after : BTreeMap (String Global) (Vec Sort)) (name : List ℕ) (sorts : Vec Sort)
    → UpdatesBy string_cmp (λ k. slice_cmp nat_cmp name (string_bytes k)) before after (Some sorts) → (other : List ℕ)
    → unwrap_or (lookup (bytes_eq other) (signatures after.entries)) [] ≡ (if bytes_eq name other then map sort sorts.items else unwrap_or (lookup (bytes_eq other) (signatures before.entries)) [])
declared_is before after name sorts put other =
    found_is after.entries other ∙ ap sorts_found (btree_map_updates_text name before after (Some sorts) put other) ∙ by (bytes_eq name other)
  where
    by : (b : Bool) → sorts_found (cond b (Some sorts) (lookup (is_at (λ k. slice_cmp nat_cmp other (string_bytes k))) before.entries))
        ≡ (if b then map sort sorts.items else unwrap_or (lookup (bytes_eq other) (signatures before.entries)) [])
    by true = refl
    by false = sym (found_is before.entries other)

-- ---- the signatures themselves, also of signals without arguments

abbrev sorts_of : Vec Sort → List K.Sort
sorts_of v = map sort v.items

mapped : (b : Bool) (v : Vec Sort) (o : Option (Vec Sort)) → cond b (Some (sorts_of v)) (option_map sorts_of o) ≡ option_map sorts_of (cond b (Some v) o)
mapped true v o = refl
mapped false v o = refl

pub stored_is : (entries : List (String Global × Vec Sort)) (name : List ℕ)
    → lookup (bytes_eq name) (signatures entries) ≡ option_map (λ (v : Vec Sort). map sort v.items) (lookup (is_at (λ k. slice_cmp nat_cmp name (string_bytes k))) entries)
stored_is [] name = refl
stored_is (e ∷ es) name =
    let stored = lookup (is_at (λ (k : String Global). slice_cmp nat_cmp name (string_bytes k))) es in
    ap (cond (bytes_eq name (string_bytes e.0)) (Some (sorts_of e.1))) (stored_is es name)
    ∙ mapped (bytes_eq name (string_bytes e.0)) e.1 stored
    ∙ ap (λ b. option_map sorts_of (cond b (Some e.1) stored)) (sym (is_eq-slice_cmp name (string_bytes e.0)))

pub stored_by : (before after : BTreeMap (String Global) (Vec Sort)) (name : List ℕ) (sorts : Vec Sort)
    → UpdatesBy string_cmp (λ k. slice_cmp nat_cmp name (string_bytes k)) before after (Some sorts) → (other : List ℕ)
    → lookup (bytes_eq other) (signatures after.entries) ≡ (if bytes_eq name other then Some (map sort sorts.items) else lookup (bytes_eq other) (signatures before.entries))
stored_by before after name sorts put other =
    stored_is after.entries other ∙ ap (option_map sorts_of) (btree_map_updates_text name before after (Some sorts) put other) ∙ by (bytes_eq name other)
  where
    by : (b : Bool) → option_map sorts_of (cond b (Some sorts) (lookup (is_at (λ k. slice_cmp nat_cmp other (string_bytes k))) before.entries))
        ≡ (if b then Some (map sort sorts.items) else lookup (bytes_eq other) (signatures before.entries))
    by true = refl
    by false = sym (stored_is before.entries other)

-- ---- what is given is kept

same : {X : Type 0} (o : Option X) → IfSome o (λ x. o ≡ Some x)
same None = tt
same (Some x) = refl

pub keeps_same : (d : K.Declared) → Keeps d d
keeps_same d = λ name. same (lookup (bytes_eq name) d.signatures)

also : {X : Type 0} (a b c : Option X) → IfSome a (λ x. b ≡ Some x) → IfSome b (λ x. c ≡ Some x) → IfSome a (λ x. c ≡ Some x)
also None b c first second = tt
also (Some x) b c first second = subst (λ o. IfSome o (λ y. c ≡ Some y)) first second

pub keeps_also : (a b c : K.Declared) → Keeps a b → Keeps b c → Keeps a c
keeps_also a b c first second = λ name. also (lookup (bytes_eq name) a.signatures) (lookup (bytes_eq name) b.signatures) (lookup (bytes_eq name) c.signatures) (first name) (second name)

put_beside : {X : Type 0} (o n w : Option X) (b : Bool) → n ≡ (if b then w else o) → (b ≡ true → is_some o ≡ false) → IfSome o (λ x. n ≡ Some x)
put_beside None n w b is apart = tt
put_beside (Some x) n w true is apart = absurd (true≢false (apart refl))
put_beside (Some x) n w false is apart = is

-- a signal that wasn't declared is
pub keeps_beside : (before after : K.Declared) (name : List ℕ) (sorts : List K.Sort) → is_some (lookup (bytes_eq name) before.signatures) ≡ false
    → ((other : List ℕ) → lookup (bytes_eq other) after.signatures ≡ (if bytes_eq name other then Some sorts else lookup (bytes_eq other) before.signatures)) → Keeps before after
keeps_beside before after name sorts new put = λ other.
    put_beside (lookup (bytes_eq other) before.signatures) (lookup (bytes_eq other) after.signatures) (Some sorts) (bytes_eq name other) (put other)
    (λ e. subst (λ (x : List ℕ). is_some (lookup (bytes_eq x) before.signatures) ≡ false) ((bytes_eq-Decides name other).0 e) new)

-- ---- the rules that statements may fire

any_more : (p : ℕ → Bool) (xs ys : List ℕ) → list_any p xs ≡ true → list_any p (xs ++ ys) ≡ true
any_more p xs ys is = list_any-append p xs ys ∙ ap (λ b. b || list_any p ys) is

pub fires_same : (given d : K.Declared) → d.fired ≡ given.fired → KeepsFired given d
fires_same given d is = λ rule fired. subst (λ (fs : List ℕ). list_any (λ m. m == rule) fs ≡ true) (sym is) fired

pub fires_more : (given before after : K.Declared) (number : ℕ) → KeepsFired given before → after.fired ≡ before.fired ++ number ∷ []
    → KeepsFired given after
fires_more given before after number kept is = λ rule fired.
    subst (λ (fs : List ℕ). list_any (λ m. m == rule) fs ≡ true) (sym is) (any_more (λ m. m == rule) before.fired (number ∷ []) (kept rule fired))

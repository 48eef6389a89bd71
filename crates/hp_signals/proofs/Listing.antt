-- A list of signals with one more.
use Rattle.std.proofs.Common.{◌≡◌, refl, sym, ap, subst, ◌∙◌, ℕ, Bool, true, false, cond, List, [], ◌∷◌, ◌++◌, Option, Some, None, bytes_eq, if◌then◌else◌}
use Rattle.std.specs.Prelude.{is_some}
use Rattle.std.specs.Map.{lookup}
use Rattle.std.proofs.lemmas.Bool.Decides.{same_from_decides}
use Rattle.std.proofs.lemmas.Slice.Eq.{bytes_eq-Decides}
use Rattle.hp_model.specs.Values.{Name}
use Rattle.hp_model.specs.Kinds.{Declared, Sort}
use Rattle.hp_signals.specs.Signals.{Signature, has_signal}
use Rattle.hp_signals.specs.Mapped.{is_in, Lists}

-- the first that is found, or else the second
first_of : {X : Type 0} → Option X → Option X → Option X
first_of (Some x) o = Some x
first_of None o = o

found_first : {X : Type 0} (b : Bool) (x : X) (o later : Option X) → cond b (Some x) (first_of o later) ≡ first_of (cond b (Some x) o) later
unfolding first_of
found_first true x o later = refl
found_first false x o later = refl

lookup_last : {X : Type 0} (p : Name → Bool) (xs : List (Name × X)) (e : Name × X) → lookup p (xs ++ e ∷ []) ≡ first_of (lookup p xs) (cond (p e.0) (Some e.1) None)
unfolding first_of
lookup_last p [] e = refl
lookup_last p (x ∷ xs) e = ap (cond (p x.0) (Some x.1)) (lookup_last p xs e) ∙ found_first (p x.0) x.1 (lookup p xs) (cond (p e.0) (Some e.1) None)

mirrored : (a b : List ℕ) → bytes_eq a b ≡ bytes_eq b a
mirrored a b =
    let other = bytes_eq-Decides b a in
    same_from_decides (bytes_eq a b) (bytes_eq b a) (bytes_eq-Decides a b) ((λ e. sym (other.0 e)), (λ e. other.1 (sym e)))

nothing : {X : Type 0} (o later : Option X) → is_some o ≡ false → first_of o later ≡ later
unfolding first_of
nothing None later absent = refl
nothing (Some x) later absent = cc

no_more : {X : Type 0} (o : Option X) → first_of o None ≡ o
unfolding first_of
no_more None = refl
no_more (Some x) = refl

chosen : {X : Type 0} (b : Bool) (o : Option X) (s : X) → (b ≡ true → is_some o ≡ false) → first_of o (cond b (Some s) None) ≡ (if b then Some s else o)
chosen true o s new = nothing o (Some s) (new refl)
chosen false o s new = no_more o

-- what is found once a signal of a new name stands at the end
found_after : (before : List Signature) (x name : Name) (sorts : List Sort) → has_signal before x ≡ false
    → lookup (bytes_eq name) (before ++ (x, sorts) ∷ []) ≡ (if bytes_eq x name then Some sorts else lookup (bytes_eq name) before)
found_after before x name sorts new =
    let here = bytes_eq-Decides x name in
    lookup_last (bytes_eq name) before (x, sorts)
    ∙ ap (λ b. first_of (lookup (bytes_eq name) before) (cond b (Some sorts) None)) (mirrored name x)
    ∙ chosen (bytes_eq x name) (lookup (bytes_eq name) before) sorts (λ e. subst (λ (y : Name). is_some (lookup (bytes_eq y) before) ≡ false) (here.0 e) new)

-- one more signal is declared
pub lists_more : (d e : Declared) (before : List Signature) (x : Name) (sorts : List Sort) → Lists d before → is_in d x ≡ false
    → ((name : List ℕ) → lookup (bytes_eq name) e.signatures ≡ (if bytes_eq x name then Some sorts else lookup (bytes_eq name) d.signatures)) → e.fired ≡ d.fired
    → Lists e (before ++ (x, sorts) ∷ [])
lists_more d e before x sorts lists new put fired = record {
  each = λ name. put name ∙ ap (λ o. if bytes_eq x name then Some sorts else o) (lists.each name)
      ∙ sym (found_after before x name sorts (sym (ap is_some (lists.each x)) ∙ new));
  fired = fired ∙ lists.fired;
}

-- Units of one library, one by one.
use Rattle.std.proofs.Common.{◌≡◌, ◌<◌, ◌+◌, ap, sym, ◌∙◌, append_assoc, ℕ, length, map, take, get_or, List, [], ◌∷◌, ◌++◌}
use Rattle.std.proofs.lemmas.List.Elements.{All-append, All-nil, All-cons}
use Rattle.std.proofs.lemmas.List.{take_more, map-append}
use Rattle.hp_model.specs.Cascade as C
use Rattle.hp_model.specs.Cascade.{moment}
use Rattle.hp_rule.specs.Mapped.{unit}
use Rattle.hp_rule.specs.declared.body.Body.{Body}
use Rattle.hp_rule.specs.declared.library.Library.{Library}
use Rattle.hp_rule.specs.declared.unit.Unit.{Unit}
use Rattle.hp_rule.specs.declared.unit.Unit.TheVariants.{Transaction, Moment}
use Rattle.hp_script.specs.OwnBodies.{IsOf, AreOf}

pub none_own : (library : Library) → AreOf library []
none_own library = All-nil (IsOf library)

own_last : (library : Library) (units new : List Unit) (last : Unit) → new ≡ units ++ last ∷ [] → IsOf library last → AreOf library units → AreOf library new
own_last library units new last pushed is own = rw pushed (All-append (IsOf library) units (last ∷ []) own (All-cons (IsOf library) last [] is (All-nil (IsOf library))))

pub own_body : (library : Library) (units new : List Unit) (time : ℕ) (body : Body) → new ≡ units ++ Transaction time body ∷ [] → body.library.value ≡ library → AreOf library units → AreOf library new
own_body library units new time body pushed is own = own_last library units new (Transaction time body) pushed is own

pub own_moment : (library : Library) (units new : List Unit) (time : ℕ) → new ≡ units ++ Moment time ∷ [] → AreOf library units → AreOf library new
own_moment library units new time pushed own = own_last library units new (Moment time) pushed tt own

-- one more of the moments is pushed
pub moment_pushed : (before old new : List Unit) (moments : List ℕ) (i : ℕ) → i < length moments → new ≡ old ++ Moment (get_or moments i 0) ∷ []
    → map unit old ≡ map unit before ++ map (λ t. moment t) (take i moments) → map unit new ≡ map unit before ++ map (λ t. moment t) (take (i + 1) moments)
moment_pushed before old new moments i within pushed so_far =
    let next : C.Unit = moment (get_or moments i 0) in
    let taken : map (λ t. moment t) (take (i + 1) moments) ≡ map (λ t. moment t) (take i moments) ++ next ∷ [] =
    ap (map (λ t. moment t)) (take_more moments i 0 within) ∙ map-append (λ t. moment t) (take i moments) (get_or moments i 0 ∷ []) in
    ap (map unit) pushed ∙ map-append unit old (Moment (get_or moments i 0) ∷ []) ∙ ap (λ us. us ++ next ∷ []) so_far
    ∙ append_assoc (map unit before) (map (λ t. moment t) (take i moments)) (next ∷ []) ∙ ap (λ us. map unit before ++ us) (sym taken)

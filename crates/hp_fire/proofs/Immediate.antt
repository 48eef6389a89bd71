-- The places of tasks that all fire at once.
use Rattle.std.proofs.Common.{◌≡◌, refl, sym, ap, ◌∙◌, Bool, true, false, cond, List, [], ◌∷◌, ◌&&◌}
use Rattle.std.specs.Prelude.{filter}
use Rattle.std.specs.List.{list_all}
use mathlib.Core.Bool.{true≢false}
use Rattle.hp_model.specs.Rules.{Coupling, immediate, is_immediate, is_deferred, is_detached}
use Rattle.hp_model.specs.Tree.{Task}
use Rattle.hp_model.specs.Transactions.{deferred_of, detached_of}

abbrev pub AllImmediate : List Task → Type 0
AllImmediate ts = list_all (λ (t : Task). is_immediate t.place) ts ≡ true

-- a test that each immediate task passes
all_pass : (f : Coupling → Bool) → f immediate ≡ true → (ts : List Task) → AllImmediate ts → filter (λ (t : Task). f t.place) ts ≡ ts
all_pass f at_once [] h = refl
all_pass f at_once (t ∷ ts) h = by_place t.place refl h (all_pass f at_once ts)
  where
    by_place : (p : Coupling) → t.place ≡ p → (is_immediate p && list_all (λ (u : Task). is_immediate u.place) ts) ≡ true
        → (AllImmediate ts → filter (λ (u : Task). f u.place) ts ≡ ts) → filter (λ (u : Task). f u.place) (t ∷ ts) ≡ t ∷ ts
    by_place immediate e h rest = ap (λ (b : Bool). cond b (t ∷ filter (λ (u : Task). f u.place) ts) (filter (λ (u : Task). f u.place) ts)) (ap f e ∙ at_once) ∙ ap (λ us. t ∷ us) (rest h)
    by_place p e h rest = absurd (true≢false (sym h))

-- a test that no immediate task passes
none_passes : (f : Coupling → Bool) → f immediate ≡ false → (ts : List Task) → AllImmediate ts → filter (λ (t : Task). f t.place) ts ≡ []
none_passes f at_once [] h = refl
none_passes f at_once (t ∷ ts) h = by_place t.place refl h (none_passes f at_once ts)
  where
    by_place : (p : Coupling) → t.place ≡ p → (is_immediate p && list_all (λ (u : Task). is_immediate u.place) ts) ≡ true
        → (AllImmediate ts → filter (λ (u : Task). f u.place) ts ≡ []) → filter (λ (u : Task). f u.place) (t ∷ ts) ≡ []
    by_place immediate e h rest = ap (λ (b : Bool). cond b (t ∷ filter (λ (u : Task). f u.place) ts) (filter (λ (u : Task). f u.place) ts)) (ap f e ∙ at_once) ∙ rest h
    by_place p e h rest = absurd (true≢false (sym h))

pub all_fire : (ts : List Task) → AllImmediate ts → filter (λ (t : Task). is_immediate t.place) ts ≡ ts
all_fire = all_pass is_immediate refl

pub none_is_deferred : (ts : List Task) → AllImmediate ts → deferred_of ts ≡ []
none_is_deferred = none_passes is_deferred refl

pub none_is_detached : (ts : List Task) → AllImmediate ts → detached_of ts ≡ []
none_is_detached = none_passes is_detached refl

-- Whether two tasks are the same, as a test; it is true exactly where the two are equal.
use Rattle.std.specs.Prelude.{ℕ, ◌≡◌, refl, Bool, true, false, ◌&&◌, nat_eq}
use Rattle.std.proofs.Common.{ap}
use Rattle.std.specs.Bool.{Decides}
use Rattle.std.specs.Cmp.{IsEquivalence, decided, unsigned_Decides}
use Rattle.hp_model.specs.Rules.{Coupling, immediate, deferred, separate, dependent, exclusive}
use Rattle.hp_model.specs.Occurrences.{Occurrence}
use Rattle.hp_model.specs.Tree.{Step, condition_step, action_step, Task}
use Rattle.hp_value.specs.Same.{occurrence_same, occurrence_decides, both_decide}
use Rattle.hp_value.specs.SameExpressions.{pair_decide}
use Rattle.hp_query.specs.Same.{findings_same, findings_decides}

abbrev pub coupling_same : Coupling → Coupling → Bool
coupling_same immediate immediate = true
coupling_same deferred deferred = true
coupling_same separate separate = true
coupling_same dependent dependent = true
coupling_same exclusive exclusive = true
coupling_same a b = false

abbrev pub step_same : Step → Step → Bool
step_same condition_step condition_step = true
step_same (action_step a) (action_step b) = findings_same a b
step_same s t = false

abbrev pub task_same : Task → Task → Bool
task_same t u =
    nat_eq t.rule u.rule && (step_same t.step u.step && (coupling_same t.place u.place
    && (nat_eq t.depth u.depth && (nat_eq t.now u.now && occurrence_same t.occurrence u.occurrence))))

-- ---- true exactly where the two are equal

pub coupling_decides : (a b : Coupling) → Decides (coupling_same a b) (a ≡ b)
coupling_decides immediate immediate = (λ e. refl, λ e. refl)
coupling_decides deferred deferred = (λ e. refl, λ e. refl)
coupling_decides separate separate = (λ e. refl, λ e. refl)
coupling_decides dependent dependent = (λ e. refl, λ e. refl)
coupling_decides exclusive exclusive = (λ e. refl, λ e. refl)
coupling_decides a b = (λ e. cc, λ e. cc)

pub step_decides : (s t : Step) → Decides (step_same s t) (s ≡ t)
step_decides condition_step condition_step = (λ e. refl, λ e. refl)
step_decides (action_step a) (action_step b) = (λ e. ap action_step ((findings_decides a b).0 e), λ e. (findings_decides a b).1 (cc))
step_decides s t = (λ e. cc, λ e. cc)

pub task_decides : (t u : Task) → Decides (task_same t u) (t ≡ u)
task_decides t u =
    let make : ℕ → Step → Coupling → ℕ → ℕ → Occurrence → Task = λ r s p d n o. record { rule = r; step = s; place = p; depth = d; now = n; occurrence = o } in
    both_decide _ _ (unsigned_Decides t.rule u.rule)
    (pair_decide _ _ (step_decides t.step u.step)
    (pair_decide _ _ (coupling_decides t.place u.place)
    (pair_decide _ _ (unsigned_Decides t.depth u.depth)
    (pair_decide _ _ (unsigned_Decides t.now u.now) (occurrence_decides t.occurrence u.occurrence)))))
    (λ e f i. make (e i) (f.0 i) (f.1.0 i) (f.1.1.0 i) (f.1.1.1.0 i) (f.1.1.1.1 i))
    (λ e. (ap (λ x. x.rule) e, (ap (λ x. x.step) e, (ap (λ x. x.place) e, (ap (λ x. x.depth) e, (ap (λ x. x.now) e, ap (λ x. x.occurrence) e))))))

pub step_equiv : IsEquivalence step_same
step_equiv = decided step_same step_decides

pub task_equiv : IsEquivalence task_same
task_equiv = decided task_same task_decides

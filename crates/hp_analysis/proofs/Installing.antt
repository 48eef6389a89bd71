-- A script installs no rule but those that are found; so it does the same if the others do nothing.
use Rattle.std.proofs.Common.{arith, ◌≡◌, refl, sym, ◌∙◌, subst, ℕ, zero, suc, ◌+◌, List, [], ◌∷◌, map, Bool, true, false, ◌&&◌, Some, None, nat_lt, IsTrue}
use Rattle.std.specs.Prelude.{if◌then◌else◌}
use Rattle.std.specs.List.{AllByRecursion, list_all}
use Rattle.std.proofs.lemmas.Bool.{and_parts, and_from}
use Rattle.hp_model.specs.Rules.{Library, rule_at}
use Rattle.hp_model.specs.Cascade.{Unit}
use Rattle.hp_model.specs.Chains.{rule_within, unit_within, script_within, unit_triggers}
use Rattle.hp_model.specs.Idle.{body_installs, unit_installs}
use Rattle.hp_model.proofs.Idle.{others_are_idle, never_too_deep_by_idle}
use Rattle.hp_model.proofs.Shallow.{bounds_grow}
use Rattle.hp_analysis.specs.Sets.{no_rules, installs, is_within}
use Rattle.hp_analysis.specs.Reached.{has}
use Rattle.hp_analysis.specs.Depths.{least_from}
use Rattle.hp_analysis.specs.Installed.{installed, with_installed, InstalledSuffice, OthersDoNothing, KnownDepthHolds}
use Rattle.hp_analysis.proofs.Reaching.{all_closed, gathered_each, spread_closed}

-- what passes a test
each_passes : {A : Type 0} (test : A → Bool) (xs : List A) → list_all test xs ≡ true → AllByRecursion (λ x. IsTrue (test x)) xs
each_passes test [] h = tt
each_passes test (x ∷ xs) h = let parts = and_parts (test x) (list_all test xs) h in (parts.0, each_passes test xs parts.1)

pub installed_suffice : InstalledSuffice
installed_suffice s =
    let library = s.library in
    let set = installed library s.units in
    let h = spread_closed library (map (installs library) library.rules) unit_installs s.units in
    let all : (list_all (λ u. list_all (has set) (unit_installs u)) s.units && is_within set (no_rules library)) ≡ true =
    sym (gathered_each library set h.1.0 unit_installs s.units (no_rules library) h.1.0) ∙ h.1.1 in (
      all_closed library set h.1.0 (λ r. body_installs r.action) refl h.0,
      each_passes (λ u. list_all (has set) (unit_installs u)) s.units
          (and_parts (list_all (λ u. list_all (has set) (unit_installs u)) s.units) (is_within set (no_rules library)) all).0,
    )

pub others_do_nothing : OthersDoNothing
others_do_nothing s = others_are_idle s (has (installed s.library s.units)) (installed_suffice s)

-- ---- a known depth

-- what is found passes, and isn't above the most
record IsFound (test : ℕ → Bool) (last : ℕ) (k : ℕ) : Type 0 where
  pub more : ℕ
  pub low : k + more ≡ last
  pub passes : test k ≡ true

found_passes : (test : ℕ → Bool) (j more k : ℕ) → least_from test j more ≡ Some k → IsFound test (j + more) k
found_passes test j zero k h = by (test j) refl h
  where
    by : (b : Bool) → test j ≡ b → (if b then Some j else None) ≡ Some k → IsFound test (j + 0) k
    by true is e = let same : j ≡ k = cc in record { more = 0; low = omega (arith, same); passes = subst (λ i. test i ≡ true) same is }
    by false is e = cc
found_passes test j (suc more) k h = by (test j) refl h (λ e. found_passes test (suc j) more k e)
  where
    later : IsFound test (suc j + more) k → IsFound test (j + suc more) k
    later f = let low = f.low in record { more = f.more; low = omega (arith, low); passes = f.passes }

    by : (b : Bool) → test j ≡ b → (if b then Some j else least_from test (suc j) more) ≡ Some k → (least_from test (suc j) more ≡ Some k → IsFound test (suc j + more) k)
        → IsFound test (j + suc more) k
    by true is e next = let same : j ≡ k = cc in record { more = suc more; low = omega (arith, same); passes = subst (λ i. test i ≡ true) same is }
    by false is e next = later (next e)

-- a bound stays one if it grows
module _ (library : Library) where
  list_grows : (k : ℕ) (ns : List ℕ) → list_all (λ n. rule_within library k (rule_at library n)) ns ≡ true → list_all (λ n. rule_within library (suc k) (rule_at library n)) ns ≡ true
  list_grows k [] h = refl
  list_grows k (n ∷ ns) h =
      let parts = and_parts (rule_within library k (rule_at library n)) (list_all (λ m. rule_within library k (rule_at library m)) ns) h in
      and_from (rule_within library (suc k) (rule_at library n)) (list_all (λ m. rule_within library (suc k) (rule_at library m)) ns)
      (bounds_grow library k (rule_at library n) parts.0) (list_grows k ns parts.1)

  units_grow : (k : ℕ) (us : List Unit) → list_all (unit_within library k) us ≡ true → list_all (unit_within library (suc k)) us ≡ true
  units_grow k [] h = refl
  units_grow k (u ∷ us) h =
      let parts = and_parts (unit_within library k u) (list_all (unit_within library k) us) h in
      and_from (unit_within library (suc k) u) (list_all (unit_within library (suc k)) us) (list_grows k (unit_triggers library u) parts.0) (units_grow k us parts.1)

  units_far : (k more most : ℕ) → k + more ≡ most → (us : List Unit) → list_all (unit_within library k) us ≡ true → list_all (unit_within library most) us ≡ true
  units_far k zero most e us h = let same : k ≡ most = omega (arith, e) in subst (λ j. list_all (unit_within library j) us ≡ true) same h
  units_far k (suc more) most e us h = units_far (suc k) more most (omega (arith, e)) us (units_grow k us h)

pub known_depth_holds : KnownDepthHolds
known_depth_holds s most h =
    let idle = with_installed s in
    let found = found_passes (λ k. nat_lt 0 k && script_within k idle) 0 idle.library.depth_limit most h in
    let low = found.low in
    let safe = units_far idle.library most found.more idle.library.depth_limit (omega (arith, low)) idle.units (and_parts (nat_lt 0 most) (script_within most idle) found.passes).1 in
    never_too_deep_by_idle s (has (installed s.library s.units)) (installed_suffice s) safe

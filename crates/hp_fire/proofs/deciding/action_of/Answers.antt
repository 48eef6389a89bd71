use Rattle.std.proofs.Common.{rules, arith, ◌≡◌, ◌≤◌, ◌<◌, ap, sym, subst, ℕ, zero, suc, List, [], ◌∷◌, Option, Some, None, length, get_or}
use Rattle.std.specs.Prelude.{slice_get}
use denote.Param.Weighed.{most, at_most}
use Rattle.hp_model.specs.Rules.{Rule, no_rule}
use Rattle.hp_rule.specs.declared.stmt.Stmt.{Stmt, size-Stmt}
use Rattle.hp_rule.specs.declared.rule.Rule.{Rule as RustRule}
use Rattle.hp_rule.specs.Mapped.{library}
use Rattle.hp_ops.proofs.Worlds.{index_none}
use Rattle.hp_fire.specs.Weights.{deepest}
use Rattle.hp_fire.proofs.deciding.action_of.Goals as goal

pub returns-in-None-clause-action : goal.returns-in-None-clause-action
returns-in-None-clause-action c =
    let none : slice_get (library c.args.lib.now).rules c.args.rule ≡ None = search rules in
    ap (λ (r : Rule). r.action) (sym (index_none (library c.args.lib.now).rules c.args.rule no_rule none))

at_place : {X : Type 0} (xs : List X) (n : ℕ) (x : X) → slice_get xs n ≡ Some x → (n < length xs) × (get_or xs n x ≡ x)
at_place [] n x is = cc
at_place {X} (y ∷ ys) zero x is = (omega arith, ap (λ o. unwrap x o) is)
  where
    unwrap : X → Option X → X
    unwrap d None = d
    unwrap d (Some v) = v
at_place (y ∷ ys) (suc n) x is =
    let rest = at_place ys n x is in
    (omega (arith, rest.0), rest.1)

pub returns-in-Some-clause-depth : goal.returns-in-Some-clause-depth
returns-in-Some-clause-depth c =
    let there : slice_get c.args.lib.now.rules.items c.args.rule ≡ Some c.in-Some.rule.now = search rules in
    let place = at_place c.args.lib.now.rules.items c.args.rule c.in-Some.rule.now there in
    subst (λ (ss : List Stmt). most size-Stmt ss ≤ deepest c.args.lib.now) (sym c.deref.ensures.value)
    (subst (λ (r : RustRule). most size-Stmt r.action.items ≤ deepest c.args.lib.now) place.1
    (at_most (λ (r : RustRule). most size-Stmt r.action.items) c.args.lib.now.rules.items c.args.rule c.in-Some.rule.now place.0))

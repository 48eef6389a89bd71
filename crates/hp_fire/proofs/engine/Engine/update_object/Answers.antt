use Rattle.std.proofs.Common.{rules, ◌≡◌, ℤ, map, subst}
use Rattle.std.proofs.Common.{SFits, w64, of_z, to_z}
use Rattle.std.proofs.lemmas.Int.{to_z-of_z}
use Rattle.std.proofs.lemmas.Result.{err_from_is_err_and}
use Rattle.hp_model.specs.Rules.{class_at}
use Rattle.hp_model.specs.State.{find_object}
use Rattle.hp_model.specs.Operations.{update_object}
use Rattle.hp_model.specs.Firing.{level_at, keyed_row, checked_kinds, updated_if_present}
use Rattle.hp_value.specs.Mapped.{environment, expression, primitive}
use Rattle.hp_rule.specs.Mapped.{assignment, library}
use Rattle.hp_ops.specs.Given.{given_in, keyed_in}
use Rattle.hp_ops.specs.Performs.{Performs}
use Rattle.hp_fire.specs.Mapped.{context}
use Rattle.hp_fire.proofs.Making.{makes_halt, update_makes}
use Rattle.hp_fire.proofs.engine.Engine.update_object.Goals as goal

pub returns-in_err-key : goal.returns-in_err-key
returns-in_err-key g c =
    let level = level_at (library c.args.self.now.lib.now) c.args.context.now.env.time c.args.context.now.depth in
    let p = err_from_is_err_and c.from_residual.result c.from_residual.ensures.1 in
    rw (p.1, p.2)
    (makes_halt (λ (k : ℤ). keyed_in k c.given_values.new.given.items) primitive (λ S r. updated_if_present level c.args.class r.key r.row (find_object S.objects c.args.class r.key))
    (keyed_row (environment c.args.context.now.env) (expression c.args.key.now) (map assignment c.args.pairs.now) (checked_kinds (class_at (library c.args.self.now.lib.now) c.args.class).fields))
    c.in_err-key.field-0.0 (library c.args.self.now.lib.now) level c.args.view.now c.in_err-key.ensures)

pub returns : goal.returns
returns g c =
    let fits : SFits w64 c.in_ok-key.key = search rules in
    let back : to_z w64 (of_z w64 c.in_ok-key.key) ≡ c.in_ok-key.key = to_z-of_z w64 c.in_ok-key.key fits in
    update_makes primitive (library c.args.self.now.lib.now) (level_at (library c.args.self.now.lib.now) c.args.context.now.env.time c.args.context.now.depth)
    (context c.args.context.now) c.args.class (expression c.args.key.now)
    (map assignment c.args.pairs.now) (keyed_in c.in_ok-key.key c.given_values.new.given.items) c.args.view.now c.update.new.view c.update.result c.in_ok-key.ensures c.update.ensures.goes_on
    (subst (λ gs. Performs primitive (library c.args.self.now.lib.now) (update_object c.args.class c.in_ok-key.key (given_in gs)) c.args.view.now c.update.new.view c.update.result) c.deref.ensures
    (subst (λ k. Performs primitive (library c.args.self.now.lib.now) (update_object c.args.class k (given_in c.deref.result.now)) c.args.view.now c.update.new.view c.update.result)
    back (c.update.ensures.operation (library c.args.self.now.lib.now))))

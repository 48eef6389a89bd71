use Rattle.std.proofs.Common.{rules, ◌≡◌, subst}
use Rattle.std.proofs.Common.{SFits, w64, of_z, to_z}
use Rattle.std.proofs.lemmas.Int.{to_z-of_z}
use Rattle.std.proofs.lemmas.Result.{err_from_is_err_and}
use Rattle.hp_model.specs.State.{find_object}
use Rattle.hp_model.specs.Operations.{delete_object}
use Rattle.hp_model.specs.Firing.{level_at, integer_value, deleted_if_present}
use Rattle.hp_value.specs.Mapped.{environment, expression, primitive}
use Rattle.hp_rule.specs.Mapped.{library}
use Rattle.hp_ops.specs.Performs.{Performs}
use Rattle.hp_fire.specs.Mapped.{context}
use Rattle.hp_fire.proofs.Making.{makes_halt, delete_makes}
use Rattle.hp_fire.proofs.engine.Engine.delete_object.Goals as goal

pub returns-in_err-key : goal.returns-in_err-key
returns-in_err-key g c =
    let level = level_at (library c.args.self.now.lib.now) c.args.context.now.env.time c.args.context.now.depth in
    let p = err_from_is_err_and c.from_residual.result c.from_residual.ensures.1 in
    rw (p.1, p.2)
    (makes_halt (λ k. k) primitive (λ S k. deleted_if_present level c.args.class k (find_object S.objects c.args.class k))
    (integer_value (environment c.args.context.now.env) (expression c.args.key.now))
    c.in_err-key.field-0.0 (library c.args.self.now.lib.now) level c.args.view.now c.in_err-key.ensures)

pub returns : goal.returns
returns g c =
    let fits : SFits w64 c.in_ok-key.key = search rules in
    let back : to_z w64 (of_z w64 c.in_ok-key.key) ≡ c.in_ok-key.key = to_z-of_z w64 c.in_ok-key.key fits in
    delete_makes primitive (library c.args.self.now.lib.now) (level_at (library c.args.self.now.lib.now) c.args.context.now.env.time c.args.context.now.depth)
    (context c.args.context.now) c.args.class (expression c.args.key.now)
    c.in_ok-key.key c.args.view.now c.delete.new.view c.delete.result c.in_ok-key.ensures c.delete.ensures.goes_on
    (subst (λ k. Performs primitive (library c.args.self.now.lib.now) (delete_object c.args.class k) c.args.view.now c.delete.new.view c.delete.result)
    back (c.delete.ensures.operation (library c.args.self.now.lib.now)))

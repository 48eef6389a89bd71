use Rattle.std.proofs.Common.{rules, ◌≡◌, map, subst}
use Rattle.std.proofs.Common.{SFits, w64, of_z, to_z}
use Rattle.std.proofs.lemmas.Int.{to_z-of_z}
use Rattle.std.proofs.lemmas.Result.{err_from_is_err_and}
use Rattle.hp_model.specs.Rules.{class_at}
use Rattle.hp_model.specs.State.{find_object}
use Rattle.hp_model.specs.Operations.{create_object}
use Rattle.hp_model.specs.Firing.{level_at, keyed_row, made_row, created_if_absent}
use Rattle.hp_value.specs.Mapped as mapped
use Rattle.hp_value.specs.Mapped.{environment, expression, primitive}
use Rattle.hp_rule.specs.Mapped.{assignment, library}
use Rattle.hp_ops.specs.Performs.{Performs}
use Rattle.hp_fire.specs.Mapped.{context}
use Rattle.hp_fire.proofs.Making.{makes_halt, create_makes}
use Rattle.hp_fire.proofs.engine.Engine.create_object.Goals as goal

pub returns-in_err-new : goal.returns-in_err-new
returns-in_err-new g c =
    let level = level_at (library c.args.self.now.lib.now) c.args.context.now.env.time c.args.context.now.depth in
    let p = err_from_is_err_and c.from_residual.result c.from_residual.ensures.1 in
    rw (p.1, p.2)
    (makes_halt mapped.keyed_row primitive (λ S r. created_if_absent level c.args.class r.key r.row (find_object S.objects c.args.class r.key))
    (keyed_row (environment c.args.context.now.env) (expression c.args.key.now) (map assignment c.args.pairs.now) (made_row (class_at (library c.args.self.now.lib.now) c.args.class).fields))
    c.in_err-new.field-0.0 (library c.args.self.now.lib.now) level c.args.view.now c.in_err-new.ensures)

pub returns : goal.returns
returns g c =
    let fits : SFits w64 c.in_ok-new.new.key = search rules in
    let back : to_z w64 (of_z w64 c.in_ok-new.new.key) ≡ c.in_ok-new.new.key = to_z-of_z w64 c.in_ok-new.new.key fits in
    create_makes primitive (library c.args.self.now.lib.now) (level_at (library c.args.self.now.lib.now) c.args.context.now.env.time c.args.context.now.depth)
    (context c.args.context.now) c.args.class (expression c.args.key.now)
    (map assignment c.args.pairs.now) (mapped.keyed_row c.in_ok-new.new) c.args.view.now c.create.new.view c.create.result c.in_ok-new.ensures c.create.ensures.goes_on
    (subst (λ k. Performs primitive (library c.args.self.now.lib.now) (create_object c.args.class k c.in_ok-new.new.row) c.args.view.now c.create.new.view c.create.result)
    back (c.create.ensures.operation (library c.args.self.now.lib.now)))

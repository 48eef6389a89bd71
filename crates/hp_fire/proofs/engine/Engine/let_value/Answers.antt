use Rattle.std.proofs.Common.{rules, subst}
use Rattle.hp_model.specs.Conditions.{let_of}
use Rattle.hp_value.specs.Mapped.{value}
use Rattle.hp_query.specs.Mapped.{aggregate}
use Rattle.hp_rule.specs.Mapped.{library}
use Rattle.hp_view.specs.Seeing.{Seeing, OnlyReads}
use Rattle.hp_fire.specs.Mapped.{context}
use Rattle.hp_fire.specs.Runs.{Looks}
use Rattle.hp_fire.proofs.Making.{looks_of}
use Rattle.hp_fire.proofs.engine.Engine.let_value.Goals as goal

pub returns : goal.returns
returns g c =
    let lib = library c.args.self.now.lib.now in
    let environment = (context c.args.context.now).environment in
    let asked = aggregate c.args.aggregate.now in
    let found = c.let_value-value in
    let new = found.new.look.view.now in
    subst (λ (v : Seeing). Looks value lib (λ S. let_of S.objects environment asked) c.args.view.now v found.result) (search rules)
    (looks_of value lib (λ objects. let_of objects environment asked) c.args.view.now new found.result
    (subst (λ (v : Seeing). OnlyReads v new) c.new-look.ensures.now found.ensures.goes_on.only) found.ensures.value)

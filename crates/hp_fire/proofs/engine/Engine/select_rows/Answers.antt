use Rattle.std.proofs.Common.{rules, subst}
use Rattle.hp_model.specs.Conditions.{answer}
use Rattle.hp_value.specs.Mapped.{expression}
use Rattle.hp_query.specs.Mapped.{keyed_rows}
use Rattle.hp_rule.specs.Mapped.{library}
use Rattle.hp_view.specs.Seeing.{Seeing, OnlyReads}
use Rattle.hp_fire.specs.Mapped.{context}
use Rattle.hp_fire.specs.Runs.{Looks}
use Rattle.hp_fire.proofs.Making.{looks_of}
use Rattle.hp_fire.proofs.engine.Engine.select_rows.Goals as goal

pub returns : goal.returns
returns g c =
    let lib = library c.args.self.now.lib.now in
    let environment = (context c.args.context.now).environment in
    let rows = c.selected_rows-rows in
    let new = rows.new.look.view.now in
    subst (λ (v : Seeing). Looks keyed_rows lib (λ S. answer environment c.args.variable.now c.args.class (expression c.args.predicate.now) S.objects) c.args.view.now v rows.result) (search rules)
    (looks_of keyed_rows lib (λ objects. answer environment c.args.variable.now c.args.class (expression c.args.predicate.now) objects) c.args.view.now new rows.result
    (subst (λ (v : Seeing). OnlyReads v new) c.new-look.ensures.now rows.ensures.goes_on.only) rows.ensures.answer)

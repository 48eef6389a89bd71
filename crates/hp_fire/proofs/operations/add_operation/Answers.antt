use Rattle.std.proofs.Common.{ap, sym, ◌∙◌}
use Rattle.std.specs.Prelude.{Option, option_to_list}
use Rattle.hp_model.specs.Answers.{followed, tells}
use Rattle.hp_model.specs.Tree.{Items}
use Rattle.hp_tree.specs.declared.node.Item.{Item}
use Rattle.hp_tree.specs.Mapped.{items_in}
use Rattle.std.proofs.lemmas.Result.{on_ok_weaker}
use Rattle.hp_fire.specs.Mapped.{course}
use Rattle.hp_fire.proofs.operations.add_operation.Goals as goal

pub returns-in-Some : goal.returns-in-Some
returns-in-Some c =
    let same = sym (ap (λ (o : Option Item). items_in (option_to_list o)) c.in-Some.is) ∙ c.operation_item.ensures in
    on_ok_weaker c.add.result (λ added. added ∙ ap (λ (x : Items). followed (course c.args.course.now) (tells x)) same) c.add.ensures

pub returns-in-None : goal.returns-in-None
returns-in-None c =
    let same = sym (ap (λ (o : Option Item). items_in (option_to_list o)) c.in-None.is) ∙ c.operation_item.ensures in
    c.end_with.ensures ∙ ap (λ (x : Items). followed (course c.args.course.now) (tells x)) same

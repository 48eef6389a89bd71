use Rattle.std.proofs.Common.{rules, ap, ap₂, Some, ◌≡◌, ◌∙◌, pos}
use Rattle.std.proofs.lemmas.Result.{IfOk-weaker}
use Rattle.clap.specs.Words.{rule_of, with_rule}
use Rattle.clap.specs.declared.builder.value_parser.ValueParser.{ValueParser}
use Rattle.clap.specs.declared.builder.value_parser.ValueParser.TheVariants as vp
use Rattle.hp_words.specs.Words.{workers_rule}
use Rattle.hp_words.proofs.words.plain_command.Goals as goal

pub returns : goal.returns
returns c =
    let given = c.value_parser-2.ensures.given in
    let parser_is : c.value_parser-2.result.value_parser ≡ Some (vp.Signed (pos 0) (pos 255)) = given.1 ∙ ap (λ (q : ValueParser). Some q) (given.2 ∙ c.value_parser.ensures) in
    let workers_is : rule_of c.default_value-workers.result ≡ workers_rule = search rules in
    let first_two = c.in_ok-arg-2.ensures.shape (search rules) ∙ ap₂ with_rule (c.in_ok-arg.ensures.shape (search rules) ∙ ap₂ with_rule c.new-2.ensures.app workers_is) c.flag-tree.ensures.rule in
    IfOk-weaker c.arg-3.result _ _ (λ command adds. adds.shape c.flag-text.ensures.local ∙ ap₂ with_rule first_two c.flag-text.ensures.rule) c.arg-3.ensures

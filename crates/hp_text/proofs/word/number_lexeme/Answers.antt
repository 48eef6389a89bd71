use Rattle.std.proofs.Common.{subst, Err}
use Rattle.std.specs.Str.Parse.{ParsesUnsigned}
use Rattle.hp_text.proofs.Numbers.{too_large, digits_are_names}
use Rattle.hp_text.proofs.word.number_lexeme.Goals as goal

pub name_of-requires : goal.name_of-requires
name_of-requires c = digits_are_names c.args.digits.now c.requires.digits

pub returns-in-Err-clause-value : goal.returns-in-Err-clause-value
returns-in-Err-clause-value c =
    let parses = subst (λ bs. ParsesUnsigned 64 10 bs (Err c.in-Err.field-0)) c.name_of.ensures c.in-Err.ensures.value.0 in
    too_large c.args.digits.now c.in-Err.field-0 c.args.more parses c.requires.digits c.requires.some

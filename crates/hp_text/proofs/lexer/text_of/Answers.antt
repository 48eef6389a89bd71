use Rattle.std.proofs.Common.{true, false, take, ap, ◌∙◌}
use Rattle.hp_model.specs.NotationTokens.{tokens_from}
use Rattle.hp_text.specs.Lexemes.{end_of}
use Rattle.hp_text.proofs.Lexing.{all_of_text, part_of_text}
use Rattle.hp_text.proofs.lexer.text_of.Goals as goal

pub returns-in-Ok : goal.returns-in-Ok
returns-in-Ok c = ap (tokens_from (end_of true) 0 0) c.in-Ok.ensures.cases.0 ∙ all_of_text c.args.bytes.now c.in-Ok.ensures.cases.1

pub returns-in-Err : goal.returns-in-Err
returns-in-Err c =
    ap (tokens_from (end_of false) 0 0) (c.text_up_to.ensures ∙ ap (λ n. take n c.args.bytes.now) (c.valid_up_to.ensures ∙ c.in-Err.ensures.valid_len))
    ∙ part_of_text c.args.bytes.now c.in-Err.ensures.cases.0

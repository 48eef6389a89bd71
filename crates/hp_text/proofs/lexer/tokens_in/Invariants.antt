use Rattle.std.proofs.Common.{◌≡◌, ◌-◌, ◌≤◌, length, drop}
use Rattle.hp_model.specs.NotationTokens.{tokens_from}
use Rattle.hp_text.specs.Mapped.{before}
use Rattle.hp_text.specs.Lexemes.{end_of}
use Rattle.hp_text.proofs.lexer.tokens_in.Given as goal

abbrev pub invariant-loop-at : goal.invariant-loop-at
invariant-loop-at l = record {
  so_far : tokens_from (end_of l.is_whole) 0 0 l.text ≡ before l.tokens.items (tokens_from (end_of l.is_whole) 0 l.at (drop l.at l.text));
  within : l.at ≤ length l.text;
}

abbrev pub decreases-loop-at : goal.decreases-loop-at
decreases-loop-at l = length l.text - l.at

use Rattle.std.proofs.Common.{◌≡◌, ◌-◌, map}
use Rattle.hp_model.specs.NotationTokens.{size, if_mark}
use Rattle.hp_model.specs.NotationPhrases.{is_mark, repeated}
use Rattle.hp_model.specs.NotationScripts.{condition}
use Rattle.hp_text.specs.Mapped.{node_view, tokens_view}
use Rattle.hp_text.proofs.Listing.{after}
use Rattle.hp_text.proofs.rule.conditions.Given as goal

abbrev pub invariant-loop-done : goal.invariant-loop-done
invariant-loop-done l =
    repeated (is_mark if_mark) (condition l.lets) (size (tokens_view l.initial.tokens)) (tokens_view l.initial.tokens)
    ≡ after (map node_view l.queries.items) (repeated (is_mark if_mark) (condition l.lets) (l.count - l.done) (tokens_view l.tokens))

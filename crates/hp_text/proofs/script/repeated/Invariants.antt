use Rattle.std.proofs.Common.{◌≡◌, ◌-◌, map}
use Rattle.hp_model.specs.NotationTokens.{size}
use Rattle.hp_model.specs.NotationPhrases.{repeated}
use Rattle.hp_text.specs.Mapped.{node_view, tokens_view}
use Rattle.hp_text.specs.Scripts.{begins_part, phrase_of}
use Rattle.hp_text.proofs.Listing.{after}
use Rattle.hp_text.proofs.script.repeated.Given as goal

abbrev pub invariant-loop-done : goal.invariant-loop-done
invariant-loop-done l =
    repeated (begins_part l.kind) (phrase_of l.kind) (size (tokens_view l.initial.tokens)) (tokens_view l.initial.tokens)
    ≡ after (map node_view l.parts.items) (repeated (begins_part l.kind) (phrase_of l.kind) (l.count - l.done) (tokens_view l.tokens))

use Rattle.std.proofs.Common.{◌≡◌, [], drop, map}
use Rattle.hp_model.specs.Parts.{read_from}
use Rattle.hp_model.specs.Decode.{rule_at}
use Rattle.hp_rule.specs.Mapped.{rule}
use Rattle.hp_rule.specs.Places.{steps}
use Rattle.hp_script.specs.Forms.{heads_view, scope_view, version_view}
use Rattle.hp_script.proofs.rule.rules_at.Given as goal

abbrev pub invariant-loop-i : goal.invariant-loop-i
invariant-loop-i l =
    read_from (λ _. rule_at (version_view l.scope.version) (scope_view l.scope)) (steps l.place) (map rule l.rules.items) l.i (heads_view (drop l.i l.heads))
    ≡ read_from (λ _. rule_at (version_view l.scope.version) (scope_view l.scope)) (steps l.place) [] 0 (heads_view l.heads)

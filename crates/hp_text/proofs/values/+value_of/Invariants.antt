use Rattle.std.proofs.Common.{◌≡◌, map}
use Rattle.serde_json.specs.View.{view}
use Rattle.hp_model.specs.NotationTree.{data_of}
use Rattle.hp_text.specs.Mapped.{node_view}
use Rattle.hp_text.proofs.values.+value_of.Given as goal

abbrev pub invariant-loop-node : goal.invariant-loop-node
invariant-loop-node l = map view l.values.items ≡ map (λ n. data_of (node_view n)) l.yielded

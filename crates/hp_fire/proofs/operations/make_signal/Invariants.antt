use Rattle.std.proofs.Common.{◌≡◌, drop, map}
use Rattle.hp_model.specs.Firing.{values_of}
use Rattle.hp_value.specs.Mapped.{environment, expression, value}
use Rattle.hp_fire.proofs.Making.{onto_values}
use Rattle.hp_fire.proofs.operations.make_signal.Given as goal

-- the values so far, and then those of the rest, are those of all
abbrev pub invariant-loop-argument : goal.invariant-loop-argument
invariant-loop-argument l =
    onto_values (map value l.args.items) (values_of (environment l.env) (map expression (drop l.argument-index l.arguments)))
    ≡ values_of (environment l.env) (map expression l.arguments)

-- What an opening of a guard stands for in the definitions.
use Rattle.hp_analysis.specs.Guards as G
use Rattle.hp_analysis.specs.declared.guards.Opening.{Opening}
use Rattle.hp_analysis.specs.declared.guards.Opening.TheVariants.{Condition, Action}

abbrev pub opening : Opening → G.Opening
opening Condition = G.by_condition
opening Action = G.by_action

-- What the steps to a value stand for in the model.
use Rattle.hp_model.specs.Refusals as R
use Rattle.hp_text.specs.declared.paths.Step.{Step}
use Rattle.hp_text.specs.declared.paths.Step.TheVariants.{Member, Item}

abbrev pub step_view : Step → R.Step
step_view (Member name) = R.to_member name.now
step_view (Item index) = R.to_item index

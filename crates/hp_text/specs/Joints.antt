-- What joins events.
use Rattle.std.specs.Prelude.{ℕ, List, codes}
use Rattle.hp_model.specs.NotationTokens as N
use Rattle.hp_model.specs.NotationPhrases.{Operator}
use Rattle.hp_model.specs.NotationEvents.{joint}
use Rattle.hp_text.specs.declared.event.Joint.{Joint}
use Rattle.hp_text.specs.declared.event.Joint.TheVariants.{Or, Then}

abbrev pub joint_mark : Joint → N.Mark
joint_mark Or = N.or_mark
joint_mark Then = N.then_mark

abbrev pub joint_tag : Joint → List ℕ
joint_tag Or = codes "or"
joint_tag Then = codes "seq"

abbrev pub joint_view : Joint → Operator
joint_view j = joint (joint_mark j) (joint_tag j)

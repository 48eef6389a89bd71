-- What the kinds of events stand for in the model.
use Rattle.std.specs.Prelude.{Bool}
use Rattle.hp_model.specs.NotationTokens.{Mark, or_mark, then_mark}
use Rattle.hp_model.specs.NotationForms as F
use Rattle.hp_model.specs.NotationPrint.{is_or, is_then}
use Rattle.hp_print.specs.declared.event.Change.{Change}
use Rattle.hp_print.specs.declared.event.Change.TheVariants as c
use Rattle.hp_print.specs.declared.event.Joint.{Joint}
use Rattle.hp_print.specs.declared.event.Joint.TheVariants.{Or, Then}

abbrev pub change_view : Change → F.Change
change_view c.Creation = F.creation
change_view c.Change = F.change
change_view c.Deletion = F.deletion

abbrev pub joint_mark : Joint → Mark
joint_mark Or = or_mark
joint_mark Then = then_mark

abbrev pub joint_view : Joint → (left right : F.Event) → F.Event
joint_view Or = F.or_event
joint_view Then = F.then_event

abbrev pub is_joint : Joint → F.Event → Bool
is_joint Or = is_or
is_joint Then = is_then

-- joined otherwise
abbrev pub other_joint : Joint → F.Event → Bool
other_joint Or = is_then
other_joint Then = is_or

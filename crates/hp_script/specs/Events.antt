-- The event of a change of an object.
use Rattle.std.specs.Prelude.{List}
use Rattle.serde_json.specs.Data.{Data}
use Rattle.hp_model.specs.Values.{Name}
use Rattle.hp_model.specs.Events.{Event}
use Rattle.hp_model.specs.Refusals.{Path, Decoded}
use Rattle.hp_model.specs.EventGrammar.{on_create_at, on_update_at, on_delete_at}
use Rattle.hp_script.specs.declared.event.Change.{Change}
use Rattle.hp_script.specs.declared.event.Change.TheVariants.{Create, Update, Delete}

abbrev pub on_change_at : Change → (classes : List Name) → Path → (class : Data) → Decoded Event
on_change_at Create classes path class = on_create_at classes path class
on_change_at Update classes path class = on_update_at classes path class
on_change_at Delete classes path class = on_delete_at classes path class

-- The form of a statement that sets the fields of an object.
use Rattle.serde_json.specs.Data.{Data}
use Rattle.hp_model.specs.StatementGrammar.{StatementForm, create_form, update_form}
use Rattle.hp_script.specs.declared.operation.Write.{Write}
use Rattle.hp_script.specs.declared.operation.Write.TheVariants.{Create, Update}

abbrev pub write_form : Write → (class key pairs : Data) → StatementForm
write_form Create class key pairs = create_form class key pairs
write_form Update class key pairs = update_form class key pairs

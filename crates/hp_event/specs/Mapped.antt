-- What the crate's types stand for in the model: a function for each.
use Rattle.std.specs.Prelude.{string_bytes}
use Rattle.hp_model.specs.Events as M
use Rattle.hp_event.specs.declared.pattern.Pattern.{Pattern}
use Rattle.hp_event.specs.declared.pattern.Pattern.TheVariants.{Create, Update, Delete, Signal, Commit, At, Every}

abbrev pub pattern : Pattern → M.Pattern
pattern (Create class) = M.on_create class
pattern (Update class) = M.on_update class
pattern (Delete class) = M.on_delete class
pattern (Signal name) = M.on_signal (string_bytes name)
pattern Commit = M.on_commit
pattern (At time) = M.at_moment time
pattern (Every first period) = M.every_moment first period

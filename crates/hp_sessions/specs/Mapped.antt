-- What the crate's types stand for in the model.
use Rattle.std.specs.Prelude.{List, map}
use Rattle.hp_model.specs.Sessions as S
use Rattle.hp_rule.specs.Mapped.{body}
use Rattle.hp_tree.specs.Mapped.{unit_report}
use Rattle.hp_sessions.specs.declared.entry.Entry.{Entry}

abbrev pub entry : Entry → S.Entry
entry e = record { session = e.session; body = body e.body; now = e.time; reply = unit_report e.reply.value }

abbrev pub history : List Entry → List S.Entry
history es = map entry es

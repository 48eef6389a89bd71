-- What the crate's types stand for in the model: a function for each.
use Rattle.std.specs.Prelude.{map}
use Rattle.hp_model.specs.Answers as A
use Rattle.hp_rule.specs.Mapped.{detached}
use Rattle.hp_tree.specs.Mapped.{ending, items_in, top_report}
use Rattle.hp_top.specs.declared.top.Top.{Top}
use Rattle.hp_top.specs.declared.generations.Generation.{Generation}

abbrev pub top_of : Top → A.TopAnswer
top_of t = record { ending = ending t.end; items = items_in t.tree.items; detached = map detached t.detached.items }

abbrev pub generation_of : Generation → A.GenerationAnswer
generation_of g = record { transactions = map top_report g.tops.items; detached = map detached g.detached.items }

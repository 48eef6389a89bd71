-- What the parts of rows, of objects and of lists stand for in the model.
use Rattle.std.specs.Prelude.{List, [], ◌∷◌, map, Option, Some, None}
use Rattle.std.specs.Global.{Vec}
use Rattle.hp_model.specs.NotationTree as T
use Rattle.hp_model.specs.NotationStatements as S
use Rattle.hp_text.specs.declared.node.Node.{Node}
use Rattle.hp_text.specs.declared.rows.RowParts.{RowParts}
use Rattle.hp_text.specs.Mapped.{node_view}

abbrev pub rows_view : RowParts → S.Rows
rows_view r = record { name = node_view r.name; class = node_view r.class; predicate = node_view r.predicate }

abbrev pub pair_view : Node × Node → T.Node × T.Node
pair_view p = (node_view p.0, node_view p.1)

abbrev pub nodes_view : Vec Node → T.Nodes
nodes_view v = T.nodes (map node_view v.items)

abbrev pub closed_view : Option Node → List T.Node
closed_view None = []
closed_view (Some n) = node_view n ∷ []

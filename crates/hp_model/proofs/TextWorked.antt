-- Scripts in the text notation by computation, from their bytes: reports, and refusals with their places.
use Rattle.std.proofs.Common.{◌≡◌, refl, List, ◌∷◌, [], codes, true, false}
use Rattle.hp_model.specs.Report.{Bytes}
use Rattle.hp_model.specs.TextScripts.{text_checked}
use Rattle.hp_model.specs.Output.{output}
use Rattle.hp_model.proofs.Scripts.{lines}
use Rattle.hp_model.proofs.Decoding.{script_on_literals}
use Rattle.hp_model.proofs.NotationWorked.{text_on_literals}

-- a text is refused with this line
abbrev pub RefusesText : (text line : Bytes) → Type 0
RefusesText text line = output text true false ≡ lines (line ∷ [])

-- a text is accepted, with this report
abbrev pub ReportsText : (text : Bytes) → List Bytes → Type 0
ReportsText text report = output text true false ≡ lines report

pub emits : ReportsText
    (codes "version 1\nclass item { stock: int }\ntransaction {\n  create item(7) set stock = 3\n  emit 1 + 2\n}\n")
    (codes "unit 1 committed" ∷ codes "emit 3" ∷ codes "final" ∷ codes "object item 7 stock=3" ∷ codes "end" ∷ [])
unfolding text_on_literals script_on_literals text_checked
emits = refl

-- a fault of the notation
pub misspelt : RefusesText (codes "version 1\nclas item { stock: int }\n") (codes "refused S1 2:1")
unfolding text_on_literals script_on_literals text_checked
misspelt = refl

-- no token begins with a byte order mark
pub byte_order_mark : RefusesText (239 ∷ 187 ∷ 191 ∷ codes "version 1\n") (codes "refused S1 1:1")
unfolding text_on_literals script_on_literals text_checked
byte_order_mark = refl

-- a refused value has its own place
pub unknown_class : RefusesText (codes "version 1\ntransaction {\n  delete nobody(1)\n}\n") (codes "refused S4 3:10")
unfolding text_on_literals script_on_literals text_checked
unknown_class = refl

-- a form has the place of its first token
pub veto_outside_a_rule : RefusesText (codes "version 1\ntransaction { emit 1; veto }\n") (codes "refused S2 2:23")
unfolding text_on_literals script_on_literals text_checked
veto_outside_a_rule = refl

-- a limit and the version have no place
pub depth_of_17 : RefusesText (codes "version 1 depth 17") (codes "refused S5 depth")
unfolding text_on_literals script_on_literals text_checked
depth_of_17 = refl

pub version_3 : RefusesText (codes "version 3") (codes "refused S6")
unfolding text_on_literals script_on_literals text_checked
version_3 = refl

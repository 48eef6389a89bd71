-- What is written for the bytes that were read.
use Rattle.std.specs.Prelude.{nat_lt, [], ◌++◌, length, codes, Option, Some, None, Result, Ok, Err, if◌then◌else◌}
use Rattle.serde_json.specs.Data.{Data}
use Rattle.serde_json.specs.Written.{compact_text}
use Rattle.hp_model.specs.Report.{Bytes}
use Rattle.hp_model.specs.Refusals.{unreadable, wrong_shape, over_limit, size_limit, Decoded}
use Rattle.hp_model.specs.Cascade as C
use Rattle.hp_model.specs.Json.{json_of}
use Rattle.hp_model.specs.Decode.{decode}
use Rattle.hp_model.specs.Output.{refusal_text, placed_refusal_text}
use Rattle.hp_model.specs.NotationTree as T
use Rattle.hp_model.specs.NotationTree.{data_of}
use Rattle.hp_model.specs.NotationPlaces.{Place, read_text}
use Rattle.hp_model.specs.NotationValues.{print_value}
use Rattle.hipac_text.specs.declared.words.Task.{Task}
use Rattle.hipac_text.specs.declared.words.Task.TheVariants.{Read, Print}

-- ---- a script's JSON

-- what stands before a value, and the value without spaces
abbrev pub member_text : (before : Bytes) → T.Node → Bytes
member_text before n = before ++ compact_text (data_of n)

abbrev pub depth_text : Option T.Node → Bytes
depth_text None = []
depth_text (Some n) = member_text (codes ",\"depth\":") n

-- the members in the order of the grammar, on one line
abbrev pub json_text : T.Script → Bytes
json_text s =
    member_text (codes "{\"version\":") s.version ++ (depth_text s.depth
    ++ (member_text (codes ",\"classes\":") s.classes ++ (member_text (codes ",\"rules\":") s.rules
    ++ (member_text (codes ",\"items\":") s.items ++ codes "}\n"))))

abbrev pub read_answer : Result T.Script Place → Bytes
read_answer (Ok s) = json_text s
read_answer (Err p) = placed_refusal_text (record { refusal = unreadable; place = Some p })

-- ---- a script's text

-- a value without a text is refused as a script is
abbrev pub refused_value : Decoded C.Script → Bytes
refused_value (Err r) = refusal_text r
refused_value (Ok script) = refusal_text (wrong_shape [])

abbrev pub print_answer : Option Data → Bytes
print_answer None = refusal_text unreadable
print_answer (Some d) = elim (print_value d) [ Some text ↦ text | None ↦ refused_value (decode d) ]

-- ---- the output

abbrev pub answer : Task → Bytes → Bytes
answer Read bytes = read_answer (read_text bytes)
answer Print bytes = print_answer (json_of bytes)

-- what is written for these bytes; more than a script may have are refused
abbrev pub output : Task → Bytes → Bytes
output task bytes = if nat_lt 1048576 (length bytes) then refusal_text (over_limit size_limit) else answer task bytes

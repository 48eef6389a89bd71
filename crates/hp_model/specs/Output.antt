-- The output for an input.
use Rattle.std.specs.Prelude.{Bool, true, false, List, [], ◌∷◌, ◌++◌, flat_map, Option, Some, None, Result, Ok, Err, codes, decimal}
use Rattle.hp_model.specs.Cascade.{Script, evaluate}
use Rattle.hp_model.specs.Report.{Bytes, line, report_text}
use Rattle.hp_model.specs.Refusals.{Step, to_member, to_item, Path, Limit, size_limit, classes_limit, fields_limit, rules_limit, expression_limit, event_limit, nesting_limit}
use Rattle.hp_model.specs.Refusals.{text_limit, depth_limit_word, arguments_limit, moments_limit, Refusal, unreadable, wrong_shape, bad_number, bad_name, over_limit}
use Rattle.hp_model.specs.Refusals.{unknown_version}
use Rattle.hp_model.specs.Decode.{script_of}
use Rattle.hp_model.specs.NotationPlaces.{Place}
use Rattle.hp_model.specs.TextScripts.{PlacedRefusal, script_of_text}

abbrev pub limit_word : Limit → Bytes
limit_word size_limit = codes "size"
limit_word classes_limit = codes "classes"
limit_word fields_limit = codes "fields"
limit_word rules_limit = codes "rules"
limit_word expression_limit = codes "expr"
limit_word event_limit = codes "event"
limit_word nesting_limit = codes "nesting"
limit_word text_limit = codes "text"
limit_word depth_limit_word = codes "depth"
limit_word arguments_limit = codes "args"
limit_word moments_limit = codes "moments"

abbrev pub step_text : Step → Bytes
step_text (to_member name) = name
step_text (to_item i) = decimal i

-- a slash before each step; the root is a slash
abbrev pub path_text : Path → Bytes
path_text [] = codes "/"
path_text (s ∷ path) = flat_map (λ step. 47 ∷ step_text step) (s ∷ path)

abbrev pub refusal_words : Refusal → List Bytes
refusal_words unreadable = codes "S1" ∷ []
refusal_words (wrong_shape path) = codes "S2" ∷ path_text path ∷ []
refusal_words (bad_number path) = codes "S3" ∷ path_text path ∷ []
refusal_words (bad_name path) = codes "S4" ∷ path_text path ∷ []
refusal_words (over_limit limit) = codes "S5" ∷ limit_word limit ∷ []
refusal_words unknown_version = codes "S6" ∷ []

abbrev pub refusal_text : Refusal → Bytes
refusal_text r = line 0 (codes "refused" ∷ refusal_words r)

abbrev pub text_of : (with_tree : Bool) → Result Script Refusal → Bytes
text_of with_tree (Err r) = refusal_text r
text_of with_tree (Ok script) = report_text script.library with_tree (evaluate script)

-- ---- scripts in the text notation

-- a line and a column, from 1
abbrev pub place_text : Place → Bytes
place_text p = decimal p.line ++ 58 ∷ decimal p.column

abbrev pub place_words : Option Place → List Bytes
place_words None = []
place_words (Some p) = place_text p ∷ []

-- a refusal's words without its path
abbrev pub reason_words : Refusal → List Bytes
reason_words unreadable = codes "S1" ∷ []
reason_words (wrong_shape path) = codes "S2" ∷ []
reason_words (bad_number path) = codes "S3" ∷ []
reason_words (bad_name path) = codes "S4" ∷ []
reason_words (over_limit limit) = codes "S5" ∷ limit_word limit ∷ []
reason_words unknown_version = codes "S6" ∷ []

-- the place stands where JSON has the path
abbrev pub placed_refusal_text : PlacedRefusal → Bytes
placed_refusal_text r = line 0 (codes "refused" ∷ (reason_words r.refusal ++ place_words r.place))

abbrev pub text_of_notation : (with_tree : Bool) → Result Script PlacedRefusal → Bytes
text_of_notation with_tree (Err r) = placed_refusal_text r
text_of_notation with_tree (Ok script) = text_of with_tree (Ok script)

-- ---- the output

-- the report of the script in these bytes, or the refusal's line. The bytes are JSON, or a text in the notation
abbrev pub output : Bytes → (is_text with_tree : Bool) → Bytes
output bytes false with_tree = text_of with_tree (script_of bytes)
output bytes true with_tree = text_of_notation with_tree (script_of_text bytes)

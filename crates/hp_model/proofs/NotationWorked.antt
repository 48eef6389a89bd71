-- Texts read by computation: what they mean in JSON, and the places of faults.
use Rattle.std.proofs.Common.{◌≡◌, refl, ℕ, [], ◌∷◌, ◌++◌, codes, Option, Some, None, Result, Ok, Err}
use Rattle.std.specs.Prelude.{⊤, option_and_then}
use Rattle.std.specs.Fmt.{digits}
use Rattle.std.specs.Str.{chars, is_utf8}
use Rattle.std.specs.Str.Lossy.{utf8_valid_len}
use Rattle.std.specs.Char.{encode_utf8}
use Rattle.json.specs.Text.{code_unit, short_escape}
use Rattle.serde_json.specs.Data.{Data}
use Rattle.serde_json.proofs.OnLiterals.{serde_json_on_literals}
use Rattle.hp_model.specs.Report.{Bytes}
use Rattle.hp_model.specs.Json.{json_of}
use Rattle.hp_model.specs.NotationTokens.{reserved_word, content, lexeme, tokens_from, tokens}
use Rattle.hp_model.specs.NotationTree.{Script, script_data}
use Rattle.hp_model.specs.NotationPhrases.{chain_from}
use Rattle.hp_model.specs.NotationExpressions.{product, sum, comparison, negation, conjunction, expression, expressions_within}
use Rattle.hp_model.specs.NotationEvents.{event, event_within}
use Rattle.hp_model.specs.NotationStatements.{aggregate, statement, body, bodies_within}
use Rattle.hp_model.specs.NotationScripts.{class, condition, rule, item, script, line, read_script, read_line}
use Rattle.hp_model.specs.NotationPrint.{print_script, print_item, text_of}
use Rattle.hp_model.specs.NotationValues.{expression_of, event_of, body_of, item_form, script_form, print_value, print_item_value}
use Rattle.hp_model.specs.NotationPlaces.{place_of, read_text}

-- what a proof unfolds to read a text by computation
unfoldable pub text_on_literals : ⊤
unfolding digits chars is_utf8 utf8_valid_len encode_utf8 code_unit short_escape serde_json_on_literals
    reserved_word content lexeme tokens_from tokens chain_from product sum comparison negation conjunction expression expressions_within
    event event_within aggregate statement body bodies_within class condition rule item script line read_script read_line place_of
text_on_literals = tt

abbrev meaning : Result Script ℕ → Option Data
meaning (Ok s) = Some (script_data s)
meaning (Err at) = None

-- the text means what the JSON does
abbrev pub Means : (text json : Bytes) → Type 0
Means text json = meaning (read_script text) ≡ json_of json

-- the first fault of the text is at this line and column
abbrev pub IsFaultyAt : (text : Bytes) → (line column : ℕ) → Type 0
IsFaultyAt text line column = read_text text ≡ Err (record { line = line; column = column })

-- and to print a value
unfoldable pub value_on_literals : ⊤
unfolding text_of print_script print_item expression_of event_of body_of item_form script_form
value_on_literals = tt

-- the canonical text of this script in JSON
abbrev pub Prints : (json text : Bytes) → Type 0
Prints json text = option_and_then print_value (json_of json) ≡ Some text

-- ---- whole scripts

pub only_version : Means
    (codes "version 1\n")
    (codes "{\"version\":1,\"classes\":[],\"rules\":[],\"items\":[]}")
unfolding text_on_literals
only_version = refl

pub with_depth : Means
    (codes "version 2 depth 8 # the limit of firings\n")
    (codes "{\"version\":2,\"depth\":8,\"classes\":[],\"rules\":[],\"items\":[]}")
unfolding text_on_literals
with_depth = refl

pub no_oversell : Means
    (codes "version 1\nclass product { stock: int }\nrule no_oversell on update product deferred\n  if some product p where p.key = event.key and p.stock < 0\n  do { veto }\n")
    (codes "{\"version\":1,\"classes\":[[\"product\",[[\"stock\",\"int\"]]]],\"rules\":[[\"no_oversell\",[\"update\",\"product\"],\"deferred\",[[\"p\",\"product\",[\"and\",[\"=\",[\"key\",\"p\"],[\"id\",0]],[\"<\",[\"of\",\"p\",\"stock\"],0]]]],\"immediate\",[[\"veto\"]]]],\"items\":[]}")
unfolding text_on_literals
no_oversell = refl

-- a script with all parts of a rule
pub shop : Means
    (codes "version 1\n\nclass product { stock: int, low: int, awaited: bool }\nclass order { product: int, count: int }\n\nrule take on create order\n  do {\n    with product(new.product) as p {\n      update product(p.key) set stock = p.stock - new.count\n    }\n  }\n\nrule no_oversell on update product deferred\n  if some product p where p.key = event.key and p.stock < 0\n  do {\n    veto\n  }\n\nrule reorder on update product dependent\n  if some product p where p.key = event.key and p.stock < p.low and not p.awaited\n  do {\n    update product(p.key) set awaited = true\n    signal reorder(p.key)\n  }\n\nrule matched on signal paid then signal packed deferred\n  if some order o where o.key = event.arg(0) and o.key = event[1].arg(0)\n  do separate {\n    emit o.key\n  }\n\nrule day on closure(create order until every 1440 from 1440)\n  do {\n    emit event.count\n  }\n\ntransaction {\n  install take\n  install no_oversell\n  create product(7) set stock = 5, low = 2, awaited = false\n}\n\nclock 1440\n")
    (codes "{\"version\":1,\"classes\":[[\"product\",[[\"stock\",\"int\"],[\"low\",\"int\"],[\"awaited\",\"bool\"]]],[\"order\",[[\"product\",\"int\"],[\"count\",\"int\"]]]],\"rules\":[[\"take\",[\"create\",\"order\"],\"immediate\",[],\"immediate\",[[\"with\",\"p\",\"product\",[\"new\",0,\"product\"],[[\"update\",\"product\",[\"key\",\"p\"],[[\"stock\",[\"-\",[\"of\",\"p\",\"stock\"],[\"new\",0,\"count\"]]]]]]]]],[\"no_oversell\",[\"update\",\"product\"],\"deferred\",[[\"p\",\"product\",[\"and\",[\"=\",[\"key\",\"p\"],[\"id\",0]],[\"<\",[\"of\",\"p\",\"stock\"],0]]]],\"immediate\",[[\"veto\"]]],[\"reorder\",[\"update\",\"product\"],\"dependent\",[[\"p\",\"product\",[\"and\",[\"=\",[\"key\",\"p\"],[\"id\",0]],[\"and\",[\"<\",[\"of\",\"p\",\"stock\"],[\"of\",\"p\",\"low\"]],[\"not\",[\"of\",\"p\",\"awaited\"]]]]]],\"immediate\",[[\"update\",\"product\",[\"key\",\"p\"],[[\"awaited\",true]]],[\"signal\",\"reorder\",[[\"key\",\"p\"]]]]],[\"matched\",[\"seq\",[\"signal\",\"paid\"],[\"signal\",\"packed\"]],\"deferred\",[[\"o\",\"order\",[\"and\",[\"=\",[\"key\",\"o\"],[\"arg\",0,0]],[\"=\",[\"key\",\"o\"],[\"arg\",1,0]]]]],\"separate\",[[\"emit\",[\"key\",\"o\"]]]],[\"day\",[\"closure\",[\"create\",\"order\"],[\"every\",1440,1440]],\"immediate\",[],\"immediate\",[[\"emit\",[\"count\"]]]]],\"items\":[[\"tx\",[[\"install\",\"take\"],[\"install\",\"no_oversell\"],[\"create\",\"product\",7,[[\"stock\",5],[\"low\",2],[\"awaited\",false]]]]],[\"clock\",1440]]}")
unfolding text_on_literals
shop = refl

-- the forms of version 4
pub shop_of_version_4 : Means
    (codes "version 4\n\nclass product { stock: int, price: int }\nclass order { product: int, count: int, due: int }\n\nrule known closed on create order\n  if no product p where p.key = new.product\n  do {\n    veto \"there is no such product\"\n  }\n\nrule no_oversell closed on update product deferred\n  if some product p where p.key = event.key and p.stock < 0\n  do {\n    veto p.stock\n  }\n\nrule late on every 60 from 60\n  if let n = count order o where o.due <= now\n  if let worth = sum o.count over order o where o.due <= now\n  do {\n    if n > 0 {\n      emit n\n      emit worth\n    }\n  }\n\ntransaction {\n  create product(7) set stock = 5, price = 30\n  let k = next order {\n    create order(k) set product = 7, count = 2, due = now + 1440\n    emit k\n  }\n}\n")
    (codes "{\"version\":4,\"classes\":[[\"product\",[[\"stock\",\"int\"],[\"price\",\"int\"]]],[\"order\",[[\"product\",\"int\"],[\"count\",\"int\"],[\"due\",\"int\"]]]],\"rules\":[[\"known\",[\"create\",\"order\"],\"immediate\",[[\"no\",\"p\",\"product\",[\"=\",[\"key\",\"p\"],[\"new\",0,\"product\"]]]],\"immediate\",[[\"veto\",\"there is no such product\"]],\"closed\"],[\"no_oversell\",[\"update\",\"product\"],\"deferred\",[[\"p\",\"product\",[\"and\",[\"=\",[\"key\",\"p\"],[\"id\",0]],[\"<\",[\"of\",\"p\",\"stock\"],0]]]],\"immediate\",[[\"veto\",[\"of\",\"p\",\"stock\"]]],\"closed\"],[\"late\",[\"every\",60,60],\"immediate\",[[\"let\",\"n\",[\"count\",\"o\",\"order\",[\"<=\",[\"of\",\"o\",\"due\"],[\"now\"]]]],[\"let\",\"worth\",[\"sum\",\"o\",\"order\",[\"<=\",[\"of\",\"o\",\"due\"],[\"now\"]],[\"of\",\"o\",\"count\"]]]],\"immediate\",[[\"if\",[\">\",[\"value\",\"n\"],0],[[\"emit\",[\"value\",\"n\"]],[\"emit\",[\"value\",\"worth\"]]],[]]]]],\"items\":[[\"tx\",[[\"create\",\"product\",7,[[\"stock\",5],[\"price\",30]]],[\"let\",\"k\",[\"next\",\"order\"],[[\"create\",\"order\",[\"value\",\"k\"],[[\"product\",7],[\"count\",2],[\"due\",[\"+\",[\"now\"],1440]]]],[\"emit\",[\"value\",\"k\"]]]]]]]}")
unfolding text_on_literals
shop_of_version_4 = refl

-- ---- expressions

-- `or` and `and` group to the right, sums and products to the left; `not` binds more loosely than relations
pub operators : Means
    (codes "version 1\ntransaction {\n  emit a.x or b.x or not c.x = 1 and d.x and 1 - 2 - 3 * 4 / 5 < 6\n}\n")
    (codes "{\"version\":1,\"classes\":[],\"rules\":[],\"items\":[[\"tx\",[[\"emit\",[\"or\",[\"of\",\"a\",\"x\"],[\"or\",[\"of\",\"b\",\"x\"],[\"and\",[\"not\",[\"=\",[\"of\",\"c\",\"x\"],1]],[\"and\",[\"of\",\"d\",\"x\"],[\"<\",[\"-\",[\"-\",1,2],[\"/\",[\"*\",3,4],5]],6]]]]]]]]]}")
unfolding text_on_literals
operators = refl

-- `-` and a number are a negative number, and in parentheses they aren't
pub minus : Means
    (codes "version 1\ntransaction {\n  emit -5 emit -(5) emit 3-5 emit 3 -5 emit -a.x emit -9223372036854775808\n}\n")
    (codes "{\"version\":1,\"classes\":[],\"rules\":[],\"items\":[[\"tx\",[[\"emit\",-5],[\"emit\",[\"neg\",5]],[\"emit\",[\"-\",3,5]],[\"emit\",[\"-\",3,5]],[\"emit\",[\"neg\",[\"of\",\"a\",\"x\"]]],[\"emit\",-9223372036854775808]]]]}")
unfolding text_on_literals
minus = refl

pub parts_of_the_event : Means
    (codes "version 1\ntransaction {\n  emit new.x = old[1].y emit event.key emit event[2].time emit event.arg(3) emit event[1].arg(0) emit event.count\n}\n")
    (codes "{\"version\":1,\"classes\":[],\"rules\":[],\"items\":[[\"tx\",[[\"emit\",[\"=\",[\"new\",0,\"x\"],[\"old\",1,\"y\"]]],[\"emit\",[\"id\",0]],[\"emit\",[\"time\",2]],[\"emit\",[\"arg\",0,3]],[\"emit\",[\"arg\",1,0]],[\"emit\",[\"count\"]]]]]}")
unfolding text_on_literals
parts_of_the_event = refl

-- free words are names, and reserved words in backquotes
pub names : Means
    (codes "version 1\ntransaction {\n  emit count.sum = `on`.`key` emit now emit `now` emit now.x emit next\n}\n")
    (codes "{\"version\":1,\"classes\":[],\"rules\":[],\"items\":[[\"tx\",[[\"emit\",[\"=\",[\"of\",\"count\",\"sum\"],[\"of\",\"on\",\"key\"]]],[\"emit\",[\"now\"]],[\"emit\",[\"value\",\"now\"]],[\"emit\",[\"of\",\"now\",\"x\"]],[\"emit\",[\"value\",\"next\"]]]]]}")
unfolding text_on_literals
names = refl

-- escapes, a surrogate pair, and characters of several bytes
pub texts : Means
    (codes "version 1\ntransaction {\n  emit \"a\\\"\\\\\\/\\b\\f\\n\\r\\t\\u0041\\ud83d\\ude00" ++ ((195 ∷ []) ++ ((169 ∷ []) ++ (codes "\"\n}\n"))))
    (codes "{\"version\":1,\"classes\":[],\"rules\":[],\"items\":[[\"tx\",[[\"emit\",\"a\\\"\\\\/\\b\\f\\n\\r\\tA"
    ++ ((240 ∷ []) ++ ((159 ∷ []) ++ ((152 ∷ []) ++ ((128 ∷ []) ++ ((195 ∷ []) ++ ((169 ∷ []) ++ (codes "\"]]]]}"))))))))
unfolding text_on_literals
texts = refl

-- ---- events and statements

pub events : Means
    (codes "version 1 rule r on create a or update b or (delete c then signal d then commit) do {} rule q on closure(moment 3 until every 60 from 0) exclusive do dependent {}")
    (codes "{\"version\":1,\"classes\":[],\"rules\":[[\"r\",[\"or\",[\"or\",[\"create\",\"a\"],[\"update\",\"b\"]],[\"seq\",[\"seq\",[\"delete\",\"c\"],[\"signal\",\"d\"]],[\"commit\"]]],\"immediate\",[],\"immediate\",[]],[\"q\",[\"closure\",[\"at\",3],[\"every\",0,60]],\"exclusive\",[],\"dependent\",[]]],\"items\":[]}")
unfolding text_on_literals
events = refl

-- `;` may stand after a statement, and `else if` is an `else` with an `if`
pub statements : Means
    (codes "version 1\ntransaction {\n  create c(1) set a = 1, b = (x.y = 2); update c(2) delete c(3) signal s signal t() signal u(1, 2) if true {} else if false { abort } else { veto } each c x {} for q { } with c(1) as y { sub { } otherwise { fire r } }\n}\n")
    (codes "{\"version\":1,\"classes\":[],\"rules\":[],\"items\":[[\"tx\",[[\"create\",\"c\",1,[[\"a\",1],[\"b\",[\"=\",[\"of\",\"x\",\"y\"],2]]]],[\"update\",\"c\",2,[]],[\"delete\",\"c\",3],[\"signal\",\"s\",[]],[\"signal\",\"t\",[]],[\"signal\",\"u\",[1,2]],[\"if\",true,[],[[\"if\",false,[[\"abort\"]],[[\"veto\"]]]]],[\"each\",\"x\",\"c\",true,[]],[\"for\",\"q\",[]],[\"with\",\"y\",\"c\",1,[[\"sub\",[],[[\"fire\",\"r\"]]]]]]]]}")
unfolding text_on_literals
statements = refl

-- after `veto` the word `let` begins the next statement
pub messages_and_values : Means
    (codes "version 4 transaction { veto let n = 3 {} veto `let` veto \"no\" veto (let) let m = (sum + 1) {} let k = least o.x over order o {} }")
    (codes "{\"version\":4,\"classes\":[],\"rules\":[],\"items\":[[\"tx\",[[\"veto\"],[\"let\",\"n\",3,[]],[\"veto\",[\"value\",\"let\"]],[\"veto\",\"no\"],[\"veto\",[\"value\",\"let\"]],[\"let\",\"m\",[\"+\",[\"value\",\"sum\"],1],[]],[\"let\",\"k\",[\"least\",\"o\",\"order\",true,[\"of\",\"o\",\"x\"]],[]]]]]}")
unfolding text_on_literals
messages_and_values = refl

-- ---- faults

pub empty : IsFaultyAt [] 1 1
unfolding text_on_literals
empty = refl

pub json : IsFaultyAt (codes "{\"version\": 1}") 1 1
unfolding text_on_literals
json = refl

pub missing_name : IsFaultyAt (codes "version 1\nclass { a: int }") 2 7
unfolding text_on_literals
missing_name = refl

pub events_mixed : IsFaultyAt (codes "version 1\nrule r on create a or create b then create c do {}") 2 32
unfolding text_on_literals
events_mixed = refl

-- comparisons don't chain
pub operator_chain : IsFaultyAt (codes "version 1\ntransaction {\n  emit 1 < 2 < 3\n}") 3 14
unfolding text_on_literals
operator_chain = refl

-- a value of `set` is a sum
pub value_of_set : IsFaultyAt (codes "version 1\ntransaction {\n  update c(1) set a = b.x = 1\n}") 3 27
unfolding text_on_literals
value_of_set = refl

-- a tab is one column
pub tabs : IsFaultyAt (codes "version 1\ntransaction {\n  " ++ ((9 ∷ []) ++ (codes "emit" ++ ((9 ∷ []) ++ (codes "1" ++ ((9 ∷ []) ++ (codes "2\n}"))))))) 3 11
unfolding text_on_literals
tabs = refl

-- the end of a line may be CR and LF
pub line_ends : IsFaultyAt (codes "version 1" ++ ((13 ∷ []) ++ (codes "\ntransaction {" ++ ((13 ∷ []) ++ (codes "\n  emit emit" ++ ((13 ∷ []) ++ (codes "\n}"))))))) 3 8
unfolding text_on_literals
line_ends = refl

-- a column is a character, and not a byte
pub after_wide_characters : IsFaultyAt (codes "version 1\ntransaction {\n  emit \""
    ++ ((195 ∷ []) ++ ((169 ∷ []) ++ ((226 ∷ []) ++ ((130 ∷ []) ++ ((172 ∷ []) ++ ((240 ∷ []) ++ ((159 ∷ []) ++ ((152 ∷ []) ++ ((128 ∷ []) ++ (codes "\" 1\n}"))))))))))) 3 14
unfolding text_on_literals
after_wide_characters = refl

pub byte_order_mark : IsFaultyAt ((239 ∷ []) ++ ((187 ∷ []) ++ ((191 ∷ []) ++ (codes "version 1\n")))) 1 1
unfolding text_on_literals
byte_order_mark = refl

pub nul : IsFaultyAt (codes "version 1\n" ++ ((0 ∷ []))) 2 1
unfolding text_on_literals
nul = refl

pub half_a_pair : IsFaultyAt (codes "version 1\ntransaction {\n  emit \"a\\ud800b\"\n}") 3 10
unfolding text_on_literals
half_a_pair = refl

pub control_character : IsFaultyAt (codes "version 1\ntransaction {\n  emit \"" ++ ((195 ∷ []) ++ ((169 ∷ []) ++ ((9 ∷ []) ++ (codes "b\"\n}"))))) 3 10
unfolding text_on_literals
control_character = refl

pub unclosed : IsFaultyAt (codes "version 1\ntransaction {\n  emit \"open") 3 13
unfolding text_on_literals
unclosed = refl

pub too_large : IsFaultyAt (codes "version 1\ntransaction {\n  emit 9223372036854775808\n}") 3 8
unfolding text_on_literals
too_large = refl

pub leading_zero : IsFaultyAt (codes "version 1\ntransaction {\n  emit 007\n}") 3 8
unfolding text_on_literals
leading_zero = refl

pub long_name : IsFaultyAt (codes "version 1\ntransaction {\n  emit nnnnnnnnnnnnnnnnnnnnnnnnnnnnnnnnn\n}") 3 8
unfolding text_on_literals
long_name = refl

pub let_before_version_4 : IsFaultyAt (codes "version 2\nrule r on update item\n  if let n = 3 do {}") 3 6
unfolding text_on_literals
let_before_version_4 = refl

pub row_called_let : IsFaultyAt (codes "version 4\nrule r on update item\n  if some item let do {}") 3 16
unfolding text_on_literals
row_called_let = refl

-- the fault stands where the bytes stop being UTF-8
pub not_utf8 : IsFaultyAt (codes "version 1\n" ++ ((255 ∷ []))) 2 1
unfolding text_on_literals
not_utf8 = refl

-- a fault of phrases before that comes first
pub not_utf8_later : IsFaultyAt (codes "version 1 1\n" ++ ((255 ∷ []))) 1 11
unfolding text_on_literals
not_utf8_later = refl

-- a chain has at most 64 operators
pub too_many_operators : IsFaultyAt
    (codes "version 1\ntransaction {\n  emit 1+1+1+1+1+1+1+1+1+1+1+1+1+1+1+1+1+1+1+1+1+1+1+1+1+1+1+1+1+1+1+1+1+1+1+1+1+1+1+1+1+1+1+1+1+1+1+1+1+1+1+1+1+1+1+1+1+1+1+1+1+1+1+1+1+1\n}") 3 137
unfolding text_on_literals
too_many_operators = refl

-- expressions nest at most 64 deep, and this is the 65th
pub parentheses_too_deep : IsFaultyAt
    (codes "version 1\ntransaction {\n  emit ((((((((((((((((((((((((((((((((((((((((((((((((((((((((((((((((1))))))))))))))))))))))))))))))))))))))))))))))))))))))))))))))))\n}") 3 72
unfolding text_on_literals
parentheses_too_deep = refl

-- the first token of a body that nests too deep is its brace
pub bodies_too_deep : IsFaultyAt
    (codes "version 1\ntransaction { sub { sub { sub { sub { sub { sub { sub { sub { sub { sub { sub { sub { sub { sub { sub { sub { sub { sub { sub { sub { sub { sub { sub { sub { sub { sub { sub { sub { sub { sub { sub { sub { sub { sub { sub { sub { sub { sub { sub { sub { sub { sub { sub { sub { sub { sub { sub { sub { sub { sub { sub { sub { sub { sub { sub { sub { sub { sub { sub { sub { sub { sub { sub { sub { } } } } } } } } } } } } } } } } } } } } } } } } } } } } } } } } } } } } } } } } } } } } } } } } } } } } } } } } } } } } } } } } }") 2 397
unfolding text_on_literals
bodies_too_deep = refl

-- ---- canonical texts

pub shop_printed : Prints
    (codes "{\"version\":1,\"classes\":[[\"product\",[[\"stock\",\"int\"],[\"low\",\"int\"],[\"awaited\",\"bool\"]]],[\"order\",[[\"product\",\"int\"],[\"count\",\"int\"]]]],\"rules\":[[\"take\",[\"create\",\"order\"],\"immediate\",[],\"immediate\",[[\"with\",\"p\",\"product\",[\"new\",0,\"product\"],[[\"update\",\"product\",[\"key\",\"p\"],[[\"stock\",[\"-\",[\"of\",\"p\",\"stock\"],[\"new\",0,\"count\"]]]]]]]]],[\"no_oversell\",[\"update\",\"product\"],\"deferred\",[[\"p\",\"product\",[\"and\",[\"=\",[\"key\",\"p\"],[\"id\",0]],[\"<\",[\"of\",\"p\",\"stock\"],0]]]],\"immediate\",[[\"veto\"]]],[\"reorder\",[\"update\",\"product\"],\"dependent\",[[\"p\",\"product\",[\"and\",[\"=\",[\"key\",\"p\"],[\"id\",0]],[\"and\",[\"<\",[\"of\",\"p\",\"stock\"],[\"of\",\"p\",\"low\"]],[\"not\",[\"of\",\"p\",\"awaited\"]]]]]],\"immediate\",[[\"update\",\"product\",[\"key\",\"p\"],[[\"awaited\",true]]],[\"signal\",\"reorder\",[[\"key\",\"p\"]]]]],[\"matched\",[\"seq\",[\"signal\",\"paid\"],[\"signal\",\"packed\"]],\"deferred\",[[\"o\",\"order\",[\"and\",[\"=\",[\"key\",\"o\"],[\"arg\",0,0]],[\"=\",[\"key\",\"o\"],[\"arg\",1,0]]]]],\"separate\",[[\"emit\",[\"key\",\"o\"]]]],[\"day\",[\"closure\",[\"create\",\"order\"],[\"every\",1440,1440]],\"immediate\",[],\"immediate\",[[\"emit\",[\"count\"]]]]],\"items\":[[\"tx\",[[\"install\",\"take\"],[\"install\",\"no_oversell\"],[\"create\",\"product\",7,[[\"stock\",5],[\"low\",2],[\"awaited\",false]]]]],[\"clock\",1440]]}")
    (codes "version 1\n\nclass product { stock: int, low: int, awaited: bool }\nclass order { product: int, count: int }\n\nrule take on create order\n  do {\n    with product(new.product) as p {\n      update product(p.key) set stock = p.stock - new.count\n    }\n  }\n\nrule no_oversell on update product deferred\n  if some product p where p.key = event.key and p.stock < 0\n  do {\n    veto\n  }\n\nrule reorder on update product dependent\n  if some product p where p.key = event.key and p.stock < p.low and not p.awaited\n  do {\n    update product(p.key) set awaited = true\n    signal reorder(p.key)\n  }\n\nrule matched on signal paid then signal packed deferred\n  if some order o where o.key = event.arg(0) and o.key = event[1].arg(0)\n  do separate {\n    emit o.key\n  }\n\nrule day on closure(create order until every 1440 from 1440)\n  do {\n    emit event.count\n  }\n\ntransaction {\n  install take\n  install no_oversell\n  create product(7) set stock = 5, low = 2, awaited = false\n}\n\nclock 1440\n")
unfolding text_on_literals value_on_literals
shop_printed = refl

pub shop_of_version_4_printed : Prints
    (codes "{\"version\":4,\"classes\":[[\"product\",[[\"stock\",\"int\"],[\"price\",\"int\"]]],[\"order\",[[\"product\",\"int\"],[\"count\",\"int\"],[\"due\",\"int\"]]]],\"rules\":[[\"known\",[\"create\",\"order\"],\"immediate\",[[\"no\",\"p\",\"product\",[\"=\",[\"key\",\"p\"],[\"new\",0,\"product\"]]]],\"immediate\",[[\"veto\",\"there is no such product\"]],\"closed\"],[\"no_oversell\",[\"update\",\"product\"],\"deferred\",[[\"p\",\"product\",[\"and\",[\"=\",[\"key\",\"p\"],[\"id\",0]],[\"<\",[\"of\",\"p\",\"stock\"],0]]]],\"immediate\",[[\"veto\",[\"of\",\"p\",\"stock\"]]],\"closed\"],[\"late\",[\"every\",60,60],\"immediate\",[[\"let\",\"n\",[\"count\",\"o\",\"order\",[\"<=\",[\"of\",\"o\",\"due\"],[\"now\"]]]],[\"let\",\"worth\",[\"sum\",\"o\",\"order\",[\"<=\",[\"of\",\"o\",\"due\"],[\"now\"]],[\"of\",\"o\",\"count\"]]]],\"immediate\",[[\"if\",[\">\",[\"value\",\"n\"],0],[[\"emit\",[\"value\",\"n\"]],[\"emit\",[\"value\",\"worth\"]]],[]]]]],\"items\":[[\"tx\",[[\"create\",\"product\",7,[[\"stock\",5],[\"price\",30]]],[\"let\",\"k\",[\"next\",\"order\"],[[\"create\",\"order\",[\"value\",\"k\"],[[\"product\",7],[\"count\",2],[\"due\",[\"+\",[\"now\"],1440]]]],[\"emit\",[\"value\",\"k\"]]]]]]]}")
    (codes "version 4\n\nclass product { stock: int, price: int }\nclass order { product: int, count: int, due: int }\n\nrule known closed on create order\n  if no product p where p.key = new.product\n  do {\n    veto \"there is no such product\"\n  }\n\nrule no_oversell closed on update product deferred\n  if some product p where p.key = event.key and p.stock < 0\n  do {\n    veto p.stock\n  }\n\nrule late on every 60 from 60\n  if let n = count order o where o.due <= now\n  if let worth = sum o.count over order o where o.due <= now\n  do {\n    if n > 0 {\n      emit n\n      emit worth\n    }\n  }\n\ntransaction {\n  create product(7) set stock = 5, price = 30\n  let k = next order {\n    create order(k) set product = 7, count = 2, due = now + 1440\n    emit k\n  }\n}\n")
unfolding text_on_literals value_on_literals
shop_of_version_4_printed = refl

-- parentheses stand only where they are needed
pub parentheses_printed : Prints
    (codes "{\"version\":1,\"classes\":[],\"rules\":[],\"items\":[[\"tx\",[[\"emit\",[\"and\",[\"or\",[\"of\",\"a\",\"x\"],[\"of\",\"b\",\"x\"]],[\"not\",[\"and\",[\"of\",\"c\",\"x\"],[\"of\",\"d\",\"x\"]]]]],[\"emit\",[\"*\",[\"-\",1,[\"-\",2,3]],4]],[\"emit\",[\"neg\",5]],[\"emit\",[\"neg\",-5]],[\"emit\",[\"neg\",[\"+\",1,2]]],[\"emit\",[\"=\",[\"not\",[\"of\",\"a\",\"x\"]],true]],[\"update\",\"c\",1,[[\"a\",[\"=\",[\"of\",\"b\",\"x\"],1]]]]]]]}")
    (codes "version 1\n\ntransaction {\n  emit (a.x or b.x) and not (c.x and d.x)\n  emit (1 - (2 - 3)) * 4\n  emit -(5)\n  emit -(-5)\n  emit -(1 + 2)\n  emit (not a.x) = true\n  update c(1) set a = (b.x = 1)\n}\n")
unfolding text_on_literals value_on_literals
parentheses_printed = refl

pub words_before_names_printed : Prints
    (codes "{\"version\":4,\"classes\":[],\"rules\":[],\"items\":[[\"tx\",[[\"let\",\"now_\",[\"+\",[\"value\",\"sum\"],1],[[\"veto\",[\"value\",\"let\"]]]],[\"let\",\"now\",[\"now\"],[[\"emit\",[\"value\",\"now\"]]]]]]]}")
    (codes "version 4\n\ntransaction {\n  let now_ = (sum + 1) {\n    veto (let)\n  }\n  let `now` = now {\n    emit `now`\n  }\n}\n")
unfolding text_on_literals value_on_literals
words_before_names_printed = refl

-- an item on one line
pub item_printed : option_and_then print_item_value (json_of (codes "[\"tx\",[[\"if\",true,[[\"emit\",1]],[[\"if\",false,[],[[\"abort\"]]]]]]]")) ≡ Some
    (codes "transaction { if true { emit 1 } else { if false {} else { abort } } }")
unfolding text_on_literals value_on_literals
item_printed = refl

-- a value that is no script has no text
pub no_script_printed : option_and_then print_value (json_of (codes "{\"version\": 1, \"classes\": [], \"rules\": [], \"items\": [[\"clock\", -1]]}")) ≡ None
unfolding text_on_literals value_on_literals
no_script_printed = refl

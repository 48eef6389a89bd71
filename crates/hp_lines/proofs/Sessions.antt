-- Worked sessions, each with what is answered, proved by computation.
use Rattle.std.proofs.Common.{◌≡◌, refl, [], ◌∷◌, codes, Bool, Some, None, true, false}
use Rattle.hp_model.specs.Values.{integer_kind}
use Rattle.hp_model.specs.Kinds.{only}
use Rattle.hp_analysis.specs.Findings.{assignment_check, argument_check, emission_check, value_check, kind_check, operand_sort, operands_sort, comparison_sort}
use Rattle.hp_model.proofs.Decoding.{script_on_literals}
use Rattle.hp_model.proofs.Scripts.{lines}
use Rattle.hp_script.specs.Timed.{library_at, timed_script_at, timed_script_of}
use Rattle.hp_model.specs.Parts.{place_at, integer_at}
use Rattle.hp_script.specs.Requests.{excerpt_from, show_of, item_of, request_at, request_of}
use Rattle.hp_model.specs.TextScripts.{text_checked, text_line_checked}
use Rattle.hp_model.proofs.NotationWorked.{text_on_literals}
use Rattle.hp_lines.specs.Live.{Manner, output}

-- without trees
abbrev in_json : Manner
in_json = record { is_text = false; with_tree = false; checks = None }

abbrev in_text : Manner
in_text = record { is_text = true; with_tree = false; checks = None }

-- checked, where the signal `go` has a number first
abbrev checked : (is_text : Bool) → Manner
checked is_text = record { is_text = is_text; with_tree = false; checks = Some (record { signatures = (codes "go", only integer_kind ∷ []) ∷ []; fired = [] }) }

-- units are numbered on, and a refused line changes nothing
pub numbered_on : output in_json None (codes "{\"version\":1,\"classes\":[],\"rules\":[],\"items\":[[\"tx\",[]]]}\n[\"tx\",[[\"emit\",7]]]\n[\"tx\",[[\"emit\"]]]\n[\"tx\",[]]\n")
    ≡ lines (codes "unit 1 committed" ∷ codes "ok 1" ∷ codes "unit 2 committed" ∷ codes "emit 7" ∷ codes "ok 2" ∷ codes "refused S2 /1/0" ∷ codes "unit 3 committed" ∷ codes "ok 3" ∷ [])
unfolding script_on_literals library_at timed_script_at timed_script_of item_of request_at request_of
numbered_on = refl

-- the state is shown as it is; the last line needs no line feed
pub shown : output in_json None (codes "{\"version\":1,\"classes\":[[\"acct\",[[\"bal\",\"int\"]]]],\"rules\":[],\"items\":[[\"tx\",[[\"create\",\"acct\",1,[[\"bal\",5]]]]]]}\r\n[\"show\"]")
    ≡ lines (codes "unit 1 committed" ∷ codes "ok 1" ∷ codes "object acct 1 bal=5" ∷ codes "ok 1" ∷ [])
unfolding script_on_literals library_at timed_script_at timed_script_of excerpt_from show_of item_of request_at request_of
shown = refl

-- a class's objects are shown, and one object; a class that the library lacks and a key that is no number are refused
pub parts_shown : output in_json None
    (codes "{\"version\":1,\"classes\":[[\"acct\",[[\"bal\",\"int\"]]],[\"mark\",[]]],\"rules\":[],\"items\":[[\"tx\",[[\"create\",\"acct\",2,[[\"bal\",7]]],[\"create\",\"mark\",1,[]],[\"create\",\"acct\",-1,[[\"bal\",5]]]]]]}\n[\"show\",\"acct\"]\n[\"show\",\"acct\",2]\n[\"show\",\"mark\",2]\n[\"show\",\"item\"]\n[\"show\",\"acct\",true]\n[\"show\",\"acct\",1,2]")
    ≡ lines (codes "unit 1 committed" ∷ codes "ok 1" ∷ codes "object acct -1 bal=5" ∷ codes "object acct 2 bal=7" ∷ codes "ok 1" ∷ codes "object acct 2 bal=7"
    ∷ codes "ok 1" ∷ codes "ok 1" ∷ codes "refused S4 /1" ∷ codes "refused S2 /2" ∷ codes "refused S2 /" ∷ [])
unfolding script_on_literals library_at timed_script_at timed_script_of excerpt_from show_of item_of request_at request_of place_at integer_at
parts_shown = refl

-- the clock goes on from where it stands
pub clock_goes_on : output in_json None (codes "{\"version\":1,\"classes\":[],\"rules\":[],\"items\":[[\"clock\",5]]}\n[\"clock\",4]\n[\"clock\",6]\n")
    ≡ lines (codes "ok 0" ∷ codes "refused S2 /1" ∷ codes "ok 0" ∷ [])
unfolding script_on_literals library_at timed_script_at timed_script_of item_of request_at request_of
clock_goes_on = refl

-- in version 4 a line has the clock's moment, which a line `clock` moves, `let`s, and vetoes with a message
pub fourth : output in_json None
    (codes "{\"version\":4,\"classes\":[[\"a\",[]]],\"rules\":[[\"r\",[\"signal\",\"go\"],\"immediate\",[],\"immediate\",[[\"veto\",[\"now\"]]]]],\"items\":[[\"tx\",[[\"install\",\"r\"]]]]}\n[\"clock\",5]\n[\"tx\",[[\"signal\",\"go\",[]]]]\n[\"tx\",[[\"let\",\"k\",[\"next\",\"a\"],[[\"create\",\"a\",[\"value\",\"k\"],[]],[\"emit\",[\"now\"]]]]]]\n[\"show\"]")
    ≡ lines (codes "unit 1 committed" ∷ codes "ok 1" ∷ codes "ok 1" ∷ codes "unit 2 aborted A9 r 5" ∷ codes "ok 2" ∷ codes "unit 3 committed" ∷ codes
    "emit 5" ∷ codes "ok 3" ∷ codes "object a 1" ∷ codes "rule r enabled" ∷ codes "ok 3" ∷ [])
unfolding script_on_literals library_at timed_script_at timed_script_of excerpt_from show_of item_of request_at request_of
fourth = refl

-- what version 4 has alone is refused in a line of version 2
pub second : output in_json None (codes "{\"version\":2,\"classes\":[],\"rules\":[],\"items\":[]}\n[\"tx\",[[\"emit\",[\"now\"]]]]\n")
    ≡ lines (codes "ok 0" ∷ codes "refused S2 /1/0/1" ∷ [])
unfolding script_on_literals library_at timed_script_at timed_script_of item_of request_at request_of
second = refl

-- after a refused script nothing is answered
pub refused_script : output in_json None (codes "[]\n[\"show\"]\n") ≡ lines (codes "refused S2 /" ∷ [])
unfolding script_on_literals library_at timed_script_at timed_script_of item_of request_at request_of
refused_script = refl

-- lines of text, with the places of refusals
pub in_notation : output in_text None
    (codes "version 1 class acct { bal: int } transaction { create acct(1) set bal = 5 }\ntransaction { emit 7 }\ntransaction { emit }\ntransaction { delete mark(1) }\nclock 5\nclock 4\nshow # all\n")
    ≡ lines (codes "unit 1 committed" ∷ codes "ok 1" ∷ codes "unit 2 committed" ∷ codes "emit 7" ∷ codes "ok 2" ∷ codes "refused S1 1:20" ∷ codes
    "refused S4 1:22" ∷ codes "ok 2" ∷ codes "refused S2 1:7" ∷ codes "object acct 1 bal=5" ∷ codes "ok 2" ∷ [])
unfolding text_on_literals script_on_literals text_checked text_line_checked library_at timed_script_at excerpt_from show_of item_of request_at
in_notation = refl

-- the script's file may have many lines; the first line of the input is an item
pub script_in_file : output in_text (Some (lines (codes "version 1" ∷ codes "# one class" ∷ codes "class acct { bal: int }" ∷ []))) (codes "transaction { create acct(1) set bal = 5 }\nshow\n")
    ≡ lines (codes "ok 0" ∷ codes "unit 1 committed" ∷ codes "ok 1" ∷ codes "object acct 1 bal=5" ∷ codes "ok 1" ∷ [])
unfolding text_on_literals script_on_literals text_checked text_line_checked library_at timed_script_at excerpt_from show_of item_of request_at
script_in_file = refl

-- an empty file is a refused script
pub empty_file : output in_text (Some []) (codes "version 1\n") ≡ lines (codes "refused S1 1:1" ∷ [])
unfolding text_on_literals script_on_literals text_checked text_line_checked library_at timed_script_at
empty_file = refl

-- a checked rule base refuses a line that gives a signal another argument, or none, and runs the others
pub checked_lines : output (checked false) None
    (codes "{\"version\":1,\"classes\":[],\"rules\":[[\"r\",[\"signal\",\"go\"],\"immediate\",[],\"immediate\",[[\"emit\",[\"+\",[\"arg\",0,0],1]]]]],\"items\":[[\"tx\",[[\"install\",\"r\"]]]]}\n[\"tx\",[[\"emit\",1],[\"signal\",\"go\",[\"a\"]]]]\n[\"tx\",[[\"signal\",\"go\",[]]]]\n[\"tx\",[[\"signal\",\"go\",[1]]]]\n")
    ≡ lines (codes "unit 1 committed" ∷ codes "ok 1" ∷ codes "refused S8 kinds /1/1/2/0" ∷ codes "refused S8 kinds /1/0" ∷ codes "unit 2 committed" ∷ codes "emit 2" ∷ codes "ok 2" ∷ [])
unfolding script_on_literals library_at timed_script_at timed_script_of item_of request_at request_of
    assignment_check argument_check emission_check value_check kind_check operand_sort operands_sort comparison_sort
checked_lines = refl

-- its script must be kinded, in the rules and in its own units
pub unkinded_rule : output (checked false) None
    (codes "{\"version\":1,\"classes\":[],\"rules\":[[\"r\",[\"signal\",\"go\"],\"immediate\",[],\"immediate\",[[\"emit\",[\"not\",[\"arg\",0,0]]]]]],\"items\":[]}\n[\"show\"]\n")
    ≡ lines (codes "refused S8 kinds /rules/0/5/0/1/1" ∷ [])
unfolding script_on_literals library_at timed_script_at timed_script_of item_of request_at request_of
    assignment_check argument_check emission_check value_check kind_check operand_sort operands_sort comparison_sort
unkinded_rule = refl

pub unkinded_unit : output (checked false) None
    (codes "{\"version\":1,\"classes\":[],\"rules\":[],\"items\":[[\"tx\",[]],[\"tx\",[[\"emit\",1],[\"signal\",\"go\",[true]]]]]}\n[\"show\"]\n")
    ≡ lines (codes "refused S8 kinds unit 2 /1/2/0" ∷ [])
unfolding script_on_literals library_at timed_script_at timed_script_of item_of request_at request_of
    assignment_check argument_check emission_check value_check kind_check operand_sort operands_sort comparison_sort
unkinded_unit = refl

-- and no chain of its rules may have more firings than may nest
pub too_deep : output (checked false) None
    (codes "{\"version\":1,\"depth\":2,\"classes\":[],\"rules\":[[\"r\",[\"signal\",\"go\"],\"immediate\",[],\"immediate\",[[\"signal\",\"go\",[1]]]]],\"items\":[]}\n[\"show\"]\n")
    ≡ lines (codes "refused S8 depth" ∷ [])
unfolding script_on_literals library_at timed_script_at timed_script_of item_of request_at request_of
    assignment_check argument_check emission_check value_check kind_check operand_sort operands_sort comparison_sort
too_deep = refl

-- the same rules are taken unchecked
pub deep_unchecked : output in_json None
    (codes "{\"version\":1,\"depth\":2,\"classes\":[],\"rules\":[[\"r\",[\"signal\",\"go\"],\"immediate\",[],\"immediate\",[[\"signal\",\"go\",[1]]]]],\"items\":[]}\n[\"show\"]\n")
    ≡ lines (codes "ok 0" ∷ codes "rule r absent" ∷ codes "ok 0" ∷ [])
unfolding script_on_literals library_at timed_script_at timed_script_of excerpt_from show_of item_of request_at request_of
deep_unchecked = refl

-- of texts the paths are those of the JSON
pub checked_text : output (checked true) None (codes "version 1 class acct { bal: int }\ntransaction { emit 1 + \"a\" }\ntransaction { emit 7 }\n")
    ≡ lines (codes "ok 0" ∷ codes "refused S8 kinds /1/0/1/2" ∷ codes "unit 1 committed" ∷ codes "emit 7" ∷ codes "ok 1" ∷ [])
unfolding text_on_literals script_on_literals text_checked text_line_checked library_at timed_script_at excerpt_from show_of
    item_of request_at assignment_check argument_check emission_check value_check kind_check operand_sort operands_sort comparison_sort
checked_text = refl

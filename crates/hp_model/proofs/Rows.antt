-- Worked rows: for each of these scripts the definitions compute exactly this report. A wrong line would not be proved.
use Rattle.std.proofs.Common.{◌≡◌, refl, ℕ, ◌-◌, ◌^◌, List, [], ◌∷◌, codes, true, false}
use Rattle.std.specs.Fmt.{digits}
use Rattle.hp_model.specs.Values.{boolean}
use Rattle.hp_model.specs.Expressions.{constant, arithmetic, plus, minus, times, compared, equal, greater, field_of, new_field, old_field, argument, time_of, occurrence_count}
use Rattle.hp_model.specs.Events.{Event, pattern_event, on_update, on_signal, on_commit, every_moment, seq_event, closure_event}
use Rattle.hp_model.specs.Rules.{query_entry, immediate, deferred, separate, dependent, exclusive, create, emit, signal, when, with_object, subtransaction, abort, veto, on_rule}
use Rattle.hp_model.specs.Rules.{enable, disable, fire, empty, ◌then◌, Rule}
use Rattle.hp_model.specs.Cascade.{transaction, moment, Script, evaluate}
use Rattle.hp_model.specs.Report.{report_text}
use Rattle.hp_model.proofs.Scripts.{lines, number, acct_class, mark_class, acct, set_acct, rule, on, on_go, go, say, plus_one, installs, script}

abbrev pub text_of : Script → List ℕ
text_of s = report_text s.library false (evaluate s)

abbrev pub text_with_trees : Script → List ℕ
text_with_trees s = report_text s.library true (evaluate s)

-- a rule that reports by how much an update changed the balance
abbrev pub thinnest_script : Script
thinnest_script =
    script (acct_class ∷ []) 8
    (rule (codes "r") (pattern_event (on_update 0)) immediate [] immediate (emit (arithmetic minus (new_field 0 (codes "bal")) (old_field 0 (codes "bal"))) then empty) ∷ [])
    (transaction 0 (installs 0 then acct 1 5 then set_acct 1 (number 7) then empty) ∷ [])

pub thinnest_run : text_of thinnest_script
    ≡ lines (codes "unit 1 committed" ∷ codes "emit 2" ∷ codes "final" ∷ codes "object acct 1 bal=7" ∷ codes "rule r enabled" ∷ codes "end" ∷ [])
unfolding digits
thinnest_run = refl

-- siblings that touch different objects
abbrev pub disjoint_script : Script
disjoint_script =
    script (acct_class ∷ []) 8 (on (codes "a") (plus_one 1 then empty) ∷ on (codes "b") (plus_one 2 then empty) ∷ [])
    (transaction 0 (installs 0 then installs 1 then acct 1 10 then acct 2 20 then go then empty) ∷ [])

pub disjoint : text_of disjoint_script
    ≡ lines (codes "unit 1 committed" ∷ codes "final" ∷ codes "object acct 1 bal=11" ∷ codes "object acct 2 bal=21" ∷ codes "rule a enabled" ∷ codes "rule b enabled" ∷ codes "end" ∷ [])
unfolding digits
disjoint = refl

-- siblings that create different objects of one class
abbrev pub no_false_collision_script : Script
no_false_collision_script =
    script (mark_class ∷ []) 8 (on (codes "a") (create 0 (number 1) [] then empty) ∷ on (codes "b") (create 0 (number 2) [] then empty) ∷ [])
    (transaction 0 (installs 0 then installs 1 then go then empty) ∷ [])

pub no_false_collision : text_of no_false_collision_script
    ≡ lines (codes "unit 1 committed" ∷ codes "final" ∷ codes "object mark 1" ∷ codes "object mark 2" ∷ codes "rule a enabled" ∷ codes "rule b enabled" ∷ codes "end" ∷ [])
unfolding digits
no_false_collision = refl

-- a sum outside the range of 64 bits aborts the action alone, with all that it did
abbrev pub largest_number_script : Script
largest_number_script =
    script (acct_class ∷ []) 8 (on (codes "o") (acct 2 0 then plus_one 1 then empty) ∷ [])
    (transaction 0 (installs 0 then acct 1 (2 ^ 63 - 1) then go then say 1 then empty) ∷ [])

pub largest_number : text_of largest_number_script
    ≡ lines (codes "unit 1 committed" ∷ codes "emit 1" ∷ codes "final" ∷ codes "object acct 1 bal=9223372036854775807" ∷ codes "rule o enabled" ∷ codes "end" ∷ [])
unfolding digits
largest_number = refl

-- a sibling sees what an earlier one did: (10 + 1) * 2
abbrev pub predecessor_script : Script
predecessor_script =
    script (acct_class ∷ []) 8
    (on (codes "inc") (plus_one 1 then empty)
    ∷ on (codes "dbl") (with_object (codes "x") 0 (number 1) (set_acct 1 (arithmetic times (field_of (codes "x") (codes "bal")) (number 2)) then empty) then empty)
    ∷ [])
    (transaction 0 (installs 0 then installs 1 then acct 1 10 then go then empty) ∷ [])

pub predecessors_effect_is_seen : text_of predecessor_script
    ≡ lines (codes "unit 1 committed" ∷ codes "final" ∷ codes "object acct 1 bal=22" ∷ codes "rule inc enabled" ∷ codes "rule dbl enabled" ∷ codes "end" ∷ [])
unfolding digits
predecessors_effect_is_seen = refl

-- an object that an earlier sibling created satisfies a later one's condition
abbrev pub phantom_script : Script
phantom_script =
    script (mark_class ∷ []) 8
    (on (codes "mk") (create 0 (number 1) [] then empty)
    ∷ rule (codes "see") on_go immediate (query_entry (record { name = codes "m"; class = 0; predicate = constant (boolean true) }) ∷ []) immediate (say 1 then empty)
    ∷ [])
    (transaction 0 (installs 0 then installs 1 then go then empty) ∷ [])

pub phantom : text_of phantom_script
    ≡ lines (codes "unit 1 committed" ∷ codes "emit 1" ∷ codes "final" ∷ codes "object mark 1" ∷ codes "rule mk enabled" ∷ codes "rule see enabled" ∷ codes "end" ∷ [])
unfolding digits
phantom = refl

-- by what an earlier sibling wrote, a later one aborts in a `sub`
abbrev pub outliving_script : Script
outliving_script =
    script (acct_class ∷ []) 8
    (on (codes "inc") (plus_one 1 then empty)
    ∷ on (codes "look") (subtransaction
    (with_object (codes "x") 0 (number 1) (when (compared equal (field_of (codes "x") (codes "bal")) (number 10)) (abort then empty) (say 2 then empty) then empty) then empty)
    (say 1 then empty) then empty)
    ∷ [])
    (transaction 0 (installs 0 then installs 1 then acct 1 10 then go then empty) ∷ [])

pub reads_outlive_aborts : text_of outliving_script
    ≡ lines (codes "unit 1 committed" ∷ codes "emit 2" ∷ codes "final" ∷ codes "object acct 1 bal=11" ∷ codes "rule inc enabled" ∷ codes "rule look enabled" ∷ codes "end" ∷ [])
unfolding digits
reads_outlive_aborts = refl

-- a veto undoes the earlier siblings' transaction, and later siblings don't run
abbrev pub veto_script : Script
veto_script =
    script [] 8
    (on (codes "v") (veto then empty)
    ∷ on (codes "s2") (say 2 then empty)
    ∷ on (codes "s3") (signal (codes "later") [] then empty)
    ∷ rule (codes "sep") (pattern_event (on_signal (codes "later"))) separate [] immediate (say 3 then empty)
    ∷ [])
    (transaction 0 (installs 0 then installs 1 then installs 2 then installs 3 then subtransaction (go then empty) (say 9 then empty) then empty) ∷ [])

pub veto_with_tree : text_with_trees veto_script
    ≡ lines (codes "unit 1 committed" ∷ codes "emit 9" ∷ codes "  op install v" ∷ codes "  op install s2" ∷ codes "  op install s3" ∷ codes "  op install sep"
    ∷ codes "  sub aborted A9 v" ∷ codes "    fire v immediate satisfied aborted A9 v" ∷ codes "  emit 9"
    ∷ codes "final" ∷ codes "rule v enabled" ∷ codes "rule s2 enabled" ∷ codes "rule s3 enabled" ∷ codes "rule sep enabled" ∷ codes "end" ∷ [])
unfolding digits
veto_with_tree = refl

-- a sequence takes the oldest first
abbrev pub signal_event : List ℕ → Event
signal_event name = pattern_event (on_signal name)

abbrev pub sequence_rule : Rule
sequence_rule =
    rule (codes "q") (seq_event (signal_event (codes "a")) (signal_event (codes "b"))) immediate [] immediate
    (emit (argument 0 0) then emit (argument 1 0) then empty)

abbrev pub sequence_script : Script
sequence_script =
    script [] 8 (sequence_rule ∷ [])
    (transaction 0 (installs 0 then signal (codes "a") (number 1 ∷ []) then signal (codes "a") (number 2 ∷ []) then signal (codes "b") (number 3 ∷ [])
    then signal (codes "b") (number 4 ∷ []) then empty) ∷ [])

pub sequence_oldest_first : text_of sequence_script
    ≡ lines (codes "unit 1 committed" ∷ codes "emit 1" ∷ codes "emit 3" ∷ codes "emit 2" ∷ codes "emit 4" ∷ codes "final" ∷ codes "rule q enabled" ∷ codes "end" ∷ [])
unfolding digits
sequence_oldest_first = refl

-- a closure
abbrev pub closure_script : Script
closure_script =
    script [] 8
    (rule (codes "c") (closure_event (signal_event (codes "a")) (signal_event (codes "t"))) immediate [] immediate (emit occurrence_count then emit (argument 0 0) then empty) ∷ [])
    (transaction 0 (installs 0 then signal (codes "a") (number 7 ∷ []) then signal (codes "a") (number 8 ∷ []) then signal (codes "t") [] then signal (codes "t") [] then empty) ∷ [])

pub closure : text_of closure_script
    ≡ lines (codes "unit 1 committed" ∷ codes "emit 2" ∷ codes "emit 8" ∷ codes "final" ∷ codes "rule c enabled" ∷ codes "end" ∷ [])
unfolding digits
closure = refl

-- an abort undoes the past that a rule was notified of
abbrev pub undone_script : Script
undone_script =
    script [] 8 (sequence_rule ∷ [])
    (transaction 0 (installs 0 then subtransaction (signal (codes "a") (number 1 ∷ []) then abort then empty) empty then signal (codes "b") (number 2 ∷ []) then empty) ∷ [])

pub undone_past : text_of undone_script
    ≡ lines (codes "unit 1 committed" ∷ codes "final" ∷ codes "rule q enabled" ∷ codes "end" ∷ [])
unfolding digits
undone_past = refl

-- of the tasks that an aborted transaction detached the separate one runs, the dependent one doesn't
abbrev pub separate_script : Script
separate_script =
    script [] 8
    (rule (codes "ind") on_go separate [] immediate (say 1 then empty) ∷ rule (codes "dep") on_go dependent [] immediate (say 2 then empty) ∷ [])
    (transaction 0 (installs 0 then installs 1 then empty) ∷ transaction 0 (subtransaction (go then empty) empty then abort then empty) ∷ [])

pub separate_and_dependent : text_of separate_script
    ≡ lines (codes "unit 1 committed" ∷ codes "unit 2 aborted A8" ∷ codes "separate ind committed" ∷ codes "emit 1" ∷ codes "final" ∷ codes "rule ind enabled"
    ∷ codes "rule dep enabled" ∷ codes "end" ∷ [])
unfolding digits
separate_and_dependent = refl

-- a rule that triggers itself, up to the depth limit
abbrev pub depth_limit_script : Script
depth_limit_script =
    script (acct_class ∷ []) 3
    (rule (codes "up") (pattern_event (on_update 0)) immediate [] immediate (set_acct 1 (arithmetic plus (new_field 0 (codes "bal")) (number 1)) then empty) ∷ [])
    (transaction 0 (installs 0 then acct 1 0 then set_acct 1 (number 1) then empty) ∷ [])

pub depth_limit_with_tree : text_with_trees depth_limit_script
    ≡ lines (codes "unit 1 committed" ∷ codes "  op install up" ∷ codes "  op create acct 1 bal=0" ∷ codes "  op update acct 1 bal=1"
    ∷ codes "  fire up immediate satisfied committed" ∷ codes "    op update acct 1 bal=2" ∷ codes "    fire up immediate satisfied committed"
    ∷ codes "      op update acct 1 bal=3" ∷ codes "      fire up immediate satisfied aborted A7" ∷ codes "        op update acct 1 bal=4"
    ∷ codes "final" ∷ codes "object acct 1 bal=3" ∷ codes "rule up enabled" ∷ codes "end" ∷ [])
unfolding digits
depth_limit_with_tree = refl

-- a later action has the answers that its condition found
abbrev pub answers_script : Script
answers_script =
    script (acct_class ∷ []) 8
    (rule (codes "m") on_go separate (query_entry (record { name = codes "x"; class = 0; predicate = compared greater (field_of (codes "x") (codes "bal")) (number 0) }) ∷ []) deferred
    (emit (field_of (codes "x") (codes "bal")) then empty)
    ∷ rule (codes "z") (pattern_event on_commit) immediate [] immediate (plus_one 1 then empty)
    ∷ [])
    (transaction 0 (installs 0 then installs 1 then acct 1 5 then go then empty) ∷ [])

pub kept_answers_with_tree : text_with_trees answers_script
    ≡ lines (codes "unit 1 committed" ∷ codes "  op install m" ∷ codes "  op install z" ∷ codes "  op create acct 1 bal=5"
    ∷ codes "  fire z immediate satisfied committed" ∷ codes "    op update acct 1 bal=6"
    ∷ codes "separate m committed" ∷ codes "emit 6" ∷ codes "  fire m separate satisfied later" ∷ codes "  fire z immediate satisfied committed"
    ∷ codes "    op update acct 1 bal=7" ∷ codes "  act m deferred committed" ∷ codes "    emit 6"
    ∷ codes "final" ∷ codes "object acct 1 bal=7" ∷ codes "rule m enabled" ∷ codes "rule z enabled" ∷ codes "end" ∷ [])
unfolding digits
kept_answers_with_tree = refl

-- install and enable of an enabled rule keep its past
abbrev pub repeats_script : Script
repeats_script =
    script [] 8 (sequence_rule ∷ [])
    (transaction 0 (installs 0 then signal (codes "a") (number 1 ∷ []) then installs 0 then on_rule enable 0 then signal (codes "b") (number 2 ∷ []) then empty) ∷ [])

pub repeats : text_of repeats_script
    ≡ lines (codes "unit 1 committed" ∷ codes "emit 1" ∷ codes "emit 2" ∷ codes "final" ∷ codes "rule q enabled" ∷ codes "end" ∷ [])
unfolding digits
repeats = refl

-- moments of the clock
abbrev pub moments_script : Script
moments_script =
    script [] 8
    (rule (codes "t") (pattern_event (every_moment 5 10)) immediate [] immediate (emit (time_of 0) then empty) ∷ [])
    (transaction 0 (installs 0 then empty) ∷ moment 5 ∷ moment 15 ∷ moment 25 ∷ [])

pub moments : text_of moments_script
    ≡ lines (codes "unit 1 committed" ∷ codes "unit 2 time 5 committed" ∷ codes "emit 5" ∷ codes "unit 3 time 15 committed" ∷ codes "emit 15" ∷ codes "unit 4 time 25 committed" ∷ codes "emit 25"
    ∷ codes "final" ∷ codes "rule t enabled" ∷ codes "end" ∷ [])
unfolding digits
moments = refl

-- deferred tasks run after the body
abbrev pub deferred_script : Script
deferred_script =
    script (acct_class ∷ []) 8
    (rule (codes "d") (pattern_event (on_update 0)) deferred [] immediate (emit (new_field 0 (codes "bal")) then empty) ∷ [])
    (transaction 0 (installs 0 then acct 1 5 then set_acct 1 (number 6) then say 0 then empty) ∷ [])

pub deferred_after_the_body : text_of deferred_script
    ≡ lines (codes "unit 1 committed" ∷ codes "emit 0" ∷ codes "emit 6" ∷ codes "final" ∷ codes "object acct 1 bal=6" ∷ codes "rule d enabled" ∷ codes "end" ∷ [])
unfolding digits
deferred_after_the_body = refl

-- a veto in the body of a `sub`, whose other body doesn't hide it
abbrev pub sub_veto_script : Script
sub_veto_script =
    script [] 8 (on (codes "v") (veto then empty) ∷ on (codes "w") (say 2 then empty) ∷ [])
    (transaction 0 (installs 0 then installs 1 then subtransaction (say 3 then go then empty) (say 4 then empty) then say 5 then empty) ∷ [])

pub veto_undoes_a_sub : text_of sub_veto_script
    ≡ lines (codes "unit 1 committed" ∷ codes "emit 4" ∷ codes "emit 5" ∷ codes "final" ∷ codes "rule v enabled" ∷ codes "rule w enabled" ∷ codes "end" ∷ [])
unfolding digits
veto_undoes_a_sub = refl

abbrev pub veto_in_sub_script : Script
veto_in_sub_script =
    script [] 8 (on (codes "v") (subtransaction (veto then empty) (say 7 then empty) then empty) ∷ [])
    (transaction 0 (installs 0 then say 1 then go then say 2 then empty) ∷ [])

pub veto_passes_a_sub : text_of veto_in_sub_script
    ≡ lines (codes "unit 1 aborted A9 v" ∷ codes "final" ∷ codes "rule v absent" ∷ codes "end" ∷ [])
unfolding digits
veto_passes_a_sub = refl

-- a closure within a sequence
abbrev pub closed_sequence_script : Script
closed_sequence_script =
    script [] 8
    (rule (codes "k") (seq_event (closure_event (signal_event (codes "a")) (signal_event (codes "t"))) (signal_event (codes "b"))) immediate [] immediate
    (emit occurrence_count then emit (argument 0 0) then empty) ∷ [])
    (transaction 0 (installs 0 then signal (codes "a") (number 1 ∷ []) then signal (codes "a") (number 2 ∷ []) then signal (codes "t") [] then signal (codes "b") [] then empty) ∷ [])

pub closure_inside_sequence : text_of closed_sequence_script
    ≡ lines (codes "unit 1 committed" ∷ codes "emit 3" ∷ codes "emit 2" ∷ codes "final" ∷ codes "rule k enabled" ∷ codes "end" ∷ [])
unfolding digits
closure_inside_sequence = refl

abbrev pub emptied_script : Script
emptied_script =
    script [] 8 (sequence_rule ∷ [])
    (transaction 0 (installs 0 then signal (codes "a") (number 1 ∷ []) then on_rule disable 0 then on_rule enable 0 then signal (codes "b") (number 2 ∷ []) then empty) ∷ [])

pub disabling_empties_the_past : text_of emptied_script
    ≡ lines (codes "unit 1 committed" ∷ codes "final" ∷ codes "rule q enabled" ∷ codes "end" ∷ [])
unfolding digits
disabling_empties_the_past = refl

abbrev pub fired_script : Script
fired_script =
    script [] 8 (on (codes "r") (emit occurrence_count then empty) ∷ [])
    (transaction 0 (installs 0 then on_rule disable 0 then fire 0 then go then empty) ∷ [])

pub fire_of_a_disabled_rule : text_of fired_script
    ≡ lines (codes "unit 1 committed" ∷ codes "emit 0" ∷ codes "final" ∷ codes "rule r disabled" ∷ codes "end" ∷ [])
unfolding digits
fire_of_a_disabled_rule = refl

-- rounds
abbrev pub rounds_script : Script
rounds_script =
    script [] 8
    (rule (codes "d1") on_go deferred [] immediate (say 1 then signal (codes "next") [] then empty)
    ∷ rule (codes "d2") (signal_event (codes "next")) deferred [] immediate (say 2 then empty)
    ∷ rule (codes "d3") on_go deferred [] immediate (say 3 then empty)
    ∷ [])
    (transaction 0 (installs 0 then installs 1 then installs 2 then go then say 0 then empty) ∷ [])

pub rounds : text_of rounds_script
    ≡ lines (codes "unit 1 committed" ∷ codes "emit 0" ∷ codes "emit 1" ∷ codes "emit 3" ∷ codes "emit 2" ∷ codes "final" ∷ codes "rule d1 enabled" ∷
    codes "rule d2 enabled" ∷ codes "rule d3 enabled" ∷ codes "end" ∷ [])
unfolding digits
rounds = refl

abbrev pub commit_veto_script : Script
commit_veto_script =
    script [] 8 (rule (codes "v") (pattern_event on_commit) deferred [] immediate (veto then empty) ∷ [])
    (transaction 0 (installs 0 then empty) ∷ [])

pub veto_in_a_round : text_of commit_veto_script
    ≡ lines (codes "unit 1 aborted A9 v" ∷ codes "final" ∷ codes "rule v absent" ∷ codes "end" ∷ [])
unfolding digits
veto_in_a_round = refl

-- generations
abbrev pub generations_script : Script
generations_script =
    script [] 8
    (rule (codes "s1") on_go separate [] immediate (say 1 then signal (codes "n") [] then empty)
    ∷ rule (codes "s2") (signal_event (codes "n")) separate [] immediate (say 2 then empty)
    ∷ rule (codes "s3") on_go separate [] immediate (say 3 then empty)
    ∷ [])
    (transaction 0 (installs 0 then installs 1 then installs 2 then go then empty) ∷ [])

pub generations : text_of generations_script
    ≡ lines (codes "unit 1 committed" ∷ codes "separate s1 committed" ∷ codes "emit 1" ∷ codes "separate s3 committed" ∷ codes "emit 3" ∷ codes "separate s2 committed" ∷ codes "emit 2"
    ∷ codes "final" ∷ codes "rule s1 enabled" ∷ codes "rule s2 enabled" ∷ codes "rule s3 enabled" ∷ codes "end" ∷ [])
unfolding digits
generations = refl

-- exclusive
abbrev pub exclusive_script : Script
exclusive_script =
    script [] 8 (rule (codes "x") on_go exclusive [] immediate (say 1 then empty) ∷ [])
    (transaction 0 (installs 0 then empty)
    ∷ transaction 0 (subtransaction (go then abort then empty) empty then empty)
    ∷ transaction 0 (go then empty)
    ∷ transaction 0 (subtransaction (go then empty) empty then abort then empty)
    ∷ transaction 0 (subtransaction (subtransaction (go then abort then empty) empty then abort then empty) empty then empty)
    ∷ [])

pub exclusive_once_released : text_of exclusive_script
    ≡ lines (codes "unit 1 committed" ∷ codes "unit 2 committed" ∷ codes "exclusive x committed" ∷ codes "emit 1" ∷ codes "unit 3 committed" ∷ codes "unit 4 aborted A8"
    ∷ codes "exclusive x committed" ∷ codes "emit 1" ∷ codes "unit 5 committed" ∷ codes "exclusive x committed" ∷ codes "emit 1" ∷ codes "final" ∷ codes "rule x enabled" ∷ codes "end" ∷ [])
unfolding digits
exclusive_once_released = refl

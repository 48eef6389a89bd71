-- What is written for bytes that come in pieces: the answers to their lines.
use Rattle.std.proofs.Common.{◌≡◌, ◌==◌, ℕ, suc, nat_lt, Bool, true, false, cond, List, [], ◌∷◌, ◌++◌, length, take, Option, Some, None, inl, inr, refl, sym, ap, ◌∙◌, append_assoc, arith}
use Rattle.std.proofs.lemmas.Bool.{cases_lt, lt-ltb, le-ltb}
use Rattle.std.proofs.lemmas.List.{take_all, take-append-le, length-take-le, length-append}
use Rattle.hp_model.specs.Report.{Bytes}
use Rattle.hp_lines.specs.Lines.{Line, begun, lines_from, kept_with}
use Rattle.hp_lines.specs.Live.{Manner, Stage, unopened, closed, Answer, answer, answers, stage_after, lines_by, output, Server, reply, answered, grown, byte_output, next}
use Rattle.hp_lines.specs.Live.{piece_output, after, end_output, input_output, stage_at_end, opening_output, opened_server}
use Rattle.hp_lines.proofs.Lines.{kept_answer}

-- ---- pieces

pub output-append : (d : Server) (a b : List ℕ) → piece_output d (a ++ b) ≡ piece_output d a ++ piece_output (after d a) b
output-append d [] b = refl
output-append d (x ∷ a) b = ap (λ (l : List ℕ). byte_output d x ++ l) (output-append (next d x) a b)
    ∙ sym (append_assoc (byte_output d x) (piece_output (next d x) a) (piece_output (after (next d x) a) b))

pub after-append : (d : Server) (a b : List ℕ) → after d (a ++ b) ≡ after (after d a) b
after-append d [] b = refl
after-append d (x ∷ a) b = after-append (next d x) a b

-- ---- lines

pub input-append : (d : Server) (a b : List ℕ) → input_output d (a ++ b) ≡ piece_output d a ++ input_output (after d a) b
input-append d a b =
    ap (λ (e : Server). piece_output d (a ++ b) ++ end_output e) (after-append d a b)
    ∙ ap (λ (l : List ℕ). l ++ end_output (after (after d a) b)) (output-append d a b)
    ∙ append_assoc (piece_output d a) (piece_output (after d a) b) (end_output (after (after d a) b))

-- a server that keeps as much of a line as shows whether it is too long
abbrev at : Manner → Stage → Line → Server
at manner stage line = record { manner = manner; stage = stage; line = take 1048577 line }

answered_kept : (manner : Manner) (stage : Stage) (line : Line) → answered (at manner stage line) ≡ at manner (answer manner stage line).stage []
answered_kept manner stage line = ap (λ (a : Answer). at manner a.stage []) (kept_answer manner stage line)

reply_kept : (manner : Manner) (stage : Stage) (line : Line) → reply (at manner stage line) ≡ (answer manner stage line).body ++ (answer manner stage line).last
reply_kept manner stage line = ap (λ (a : Answer). a.body ++ a.last) (kept_answer manner stage line)

-- by its first so many bytes and one more
kept_by : ℕ → Line → ℕ → Line
kept_by most line x = cond (nat_lt most (length line)) line (line ++ x ∷ [])

one_more : (most : ℕ) (line : Line) (x : ℕ) → kept_by most (take (suc most) line) x ≡ take (suc most) (line ++ x ∷ [])
unfolding kept_by
one_more most line x =
    elim (cases_lt most (length line)) [
      | inl long ↦
          let kept = take (suc most) line in
          let full : length kept ≡ suc most = length-take-le (suc most) line (omega arith) in
          ap (λ b. cond b kept (kept ++ x ∷ [])) (lt-ltb most (length kept) (omega (arith, full))) ∙ sym (take-append-le (suc most) line (x ∷ []) (omega arith))
      | inr short ↦
          let all : take (suc most) line ≡ line = take_all (suc most) line (omega arith) in
          let fits : take (suc most) (line ++ x ∷ []) ≡ line ++ x ∷ [] = take_all (suc most) (line ++ x ∷ []) (omega (arith, length-append line (x ∷ []))) in
          ap (λ l. kept_by most l x) all ∙ ap (λ b. cond b line (line ++ x ∷ [])) (le-ltb most (length line) short) ∙ sym fits
    ]

grown_kept : (manner : Manner) (stage : Stage) (line : Line) (x : ℕ) → grown (at manner stage line) x ≡ at manner stage (line ++ x ∷ [])
unfolding kept_by
grown_kept manner stage line x = ap (λ (l : Line). record { manner = manner; stage = stage; line = l }) (one_more 1048576 line x)

output_of_begun : (manner : Manner) (stage : Stage) (line : Line) → end_output (at manner stage line) ≡ answers manner stage (begun line)
output_of_begun manner stage [] = refl
output_of_begun manner stage (x ∷ line) = ap (λ (l : List ℕ). l ++ []) (reply_kept manner stage (x ∷ line))

-- by whether a byte ends the line
by_end : (b : Bool) (manner : Manner) (stage : Stage) (line : Line) (x : ℕ) (xs : List ℕ)
    → (reply (at manner stage line) ++ piece_output (answered (at manner stage line)) xs) ++ end_output (after (answered (at manner stage line)) xs) ≡ answers manner stage (line ∷ lines_from [] xs)
    → input_output (grown (at manner stage line) x) xs ≡ answers manner stage (lines_from (line ++ x ∷ []) xs)
    → (cond b (reply (at manner stage line)) [] ++ piece_output (cond b (answered (at manner stage line)) (grown (at manner stage line) x)) xs)
    ++ end_output (after (cond b (answered (at manner stage line)) (grown (at manner stage line) x)) xs)
    ≡ answers manner stage (cond b (line ∷ lines_from [] xs) (lines_from (line ++ x ∷ []) xs))
by_end true manner stage line x xs ends goes_on = ends
by_end false manner stage line x xs ends goes_on = goes_on

stage_by_end : (b : Bool) (manner : Manner) (stage : Stage) (line : Line) (x : ℕ) (xs : List ℕ)
    → stage_at_end (answered (at manner stage line)) xs ≡ stage_after manner stage (line ∷ lines_from [] xs)
    → stage_at_end (grown (at manner stage line) x) xs ≡ stage_after manner stage (lines_from (line ++ x ∷ []) xs)
    → stage_at_end (cond b (answered (at manner stage line)) (grown (at manner stage line) x)) xs ≡ stage_after manner stage (cond b (line ∷ lines_from [] xs) (lines_from (line ++ x ∷ []) xs))
stage_by_end true manner stage line x xs ends goes_on = ends
stage_by_end false manner stage line x xs ends goes_on = goes_on

pub input_from : (manner : Manner) (stage : Stage) (line : Line) (xs : List ℕ) → input_output (at manner stage line) xs ≡ answers manner stage (lines_from line xs)
input_from manner stage line [] = output_of_begun manner stage line
input_from manner stage line (x ∷ xs) =
    let d = at manner stage line in
    let a = answer manner stage line in
    by_end (x == 10) manner stage line x xs
    (append_assoc (reply d) (piece_output (answered d) xs) (end_output (after (answered d) xs))
    ∙ ap (λ (l : List ℕ). l ++ input_output (answered d) xs) (reply_kept manner stage line)
    ∙ ap (λ (e : Server). (a.body ++ a.last) ++ input_output e xs) (answered_kept manner stage line)
    ∙ ap (λ (l : List ℕ). (a.body ++ a.last) ++ l) (input_from manner a.stage [] xs))
    (ap (λ (e : Server). input_output e xs) (grown_kept manner stage line x) ∙ input_from manner stage (line ++ x ∷ []) xs)

-- what is written for an input is the answers to its lines
pub input_of : (manner : Manner) (script : Option Bytes) (input : List ℕ) → opening_output manner script ++ input_output (opened_server manner script) input ≡ output manner script input
input_of manner None input = input_from manner unopened [] input
input_of manner (Some script) input =
    let a = answer manner unopened script in
    ap (λ (l : List ℕ). (a.body ++ a.last) ++ l) (input_from manner a.stage [] input)

-- ---- the stage in the end

stage_of_begun : (manner : Manner) (stage : Stage) (line : Line) → stage_at_end (at manner stage line) [] ≡ stage_after manner stage (begun line)
stage_of_begun manner stage [] = refl
stage_of_begun manner stage (x ∷ line) = ap (λ (a : Answer). a.stage) (kept_answer manner stage (x ∷ line))

pub stage_from : (manner : Manner) (stage : Stage) (line : Line) (xs : List ℕ) → stage_at_end (at manner stage line) xs ≡ stage_after manner stage (lines_from line xs)
stage_from manner stage line [] = stage_of_begun manner stage line
stage_from manner stage line (x ∷ xs) =
    let d = at manner stage line in
    stage_by_end (x == 10) manner stage line x xs
    (ap (λ (e : Server). stage_at_end e xs) (answered_kept manner stage line) ∙ stage_from manner (answer manner stage line).stage [] xs)
    (ap (λ (e : Server). stage_at_end e xs) (grown_kept manner stage line x) ∙ stage_from manner stage (line ++ x ∷ []) xs)

pub stage_of : (manner : Manner) (script : Option Bytes) (input : List ℕ) → stage_at_end (opened_server manner script) input ≡ stage_after manner unopened (lines_by script input)
stage_of manner None input = stage_from manner unopened [] input
stage_of manner (Some script) input = stage_from manner (answer manner unopened script).stage [] input

pub stage-append : (d : Server) (a b : List ℕ) → stage_at_end d (a ++ b) ≡ stage_at_end (after d a) b
stage-append d a b = ap (λ (e : Server). stage_after e.manner e.stage (begun e.line)) (after-append d a b)

-- ---- after a refused script

closed_answers : (manner : Manner) (ls : List Line) → answers manner closed ls ≡ []
closed_answers manner [] = refl
closed_answers manner (l ∷ ls) = closed_answers manner ls

pub closed_stage : (manner : Manner) (ls : List Line) → stage_after manner closed ls ≡ closed
closed_stage manner [] = refl
closed_stage manner (l ∷ ls) = closed_stage manner ls

-- a server that was closed
abbrev shut : Manner → Line → Server
shut manner line = record { manner = manner; stage = closed; line = line }

shut_by : (b : Bool) (manner : Manner) (line : Line) (x : ℕ) → cond b (answered (shut manner line)) (grown (shut manner line) x) ≡ shut manner (cond b [] (kept_with line x))
shut_by true manner line x = refl
shut_by false manner line x = refl

silent_by : (b : Bool) (manner : Manner) (line : Line) → cond b (reply (shut manner line)) [] ≡ []
silent_by true manner line = refl
silent_by false manner line = refl

shut_writes : (manner : Manner) (line : Line) (xs : List ℕ) → input_output (shut manner line) xs ≡ []
shut_writes manner line [] = closed_answers manner (begun line)
shut_writes manner line (x ∷ xs) =
    let d = shut manner line in
    ap (λ (l : List ℕ). (l ++ piece_output (next d x) xs) ++ end_output (after (next d x) xs)) (silent_by (x == 10) manner line)
    ∙ ap (λ (e : Server). input_output e xs) (shut_by (x == 10) manner line x)
    ∙ shut_writes manner (cond (x == 10) [] (kept_with line x)) xs

shut_stays : (manner : Manner) (line : Line) (xs : List ℕ) → stage_at_end (shut manner line) xs ≡ closed
shut_stays manner line [] = closed_stage manner (begun line)
shut_stays manner line (x ∷ xs) =
    ap (λ (e : Server). stage_at_end e xs) (shut_by (x == 10) manner line x) ∙ shut_stays manner (cond (x == 10) [] (kept_with line x)) xs

-- nothing more is written for an input whose script was refused
pub closed_writes : (d : Server) (xs : List ℕ) → d.stage ≡ closed → input_output d xs ≡ []
closed_writes d xs is = ap (λ stage. input_output (record { manner = d.manner; stage = stage; line = d.line }) xs) is ∙ shut_writes d.manner d.line xs

pub closed_stays : (d : Server) (xs : List ℕ) → d.stage ≡ closed → stage_at_end d xs ≡ closed
closed_stays d xs is = ap (λ stage. stage_at_end (record { manner = d.manner; stage = stage; line = d.line }) xs) is ∙ shut_stays d.manner d.line xs

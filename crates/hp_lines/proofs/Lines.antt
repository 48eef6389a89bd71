-- Of a line that is too long no more need be kept than tells so.
use Rattle.std.proofs.Common.{◌≡◌, ℕ, ◌<◌, ◌≤◌, Bool, true, false, cond, List, length, take, None, Err, inl, inr, refl, sym, ap, ◌∙◌, arith}
use Rattle.std.proofs.lemmas.Bool.{cases_lt, lt-ltb}
use Rattle.std.proofs.lemmas.List.{take_all, length-take-le}
use Rattle.serde_json.specs.Data.{Data}
use Rattle.hp_model.specs.Values.{◌>>=◌}
use Rattle.hp_model.specs.Rules.{Library}
use Rattle.hp_model.specs.Refusals.{over_limit, size_limit, Decoded}
use Rattle.hp_model.specs.Decode.{Version, json_at}
use Rattle.hp_model.specs.NotationPlaces.{read_text, read_text_line}
use Rattle.hp_model.specs.TextScripts.{PlacedRefusal, script_checked, line_checked, text_checked, text_line_checked}
use Rattle.hp_model.specs.Output.{refusal_text, placed_refusal_text}
use Rattle.hp_script.specs.Timed.{timed_script_at, timed_script_of}
use Rattle.hp_script.specs.Requests.{request_at, request_of}
use Rattle.hp_notation.specs.Readings.{told, timed_script_in, request_in}
use Rattle.hp_lines.specs.Lines.{Line}
use Rattle.hp_lines.specs.Checked.{checked_by, script_fault, request_fault}
use Rattle.hp_lines.specs.Live.{Manner, Stage, unopened, up, closed, opening_answer, later_answer, answer}

long_script : (bytes : List ℕ) → 1048576 < length bytes → timed_script_of bytes ≡ Err (over_limit size_limit)
unfolding timed_script_of
long_script bytes h = ap (λ b. cond b (Err (over_limit size_limit)) (json_at bytes >>= timed_script_at)) (lt-ltb _ _ h)

long_request : (version : Version) (library : Library) (clock : ℕ) (bytes : List ℕ) → 1048576 < length bytes → request_of version library clock bytes ≡ Err (over_limit size_limit)
unfolding request_of
long_request version library clock bytes h = ap (λ b. cond b (Err (over_limit size_limit)) (json_at bytes >>= request_at version library clock)) (lt-ltb _ _ h)

abbrev pub too_long : PlacedRefusal
too_long = record { refusal = over_limit size_limit; place = None }

-- what gives the same for all long lines gives the same for what is kept
cut : {A : Type 0} (most : ℕ) (f : List ℕ → A) (r : A) (l : Line) → ((bytes : List ℕ) → most ≤ length bytes → f bytes ≡ r) → f (take most l) ≡ f l
cut most f r l long =
    elim (cases_lt (length l) most) [
      | inl lt ↦ ap f (take_all most l (omega arith))
      | inr le ↦ long (take most l) (omega (arith, length-take-le most l le)) ∙ sym (long l le)
    ]

long_text : {A : Type 0} (checks : Data → Decoded A) (bytes : List ℕ) → 1048576 < length bytes → text_checked checks bytes ≡ Err too_long
unfolding text_checked
long_text checks bytes h = ap (λ b. cond b (Err too_long) (script_checked checks bytes (read_text bytes))) (lt-ltb _ _ h)

long_line : {A : Type 0} (checks : Data → Decoded A) (bytes : List ℕ) → 1048576 < length bytes → text_line_checked checks bytes ≡ Err too_long
unfolding text_line_checked
long_line checks bytes h = ap (λ b. cond b (Err too_long) (line_checked checks bytes (read_text_line bytes))) (lt-ltb _ _ h)

kept_script : (is_text : Bool) (l : Line) → timed_script_in is_text (take 1048577 l) ≡ timed_script_in is_text l
kept_script false l = ap (told refusal_text) (cut 1048577 timed_script_of (Err (over_limit size_limit)) l (λ bytes h. long_script bytes (omega arith)))
kept_script true l = ap (told placed_refusal_text) (cut 1048577 (text_checked timed_script_at) (Err too_long) l (λ bytes h. long_text timed_script_at bytes (omega arith)))

kept_request : (is_text : Bool) (version : Version) (library : Library) (clock : ℕ) (l : Line) → request_in is_text version library clock (take 1048577 l) ≡ request_in is_text version library clock l
kept_request false version library clock l =
    ap (told refusal_text) (cut 1048577 (request_of version library clock) (Err (over_limit size_limit)) l (λ bytes h. long_request version library clock bytes (omega arith)))
kept_request true version library clock l =
    ap (told placed_refusal_text) (cut 1048577 (text_line_checked (request_at version library clock)) (Err too_long) l (λ bytes h. long_line (request_at version library clock) bytes (omega arith)))

pub kept_answer : (manner : Manner) (stage : Stage) (l : Line) → answer manner stage (take 1048577 l) ≡ answer manner stage l
kept_answer manner unopened l = ap (λ r. opening_answer manner.with_tree (checked_by manner.checks script_fault r)) (kept_script manner.is_text l)
kept_answer manner (up base) l =
    ap (λ r. later_answer manner.with_tree base (checked_by manner.checks (request_fault base.library) r)) (kept_request manner.is_text base.version base.library base.clock l)
kept_answer manner closed l = refl

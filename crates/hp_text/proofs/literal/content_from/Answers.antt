use Rattle.std.proofs.Common.{◌≡◌, sym, ap, ◌∙◌, subst, ℕ, ◌+◌, ◌-◌, ◌<◌, ◌≤◌, length, take, drop, get_or, ◌++◌, Option, Some, None, option_map, string_bytes, arith}
use Rattle.std.specs.Char.{encode_utf8}
use Rattle.std.specs.List.{prefix_len}
use Rattle.std.proofs.lemmas.List.{length-drop}
use Rattle.std.proofs.lemmas.List.Sums.{prefix_len-le-length}
use Rattle.hp_model.specs.NotationTokens.{Character, escape, content, broken, closed}
use Rattle.hp_text.specs.Lexemes.{is_plain, character_of, EndsInAscii}
use Rattle.hp_text.proofs.Words.{rest_of}
use Rattle.hp_text.proofs.Contents.{preceded_by, at_end, at_quote, at_control, at_broken, at_escape, stop_is_slash, run_ends, escape_ends, broken_there, closed_there, goes_on}
use Rattle.hp_text.proofs.literal.content_from.Goals as goal
use Rattle.hp_text.proofs.literal.content_from.Goals.{then-stop-bytes-via-then-stop-bytes, then-stop-bytes-via-else-stop-bytes+then-bytes-stop-lt32}

pub range-requires-clause-end_boundary : goal.range-requires-clause-end_boundary
range-requires-clause-end_boundary c =
    let d = c.args.text.now in
    let l = c.runs in
    let n = c.plain_len.result in
    let same = c.as_bytes-bytes.ensures.value in
    let is : n ≡ prefix_len is_plain (drop l.at d) = c.plain_len.ensures.value ∙ ap (prefix_len is_plain) (rest_of l.at c.as_bytes-bytes.result.now ∙ ap (drop l.at) same) in
    run_ends d l.at n l.invariant.boundary.0 is

pub returns-then-stop-bytes-clause-value : goal.returns-then-stop-bytes-clause-value
returns-then-stop-bytes-clause-value c =
    let d = c.args.text.now in
    let l = c.runs in
    let n = c.plain_len.result in
    let same = c.as_bytes-bytes.ensures.value in
    let is : n ≡ prefix_len is_plain (drop l.at d) = c.plain_len.ensures.value ∙ ap (prefix_len is_plain) (rest_of l.at c.as_bytes-bytes.result.now ∙ ap (drop l.at) same) in
    let size : n ≤ length d - l.at = omega (arith, is, prefix_len-le-length is_plain (drop l.at d), length-drop l.at d) in
    let within : l.at ≤ length d = l.invariant.boundary.0 in
    let long : length c.as_bytes-bytes.result.now ≡ length d = ap length same in
    let here : content 0 (drop (l.at + n) d) ≡ broken 0 = elim c.then-stop-bytes.branch [
      | then-stop-bytes-via-then-stop-bytes w ↦ at_end d (l.at + n) (omega (arith, w.if-stop-bytes.true))
      | then-stop-bytes-via-else-stop-bytes+then-bytes-stop-lt32 w ↦ at_control d (l.at + n) (omega (arith, w.if-stop-bytes.false))
          (subst (λ b. get_or b (l.at + n) 0 < 32) same w.if-bytes-stop-lt32.true)
    ] in
    broken_there (content 0 (drop c.args.start d)) d (string_bytes l.found) c.args.start l.at n l.invariant.so_far l.invariant.from is here

pub returns-then-bytes-stop-eq34-clause-value : goal.returns-then-bytes-stop-eq34-clause-value
returns-then-bytes-stop-eq34-clause-value c =
    let d = c.args.text.now in
    let l = c.runs in
    let n = c.plain_len.result in
    let same = c.as_bytes-bytes.ensures.value in
    let is : n ≡ prefix_len is_plain (drop l.at d) = c.plain_len.ensures.value ∙ ap (prefix_len is_plain) (rest_of l.at c.as_bytes-bytes.result.now ∙ ap (drop l.at) same) in
    let size : n ≤ length d - l.at = omega (arith, is, prefix_len-le-length is_plain (drop l.at d), length-drop l.at d) in
    let within : l.at ≤ length d = l.invariant.boundary.0 in
    let there : l.at + n - l.at ≡ n = omega arith in
    let run : string_bytes c.push_str.new.self ≡ string_bytes l.found ++ take n (drop l.at d) = c.in_ok-push_str.ensures.bytes
    ∙ ap (λ r. string_bytes l.found ++ r) (c.range.ensures.value ∙ ap (λ k. take k (drop l.at d)) there) in
    let long : length c.as_bytes-bytes.result.now ≡ length d = ap length same in
    let more : l.at + n < length d = omega (arith, c.if-stop-bytes.false) in
    let quote : get_or d (l.at + n) 0 ≡ 34 = subst (λ b. get_or b (l.at + n) 0 ≡ 34) same c.if-bytes-stop-eq34.true in
    ap (λ t. closed t (l.at + n - c.args.start)) run ∙ closed_there (content 0 (drop c.args.start d)) d (string_bytes l.found) c.args.start l.at n
    l.invariant.so_far l.invariant.from is (at_quote d (l.at + n) more quote)

pub returns-in_default-clause-value : goal.returns-in_default-clause-value
returns-in_default-clause-value c =
    let d = c.args.text.now in
    let l = c.runs in
    let n = c.plain_len.result in
    let same = c.as_bytes-bytes.ensures.value in
    let is : n ≡ prefix_len is_plain (drop l.at d) = c.plain_len.ensures.value ∙ ap (prefix_len is_plain) (rest_of l.at c.as_bytes-bytes.result.now ∙ ap (drop l.at) same) in
    let size : n ≤ length d - l.at = omega (arith, is, prefix_len-le-length is_plain (drop l.at d), length-drop l.at d) in
    let within : l.at ≤ length d = l.invariant.boundary.0 in
    let long : length c.as_bytes-bytes.result.now ≡ length d = ap length same in
    let more : l.at + n < length d = omega (arith, c.if-stop-bytes.false) in
    let slash : get_or d (l.at + n) 0 ≡ 92 = stop_is_slash d l.at n is more (λ e. c.if-bytes-stop-eq34.false (ap (λ b. get_or b (l.at + n) 0) same ∙ e))
    (subst (λ b. 32 ≤ get_or b (l.at + n) 0) same c.if-bytes-stop-lt32.false) in
    let rest = rest_of (l.at + n + 1) c.as_bytes-bytes.result.now ∙ ap (drop (l.at + n + 1)) same in
    let f : Option (ℕ × ℕ) → Option Character = λ o. option_map (λ (p : ℕ × ℕ). character_of p.0 p.1) o in
    let none : escape (drop (l.at + n + 1) d) ≡ None = sym (c.escape.ensures.value ∙ ap escape rest) ∙ ap f c.in_default.is in
    broken_there (content 0 (drop c.args.start d)) d (string_bytes l.found) c.args.start l.at n l.invariant.so_far l.invariant.from is (at_broken d (l.at + n) more slash none)

pub runs-preserved : goal.runs-preserved
runs-preserved c =
    let d = c.args.text.now in
    let l = c.runs in
    let n = c.plain_len.result in
    let same = c.as_bytes-bytes.ensures.value in
    let is : n ≡ prefix_len is_plain (drop l.at d) = c.plain_len.ensures.value ∙ ap (prefix_len is_plain) (rest_of l.at c.as_bytes-bytes.result.now ∙ ap (drop l.at) same) in
    let size : n ≤ length d - l.at = omega (arith, is, prefix_len-le-length is_plain (drop l.at d), length-drop l.at d) in
    let within : l.at ≤ length d = l.invariant.boundary.0 in
    let there : l.at + n - l.at ≡ n = omega arith in
    let run : string_bytes c.push_str.new.self ≡ string_bytes l.found ++ take n (drop l.at d) = c.in_ok-push_str.ensures.bytes
    ∙ ap (λ r. string_bytes l.found ++ r) (c.range.ensures.value ∙ ap (λ k. take k (drop l.at d)) there) in
    let long : length c.as_bytes-bytes.result.now ≡ length d = ap length same in
    let more : l.at + n < length d = omega (arith, c.if-stop-bytes.false) in
    let slash : get_or d (l.at + n) 0 ≡ 92 = stop_is_slash d l.at n is more (λ e. c.if-bytes-stop-eq34.false (ap (λ b. get_or b (l.at + n) 0) same ∙ e))
    (subst (λ b. 32 ≤ get_or b (l.at + n) 0) same c.if-bytes-stop-lt32.false) in
    let rest = rest_of (l.at + n + 1) c.as_bytes-bytes.result.now ∙ ap (drop (l.at + n + 1)) same in
    let next : Character = character_of c.in-Some.character c.in-Some.more in
    let some : escape (drop (l.at + n + 1) d) ≡ Some next = sym (c.in-Some.ensures.value ∙ ap escape rest) in
    let ends : EndsInAscii c.in-Some.more (drop (l.at + n + 1) d) = subst (EndsInAscii c.in-Some.more) rest c.in-Some.ensures.bounds.1 in
    let on = goes_on (content 0 (drop c.args.start d)) d (string_bytes l.found) c.args.start l.at n l.invariant.so_far l.invariant.from is next (at_escape d (l.at + n) next more slash some ends.0) in
    let text : string_bytes c.push.new.self ≡ (string_bytes l.found ++ take n (drop l.at d)) ++ encode_utf8 c.in-Some.character =
    c.in_ok-push.ensures.bytes ∙ ap (λ t. t ++ encode_utf8 c.in-Some.character) run in
    record {
      so_far = on ∙ ap (λ t. preceded_by t (l.at + n + 1 + c.in-Some.more - c.args.start) (content 0 (drop (l.at + n + 1 + c.in-Some.more) d))) (sym text);
      from = omega (arith, l.invariant.from);
      boundary = escape_ends d (l.at + n + 1) c.in-Some.more c.utf8.text c.in-Some.ensures.bounds.0 (omega arith) ends;
    }

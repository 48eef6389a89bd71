-- The answers to bytes that arrive in pieces.
use Rattle.std.proofs.Common.{◌≡◌, ◌≢◌, ◌≤◌, ℕ, suc, drop-cons, ◌+◌, ◌<◌, List, [], ◌∷◌, ◌++◌, length, take, drop, length-take-le, slice_index_or, Option, Some, None, IfSome, Bool}
use Rattle.std.proofs.Common.{true, false, cond, ◌==◌, refl, sym, ap, subst, ◌∙◌, append-nil, arith}
use Rattle.std.specs.Io.KnownBytes.{Appends, Consumes, Keeps, IsAtEnd}
use Rattle.std.proofs.Math.Seq.{take-suc}
use Rattle.std.proofs.lemmas.List.{take-append-drop}
use Rattle.std.proofs.KnownBytes.{Appends-trans, Consumes-trans}
use Rattle.hp_model.specs.Report.{Bytes}
use Rattle.hp_report.specs.Device.{Begins}
use Rattle.hp_lines.specs.Live as L
use Rattle.hp_lines.specs.Live.{piece_output, after, byte_output, next, answered, grown, end_output, input_output, stage_at_end, closed}
use Rattle.hp_lines.proofs.Pieces.{output-append, after-append, input-append, input_of, stage-append, stage_of, closed_writes, closed_stays}
use Rattle.hp_lines.proofs.Kept.{begins_more, begins_on}
use Rattle.hp_live.specs.Kept.{IsServer, FirstAnswers, ReadSoFar, WholeAnswers, AnswersBegun, StopsAtRefusal}
use Rattle.hp_live.specs.Ends.{status_at, status_of}
use Rattle.hp_live.specs.declared.server.Server.{Server}
use Rattle.hp_report.specs.declared.status.Status.{Status}
use Rattle.hp_report.specs.declared.status.Status.TheVariants.{Refused}

-- ---- a piece

-- the answers to some bytes were written, and no write failed
pub record Fed (old new : Option (List ℕ)) (failed : Bool) (before now : Server) (bytes : List ℕ) : Type 0 where
  pub out : (d : L.Server) → IsServer before d → Appends old new (piece_output d bytes)
  pub at : (d : L.Server) → IsServer before d → IsServer now (after d bytes)
  pub whole : failed ≡ false

one_more : (xs : List ℕ) (i : ℕ) → i < length xs → take (i + 1) xs ≡ take i xs ++ slice_index_or xs i 0 ∷ []
one_more xs i low =
    let one : i + 1 ≡ suc i = omega arith in
    ap (λ (n : ℕ). take n xs) one ∙ take-suc xs i 0 low

-- the same with one more byte
pub fed_byte : (old mid new : Option (List ℕ)) (was is : Bool) (before now then : Server) (xs : List ℕ) (i : ℕ) → Fed old mid was before now (take i xs)
    → ((d : L.Server) → IsServer now d → Appends mid new (byte_output d (slice_index_or xs i 0))) → ((d : L.Server) → IsServer now d → IsServer then (next d (slice_index_or xs i 0)))
    → is ≡ false → i < length xs
    → Fed old new is before then (take (i + 1) xs)
fed_byte old mid new was is before now then xs i fed out at whole low =
    let x = slice_index_or xs i 0 in
    let front = take i xs in
    subst (Fed old new is before then) (sym (one_more xs i low)) (record {
      out = λ d here.
          let e = fed.at d here in
          subst (Appends old new) (sym (output-append d front (x ∷ []) ∙ ap (λ (l : List ℕ). piece_output d front ++ l) (append-nil (byte_output (after d front) x))))
          (Appends-trans old mid new (piece_output d front) (byte_output (after d front) x) (fed.out d here) (out (after d front) e));
      at = λ d here. subst (IsServer then) (sym (after-append d front (x ∷ []))) (at (after d front) (fed.at d here));
      whole = whole;
    })

-- what was written by one of the bytes is a prefix of the answers to all
pub begins_piece : (old mid new : Option (List ℕ)) (was : Bool) (before now : Server) (xs : List ℕ) (i : ℕ) → Fed old mid was before now (take i xs)
    → ((d : L.Server) → IsServer now d → Begins mid new (byte_output d (slice_index_or xs i 0))) → i < length xs → (d : L.Server) → IsServer before d → Begins old new (piece_output d xs)
begins_piece old mid new was before now xs i fed begins low d here =
    let x = slice_index_or xs i 0 in
    let front = take i xs in
    let e = after d front in
    let rest = piece_output (next e x) (drop (suc i) xs) in
    let parts : piece_output d front ++ (byte_output e x ++ rest) ≡ piece_output d xs =
    sym (output-append d front (x ∷ drop (suc i) xs)) ∙ ap (λ (l : List ℕ). piece_output d (front ++ l)) (sym (drop-cons xs i 0 low)) ∙ ap (piece_output d) (take-append-drop i xs) in
    subst (Begins old new) parts (begins_on old mid new (piece_output d front) (byte_output e x ++ rest) (fed.out d here) (begins_more mid new (byte_output e x) rest (begins e (fed.at d here))))

-- memory ran out at one of the bytes: those before it are answered
pub first_of_piece : (old mid new : Option (List ℕ)) (was : Bool) (before now : Server) (xs : List ℕ) (i : ℕ) → Fed old mid was before now (take i xs) → mid ≡ new
    → (d : L.Server) → IsServer before d → FirstAnswers old new d xs
first_of_piece old mid new was before now xs i fed none d here = record {
  fed = take i xs;
  unfed = drop i xs;
  parts = sym (take-append-drop i xs);
  out = subst (λ (b : Option (List ℕ)). Appends old b (piece_output d (take i xs))) none (fed.out d here);
}

-- ---- a whole run

-- a run that doesn't end with the refusal of the script
pub open_by : (s : L.Stage) (status : Status) → status ≢ Refused → status ≡ status_at s → s ≢ closed
open_by s status isnt known shut = isnt (known ∙ ap status_at shut)

pub stops_whole : (left rest : Option (List ℕ)) (first : L.Server) (bytes : List ℕ) → Consumes left rest bytes → (after first bytes).stage ≢ closed → StopsAtRefusal left rest first
stops_whole left rest first bytes taken unrefused = record {
  before = bytes;
  piece = [];
  taken = subst (Consumes left rest) (sym (append-nil bytes)) taken;
  short = omega arith;
  unrefused = unrefused;
}

pub short_piece : (buf : List ℕ) (n : ℕ) → n ≤ length buf → length buf ≡ 4096 → length (take n buf) ≤ 4096
short_piece buf n fits room = omega (arith, length-take-le n buf fits, fits, room)

pub stops_piece : (left rest more : Option (List ℕ)) (first : L.Server) (bytes buf : List ℕ) (n : ℕ) → Consumes left rest bytes → Consumes rest more (take n buf) → n ≤ length buf → length buf ≡ 4096
    → (after first bytes).stage ≢ closed → StopsAtRefusal left more first
stops_piece left rest more first bytes buf n taken next fits room unrefused = record {
  before = bytes;
  piece = take n buf;
  taken = Consumes-trans left rest more bytes (take n buf) taken next;
  short = short_piece buf n fits room;
  unrefused = unrefused;
}

-- the answers to all that was read were written
pub record Served (left rest : Option (List ℕ)) (old new : Option (List ℕ)) (first : L.Server) (now : Server) : Type 0 where
  pub bytes : List ℕ
  pub taken : Consumes left rest bytes
  pub out : Appends old new (piece_output first bytes)
  pub at : IsServer now (after first bytes)
  pub stops : first.stage ≢ closed → StopsAtRefusal left rest first

-- of each server that the kept one stands for
abbrev pub ServedFrom : (left rest : Option (List ℕ)) (old new : Option (List ℕ)) (before now : Server) → Type 0
ServedFrom left rest old new before now = (d : L.Server) → IsServer before d → Served left rest old new d now

-- by what was read before a piece
abbrev so_far : (left rest more : Option (List ℕ)) (old mid : Option (List ℕ)) (first : L.Server) (now : Server) (piece : List ℕ)
    → Served left rest old mid first now → Consumes rest more piece → length piece ≤ 4096 → ReadSoFar left more old mid first
so_far left rest more old mid first now piece s taken short = record {
  before = s.bytes;
  piece = piece;
  taken = Consumes-trans left rest more s.bytes piece s.taken taken;
  short = short;
  out = s.out;
}

-- at no piece, as no byte was read since
abbrev nothing_more : (left rest : Option (List ℕ)) (old mid : Option (List ℕ)) (first : L.Server) (now : Server)
    → Served left rest old mid first now → ReadSoFar left rest old mid first
nothing_more left rest old mid first now s = record {
  before = s.bytes;
  piece = [];
  taken = subst (Consumes left rest) (sym (append-nil s.bytes)) s.taken;
  short = omega arith;
  out = s.out;
}

pub none_written : (a b : Option (List ℕ)) → a ≡ b → Appends a b []
none_written None b same = tt
none_written (Some xs) None same = cc
none_written (Some xs) (Some ys) same = let is : xs ≡ ys = cc in sym is ∙ sym (append-nil xs)

-- memory ran out in a piece
pub whole_in_piece : (left rest more : Option (List ℕ)) (old mid new : Option (List ℕ)) (first : L.Server) (now : Server) (piece : List ℕ)
    → Served left rest old mid first now → Consumes rest more piece → length piece ≤ 4096
    → ((d : L.Server) → IsServer now d → FirstAnswers mid new d piece) → WholeAnswers left more old new first
whole_in_piece left rest more old mid new first now piece s taken short answered =
    record { between = mid; so_far = so_far left rest more old mid first now piece s taken short; more = answered (after first s.bytes) s.at }

-- memory ran out after all pieces
pub whole_at_end : (left rest : Option (List ℕ)) (old mid new : Option (List ℕ)) (first : L.Server) (now : Server)
    → Served left rest old mid first now → mid ≡ new → WholeAnswers left rest old new first
whole_at_end left rest old mid new first now s same = record {
  between = mid;
  so_far = nothing_more left rest old mid first now s;
  more = record { fed = []; unfed = []; parts = refl; out = none_written mid new same };
}

-- a write failed in a piece
pub begun_in_piece : (left rest more : Option (List ℕ)) (old mid new : Option (List ℕ)) (first : L.Server) (now : Server) (piece : List ℕ)
    → Served left rest old mid first now → Consumes rest more piece → length piece ≤ 4096
    → ((d : L.Server) → IsServer now d → Begins mid new (piece_output d piece)) → AnswersBegun left more old new first
begun_in_piece left rest more old mid new first now piece s taken short begins = record {
  between = mid;
  so_far = so_far left rest more old mid first now piece s taken short;
  more = begins_more mid new (piece_output (after first s.bytes) piece) (end_output (after (after first s.bytes) piece)) (begins (after first s.bytes) s.at);
}

-- a write failed at the end
pub begun_at_end : (left rest : Option (List ℕ)) (old mid new : Option (List ℕ)) (first : L.Server) (now : Server)
    → Served left rest old mid first now → ((d : L.Server) → IsServer now d → Begins mid new (end_output d)) → AnswersBegun left rest old new first
begun_at_end left rest old mid new first now s begins = record {
  between = mid;
  so_far = nothing_more left rest old mid first now s;
  more = begins (after first s.bytes) s.at;
}

none_taken : (left : Option (List ℕ)) → Consumes left left []
none_taken None = tt
none_taken (Some xs) = refl

-- before the first read
pub served_first : (left : Option (List ℕ)) (old : Option (List ℕ)) (now : Server) → ServedFrom left left old old now now
served_first left old now d here = record {
  bytes = [];
  taken = none_taken left;
  out = none_written old old refl;
  at = here;
  stops = stops_whole left left d [] (none_taken left);
}

-- the same after one more read
pub served_on : (left rest more : Option (List ℕ)) (old mid new : Option (List ℕ)) (first : L.Server) (now then : Server) (piece : List ℕ)
    → Served left rest old mid first now → Consumes rest more piece
    → ((d : L.Server) → IsServer now d → Appends mid new (piece_output d piece)) → ((d : L.Server) → IsServer now d → IsServer then (after d piece))
    → StopsAtRefusal left more first
    → Served left more old new first then
served_on left rest more old mid new first now then piece s taken out at stops = record {
  bytes = s.bytes ++ piece;
  taken = Consumes-trans left rest more s.bytes piece s.taken taken;
  out = subst (Appends old new) (sym (output-append first s.bytes piece)) (Appends-trans old mid new (piece_output first s.bytes) (piece_output (after first s.bytes) piece)
      s.out (out (after first s.bytes) s.at));
  at = subst (IsServer then) (sym (after-append first s.bytes piece)) (at (after first s.bytes) s.at);
  stops = λ unshut. stops;
}

-- the answers to the bytes so far are a prefix of the output
pub begins_output : (left rest old new : Option (List ℕ)) (d : L.Server) (bytes : List ℕ) → Consumes left rest bytes → Begins old new (piece_output d bytes)
    → IfSome left (λ input. Begins old new (input_output d input))
begins_output None rest old new d bytes taken begins = tt
begins_output (Some input) None old new d bytes taken begins = absurd taken
begins_output (Some input) (Some r) old new d bytes taken begins =
    let all : piece_output d bytes ++ input_output (after d bytes) r ≡ input_output d input = sym (input-append d bytes r) ∙ ap (input_output d) (sym taken) in
    subst (Begins old new) all (begins_more old new (piece_output d bytes) (input_output (after d bytes) r) begins)

-- the answers to all bytes, followed by those at their end, are the output, and each prefix is one of it
pub begins_end : (left rest old mid new : Option (List ℕ)) (d : L.Server) (bytes : List ℕ) → Consumes left rest bytes → IsAtEnd rest → Appends old mid (piece_output d bytes)
    → Begins mid new (end_output (after d bytes)) → IfSome left (λ input. Begins old new (input_output d input))
begins_end None rest old mid new d bytes taken ended out begins = tt
begins_end (Some input) None old mid new d bytes taken ended out begins = absurd taken
begins_end (Some input) (Some r) old mid new d bytes taken ended out begins =
    let whole : bytes ≡ input = sym (append-nil bytes) ∙ ap (λ (l : List ℕ). bytes ++ l) (sym ended) ∙ sym taken in
    subst (Begins old new) (ap (input_output d) whole) (begins_on old mid new (piece_output d bytes) (end_output (after d bytes)) out begins)

pub output_end : (left rest old mid new : Option (List ℕ)) (d : L.Server) (bytes : List ℕ) → Consumes left rest bytes → IsAtEnd rest → Appends old mid (piece_output d bytes)
    → Appends mid new (end_output (after d bytes)) → IfSome left (λ input. Appends old new (input_output d input))
output_end None rest old mid new d bytes taken ended out last = tt
output_end (Some input) None old mid new d bytes taken ended out last = absurd taken
output_end (Some input) (Some r) old mid new d bytes taken ended out last =
    let whole : bytes ≡ input = sym (append-nil bytes) ∙ ap (λ (l : List ℕ). bytes ++ l) (sym ended) ∙ sym taken in
    subst (Appends old new) (ap (input_output d) whole) (Appends-trans old mid new (piece_output d bytes) (end_output (after d bytes)) out last)

-- if the script was refused, the output is complete
pub output_closed : (left rest old new : Option (List ℕ)) (d : L.Server) (bytes : List ℕ) → Consumes left rest bytes → Appends old new (piece_output d bytes)
    → (after d bytes).stage ≡ closed → IfSome left (λ input. Appends old new (input_output d input))
output_closed None rest old new d bytes taken out shut = tt
output_closed (Some input) None old new d bytes taken out shut = absurd taken
output_closed (Some input) (Some r) old new d bytes taken out shut =
    let all : piece_output d bytes ≡ input_output d input =
    sym (append-nil (piece_output d bytes)) ∙ ap (λ (l : List ℕ). piece_output d bytes ++ l) (sym (closed_writes (after d bytes) r shut)) ∙ sym (input-append d bytes r)
    ∙ ap (input_output d) (sym taken) in
    subst (Appends old new) all out

closed_of : (s : L.Stage) → status_at s ≡ Refused → s ≡ closed
closed_of L.unopened e = cc
closed_of (L.up base) e = cc
closed_of L.closed e = refl

-- a run that ends with the refusal of the script
pub closed_by : (s : L.Stage) (status : Status) → status ≡ Refused → status ≡ status_at s → s ≡ closed
closed_by s status is known = closed_of s (sym known ∙ is)

pub status_closed : (left rest : Option (List ℕ)) (d : L.Server) (bytes : List ℕ) → Consumes left rest bytes → (after d bytes).stage ≡ closed
    → IfSome left (λ input. Refused ≡ status_at (stage_at_end d input))
status_closed None rest d bytes taken shut = tt
status_closed (Some input) None d bytes taken shut = absurd taken
status_closed (Some input) (Some r) d bytes taken shut =
    ap status_at (sym (closed_stays (after d bytes) r shut) ∙ sym (stage-append d bytes r) ∙ ap (stage_at_end d) (sym taken))

pub status_end : (left rest : Option (List ℕ)) (d : L.Server) (bytes : List ℕ) (status : Status) → Consumes left rest bytes → IsAtEnd rest → status ≡ status_at (stage_at_end d bytes)
    → IfSome left (λ input. status ≡ status_at (stage_at_end d input))
status_end None rest d bytes status taken ended known = tt
status_end (Some input) None d bytes status taken ended known = absurd taken
status_end (Some input) (Some r) d bytes status taken ended known =
    let whole : bytes ≡ input = sym (append-nil bytes) ∙ ap (λ (l : List ℕ). bytes ++ l) (sym ended) ∙ sym taken in
    known ∙ ap (λ (l : List ℕ). status_at (stage_at_end d l)) whole

-- ---- the rest after reads

-- a read that failed gave nothing
pub kept_left : (left rest new : Option (List ℕ)) (bytes : List ℕ) → Consumes left rest bytes → Keeps rest new → Consumes left new bytes
kept_left None rest new bytes taken keeps = tt
kept_left (Some input) None new bytes taken keeps = absurd taken
kept_left (Some input) (Some r) None bytes taken keeps = absurd keeps
kept_left (Some input) (Some r) (Some q) bytes taken keeps = taken ∙ ap (λ (l : List ℕ). bytes ++ l) (sym keeps)

-- what was written for a piece is a prefix of the output
pub begins_fed : (left rest more old mid new : Option (List ℕ)) (d : L.Server) (bytes piece : List ℕ) → Consumes left rest bytes → Consumes rest more piece → Appends old mid (piece_output d bytes)
    → Begins mid new (piece_output (after d bytes) piece) → IfSome left (λ input. Begins old new (input_output d input))
begins_fed left rest more old mid new d bytes piece taken next out begins =
    begins_output left more old new d (bytes ++ piece) (Consumes-trans left rest more bytes piece taken next)
    (subst (Begins old new) (sym (output-append d bytes piece)) (begins_on old mid new (piece_output d bytes) (piece_output (after d bytes) piece) out begins))

-- a server that was closed stays so
next_closed : (b : Bool) (d : L.Server) (x : ℕ) → d.stage ≡ closed → (cond b (answered d) (grown d x)).stage ≡ closed
next_closed true d x shut = ap (λ (stage : L.Stage). (L.answer d.manner stage d.line).stage) shut
next_closed false d x shut = shut

pub stays_closed : (d : L.Server) (bytes : List ℕ) → d.stage ≡ closed → (after d bytes).stage ≡ closed
stays_closed d [] shut = shut
stays_closed d (x ∷ xs) shut = stays_closed (next d x) xs (next_closed (x == 10) d x shut)

-- ---- after a script's file

-- a server whose first line is the file's bytes
abbrev pub holding : L.Manner → Bytes → L.Server
holding manner script = record { manner = manner; stage = L.unopened; line = script }

-- the answer to the file and those to the input are the output
pub output_by : (left old mid new : Option (List ℕ)) (manner : L.Manner) (script : Option Bytes) → Appends old mid (L.opening_output manner script)
    → IfSome left (λ input. Appends mid new (input_output (L.opened_server manner script) input)) → IfSome left (λ input. Appends old new (L.output manner script input))
output_by None old mid new manner script opened out = tt
output_by (Some input) old mid new manner script opened out =
    subst (Appends old new) (input_of manner script input) (Appends-trans old mid new (L.opening_output manner script) (input_output (L.opened_server manner script) input) opened out)

pub begins_by : (left old mid new : Option (List ℕ)) (manner : L.Manner) (script : Option Bytes) → Appends old mid (L.opening_output manner script)
    → IfSome left (λ input. Begins mid new (input_output (L.opened_server manner script) input)) → IfSome left (λ input. Begins old new (L.output manner script input))
begins_by None old mid new manner script opened out = tt
begins_by (Some input) old mid new manner script opened out =
    subst (Begins old new) (input_of manner script input) (begins_on old mid new (L.opening_output manner script) (input_output (L.opened_server manner script) input) opened out)

-- what was written of the answer to the file is a prefix of the output
pub begins_opening : (left old new : Option (List ℕ)) (manner : L.Manner) (script : Option Bytes) → Begins old new (L.opening_output manner script)
    → IfSome left (λ input. Begins old new (L.output manner script input))
begins_opening None old new manner script begins = tt
begins_opening (Some input) old new manner script begins =
    subst (Begins old new) (input_of manner script input) (begins_more old new (L.opening_output manner script) (input_output (L.opened_server manner script) input) begins)

pub status_by : (left : Option (List ℕ)) (manner : L.Manner) (script : Option Bytes) (status : Status) → IfSome left (λ input. status ≡ status_at (stage_at_end (L.opened_server manner script) input))
    → IfSome left (λ input. status ≡ status_of manner script input)
status_by None manner script status is = tt
status_by (Some input) manner script status is = is ∙ ap status_at (stage_of manner script input)

-- ---- after bytes that were read ahead

module _ (manner : L.Manner) (script : Option Bytes) (ahead : List ℕ) where
  abbrev opened : L.Server
  opened = L.opened_server manner script

  -- what was written of the answers to the bytes that were read ahead is a prefix of the output
  pub begins_ahead : (left old mid new : Option (List ℕ)) → Appends old mid (L.opening_output manner script) → Begins mid new (piece_output opened ahead)
      → IfSome left (λ input. Begins old new (L.output manner script (ahead ++ input)))
  begins_ahead None old mid new answered begins = tt
  begins_ahead (Some input) old mid new answered begins =
      let more : piece_output opened ahead ++ input_output (after opened ahead) input ≡ input_output opened (ahead ++ input) = sym (input-append opened ahead input) in
      begins_by (Some (ahead ++ input)) old mid new manner script answered
      (subst (Begins mid new) more (begins_more mid new (piece_output opened ahead) (input_output (after opened ahead) input) begins))

  pub begins_of_none : (left old new : Option (List ℕ)) → Begins old new (L.opening_output manner script) → IfSome left (λ input. Begins old new (L.output manner script (ahead ++ input)))
  begins_of_none None old new begins = tt
  begins_of_none (Some input) old new begins = begins_opening (Some (ahead ++ input)) old new manner script begins

  pub begins_after : (left old mid fed new : Option (List ℕ)) → Appends old mid (L.opening_output manner script) → Appends mid fed (piece_output opened ahead)
      → IfSome left (λ input. Begins fed new (input_output (after opened ahead) input)) → IfSome left (λ input. Begins old new (L.output manner script (ahead ++ input)))
  begins_after None old mid fed new answered out begins = tt
  begins_after (Some input) old mid fed new answered out begins =
      let more : piece_output opened ahead ++ input_output (after opened ahead) input ≡ input_output opened (ahead ++ input) = sym (input-append opened ahead input) in
      begins_by (Some (ahead ++ input)) old mid new manner script answered
      (subst (Begins mid new) more (begins_on mid fed new (piece_output opened ahead) (input_output (after opened ahead) input) out begins))

  pub output_after : (left old mid fed new : Option (List ℕ)) → Appends old mid (L.opening_output manner script) → Appends mid fed (piece_output opened ahead)
      → IfSome left (λ input. Appends fed new (input_output (after opened ahead) input)) → IfSome left (λ input. Appends old new (L.output manner script (ahead ++ input)))
  output_after None old mid fed new answered out rest = tt
  output_after (Some input) old mid fed new answered out rest =
      let more : piece_output opened ahead ++ input_output (after opened ahead) input ≡ input_output opened (ahead ++ input) = sym (input-append opened ahead input) in
      output_by (Some (ahead ++ input)) old mid new manner script answered
      (subst (Appends mid new) more (Appends-trans mid fed new (piece_output opened ahead) (input_output (after opened ahead) input) out rest))

  pub status_after : (left : Option (List ℕ)) (status : Status) → IfSome left (λ input. status ≡ status_at (stage_at_end (after opened ahead) input))
      → IfSome left (λ input. status ≡ status_of manner script (ahead ++ input))
  status_after None status is = tt
  status_after (Some input) status is = status_by (Some (ahead ++ input)) manner script status (is ∙ ap status_at (sym (stage-append opened ahead input)))

-- The canonical text of an event is read as the event.
use Rattle.std.proofs.Common.{◌≡◌, refl, ap, ◌∙◌, ℕ, zero, suc, ◌+◌, ◌<◌, ◌≤◌, ◌^◌, Bool, true, false, ◌||◌, List, [], ◌∷◌, codes, Option, Some, None, Ok, arith}
use Rattle.std.specs.Prelude.{pos}
use Rattle.std.proofs.lemmas.Bool.{lt-ltb, or_parts, true≢false}
use Rattle.serde_json.specs.Data.{Data}
use Rattle.hp_model.specs.Values.{◌>>=◌}
use Rattle.hp_model.specs.NotationTokens.{Mark, or_mark, then_mark, until_mark, create_mark, update_mark, delete_mark, signal_mark, close_parenthesis, Token, Tokens}
use Rattle.hp_model.specs.NotationTree as T
use Rattle.hp_model.specs.NotationTree.{Node, form, Phrase}
use Rattle.hp_model.specs.NotationPhrases.{is_mark, past, passed, Operator, most_operators, chain_from}
use Rattle.hp_model.specs.NotationEvents.{simple_event, joint, event_operator, event, event_within, any_event}
use Rattle.hp_model.specs.NotationForms.{Change, creation, change, deletion, Event, on_change, on_signal, on_commit, at_moment, every_moment, or_event, then_event, closure_event}
use Rattle.hp_model.specs.NotationForms.{event_data, form_data}
use Rattle.hp_model.specs.NotationPrint.{Gap, tight, space, Pieces, at_gap, sign, enclosed_if, first_is, is_or, is_then, event_pieces}
use Rattle.hp_model.specs.NotationLaws.{IsWritableEvent, event_levels}
use Rattle.hp_model.proofs.NotationReadings.{bind_ok, stream, Reading, Chaining, Grows, chain_on, ends, name_cases, begins-stream, grows_enclosed}

-- whether a token joins two events
abbrev pub joins_events : Token → Bool
joins_events t = is_mark or_mark t || is_mark then_mark t

first_parts : (k : Pieces) → first_is joins_events k ≡ false → (first_is (is_mark or_mark) k ≡ false) × (first_is (is_mark then_mark) k ≡ false)
first_parts [] h = (refl, refl)
first_parts (p ∷ k) h = or_parts _ _ h

no_joint : (m : Mark) (tag : List ℕ) (k : Pieces) (o : ℕ → ℕ) → first_is (is_mark m) k ≡ false → joint m tag (stream o k) ≡ None
no_joint m tag k o h = ap (λ b. elim b as (λ _. Option (List ℕ × Tokens)) [ true ↦ Some (tag, past (stream o k)) | false ↦ None ]) (begins-stream (is_mark m) k o ∙ h)

no_event_operator : (k : Pieces) (o : ℕ → ℕ) → first_is joins_events k ≡ false → event_operator (stream o k) (stream o k) ≡ None
no_event_operator k o h =
    let parts = first_parts k h in
    ap (λ b. (elim b as (λ _. Operator) [ true ↦ joint or_mark (codes "or") | false ↦ joint then_mark (codes "seq") ]) (stream o k)) (begins-stream (is_mark or_mark) k o ∙ parts.0)
    ∙ no_joint then_mark (codes "seq") k o parts.1

-- ---- what an event writes comes before what follows

pub grows_event : (x : Event) → Grows (event_pieces x)
grows_event (on_change c x) gap k = omega arith
grows_event (on_signal x) gap k = omega arith
grows_event on_commit gap k = omega arith
grows_event (at_moment t) gap k = omega arith
grows_event (every_moment t n) gap k = omega arith
grows_event (or_event a b) gap k =
    let one = grows_enclosed (is_or b || is_then b) (event_pieces b) (grows_event b) space k in
    let two = grows_enclosed (is_then a) (event_pieces a) (grows_event a) gap (sign space or_mark (enclosed_if (is_or b || is_then b) (event_pieces b) space k)) in
    omega arith
grows_event (then_event a b) gap k =
    let one = grows_enclosed (is_or b || is_then b) (event_pieces b) (grows_event b) space k in
    let two = grows_enclosed (is_or a) (event_pieces a) (grows_event a) gap (sign space then_mark (enclosed_if (is_or b || is_then b) (event_pieces b) space k)) in
    omega arith
grows_event (closure_event a b) gap k =
    let one = grows_event b space (sign tight close_parenthesis k) in
    let two = grows_event a tight (sign space until_mark (event_pieces b space (sign tight close_parenthesis k))) in
    omega arith

-- ---- how an event is read

module _ (l levels : ℕ) (some : 0 < levels) (f : Gap → Pieces → Pieces) (d : Data) where
  -- an event that isn't `or` or `then`
  abbrev SimpleBy : Type 0
  SimpleBy = (gap : Gap) (k : Pieces) (o : ℕ → ℕ) → Reading (simple_event (event_within l)) d (stream o (f gap k)) k

  -- on the left of a mark that joins events
  abbrev LeftBy : Mark → List ℕ → Type 0
  LeftBy m tag = (gap : Gap) (k : Pieces) (o : ℕ → ℕ) → Chaining (simple_event (event_within l)) (joint m tag) (event (event_within l)) levels d (stream o (f gap (sign space m k))) (sign space m k)

  -- a whole event
  abbrev WholeBy : Type 0
  WholeBy = (gap : Gap) (k : Pieces) (o : ℕ → ℕ) → first_is joins_events k ≡ false → Reading (event (event_within l)) d (stream o (f gap k)) k

  or_left_of : SimpleBy → LeftBy or_mark (codes "or")
  unfolding event
  or_left_of by gap k o =
      let r = by gap (sign space or_mark k) o in
      record {
        node = r.node;
        next = r.next;
        turns = most_operators;
        enough = omega arith;
        same = r.same;
        reads = ap (λ q. q >>= λ p. chain_from (simple_event (event_within l)) (event_operator p.1) most_operators p.0 p.1) r.reads;
      }

  then_left_of : SimpleBy → LeftBy then_mark (codes "seq")
  unfolding event
  then_left_of by gap k o =
      let r = by gap (sign space then_mark k) o in
      record {
        node = r.node;
        next = r.next;
        turns = most_operators;
        enough = omega arith;
        same = r.same;
        reads = ap (λ q. q >>= λ p. chain_from (simple_event (event_within l)) (event_operator p.1) most_operators p.0 p.1) r.reads;
      }

  whole_of : SimpleBy → WholeBy
  unfolding event
  whole_of by gap k o h =
      let r = by gap k o in
      let rest = stream r.next k in
      record {
        node = r.node;
        next = r.next;
        same = r.same;
        reads = ap (λ q. q >>= λ p. chain_from (simple_event (event_within l)) (event_operator p.1) most_operators p.0 p.1) r.reads
            ∙ ends (simple_event (event_within l)) (event_operator rest) most_operators r.node rest (no_event_operator k r.next h);
      }

pub event_levels_positive : (x : Event) → 0 < event_levels x
event_levels_positive (or_event a b) = omega arith
event_levels_positive (then_event a b) = omega arith
event_levels_positive (closure_event a b) = omega arith
event_levels_positive x = omega arith

record Own (x : Event) (l : ℕ) : Type 0 where
  simple : (is_or x || is_then x) ≡ false → SimpleBy l (event_levels x) (event_levels_positive x) (event_pieces x) (event_data x)
  or_left : is_then x ≡ false → LeftBy l (event_levels x) (event_levels_positive x) (event_pieces x) (event_data x) or_mark (codes "or")
  then_left : is_or x ≡ false → LeftBy l (event_levels x) (event_levels_positive x) (event_pieces x) (event_data x) then_mark (codes "seq")
  whole : WholeBy l (event_levels x) (event_levels_positive x) (event_pieces x) (event_data x)

abbrev Owned : Event → Type 0
Owned x = (l : ℕ) → l < 64 → event_levels x ≤ l + 1 → Own x l

own_simple : (x : Event) (l : ℕ) → SimpleBy l (event_levels x) (event_levels_positive x) (event_pieces x) (event_data x) → Own x l
own_simple x l by = record {
  simple = λ _. by;
  or_left = λ _. or_left_of l (event_levels x) (event_levels_positive x) (event_pieces x) (event_data x) by;
  then_left = λ _. then_left_of l (event_levels x) (event_levels_positive x) (event_pieces x) (event_data x) by;
  whole = whole_of l (event_levels x) (event_levels_positive x) (event_pieces x) (event_data x) by;
}

module _ (x : Event) (own : Owned x) where
  -- in parentheses, which nest a level deeper
  parenthesized : (l : ℕ) → l < 64 → event_levels x ≤ l → SimpleBy l (event_levels x) (event_levels_positive x) (enclosed_if true (event_pieces x)) (event_data x)
  unfolding event_within
  parenthesized zero few h gap k o = absurd (omega (arith, event_levels_positive x))
  parenthesized (suc l) few h gap k o =
      let r = (own l (omega arith) (omega arith)).whole tight (sign tight close_parenthesis k) (λ i. o (suc i)) refl in
      record {
        node = r.node;
        next = λ i. r.next (suc i);
        same = r.same;
        reads = ap (λ q. q >>= λ e. passed (is_mark close_parenthesis) e.1 >>= λ rest. Ok (e.0, rest)) r.reads;
      }

  module _ (l : ℕ) (few : l < 64) (h : event_levels x ≤ l) where
    as_simple : (b : Bool) → (is_or x || is_then x) ≡ b → SimpleBy l (event_levels x) (event_levels_positive x) (enclosed_if b (event_pieces x)) (event_data x)
    as_simple true e = parenthesized l few h
    as_simple false e = (own l few (omega arith)).simple e

    on_left_of_or : (b : Bool) → is_then x ≡ b → LeftBy l (event_levels x) (event_levels_positive x) (enclosed_if b (event_pieces x)) (event_data x) or_mark (codes "or")
    on_left_of_or true e = or_left_of l (event_levels x) (event_levels_positive x) (enclosed_if true (event_pieces x)) (event_data x) (parenthesized l few h)
    on_left_of_or false e = (own l few (omega arith)).or_left e

    on_left_of_then : (b : Bool) → is_or x ≡ b → LeftBy l (event_levels x) (event_levels_positive x) (enclosed_if b (event_pieces x)) (event_data x) then_mark (codes "seq")
    on_left_of_then true e = then_left_of l (event_levels x) (event_levels_positive x) (enclosed_if true (event_pieces x)) (event_data x) (parenthesized l few h)
    on_left_of_then false e = (own l few (omega arith)).then_left e

module _ (a b : Event) (left : Owned a) (right : Owned b) where
  abbrev on_right : Gap → Pieces → Pieces
  on_right = enclosed_if (is_or b || is_then b) (event_pieces b)

  or_chain : (l : ℕ) → l < 64 → event_levels (or_event a b) ≤ l + 1 → (gap : Gap) (k : Pieces) (o : ℕ → ℕ)
      → Chaining (simple_event (event_within l)) (joint or_mark (codes "or")) (event (event_within l)) (event_levels (or_event a b)) (event_data (or_event a b))
      (stream o (event_pieces (or_event a b) gap k)) k
  or_chain l few h gap k o =
      chain_on (simple_event (event_within l)) (joint or_mark (codes "or")) (event (event_within l)) (codes "or") or_mark (stream o (event_pieces (or_event a b) gap k))
      on_right k (event_data a) (event_data b) (event_levels a) (event_levels (or_event a b))
      (λ next. refl) (omega arith) (omega arith)
      (on_left_of_or a left l few (omega arith) (is_then a) refl gap (on_right space k) o) (λ next. as_simple b right l few (omega arith) (is_or b || is_then b) refl space k next)

  then_chain : (l : ℕ) → l < 64 → event_levels (then_event a b) ≤ l + 1 → (gap : Gap) (k : Pieces) (o : ℕ → ℕ)
      → Chaining (simple_event (event_within l)) (joint then_mark (codes "seq")) (event (event_within l)) (event_levels (then_event a b)) (event_data (then_event a b))
      (stream o (event_pieces (then_event a b) gap k)) k
  then_chain l few h gap k o =
      chain_on (simple_event (event_within l)) (joint then_mark (codes "seq")) (event (event_within l)) (codes "seq") then_mark (stream o (event_pieces (then_event a b) gap k))
      on_right k (event_data a) (event_data b) (event_levels a) (event_levels (then_event a b))
      (λ next. refl) (omega arith) (omega arith)
      (on_left_of_then a left l few (omega arith) (is_or a) refl gap (on_right space k) o) (λ next. as_simple b right l few (omega arith) (is_or b || is_then b) refl space k next)

  whole_chain : (l levels : ℕ) (m : Mark) (tag : List ℕ) (d : Data) (ts : Tokens) (k : Pieces) → first_is (is_mark m) k ≡ false
      → Chaining (simple_event (event_within l)) (joint m tag) (event (event_within l)) levels d ts k → Reading (event (event_within l)) d ts k
  whole_chain l levels m tag d ts k none c = record {
    node = c.node;
    next = c.next;
    same = c.same;
    reads = c.reads ∙ ends (simple_event (event_within l)) (joint m tag) c.turns c.node (stream c.next k) (no_joint m tag k c.next none);
  }

  own_or : Owned (or_event a b)
  own_or l few h = record {
    simple = λ e. absurd (true≢false e);
    or_left = λ _ gap k o. or_chain l few h gap (sign space or_mark k) o;
    then_left = λ e. absurd (true≢false e);
    whole = λ gap k o none. whole_chain l (event_levels (or_event a b)) or_mark (codes "or") (event_data (or_event a b)) (stream o (event_pieces (or_event a b) gap k))
        k (first_parts k none).0 (or_chain l few h gap k o);
  }

  own_then : Owned (then_event a b)
  own_then l few h = record {
    simple = λ e. absurd (true≢false e);
    or_left = λ e. absurd (true≢false e);
    then_left = λ _ gap k o. then_chain l few h gap (sign space then_mark k) o;
    whole = λ gap k o none. whole_chain l (event_levels (then_event a b)) then_mark (codes "seq") (event_data (then_event a b)) (stream o (event_pieces (then_event a b) gap k))
        k (first_parts k none).1 (then_chain l few h gap k o);
  }

  closure_by : (l : ℕ) → l < 64 → event_levels (closure_event a b) ≤ l + 1
      → SimpleBy l (event_levels (closure_event a b)) (omega arith) (event_pieces (closure_event a b)) (event_data (closure_event a b))
  unfolding event_within
  closure_by zero few h gap k o = absurd (omega (arith, event_levels_positive a))
  closure_by (suc l) few h gap k o =
      let after = sign tight close_parenthesis k in
      let one = (left l (omega arith) (omega arith)).whole tight (sign space until_mark (event_pieces b space after)) (λ i. o (suc (suc i))) refl in
      let two = (right l (omega arith) (omega arith)).whole space after (λ i. one.next (suc i)) refl in
      record {
        node = form (o 0) (codes "closure") (one.node ∷ two.node ∷ []);
        next = λ i. two.next (suc i);
        same = λ i. form_data (codes "closure") (one.same i ∷ two.same i ∷ []);
        reads = bind_ok _ _ _ one.reads ∙ bind_ok _ _ _ two.reads;
      }

  own_closure : Owned (closure_event a b)
  own_closure l few h = own_simple (closure_event a b) l (closure_by l few h)

-- ---- events without parts

own_change : (c : Change) (x : List ℕ) (l : ℕ) → Own (on_change c x) l
own_change creation x l = own_simple (on_change creation x) l
    (λ gap k o. name_cases x (λ t. Reading (simple_event (event_within l)) (event_data (on_change creation x)) (stream o (sign gap create_mark (at_gap space t k))) k)
    (record { node = form (o 0) (codes "create") (T.text (o 1) x ∷ []); next = λ i. o (suc (suc i)); same = refl; reads = refl })
    (record { node = form (o 0) (codes "create") (T.text (o 1) x ∷ []); next = λ i. o (suc (suc i)); same = refl; reads = refl }))
own_change change x l = own_simple (on_change change x) l
    (λ gap k o. name_cases x (λ t. Reading (simple_event (event_within l)) (event_data (on_change change x)) (stream o (sign gap update_mark (at_gap space t k))) k)
    (record { node = form (o 0) (codes "update") (T.text (o 1) x ∷ []); next = λ i. o (suc (suc i)); same = refl; reads = refl })
    (record { node = form (o 0) (codes "update") (T.text (o 1) x ∷ []); next = λ i. o (suc (suc i)); same = refl; reads = refl }))
own_change deletion x l = own_simple (on_change deletion x) l
    (λ gap k o. name_cases x (λ t. Reading (simple_event (event_within l)) (event_data (on_change deletion x)) (stream o (sign gap delete_mark (at_gap space t k))) k)
    (record { node = form (o 0) (codes "delete") (T.text (o 1) x ∷ []); next = λ i. o (suc (suc i)); same = refl; reads = refl })
    (record { node = form (o 0) (codes "delete") (T.text (o 1) x ∷ []); next = λ i. o (suc (suc i)); same = refl; reads = refl }))

own_signal : (x : List ℕ) (l : ℕ) → Own (on_signal x) l
own_signal x l = own_simple (on_signal x) l
    (λ gap k o. name_cases x (λ t. Reading (simple_event (event_within l)) (event_data (on_signal x)) (stream o (sign gap signal_mark (at_gap space t k))) k)
    (record { node = form (o 0) (codes "signal") (T.text (o 1) x ∷ []); next = λ i. o (suc (suc i)); same = refl; reads = refl })
    (record { node = form (o 0) (codes "signal") (T.text (o 1) x ∷ []); next = λ i. o (suc (suc i)); same = refl; reads = refl }))

owned : (x : Event) → IsWritableEvent x → Owned x
owned (on_change c x) w l few h = own_change c x l
owned (on_signal x) w l few h = own_signal x l
owned on_commit w l few h = own_simple on_commit l (λ gap k o. record { node = form (o 0) (codes "commit") []; next = λ i. o (suc i); same = refl; reads = refl })
owned (at_moment t) w l few h = own_simple (at_moment t) l
    (λ gap k o. record { node = form (o 0) (codes "at") (T.integer (o 1) (pos t) ∷ []); next = λ i. o (suc (suc i)); same = refl; reads = rw (lt-ltb t (2 ^ 63) w) refl })
owned (every_moment t n) w l few h = own_simple (every_moment t n) l
    (λ gap k o. record {
      node = form (o 0) (codes "every") (T.integer (o 3) (pos t) ∷ T.integer (o 1) (pos n) ∷ []);
      next = λ i. o (suc (suc (suc (suc i))));
      same = refl;
      reads = rw (lt-ltb n (2 ^ 63) w.1, lt-ltb t (2 ^ 63) w.0) refl;
    })
owned (or_event a b) w l few h = own_or a b (owned a w.0) (owned b w.1) l few h
owned (then_event a b) w l few h = own_then a b (owned a w.0) (owned b w.1) l few h
owned (closure_event a b) w l few h = own_closure a b (owned a w.0) (owned b w.1) l few h

-- the event of a rule
pub any_event_read : (x : Event) → IsWritableEvent x → event_levels x ≤ 64 → (gap : Gap) (k : Pieces) (o : ℕ → ℕ) → first_is joins_events k ≡ false
    → Reading any_event (event_data x) (stream o (event_pieces x gap k)) k
unfolding event_within
any_event_read x w h = (owned x w 63 (omega arith) (omega arith)).whole

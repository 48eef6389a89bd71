-- The pieces of a script that can be written are spelt, and the text of spelt pieces is UTF-8.
use Rattle.std.proofs.Common.{ap, subst, append-nil, map, ◌≡◌, refl, sym, ◌∙◌, ℕ, zero, suc, ◌*◌, ◌<◌, ◌≤◌, pos, negsuc, Bool, true, false, ◌&&◌, ◌||◌, nat_lt, List, [], ◌∷◌, ◌++◌}
use Rattle.std.proofs.Common.{codes, decimal, replicate, IsUtf8, Option, Some, None, inl, inr, ◌⊎◌, arith}
use Rattle.std.specs.Prelude.{nat_le, bytes_eq}
use Rattle.std.specs.List.{list_all}
use Rattle.std.specs.Str.{is_utf8, IsAscii}
use Rattle.std.proofs.lemmas.Bool.{and_parts, and_right, or_from, cases_lt, lt-leb, ne_eqb, true≢false}
use Rattle.std.proofs.lemmas.Str.{IsUtf8-append, IsUtf8-nil, IsUtf8-from_ascii, is_utf8-from_IsUtf8, IsUtf8-from_is_utf8}
use Rattle.std.proofs.lemmas.Fmt.{IsAscii-decimal}
use Rattle.json.specs.Print.{escape_byte}
use Rattle.json.proofs.Printed.Utf8.{IsUtf8-quoted, IsUtf8-are_ascii}
use Rattle.hp_model.specs.Values.{Kind, integer_kind, boolean_kind, text_kind}
use Rattle.hp_model.specs.Rules.{Coupling, immediate, deferred, separate, dependent, exclusive}
use Rattle.hp_model.specs.Report.{quoted as quoted_text}
use Rattle.hp_model.specs.Parts.{is_name, is_name_byte}
use Rattle.hp_model.specs.NotationTokens.{Mark, on_mark, else_mark, otherwise_mark, close_parenthesis, Token, mark, word, quoted, number, string, spelling, reserved_word, tokens}
use Rattle.hp_model.specs.NotationForms.{Expression, integer, truth, text, operation, inverted, negated, field_of, key_of, value, now, image_field, key_in, time_of, argument}
use Rattle.hp_model.specs.NotationForms.{occurrence_count, Event, on_change, on_signal, on_commit, at_moment, every_moment, or_event, then_event, closure_event, Rows, Fold, total}
use Rattle.hp_model.specs.NotationForms.{least, greatest, fold_word, Aggregate, count_of, fold_of, next_key, plain, Query, some_rows, no_rows, named_value, Assignment, Statement}
use Rattle.hp_model.specs.NotationForms.{set_object, delete, signal, emit, when, each, for_answer, with_object, with_value, subtransaction, abort, veto, veto_with, on_rule, Body}
use Rattle.hp_model.specs.NotationForms.{empty, ◌then◌, Field, kind_word, Class, Rule, Item, transaction, clock, Script}
use Rattle.hp_model.specs.NotationPrint.{Gap, tight, space, line, paragraph, Pieces, sign, name_token, token_of_name, value_token, value_token_of, enclosed_if, first_is, each_part}
use Rattle.hp_model.specs.NotationPrint.{more_parts, part_pieces, expression_level, left_level, right_level, negated_level, expression_pieces, is_or, is_then, event_pieces}
use Rattle.hp_model.specs.NotationPrint.{predicate_pieces, rows_pieces, begins_aggregate, aggregate_pieces, binding_pieces, query_pieces, object_pieces, assignment_pieces}
use Rattle.hp_model.specs.NotationPrint.{assignments_pieces, argument_pieces, arguments_pieces, is_empty, braced, body_after, is_let, statement_pieces, statements_pieces}
use Rattle.hp_model.specs.NotationPrint.{body_pieces, field_pieces, fields_pieces, class_pieces, later_class_pieces, classes_pieces, mode_pieces, closed_pieces, condition_pieces}
use Rattle.hp_model.specs.NotationPrint.{rule_pieces, item_pieces, later_item_pieces, depth_pieces, script_pieces, token_text, gap_text, gap_after, text_after, text_of}
use Rattle.hp_model.specs.NotationLaws.{Fits, IsSpelt, AreSpelt, IsWritableExpression, IsWritableEvent, IsFitExpression, AreFitRows, IsFitAggregate, IsFitQuery, AreFitAssignments}
use Rattle.hp_model.specs.NotationLaws.{AreFitExpressions, IsFitStatement, IsFitBody, EachIs, IsFitField, IsFitClass, IsFitRule, IsFitItem, IsFitDepth, IsFitScript, TokensAreRead}
use Rattle.hp_model.specs.NotationLaws.{all_tokens, token_of}
use Rattle.hp_model.proofs.NotationLexing.{no_tail, line_feed_tail, tokens_read}

-- ---- the text of spelt pieces is UTF-8

ascii_then : (x : ℕ) (xs : List ℕ) → x < 128 → IsUtf8 xs → IsUtf8 (x ∷ xs)
ascii_then x xs small u = IsUtf8-append (x ∷ []) xs (IsUtf8-from_ascii (x ∷ []) one) u
  where
    one : IsAscii (x ∷ [])
    one zero = small
    one (suc i) = omega arith

out_of_range : (lo hi c : ℕ) → hi < c → (nat_le lo c && nat_le c hi) ≡ false
out_of_range lo hi c h = and_right _ _ (lt-leb c hi h)

name_byte_small : (c : ℕ) → is_name_byte c ≡ true → c < 128
name_byte_small c h = go (cases_lt c 128)
  where
    go : (c < 128) ⊎ (128 ≤ c) → c < 128
    go (inl small) = small
    go (inr big) =
        let none : is_name_byte c ≡ false
        = or_from _ _ (or_from _ _ (or_from _ _ (out_of_range 48 57 c (omega arith)) (out_of_range 65 90 c (omega arith))) (out_of_range 97 122 c (omega arith))) (ne_eqb c 95 (λ e. omega arith)) in
        absurd (true≢false (sym h ∙ none))

name_bytes_utf8 : (xs : List ℕ) → list_all is_name_byte xs ≡ true → IsUtf8 xs
name_bytes_utf8 [] h = IsUtf8-nil
name_bytes_utf8 (x ∷ xs) h = let parts = and_parts _ _ h in ascii_then x xs (name_byte_small x parts.0) (name_bytes_utf8 xs parts.1)

letter_small : (c : ℕ) → ((nat_le 65 c && nat_le c 90) || (nat_le 97 c && nat_le c 122)) ≡ true → c < 128
letter_small c h = go (cases_lt c 128)
  where
    go : (c < 128) ⊎ (128 ≤ c) → c < 128
    go (inl small) = small
    go (inr big) = absurd (true≢false (sym h ∙ or_from _ _ (out_of_range 65 90 c (omega arith)) (out_of_range 97 122 c (omega arith))))

name_utf8 : (x : List ℕ) → is_name x ≡ true → IsUtf8 x
name_utf8 [] h = IsUtf8-nil
name_utf8 (b ∷ bs) h = let parts = and_parts _ _ h in ascii_then b bs (letter_small b parts.0) (name_bytes_utf8 bs (and_parts _ _ parts.1).1)

mark_utf8 : (m : Mark) → IsUtf8 (spelling m)
mark_utf8 on_mark = IsUtf8-are_ascii (codes "on") refl
mark_utf8 m = IsUtf8-are_ascii (spelling m) refl

quoted_utf8 : (s : List ℕ) → IsUtf8 s → IsUtf8 (quoted_text s)
unfolding escape_byte
quoted_utf8 s u = IsUtf8-quoted s u

token_utf8 : (t : Token) → IsSpelt t → IsUtf8 (token_text t)
token_utf8 (mark m) spelt = mark_utf8 m
token_utf8 (word w) spelt = name_utf8 w spelt.0
token_utf8 (quoted x) spelt = ascii_then 96 _ (omega arith) (IsUtf8-append x (96 ∷ []) (name_utf8 x spelt) (IsUtf8-are_ascii (96 ∷ []) refl))
token_utf8 (number n) spelt = IsUtf8-from_ascii (decimal n) (IsAscii-decimal n (omega arith))
token_utf8 (string s) spelt = quoted_utf8 s (IsUtf8-from_is_utf8 s spelt)

spaces_utf8 : (n : ℕ) → IsUtf8 (replicate n 32)
spaces_utf8 zero = IsUtf8-nil
spaces_utf8 (suc n) = ascii_then 32 _ (omega arith) (spaces_utf8 n)

gap_utf8 : (g : Gap) → IsUtf8 (gap_text g)
gap_utf8 tight = IsUtf8-nil
gap_utf8 space = IsUtf8-are_ascii (32 ∷ []) refl
gap_utf8 (line d) = ascii_then 10 _ (omega arith) (spaces_utf8 (2 * d))
gap_utf8 paragraph = IsUtf8-are_ascii (10 ∷ 10 ∷ []) refl

text_utf8 : (before : Option Token) (ps : Pieces) → AreSpelt ps → IsUtf8 (text_after before ps)
text_utf8 before [] spelt = IsUtf8-nil
text_utf8 before (p ∷ ps) spelt =
    IsUtf8-append _ _ (gap_utf8 (gap_after before p.token p.gap)) (IsUtf8-append _ _ (token_utf8 p.token spelt.0) (text_utf8 (Some p.token) ps spelt.1))

pub line_is_read : (ps : Pieces) → AreSpelt ps → all_tokens (tokens (text_of ps)) ≡ Some (map token_of ps)
unfolding text_of
line_is_read ps spelt =
    subst (λ l. all_tokens (tokens l) ≡ Some (map token_of ps)) (append-nil (text_after None ps))
    (tokens_read ps [] no_tail spelt (ap is_utf8 (append-nil (text_after None ps)) ∙ is_utf8-from_IsUtf8 _ (text_utf8 None ps spelt)))

pub text_is_read : (ps : Pieces) → AreSpelt ps → all_tokens (tokens (text_of ps ++ 10 ∷ [])) ≡ Some (map token_of ps)
unfolding text_of
text_is_read ps spelt =
    tokens_read ps (10 ∷ []) line_feed_tail spelt (is_utf8-from_IsUtf8 _ (IsUtf8-append _ _ (text_utf8 None ps spelt) (IsUtf8-are_ascii (10 ∷ []) refl)))

pub tokens_are_read : TokensAreRead
tokens_are_read ps spelt = (line_is_read ps spelt, text_is_read ps spelt)

-- ---- words and names

spelt_now : IsSpelt (word (codes "now"))
unfolding reserved_word
spelt_now = (refl, refl)

spelt_time : IsSpelt (word (codes "time"))
unfolding reserved_word
spelt_time = (refl, refl)

spelt_arg : IsSpelt (word (codes "arg"))
unfolding reserved_word
spelt_arg = (refl, refl)

spelt_count : IsSpelt (word (codes "count"))
unfolding reserved_word
spelt_count = (refl, refl)

spelt_commit : IsSpelt (word (codes "commit"))
unfolding reserved_word
spelt_commit = (refl, refl)

spelt_moment : IsSpelt (word (codes "moment"))
unfolding reserved_word
spelt_moment = (refl, refl)

spelt_every : IsSpelt (word (codes "every"))
unfolding reserved_word
spelt_every = (refl, refl)

spelt_from : IsSpelt (word (codes "from"))
unfolding reserved_word
spelt_from = (refl, refl)

spelt_closure : IsSpelt (word (codes "closure"))
unfolding reserved_word
spelt_closure = (refl, refl)

spelt_sum : IsSpelt (word (codes "sum"))
unfolding reserved_word
spelt_sum = (refl, refl)

spelt_least : IsSpelt (word (codes "least"))
unfolding reserved_word
spelt_least = (refl, refl)

spelt_greatest : IsSpelt (word (codes "greatest"))
unfolding reserved_word
spelt_greatest = (refl, refl)

spelt_next : IsSpelt (word (codes "next"))
unfolding reserved_word
spelt_next = (refl, refl)

spelt_over : IsSpelt (word (codes "over"))
unfolding reserved_word
spelt_over = (refl, refl)

spelt_some : IsSpelt (word (codes "some"))
unfolding reserved_word
spelt_some = (refl, refl)

spelt_no : IsSpelt (word (codes "no"))
unfolding reserved_word
spelt_no = (refl, refl)

spelt_let : IsSpelt (word (codes "let"))
unfolding reserved_word
spelt_let = (refl, refl)

spelt_int : IsSpelt (word (codes "int"))
unfolding reserved_word
spelt_int = (refl, refl)

spelt_bool : IsSpelt (word (codes "bool"))
unfolding reserved_word
spelt_bool = (refl, refl)

spelt_text : IsSpelt (word (codes "text"))
unfolding reserved_word
spelt_text = (refl, refl)

spelt_class : IsSpelt (word (codes "class"))
unfolding reserved_word
spelt_class = (refl, refl)

spelt_rule : IsSpelt (word (codes "rule"))
unfolding reserved_word
spelt_rule = (refl, refl)

spelt_closed : IsSpelt (word (codes "closed"))
unfolding reserved_word
spelt_closed = (refl, refl)

spelt_transaction : IsSpelt (word (codes "transaction"))
unfolding reserved_word
spelt_transaction = (refl, refl)

spelt_clock : IsSpelt (word (codes "clock"))
unfolding reserved_word
spelt_clock = (refl, refl)

spelt_depth : IsSpelt (word (codes "depth"))
unfolding reserved_word
spelt_depth = (refl, refl)

spelt_version : IsSpelt (word (codes "version"))
unfolding reserved_word
spelt_version = (refl, refl)

spelt_name : (x : List ℕ) → is_name x ≡ true → IsSpelt (name_token x)
spelt_name x ok = go (reserved_word x) refl
  where
    go : (m : Option Mark) → reserved_word x ≡ m → IsSpelt (token_of_name x m)
    go None e = (ok, e)
    go (Some m) e = ok

spelt_value : (x : List ℕ) → is_name x ≡ true → IsSpelt (value_token x)
spelt_value x ok = go (bytes_eq x (codes "now"))
  where
    go : (b : Bool) → IsSpelt (value_token_of x b)
    go true = ok
    go false = spelt_name x ok

-- what f writes is spelt if what follows is
abbrev Spells : (Gap → Pieces → Pieces) → Type 0
Spells f = (gap : Gap) (k : Pieces) → AreSpelt k → AreSpelt (f gap k)

spelt_enclosed : (b : Bool) (f : Gap → Pieces → Pieces) → Spells f → Spells (enclosed_if b f)
spelt_enclosed true f by gap k s = (tt, by tight (sign tight close_parenthesis k) (tt, s))
spelt_enclosed false f by gap k s = by gap k s

spelt_part : (i : ℕ) (k : Pieces) → Fits i → AreSpelt k → AreSpelt (part_pieces i k)
spelt_part zero k fits s = s
spelt_part (suc i) k fits s = (tt, (omega arith, (tt, s)))

-- ---- expressions and events

spelt_expression : (e : Expression) → IsWritableExpression e → Spells (expression_pieces e)
spelt_expression (integer (pos n)) w gap k s = (omega arith, s)
spelt_expression (integer (negsuc n)) w gap k s = (tt, (omega arith, s))
spelt_expression (truth b) w gap k s = (tt, s)
spelt_expression (text t) w gap k s = (w, s)
spelt_expression (operation op a b) w gap k s =
    spelt_enclosed (nat_lt (expression_level a) (left_level op)) (expression_pieces a) (spelt_expression a w.0) gap _
    (tt, spelt_enclosed (nat_lt (expression_level b) (right_level op)) (expression_pieces b) (spelt_expression b w.1) space k s)
spelt_expression (inverted a) w gap k s = (tt, spelt_enclosed (nat_lt (expression_level a) 3) (expression_pieces a) (spelt_expression a w) space k s)
spelt_expression (negated a) w gap k s = (tt, spelt_enclosed (nat_lt (negated_level a) 8) (expression_pieces a) (spelt_expression a w) tight k s)
spelt_expression (field_of x f) w gap k s = (spelt_name x w.0, (tt, (spelt_name f w.1, s)))
spelt_expression (key_of x) w gap k s = (spelt_name x w, (tt, (tt, s)))
spelt_expression (value x) w gap k s = (spelt_value x w, s)
spelt_expression now w gap k s = (spelt_now, s)
spelt_expression (image_field image i f) w gap k s = (tt, spelt_part i _ w.0 (tt, (spelt_name f w.1, s)))
spelt_expression (key_in i) w gap k s = (tt, spelt_part i _ w (tt, (tt, s)))
spelt_expression (time_of i) w gap k s = (tt, spelt_part i _ w (tt, (spelt_time, s)))
spelt_expression (argument i j) w gap k s = (tt, spelt_part i _ w.0 (tt, (spelt_arg, (tt, (omega (arith, w.1), (tt, s))))))
spelt_expression occurrence_count w gap k s = (tt, (tt, (spelt_count, s)))

spelt_event : (e : Event) → IsWritableEvent e → Spells (event_pieces e)
spelt_event (on_change c x) w gap k s = (tt, (spelt_name x w, s))
spelt_event (on_signal x) w gap k s = (tt, (spelt_name x w, s))
spelt_event on_commit w gap k s = (spelt_commit, s)
spelt_event (at_moment t) w gap k s = (spelt_moment, (omega (arith, w), s))
spelt_event (every_moment t n) w gap k s = (spelt_every, (omega (arith, w.1), (spelt_from, (omega (arith, w.0), s))))
spelt_event (or_event a b) w gap k s =
    spelt_enclosed (is_then a) (event_pieces a) (spelt_event a w.0) gap _ (tt, spelt_enclosed (is_or b || is_then b) (event_pieces b) (spelt_event b w.1) space k s)
spelt_event (then_event a b) w gap k s =
    spelt_enclosed (is_or a) (event_pieces a) (spelt_event a w.0) gap _ (tt, spelt_enclosed (is_or b || is_then b) (event_pieces b) (spelt_event b w.1) space k s)
spelt_event (closure_event a b) w gap k s = (spelt_closure, (tt, spelt_event a w.0 tight _ (tt, spelt_event b w.1 space _ (tt, s))))

-- ---- statements

spelt_predicate : (e : Expression) → IsWritableExpression e → (k : Pieces) → AreSpelt k → AreSpelt (predicate_pieces e k)
spelt_predicate (truth true) w k s = s
spelt_predicate e w k s = (tt, spelt_expression e w space k s)

spelt_rows : (r : Rows) → AreFitRows r → (k : Pieces) → AreSpelt k → AreSpelt (rows_pieces r k)
spelt_rows r w k s = (spelt_name r.class w.class, (spelt_name r.name w.name, spelt_predicate r.predicate w.predicate.0 k s))

spelt_fold : (f : Fold) → IsSpelt (word (fold_word f))
spelt_fold total = spelt_sum
spelt_fold least = spelt_least
spelt_fold greatest = spelt_greatest

spelt_aggregate : (a : Aggregate) → IsFitAggregate a → (k : Pieces) → AreSpelt k → AreSpelt (aggregate_pieces a k)
spelt_aggregate (count_of r) w k s = (spelt_count, spelt_rows r w k s)
spelt_aggregate (fold_of f r e) w k s = (spelt_fold f, spelt_expression e w.1.0 space _ (spelt_over, spelt_rows r w.0 k s))
spelt_aggregate (next_key c) w k s = (spelt_next, (spelt_name c w, s))
spelt_aggregate (plain e) w k s = spelt_enclosed (first_is begins_aggregate (expression_pieces e space k)) (expression_pieces e) (spelt_expression e w.0) space k s

spelt_binding : (x : List ℕ) (a : Aggregate) → is_name x ≡ true → IsFitAggregate a → (k : Pieces) → AreSpelt k → AreSpelt (binding_pieces x a k)
spelt_binding x a ok w k s = (spelt_value x ok, (tt, spelt_aggregate a w k s))

spelt_object : (c : List ℕ) (e : Expression) → is_name c ≡ true → IsFitExpression e → (k : Pieces) → AreSpelt k → AreSpelt (object_pieces c e k)
spelt_object c e ok w k s = (spelt_name c ok, (tt, spelt_expression e w.0 tight _ (tt, s)))

spelt_assignment : (a : Assignment) → is_name a.field ≡ true → IsFitExpression a.value → (k : Pieces) → AreSpelt k → AreSpelt (assignment_pieces a k)
spelt_assignment a ok w k s = (spelt_name a.field ok, (tt, spelt_enclosed (nat_lt (expression_level a.value) 5) (expression_pieces a.value) (spelt_expression a.value w.0) space k s))

spelt_more_assignments : (ps : List Assignment) → AreFitAssignments ps → (k : Pieces) → AreSpelt k → AreSpelt (more_parts assignment_pieces ps k)
spelt_more_assignments [] w k s = s
spelt_more_assignments (a ∷ ps) w k s = (tt, spelt_assignment a w.0 w.1 _ (spelt_more_assignments ps w.2 k s))

spelt_assignments : (ps : List Assignment) → AreFitAssignments ps → (k : Pieces) → AreSpelt k → AreSpelt (assignments_pieces ps k)
spelt_assignments [] w k s = s
spelt_assignments (a ∷ ps) w k s = (tt, spelt_assignment a w.0 w.1 _ (spelt_more_assignments ps w.2 k s))

spelt_more_arguments : (es : List Expression) → AreFitExpressions es → (k : Pieces) → AreSpelt k → AreSpelt (more_parts argument_pieces es k)
spelt_more_arguments [] w k s = s
spelt_more_arguments (e ∷ es) w k s = (tt, spelt_expression e w.0.0 space _ (spelt_more_arguments es w.1 k s))

spelt_arguments : (es : List Expression) → AreFitExpressions es → (k : Pieces) → AreSpelt k → AreSpelt (arguments_pieces es k)
spelt_arguments [] w k s = s
spelt_arguments (e ∷ es) w k s = (tt, spelt_expression e w.0.0 tight _ (spelt_more_arguments es w.1 _ (tt, s)))

spelt_braced : (b : Bool) (depth : ℕ) (f : Pieces → Pieces) → ((k : Pieces) → AreSpelt k → AreSpelt (f k)) → (k : Pieces) → AreSpelt k → AreSpelt (braced b depth f k)
spelt_braced true depth f by k s = (tt, (tt, s))
spelt_braced false depth f by k s = (tt, by _ (tt, s))

spelt_after : (m : Mark) (b : Bool) (f : Pieces → Pieces) → ((k : Pieces) → AreSpelt k → AreSpelt (f k)) → (k : Pieces) → AreSpelt k → AreSpelt (body_after m b f k)
spelt_after m true f by k s = s
spelt_after m false f by k s = (tt, by k s)

mutual
  spelt_statement : (x : Statement) → IsFitStatement x → (depth : ℕ) (k : Pieces) → AreSpelt k → AreSpelt (statement_pieces x depth k)
  spelt_statement (set_object t c e ps) w depth k s = (tt, spelt_object c e w.0 w.1 _ (spelt_assignments ps w.2 k s))
  spelt_statement (delete c e) w depth k s = (tt, spelt_object c e w.0 w.1 k s)
  spelt_statement (signal x es) w depth k s = (tt, (spelt_name x w.0, spelt_arguments es w.1 k s))
  spelt_statement (emit e) w depth k s = (tt, spelt_expression e w.0 space k s)
  spelt_statement (when e b c) w depth k s =
      let last = λ (q : Pieces) (t : AreSpelt q). spelt_braced (is_empty c) depth (statements_pieces c (suc depth)) (spelt_statements c w.2 (suc depth)) q t in (
        tt,
        spelt_expression e w.0.0 space _ (spelt_braced (is_empty b) depth (statements_pieces b (suc depth)) (spelt_statements b w.1 (suc depth)) _
            (spelt_after else_mark (is_empty c) (body_pieces c depth) last k s)),
      )
  spelt_statement (each r b) w depth k s = (tt, spelt_rows r w.0 _ (spelt_braced (is_empty b) depth (statements_pieces b (suc depth)) (spelt_statements b w.1 (suc depth)) k s))
  spelt_statement (for_answer x b) w depth k s = (tt, (spelt_name x w.0, spelt_braced (is_empty b) depth (statements_pieces b (suc depth)) (spelt_statements b w.1 (suc depth)) k s))
  spelt_statement (with_object x c e b) w depth k s =
      (tt, spelt_object c e w.1 w.2 _ (tt, (spelt_name x w.0, spelt_braced (is_empty b) depth (statements_pieces b (suc depth)) (spelt_statements b w.3 (suc depth)) k s)))
  spelt_statement (with_value x a b) w depth k s =
      (spelt_let, spelt_binding x a w.0 w.1 _ (spelt_braced (is_empty b) depth (statements_pieces b (suc depth)) (spelt_statements b w.2 (suc depth)) k s))
  spelt_statement (subtransaction b c) w depth k s =
      let last = λ (q : Pieces) (t : AreSpelt q). spelt_braced (is_empty c) depth (statements_pieces c (suc depth)) (spelt_statements c w.1 (suc depth)) q t in
      (tt, spelt_braced (is_empty b) depth (statements_pieces b (suc depth)) (spelt_statements b w.0 (suc depth)) _ (spelt_after otherwise_mark (is_empty c) (body_pieces c depth) last k s))
  spelt_statement abort w depth k s = (tt, s)
  spelt_statement veto w depth k s = (tt, s)
  spelt_statement (veto_with e) w depth k s = (tt, spelt_enclosed (first_is is_let (expression_pieces e space k)) (expression_pieces e) (spelt_expression e w.0) space k s)
  spelt_statement (on_rule op x) w depth k s = (tt, (spelt_name x w, s))

  spelt_statements : (b : Body) → IsFitBody b → (depth : ℕ) (k : Pieces) → AreSpelt k → AreSpelt (statements_pieces b depth k)
  spelt_statements empty w depth k s = s
  spelt_statements (◌then◌ x b) w depth k s = spelt_statement x w.0 depth _ (spelt_statements b w.1 depth k s)

spelt_body : (b : Body) → IsFitBody b → (depth : ℕ) (k : Pieces) → AreSpelt k → AreSpelt (body_pieces b depth k)
spelt_body b w depth k s = spelt_braced (is_empty b) depth (statements_pieces b (suc depth)) (spelt_statements b w (suc depth)) k s

-- ---- scripts

spelt_kind : (t : Kind) → IsSpelt (word (kind_word t))
spelt_kind integer_kind = spelt_int
spelt_kind boolean_kind = spelt_bool
spelt_kind text_kind = spelt_text

spelt_field : (f : Field) → IsFitField f → (k : Pieces) → AreSpelt k → AreSpelt (field_pieces f k)
spelt_field f w k s = (spelt_name f.name w, (tt, (spelt_kind f.kind, s)))

spelt_more_fields : (fs : List Field) → EachIs IsFitField fs → (k : Pieces) → AreSpelt k → AreSpelt (more_parts field_pieces fs k)
spelt_more_fields [] w k s = s
spelt_more_fields (f ∷ fs) w k s = (tt, spelt_field f w.0 _ (spelt_more_fields fs w.1 k s))

spelt_fields : (fs : List Field) → EachIs IsFitField fs → (k : Pieces) → AreSpelt k → AreSpelt (fields_pieces fs k)
spelt_fields [] w k s = (tt, s)
spelt_fields (f ∷ fs) w k s = spelt_field f w.0 _ (spelt_more_fields fs w.1 _ (tt, s))

spelt_class_at : (c : Class) → IsFitClass c → (gap : Gap) (k : Pieces) → AreSpelt k → AreSpelt (class_pieces c gap k)
spelt_class_at c w gap k s = (spelt_class, (spelt_name c.name w.name, (tt, spelt_fields c.fields w.fields k s)))

spelt_later_classes : (cs : List Class) → EachIs IsFitClass cs → (k : Pieces) → AreSpelt k → AreSpelt (each_part later_class_pieces cs k)
spelt_later_classes [] w k s = s
spelt_later_classes (c ∷ cs) w k s = spelt_class_at c w.0 (line 0) _ (spelt_later_classes cs w.1 k s)

spelt_classes : (cs : List Class) → EachIs IsFitClass cs → (k : Pieces) → AreSpelt k → AreSpelt (classes_pieces cs k)
spelt_classes [] w k s = s
spelt_classes (c ∷ cs) w k s = spelt_class_at c w.0 paragraph _ (spelt_later_classes cs w.1 k s)

spelt_mode : (m : Coupling) (k : Pieces) → AreSpelt k → AreSpelt (mode_pieces m k)
spelt_mode immediate k s = s
spelt_mode deferred k s = (tt, s)
spelt_mode separate k s = (tt, s)
spelt_mode dependent k s = (tt, s)
spelt_mode exclusive k s = (tt, s)

spelt_query : (lets : Bool) (q : Query) → IsFitQuery lets q → (k : Pieces) → AreSpelt k → AreSpelt (query_pieces q k)
spelt_query lets (some_rows r) w k s = (spelt_some, spelt_rows r w.0 k s)
spelt_query lets (no_rows r) w k s = (spelt_no, spelt_rows r w k s)
spelt_query lets (named_value x a) w k s = (spelt_let, spelt_binding x a w.1 w.2 k s)

spelt_conditions : (lets : Bool) (qs : List Query) → EachIs (IsFitQuery lets) qs → (k : Pieces) → AreSpelt k → AreSpelt (each_part condition_pieces qs k)
spelt_conditions lets [] w k s = s
spelt_conditions lets (q ∷ qs) w k s = (tt, spelt_query lets q w.0 _ (spelt_conditions lets qs w.1 k s))

spelt_closed_at : (c : Bool) (k : Pieces) → AreSpelt k → AreSpelt (closed_pieces c k)
spelt_closed_at true k s = (spelt_closed, s)
spelt_closed_at false k s = s

spelt_rule_at : (lets : Bool) (r : Rule) → IsFitRule lets r → (k : Pieces) → AreSpelt k → AreSpelt (rule_pieces r k)
spelt_rule_at lets r w k s = (
  spelt_rule,
  (
    spelt_name r.name w.name,
    spelt_closed_at r.is_closed _
        (tt, spelt_event r.event w.event space _ (spelt_mode r.event_mode _ (spelt_conditions lets r.condition w.condition _ (tt, spelt_mode r.action_mode _ (spelt_body r.action w.action 1 k s))))),
  ),
)

spelt_rules : (lets : Bool) (rs : List Rule) → EachIs (IsFitRule lets) rs → (k : Pieces) → AreSpelt k → AreSpelt (each_part rule_pieces rs k)
spelt_rules lets [] w k s = s
spelt_rules lets (r ∷ rs) w k s = spelt_rule_at lets r w.0 _ (spelt_rules lets rs w.1 k s)

pub spelt_item : (i : Item) → IsFitItem i → (gap : Gap) (k : Pieces) → AreSpelt k → AreSpelt (item_pieces i gap k)
spelt_item (transaction b) w gap k s = (spelt_transaction, spelt_body b w.0 0 k s)
spelt_item (clock t) w gap k s = (spelt_clock, (omega (arith, w), s))

spelt_items : (is : List Item) → EachIs IsFitItem is → AreSpelt (each_part later_item_pieces is [])
spelt_items [] w = tt
spelt_items (i ∷ is) w = spelt_item i w.0 paragraph _ (spelt_items is w.1)

spelt_depth_at : (d : Option ℕ) → IsFitDepth d → (k : Pieces) → AreSpelt k → AreSpelt (depth_pieces d k)
spelt_depth_at None w k s = s
spelt_depth_at (Some n) w k s = (spelt_depth, (omega (arith, w), s))

pub spelt_script : (s : Script) → IsFitScript s → AreSpelt (script_pieces s)
spelt_script s w = (spelt_version, (omega (arith, w.version), spelt_depth_at s.depth w.depth _ (spelt_classes s.classes w.classes _ (spelt_rules _ s.rules w.rules _ (spelt_items s.items w.items)))))

-- The text notation of scripts: its tokens. A text is UTF-8, and its tokens are as long as they can be.
use Rattle.std.specs.Prelude.{ℕ, zero, suc, ◌+◌, ◌^◌, Bool, true, false, not, ◌&&◌, ◌||◌, ◌==◌, nat_lt, nat_le, List, [], ◌∷◌, ◌++◌, length, take, drop, map, codes, Option, Some}
use Rattle.std.specs.Prelude.{None, option_map, option_and_then, bytes_eq, slice_index, if◌then◌else◌}
use Rattle.std.specs.Char.{is_ascii_alphabetic, is_ascii_digit, encode_utf8}
use Rattle.std.specs.Str.{is_utf8}
use Rattle.std.specs.Str.Lossy.{utf8_valid_len}
use Rattle.std.specs.Str.Parse.{digits_value}
use Rattle.std.specs.List.{prefix_len}
use Rattle.json.specs.Text.{code_unit, short_escape, is_high_surrogate, is_low_surrogate, surrogate_pair}
use Rattle.hp_model.specs.Json.{beside}
use Rattle.hp_model.specs.Parts.{is_name_byte}

-- ---- words and symbols

-- a reserved word or a symbol
pub data Mark : Type 0 where
  on_mark if_mark do_mark where_mark as_mark set_mark else_mark otherwise_mark then_mark until_mark : Mark
  and_mark or_mark not_mark true_mark false_mark new_mark old_mark event_mark key_mark : Mark
  immediate_mark deferred_mark separate_mark dependent_mark exclusive_mark : Mark
  create_mark update_mark delete_mark signal_mark emit_mark each_mark for_mark with_mark sub_mark abort_mark veto_mark : Mark
  install_mark enable_mark disable_mark remove_mark fire_mark : Mark
  open_brace close_brace open_parenthesis close_parenthesis open_bracket close_bracket comma colon semicolon point : Mark
  equal_sign unequal_sign less_sign at_most_sign greater_sign at_least_sign plus_sign minus_sign times_sign divided_sign percent_sign : Mark

-- how a mark is written
abbrev pub spelling : Mark → List ℕ
spelling on_mark = codes "on"
spelling if_mark = codes "if"
spelling do_mark = codes "do"
spelling where_mark = codes "where"
spelling as_mark = codes "as"
spelling set_mark = codes "set"
spelling else_mark = codes "else"
spelling otherwise_mark = codes "otherwise"
spelling then_mark = codes "then"
spelling until_mark = codes "until"
spelling and_mark = codes "and"
spelling or_mark = codes "or"
spelling not_mark = codes "not"
spelling true_mark = codes "true"
spelling false_mark = codes "false"
spelling new_mark = codes "new"
spelling old_mark = codes "old"
spelling event_mark = codes "event"
spelling key_mark = codes "key"
spelling immediate_mark = codes "immediate"
spelling deferred_mark = codes "deferred"
spelling separate_mark = codes "separate"
spelling dependent_mark = codes "dependent"
spelling exclusive_mark = codes "exclusive"
spelling create_mark = codes "create"
spelling update_mark = codes "update"
spelling delete_mark = codes "delete"
spelling signal_mark = codes "signal"
spelling emit_mark = codes "emit"
spelling each_mark = codes "each"
spelling for_mark = codes "for"
spelling with_mark = codes "with"
spelling sub_mark = codes "sub"
spelling abort_mark = codes "abort"
spelling veto_mark = codes "veto"
spelling install_mark = codes "install"
spelling enable_mark = codes "enable"
spelling disable_mark = codes "disable"
spelling remove_mark = codes "remove"
spelling fire_mark = codes "fire"
spelling open_brace = codes "{"
spelling close_brace = codes "}"
spelling open_parenthesis = codes "("
spelling close_parenthesis = codes ")"
spelling open_bracket = codes "["
spelling close_bracket = codes "]"
spelling comma = codes ","
spelling colon = codes ":"
spelling semicolon = codes ";"
spelling point = codes "."
spelling equal_sign = codes "="
spelling unequal_sign = codes "!="
spelling less_sign = codes "<"
spelling at_most_sign = codes "<="
spelling greater_sign = codes ">"
spelling at_least_sign = codes ">="
spelling plus_sign = codes "+"
spelling minus_sign = codes "-"
spelling times_sign = codes "*"
spelling divided_sign = codes "/"
spelling percent_sign = codes "%"

-- two marks are the same if they are written alike
abbrev pub same_mark : Mark → Mark → Bool
same_mark m n = bytes_eq (spelling m) (spelling n)

abbrev pub with_spelling : Mark → List ℕ × Mark
with_spelling m = (spelling m, m)

-- the reserved words; all other words are names
abbrev pub reserved : List Mark
reserved =
    on_mark ∷ if_mark ∷ do_mark ∷ where_mark ∷ as_mark ∷ set_mark ∷ else_mark ∷ otherwise_mark ∷ then_mark ∷ until_mark
    ∷ and_mark ∷ or_mark ∷ not_mark ∷ true_mark ∷ false_mark ∷ new_mark ∷ old_mark ∷ event_mark ∷ key_mark
    ∷ immediate_mark ∷ deferred_mark ∷ separate_mark ∷ dependent_mark ∷ exclusive_mark
    ∷ create_mark ∷ update_mark ∷ delete_mark ∷ signal_mark ∷ emit_mark ∷ each_mark ∷ for_mark ∷ with_mark ∷ sub_mark ∷ abort_mark ∷ veto_mark
    ∷ install_mark ∷ enable_mark ∷ disable_mark ∷ remove_mark ∷ fire_mark ∷ []

-- the reserved word that is written so
unfoldable pub reserved_word : List ℕ → Option Mark
reserved_word text = beside text (map with_spelling reserved)

abbrev pub short_symbols : List Mark
short_symbols =
    open_brace ∷ close_brace ∷ open_parenthesis ∷ close_parenthesis ∷ open_bracket ∷ close_bracket ∷ comma ∷ colon ∷ semicolon ∷ point
    ∷ equal_sign ∷ less_sign ∷ greater_sign ∷ plus_sign ∷ minus_sign ∷ times_sign ∷ divided_sign ∷ percent_sign ∷ []

abbrev pub long_symbols : List Mark
long_symbols = unequal_sign ∷ at_most_sign ∷ at_least_sign ∷ []

pub data Token : Type 0 where
  mark : Mark → Token
  -- a word that isn't reserved
  word : List ℕ → Token
  -- a name in backquotes
  quoted : List ℕ → Token
  number : ℕ → Token
  -- the bytes that a text stands for
  string : List ℕ → Token

-- ---- what a byte begins

pub data Lexeme : Type 0 where
  -- white space, which has this number of bytes after the first
  blank : (more : ℕ) → Lexeme
  -- a token, which has this number of bytes after the first
  found : Token → (more : ℕ) → Lexeme
  -- no token; the distance of the first character that is wrong
  faulty : (distance : ℕ) → Lexeme

-- ---- words

-- a word has at most 32 bytes
abbrev pub is_short : List ℕ → Bool
is_short text = nat_le (length text) 32

abbrev pub word_token : List ℕ → Option Mark → Token
word_token text None = word text
word_token text (Some m) = mark m

abbrev pub word_lexeme : List ℕ → (more : ℕ) → Lexeme
word_lexeme text more = if is_short text then found (word_token text (reserved_word text)) more else faulty 0

-- the number of letters, digits and `_` at the beginning
abbrev pub word_rest : List ℕ → ℕ
word_rest bs = prefix_len is_name_byte bs

-- after a backquote: a word of this number of bytes, and another backquote
abbrev pub quoted_word_lexeme : List ℕ → (size : ℕ) → Lexeme
quoted_word_lexeme bs size =
    if is_short (take size bs) then (if slice_index (drop size bs) 0 == 96 then found (quoted (take size bs)) (suc size) else faulty (suc size)) else faulty 0

abbrev pub quoted_lexeme : List ℕ → Lexeme
quoted_lexeme [] = faulty 1
quoted_lexeme (b ∷ bs) = if is_ascii_alphabetic b then quoted_word_lexeme (b ∷ bs) (suc (word_rest bs)) else faulty 1

-- ---- numbers

-- a number is at most 2^63, which only a negative one reaches, and doesn't begin with 0
abbrev pub number_lexeme : List ℕ → (more : ℕ) → Lexeme
number_lexeme digits more =
    if ((slice_index digits 0 == 48) && nat_lt 0 more) || nat_lt (2 ^ 63) (digits_value 10 digits) then faulty 0 else found (number (digits_value 10 digits)) more

-- ---- texts, as in JSON

-- a character or an escape of a text: the bytes that it stands for, and how many bytes it has after the first
pub record Character : Type 0 where
  pub bytes : List ℕ
  pub more : ℕ

-- the code unit of four hexadecimal digits
abbrev pub unit_of : List ℕ → Option ℕ
unit_of (a ∷ b ∷ c ∷ d ∷ bs) = code_unit a b c d
unit_of bs = None

-- the low half of a surrogate pair, whose high half stands before it
abbrev pub low_half : (high low : ℕ) → Option Character
low_half high low = if is_low_surrogate low then Some (record { bytes = encode_utf8 (surrogate_pair high low); more = 11 }) else None

abbrev pub low_escape : (high : ℕ) → List ℕ → Option Character
low_escape high bs = if (slice_index bs 0 == 92) && (slice_index bs 1 == 117) then option_and_then (low_half high) (unit_of (drop 2 bs)) else None

-- half of a pair alone is no character
abbrev pub unit_escape : List ℕ → (unit : ℕ) → Option Character
unit_escape bs unit =
    if is_high_surrogate unit then low_escape unit (drop 4 bs)
    else (if is_low_surrogate unit then None else Some (record { bytes = encode_utf8 unit; more = 5 }))

-- after a backslash
abbrev pub escape : List ℕ → Option Character
escape [] = None
escape (b ∷ bs) = if b == 117 then option_and_then (unit_escape bs) (unit_of bs) else option_map (λ c. record { bytes = c ∷ []; more = 1 }) (short_escape b)

-- a control character is none of a text
abbrev pub character : ℕ → List ℕ → Option Character
character b bs = if b == 92 then escape bs else (if nat_lt b 32 then None else Some (record { bytes = b ∷ []; more = 0 }))

-- a text up to its closing quote: the bytes that it stands for, and how many bytes it has before the quote; or the
-- distance of the first character that is wrong
pub data Content : Type 0 where
  closed : List ℕ → (size : ℕ) → Content
  broken : (distance : ℕ) → Content

abbrev pub preceded : List ℕ → Content → Content
preceded bytes (closed text size) = closed (bytes ++ text) (suc size)
preceded bytes (broken distance) = broken (suc distance)

-- `rest` reads on after the number of bytes that it is given
abbrev pub content_at : (is_end : Bool) → Option Character → (rest : ℕ → Content) → Content
content_at true c rest = closed [] 0
content_at false None rest = broken 0
content_at false (Some c) rest = preceded c.bytes (rest c.more)

-- the text of these bytes, after some that belong to the character before
unfoldable pub content : (before : ℕ) → List ℕ → Content
content n [] = broken 0
content zero (b ∷ bs) = content_at (b == 34) (character b bs) (λ n. content n bs)
content (suc n) (b ∷ bs) = preceded [] (content n bs)

abbrev pub string_lexeme : Content → Lexeme
string_lexeme (closed text size) = found (string text) (suc size)
string_lexeme (broken distance) = faulty (suc distance)

-- ---- symbols

abbrev pub symbol_of : List Mark → List ℕ → Option Mark
symbol_of symbols text = beside text (map with_spelling symbols)

-- a symbol of two bytes, or else of one
abbrev pub symbol_lexeme : (long short : Option Mark) → Lexeme
symbol_lexeme (Some m) short = found (mark m) 1
symbol_lexeme None (Some m) = found (mark m) 0
symbol_lexeme None None = faulty 0

-- ---- all tokens

pub data Beginning : Type 0 where
  letter digit space hash quote backquote other : Beginning

abbrev pub is_space : ℕ → Bool
is_space b = (b == 32) || ((b == 9) || ((b == 10) || (b == 13)))

abbrev pub beginning : ℕ → Beginning
beginning b =
    if is_ascii_alphabetic b then letter
    else (if is_ascii_digit b then digit else (if is_space b then space else (if b == 35 then hash else (if b == 34 then quote else (if b == 96 then backquote else other)))))

-- a comment goes on to the end of its line
abbrev pub in_comment : ℕ → Bool
in_comment b = not (b == 10)

abbrev pub lexeme_at : Beginning → ℕ → List ℕ → Lexeme
lexeme_at letter b bs = word_lexeme (b ∷ take (word_rest bs) bs) (word_rest bs)
lexeme_at digit b bs = number_lexeme (b ∷ take (prefix_len is_ascii_digit bs) bs) (prefix_len is_ascii_digit bs)
lexeme_at space b bs = blank 0
lexeme_at hash b bs = blank (prefix_len in_comment bs)
lexeme_at quote b bs = string_lexeme (content 0 bs)
lexeme_at backquote b bs = quoted_lexeme bs
lexeme_at other b bs = symbol_lexeme (symbol_of long_symbols (b ∷ take 1 bs)) (symbol_of short_symbols (b ∷ []))

unfoldable pub lexeme : ℕ → List ℕ → Lexeme
lexeme b bs = lexeme_at (beginning b) b bs

-- the tokens of a text with their offsets in bytes, up to its end, or to the first character that continues no token
pub data Tokens : Type 0 where
  token : (at : ℕ) → Token → Tokens → Tokens
  ending : (at : ℕ) → Tokens
  unreadable : (at : ℕ) → Tokens

-- `rest` gives the tokens after the number of bytes that it is given
abbrev pub tokens_at : Lexeme → (at : ℕ) → (rest : ℕ → Tokens) → Tokens
tokens_at (blank more) at rest = rest more
tokens_at (found t more) at rest = token at t (rest more)
tokens_at (faulty distance) at rest = unreadable (at + distance)

-- the tokens of these bytes, after some that belong to the token before; `end` is what stands at the end
unfoldable pub tokens_from : (end : ℕ → Tokens) → (before at : ℕ) → List ℕ → Tokens
tokens_from end n at [] = end at
tokens_from end zero at (b ∷ bs) = tokens_at (lexeme b bs) at (λ n. tokens_from end n (suc at) bs)
tokens_from end (suc n) at (b ∷ bs) = tokens_from end n (suc at) bs

abbrev pub tokens_of : (is_readable : Bool) → List ℕ → Tokens
tokens_of true bytes = tokens_from ending 0 0 bytes
tokens_of false bytes = tokens_from unreadable 0 0 (take (utf8_valid_len bytes) bytes)

-- the tokens of a text. Where its bytes stop being UTF-8 no token follows
unfoldable pub tokens : List ℕ → Tokens
tokens bytes = tokens_of (is_utf8 bytes) bytes

-- the offset of the first token, or of the end
abbrev pub place : Tokens → ℕ
place (token at t ts) = at
place (ending at) = at
place (unreadable at) = at

-- how many tokens there are
abbrev pub size : Tokens → ℕ
size (token at t ts) = suc (size ts)
size (ending at) = 0
size (unreadable at) = 0

-- What lexemes stand for in the model.
use Rattle.std.specs.Prelude.{ℕ, ◌+◌, ◌-◌, ◌<◌, ◌≤◌, Bool, true, false, not, ◌||◌, ◌==◌, nat_lt, List, length, slice_index, string_bytes}
use Rattle.std.specs.Char.{encode_utf8}
use Rattle.hp_model.specs.NotationTokens as N
use Rattle.hp_text.specs.declared.lexeme.Lexeme.{Lexeme}
use Rattle.hp_text.specs.declared.lexeme.Lexeme.TheVariants as l
use Rattle.hp_text.specs.declared.lexeme.Beginning.{Beginning}
use Rattle.hp_text.specs.declared.lexeme.Beginning.TheVariants as b
use Rattle.hp_text.specs.declared.literal.Content.{Content}
use Rattle.hp_text.specs.declared.literal.Content.TheVariants as c
use Rattle.hp_text.specs.declared.token.Lexed.{Lexed}
use Rattle.hp_text.specs.Mapped.{token_view, before, ending_view}

abbrev pub lexeme_view : Lexeme → N.Lexeme
lexeme_view (l.Blank more) = N.blank more
lexeme_view (l.Found t more) = N.found (token_view t) more
lexeme_view (l.Faulty distance) = N.faulty distance

-- it ends within so many bytes after the first
abbrev pub IsWithin : (more : ℕ) → Lexeme → Type 0
IsWithin n (l.Blank more) = more ≤ n
IsWithin n (l.Found t more) = more ≤ n
IsWithin n (l.Faulty distance) = distance ≤ n + 1

abbrev pub beginning_view : Beginning → N.Beginning
beginning_view b.Letter = N.letter
beginning_view b.Digit = N.digit
beginning_view b.Space = N.space
beginning_view b.Hash = N.hash
beginning_view b.Quote = N.quote
beginning_view b.Backquote = N.backquote
beginning_view b.Other = N.other

-- ---- texts

abbrev pub content_view : Content → N.Content
content_view (c.Closed text size) = N.closed (string_bytes text) size
content_view (c.Broken distance) = N.broken distance

-- it ends within so many bytes
abbrev pub IsContentWithin : (size : ℕ) → Content → Type 0
IsContentWithin n (c.Closed text size) = size < n
IsContentWithin n (c.Broken distance) = distance ≤ n

-- a character that is written as an escape
abbrev pub character_of : (code more : ℕ) → N.Character
character_of code more = record { bytes = encode_utf8 code; more = more }

-- a byte that stands for itself
abbrev pub is_plain : ℕ → Bool
is_plain b = not ((b == 34) || ((b == 92) || nat_lt b 32))

-- so many bytes are there, of which the last is ASCII
abbrev pub EndsInAscii : (size : ℕ) → List ℕ → Type 0
EndsInAscii n bytes = (n ≤ length bytes) × (slice_index bytes (n - 1) < 128)

-- ---- tokens

abbrev pub lexed_view : Lexed → N.Tokens
lexed_view l = before l.tokens.items (ending_view l.ending)

-- what comes after the last token: the end, or bytes that are no text
abbrev pub end_of : (is_whole : Bool) → (at : ℕ) → N.Tokens
end_of true = N.ending
end_of false = N.unreadable

-- What tokens and gaps stand for in the model, and what a writer promises.
use Rattle.std.specs.Prelude.{◌≡◌, ℕ, List, [], ◌∷◌, ◌++◌, Bool, true, false, ◌||◌, ◌&&◌, Option, Some, None, String, string_bytes}
use Rattle.std.specs.declared.alloc.Global.{Global}
use Rattle.hp_model.specs.NotationTokens as N
use Rattle.hp_model.specs.NotationTokens.{less_sign, greater_sign, equal_sign}
use Rattle.hp_model.specs.NotationPhrases.{is_mark}
use Rattle.hp_model.specs.NotationValues.{of_two}
use Rattle.hp_model.specs.NotationPrint as P
use Rattle.hp_model.specs.NotationPrint.{Pieces, Piece, is_wordlike, widened, on_one_line, gap_text, token_text, at_gap}
use Rattle.hp_text.specs.Mapped.{mark_view}
use Rattle.hp_print.specs.declared.token.Token.{Token}
use Rattle.hp_print.specs.declared.token.Token.TheVariants as t
use Rattle.hp_print.specs.declared.token.Gap.{Gap}
use Rattle.hp_print.specs.declared.token.Gap.TheVariants as g
use Rattle.hp_print.specs.declared.token.Last.{Last}
use Rattle.hp_print.specs.declared.writer.Writer.{Writer}

abbrev pub token_view : Token → N.Token
token_view (t.Mark m) = N.mark (mark_view m)
token_view (t.Word w) = N.word w.now
token_view (t.Quoted x) = N.quoted x.now
token_view (t.Number n) = N.number n
token_view (t.Text s) = N.string s.now

abbrev pub gap_view : Gap → P.Gap
gap_view g.Tight = P.tight
gap_view g.Space = P.space
gap_view (g.Line depth) = P.line depth
gap_view g.Paragraph = P.paragraph

-- ---- text after a token

abbrev pub last_of : N.Token → Last
last_of t = record { is_wordlike = is_wordlike t; is_relation = is_mark less_sign t || is_mark greater_sign t }

abbrev pub joins : Last → N.Token → Bool
joins last t = (last.is_wordlike && is_wordlike t) || (last.is_relation && is_mark equal_sign t)

abbrev pub laid : (is_line : Bool) → P.Gap → P.Gap
laid true gap = on_one_line gap
laid false gap = gap

abbrev pub gap_by : Last → (is_line : Bool) → P.Gap → N.Token → P.Gap
gap_by last is_line gap t = elim (joins last t) [ true ↦ widened (laid is_line gap) | false ↦ laid is_line gap ]

-- the text of some pieces after the last token, on one line or not
abbrev pub text_by : (is_line : Bool) → Last → Pieces → List ℕ
text_by is_line last [] = []
text_by is_line last (p ∷ ps) = gap_text (gap_by last is_line p.gap p.token) ++ (token_text p.token ++ text_by is_line (last_of p.token) ps)

-- before the first token
abbrev pub nothing : Last
nothing = record { is_wordlike = false; is_relation = false }

-- ---- what a writer promises

-- this was added to the end of the text
abbrev pub Gains : String Global → String Global → List ℕ → Type 0
Gains old new text = string_bytes new ≡ string_bytes old ++ text

-- what stands before the pieces that are left
abbrev pub Step : Type 0
Step = Option Pieces → Option Pieces

-- a form, and then what is left
abbrev pub step : {A : Type 0} → (A → Pieces → Pieces) → Option A → Step
step put form rest = of_two put form rest

-- the whole text, once the pieces that are left are written; none if what was written has no form
abbrev pub whole : (is_refused : Bool) → (text : List ℕ) → (is_line : Bool) → Last → Option Pieces → Option (List ℕ)
whole true text is_line last rest = None
whole false text is_line last None = None
whole false text is_line last (Some ps) = Some (text ++ text_by is_line last ps)

abbrev pub text_with : Writer → Option Pieces → Option (List ℕ)
text_with w rest = whole w.is_refused (string_bytes w.text) w.is_line w.last rest

-- whatever is left, the text will be the same
abbrev pub Writes : (old new : Writer) → Step → Type 0
Writes old new written = (rest : Option Pieces) → text_with old (written rest) ≡ text_with new rest

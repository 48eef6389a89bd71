-- What the crate's marks, tokens and values stand for in the model, and what its phrases promise.
use Rattle.std.specs.Prelude.{◌≡◌, ⊤, ℕ, List, [], ◌∷◌, Option, Some, None, Result, Ok, Err, string_bytes}
use Rattle.hp_model.specs.NotationTokens as N
use Rattle.hp_model.specs.NotationTree as T
use Rattle.hp_text.specs.declared.mark.Mark.{Mark}
use Rattle.hp_text.specs.declared.mark.Mark.TheVariants as m
use Rattle.hp_text.specs.declared.token.Token.{Token}
use Rattle.hp_text.specs.declared.token.Token.TheVariants as t
use Rattle.hp_text.specs.declared.token.Placed.{Placed}
use Rattle.hp_text.specs.declared.token.Ending.{Ending}
use Rattle.hp_text.specs.declared.token.Ending.TheVariants as e
use Rattle.hp_text.specs.declared.tokens.Tokens.{Tokens}
use Rattle.hp_text.specs.declared.node.Node.{Node, fold-Node}
use Rattle.hp_text.specs.declared.node.Node.TheOpen.{Node-F}
use Rattle.hp_text.specs.declared.fault.Stop.{Stop}
use Rattle.hp_text.specs.declared.fault.Stop.TheVariants as s

abbrev pub mark_view : Mark → N.Mark
mark_view m.On = N.on_mark
mark_view m.If = N.if_mark
mark_view m.Do = N.do_mark
mark_view m.Where = N.where_mark
mark_view m.As = N.as_mark
mark_view m.Set = N.set_mark
mark_view m.Else = N.else_mark
mark_view m.Otherwise = N.otherwise_mark
mark_view m.Then = N.then_mark
mark_view m.Until = N.until_mark
mark_view m.And = N.and_mark
mark_view m.Or = N.or_mark
mark_view m.Not = N.not_mark
mark_view m.True = N.true_mark
mark_view m.False = N.false_mark
mark_view m.New = N.new_mark
mark_view m.Old = N.old_mark
mark_view m.Event = N.event_mark
mark_view m.Key = N.key_mark
mark_view m.Immediate = N.immediate_mark
mark_view m.Deferred = N.deferred_mark
mark_view m.Separate = N.separate_mark
mark_view m.Dependent = N.dependent_mark
mark_view m.Exclusive = N.exclusive_mark
mark_view m.Create = N.create_mark
mark_view m.Update = N.update_mark
mark_view m.Delete = N.delete_mark
mark_view m.Signal = N.signal_mark
mark_view m.Emit = N.emit_mark
mark_view m.Each = N.each_mark
mark_view m.For = N.for_mark
mark_view m.With = N.with_mark
mark_view m.Sub = N.sub_mark
mark_view m.Abort = N.abort_mark
mark_view m.Veto = N.veto_mark
mark_view m.Install = N.install_mark
mark_view m.Enable = N.enable_mark
mark_view m.Disable = N.disable_mark
mark_view m.Remove = N.remove_mark
mark_view m.Fire = N.fire_mark
mark_view m.OpenBrace = N.open_brace
mark_view m.CloseBrace = N.close_brace
mark_view m.OpenParenthesis = N.open_parenthesis
mark_view m.CloseParenthesis = N.close_parenthesis
mark_view m.OpenBracket = N.open_bracket
mark_view m.CloseBracket = N.close_bracket
mark_view m.Comma = N.comma
mark_view m.Colon = N.colon
mark_view m.Semicolon = N.semicolon
mark_view m.Point = N.point
mark_view m.Equal = N.equal_sign
mark_view m.NotEqual = N.unequal_sign
mark_view m.Less = N.less_sign
mark_view m.LessOrEqual = N.at_most_sign
mark_view m.Greater = N.greater_sign
mark_view m.GreaterOrEqual = N.at_least_sign
mark_view m.Plus = N.plus_sign
mark_view m.Minus = N.minus_sign
mark_view m.Star = N.times_sign
mark_view m.Slash = N.divided_sign
mark_view m.Percent = N.percent_sign

abbrev pub token_view : Token → N.Token
token_view (t.Mark m) = N.mark (mark_view m)
token_view (t.Word w) = N.word w.now
token_view (t.Quoted x) = N.quoted x.now
token_view (t.Number n) = N.number n.value
token_view (t.Text s) = N.string (string_bytes s)

-- ---- tokens that are left

abbrev pub ending_view : Ending → N.Tokens
ending_view (e.End at) = N.ending at
ending_view (e.Unreadable at) = N.unreadable at

-- some tokens, and what comes after them
abbrev pub before : List Placed → N.Tokens → N.Tokens
before [] end = end
before (p ∷ ps) end = N.token p.at (token_view p.token) (before ps end)

abbrev pub tokens_view : Tokens → N.Tokens
tokens_view t = before t.placed.now (ending_view t.ending)

abbrev pub first_token : N.Tokens → Option N.Token
first_token (N.token at t ts) = Some t
first_token (N.ending at) = None
first_token (N.unreadable at) = None

-- ---- values

abbrev pub node_step : Node-F T.Node → T.Node
node_step (Node-F.Integer at z) = T.integer at z
node_step (Node-F.Truth at b) = T.truth at b
node_step (Node-F.Text at s) = T.text at (string_bytes s)
node_step (Node-F.List at ns) = T.list at (T.nodes ns.items)

abbrev pub node_view : Node → T.Node
node_view = fold-Node T.Node node_step

-- ---- phrases

-- the reader stops where the definition does, unless memory ran out
abbrev pub Stops : {A : Type 0} → Stop → Result A ℕ → Type 0
Stops (s.Fault at) read = read ≡ Err at
Stops s.Memory read = ⊤

-- the result, with its value seen by f, and the tokens that are left are what the definition gives, unless memory ran out
abbrev pub Reads : {A B : Type 0} → (A → B) → Result A Stop → Tokens → Result (B × N.Tokens) ℕ → Type 0
Reads f (Ok x) rest read = read ≡ Ok (f x, tokens_view rest)
Reads f (Err stop) rest read = Stops stop read

-- the same of what only passes tokens
abbrev pub Passes : Result (Unit {0}) Stop → Tokens → Result N.Tokens ℕ → Type 0
Passes (Ok x) rest read = read ≡ Ok (tokens_view rest)
Passes (Err stop) rest read = Stops stop read

-- the same of what makes a value
abbrev pub Gives : {A B : Type 0} → (A → B) → Result A Stop → B → Type 0
Gives f (Ok x) value = f x ≡ value
Gives f (Err stop) value = stop ≡ s.Memory

-- the same of what may stand here or not
abbrev pub Finds : {A B : Type 0} → (A → B) → Result A Stop → Tokens → B × N.Tokens → Type 0
Finds f (Ok x) rest read = read ≡ (f x, tokens_view rest)
Finds f (Err stop) rest read = stop ≡ s.Memory

-- the same of a whole text, after which no token is left
abbrev pub Makes : {A B : Type 0} → (A → B) → Result A Stop → Result B ℕ → Type 0
Makes f (Ok x) read = read ≡ Ok (f x)
Makes f (Err stop) read = Stops stop read

-- The rows of an aggregate are read as a query is.
use Rattle.std.proofs.Common.{◌≡◌, ap, refl, sym, subst, List, Result, Ok, Err}
use Rattle.serde_json.specs.Data.{Data}
use Rattle.hp_model.specs.Values.{Name, ◌>>=◌}
use Rattle.hp_model.specs.Rules as R
use Rattle.hp_model.specs.Refusals.{Path, item_at, Decoded}
use Rattle.hp_model.specs.Parts.{place_at}
use Rattle.hp_model.specs.Scopes.{Setting, row_setting, new_row_at}
use Rattle.hp_model.specs.ExpressionGrammar.{expression_at}
use Rattle.hp_model.specs.AggregateGrammar.{Over, over_at}
use Rattle.hp_model.specs.Decode.{query_at}
use Rattle.hp_query.specs.Mapped.{query}
use Rattle.hp_query.specs.declared.query.Query.{Query}
use Rattle.hp_script.specs.Aggregates.{over}
use Rattle.hp_script.specs.Mapped.{Gives}
use Rattle.hp_script.specs.declared.refusal.DecodeError.{DecodeError}
use Rattle.hp_script.specs.declared.refusal.DecodeError.TheVariants.{Refused, Memory}

abbrev over_of : R.Query → Over
over_of q = record { variable = q.name; class = q.class; predicate = q.predicate }

-- what is made of what a reading makes
made_after : {A X Y : Type 0} (r : Decoded A) (k : A → Decoded X) (k' : A → Decoded Y) (g : X → Y)
    → ((x : A) → k' x ≡ (k x >>= λ y. Ok (g y))) → (r >>= k') ≡ ((r >>= k) >>= λ y. Ok (g y))
made_after (Ok x) k k' g h = h x
made_after (Err e) k k' g h = refl

over_is : (classes : List Name) (setting : Setting) (path : Path) (a b c : Data)
    → over_at classes setting path a b c ≡ (query_at classes setting (item_at path 1) (item_at path 2) (item_at path 3) a b c >>= λ q. Ok (over_of q))
unfolding over_at query_at
over_is classes setting path a b c =
    made_after (new_row_at setting.names (item_at path 1) a) _ _ over_of λ x.
    made_after (place_at classes (item_at path 2) b) _ _ over_of λ n.
    made_after (expression_at (row_setting x setting) (item_at path 3) c) _ _ over_of λ e. refl

gives_over : (result : Result Query DecodeError) (read : Decoded R.Query) → Gives query result read → Gives over result (read >>= λ q. Ok (over_of q))
gives_over (Ok q) read is = ap (λ r. r >>= λ q. Ok (over_of q)) is
gives_over (Err (Refused r)) read is = ap (λ r. r >>= λ q. Ok (over_of q)) is
gives_over (Err Memory) read is = tt

-- what reads a query reads the rows of an aggregate
pub over_read : (result : Result Query DecodeError) (classes : List Name) (setting : Setting) (path : Path) (a b c : Data)
    → Gives query result (query_at classes setting (item_at path 1) (item_at path 2) (item_at path 3) a b c) → Gives over result (over_at classes setting path a b c)
over_read result classes setting path a b c read =
    subst (λ all. Gives over result all) (sym (over_is classes setting path a b c)) (gives_over result _ read)

use Rattle.std.proofs.Common.{◌≡◌, refl, sym, ◌∙◌, subst, true, false, Ok, Err}
use Rattle.hp_model.specs.NotationTokens.{Tokens, token, ending, unreadable, place}
use Rattle.hp_model.specs.NotationScripts.{ended}
use Rattle.hp_text.specs.Mapped.{tokens_view, Stops}
use Rattle.hp_text.specs.Scripts.{ends}
use Rattle.hp_text.proofs.item.end.Goals as goal

ended_at_end : (ts : Tokens) → ends ts ≡ true → ended ts ≡ Ok (place ts)
ended_at_end (token at t ts) is = cc
ended_at_end (ending at) is = refl
ended_at_end (unreadable at) is = cc

ended_before : (ts : Tokens) → ends ts ≡ false → ended ts ≡ Err (place ts)
ended_before (token at t ts) is = refl
ended_before (ending at) is = cc
ended_before (unreadable at) is = refl

pub returns-then-is_end : goal.returns-then-is_end
returns-then-is_end c = ended_at_end (tokens_view c.args.tokens.now) (sym c.is_end.ensures ∙ c.if-is_end.true)

pub returns : goal.returns
returns c =
    let ts = tokens_view c.args.tokens.now in
    subst (λ s. Stops s (ended ts)) (sym c.fault.ensures) (ended_before ts (sym c.is_end.ensures ∙ c.if-is_end.false))

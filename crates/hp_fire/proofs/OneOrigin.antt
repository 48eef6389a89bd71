-- What all attempts of a channel have in common.
use Rattle.std.proofs.Common.{◌≡◌, ℕ, sym, ◌∙◌, subst, List, [], ◌∷◌, ◌++◌}
use Rattle.hp_model.specs.Rules.{Library}
use Rattle.hp_store.specs.Stack.{Stack}
use Rattle.hp_fire.specs.declared.speculate.channel.Sent.{Sent}
use Rattle.hp_fire.specs.declared.speculate.channel.Sent.TheVariants.{Wave as OfWave, Tried as OfTried}
use Rattle.hp_fire.specs.Channels.{IsOf, IsFrom}

-- a channel is for one library alone
pub only_one : (k l : Library) (sent : List Sent) → IsOf k sent → IsOf l sent → k ≡ l
only_one k l [] a b = absurd a
only_one k l (OfWave lib snapshot done ∷ rest) a b = sym a ∙ b
only_one k l (OfTried t ∷ rest) a b = absurd a

-- and for one wave
pub only_start : (s t : Stack) (m n : ℕ) (sent : List Sent) → IsFrom s m sent → IsFrom t n sent → (s ≡ t) × (m ≡ n)
only_start s t m n [] a b = absurd a
only_start s t m n (OfWave lib snapshot done ∷ rest) a b = (sym a.0 ∙ b.0, sym a.1 ∙ b.1)
only_start s t m n (OfTried x ∷ rest) a b = absurd a

-- what was sent first stays so
pub from_more : (s : Stack) (n : ℕ) (before after : List Sent) (x : Sent) → after ≡ before ++ x ∷ [] → IsFrom s n before → IsFrom s n after
from_more s n [] after x is a = absurd a
from_more s n (first ∷ before) after x is a = subst (IsFrom s n) (sym is) a

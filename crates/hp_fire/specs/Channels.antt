-- What is sent over the channels from the workers of a wave to the owner of the group.
use Rattle.std.specs.Prelude.{◌≡◌, ℕ, List, [], ◌∷◌}
use Rattle.hp_model.specs.Rules.{Library}
use Rattle.hp_model.specs.Soundness.{IsSound}
use Rattle.hp_rule.specs.Mapped.{library}
use Rattle.hp_store.specs.Stack.{Stack}
use Rattle.hp_attempt.specs.Mapped.{attempt}
use Rattle.hp_fire.specs.declared.speculate.channel.Sent.{Sent}
use Rattle.hp_fire.specs.declared.speculate.channel.Sent.TheVariants.{Wave as OfWave, Tried as OfTried}
use Rattle.hp_fire.specs.Starts.{IsTriedFrom}

-- this library was sent
abbrev pub Names : Library → Sent → Type 0
Names l (OfWave lib snapshot done) = library lib.now ≡ l
Names l (OfTried t) = ⊥

-- this snapshot of a wave was sent, before which so many tasks were settled
abbrev pub NamesStart : Stack → ℕ → Sent → Type 0
NamesStart s n (OfWave lib snapshot done) = (snapshot.now ≡ s) × (done ≡ n)
NamesStart s n (OfTried t) = ⊥

-- this library was sent first
abbrev pub IsOf : Library → List Sent → Type 0
IsOf l [] = ⊥
IsOf l (x ∷ xs) = Names l x

-- this snapshot was sent first, and this number
abbrev pub IsFrom : Stack → ℕ → List Sent → Type 0
IsFrom s n [] = ⊥
IsFrom s n (x ∷ xs) = NamesStart s n x

-- if an attempt was sent, it is sound
abbrev pub IsSoundFor : Library → Sent → Type 0
IsSoundFor l (OfWave lib snapshot done) = Unit {0}
IsSoundFor l (OfTried t) = IsSound l (attempt t.attempt)

-- if an attempt was sent, its task was tried from this snapshot
abbrev pub IsTriedFor : Stack → ℕ → Sent → Type 0
IsTriedFor s n (OfWave lib snapshot done) = Unit {0}
IsTriedFor s n (OfTried t) = IsTriedFrom s n t

-- it may be sent after these: an attempt is sound for the library that was sent first, and its task was tried from the
-- snapshot that was sent first
pub record MayFollow (before : List Sent) (x : Sent) : Type 0 where
  pub sound : (l : Library) → IsOf l before → IsSoundFor l x
  pub tried : (s : Stack) (n : ℕ) → IsFrom s n before → IsTriedFor s n x

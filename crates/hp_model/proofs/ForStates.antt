-- Attempts that are sound for a class of states.
use Rattle.std.proofs.Common.{List}
use Rattle.hp_model.specs.Rules.{Library}
use Rattle.hp_model.specs.State.{State}
use Rattle.hp_model.specs.Cells.{Changes, Read}
use Rattle.hp_model.specs.Soundness.{Faithful, Attempt, IsSound}
use Rattle.hp_model.specs.States.{ordered_states, FaithfulFor, IsSoundFor, IsSoundForOrdered, IsSoundForFit}
use Rattle.hp_model.proofs.FitUnits.{fire_fits}

pub sound_as : {library : Library} {a : Attempt} → IsSound library a → IsSoundFor ordered_states library a
sound_as sound = record { from = λ S ordered held. let leads = sound.from S ordered held in record { answers = leads.answers; reaches = leads.reaches; one = leads.ordered } }

sound_of : {library : Library} {a : Attempt} → IsSoundFor ordered_states library a → IsSound library a
sound_of sound = record { from = λ S ordered held. let leads = sound.from S ordered held in record { answers = leads.answers; reaches = leads.reaches; ordered = leads.one } }

pub sound_for_ordered : IsSoundForOrdered
sound_for_ordered library a = (sound_as, sound_of)

pub sound_for_fit : IsSoundForFit
sound_for_fit library a known carries sound = record {
  from = λ S fit held.
      let leads = sound.from S fit.ordered held in
      record { answers = leads.answers; reaches = leads.reaches; one = (fire_fits library known S a.task fit carries).state };
}

pub faithful_of : {A : Type 0} {library : Library} {given : State → A} {next : State → State} {reads : List Read} {before after : Changes} {answer : A}
    → FaithfulFor ordered_states library given next reads before after answer → Faithful library given next reads before after answer
faithful_of p = record { from = λ base held S ordered is. let leads = p.from base held S ordered is in record { answers = leads.answers; reaches = leads.reaches; ordered = leads.one } }

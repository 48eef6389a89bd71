use Rattle.std.proofs.Common.{◌≡◌, ◌+◌, ◌<◌, ◌≤◌, true}
use Rattle.std.specs.List.{slice_index_or}
use Rattle.hp_fire.specs.Groups.{firsts}
use Rattle.hp_fire.proofs.speculate.counts.of_first_wave.Given as goal

abbrev pub invariant-loop-number : goal.invariant-loop-number
invariant-loop-number l = (l.first ≤ l.number) × (0 < l.number → slice_index_or l.retried l.from true ≡ true → l.first < l.number)
    × (l.first + firsts l.retried l.from ≡ firsts l.retried (l.from + l.number))

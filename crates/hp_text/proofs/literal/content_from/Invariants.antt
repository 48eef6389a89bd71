use Rattle.std.proofs.Common.{◌≡◌, ◌-◌, ◌≤◌, length, drop, string_bytes}
use Rattle.std.specs.Str.{IsCharBoundary}
use Rattle.hp_model.specs.NotationTokens.{content}
use Rattle.hp_text.proofs.Contents.{preceded_by}
use Rattle.hp_text.proofs.literal.content_from.Given as goal

abbrev pub invariant-runs : goal.invariant-runs
invariant-runs l = record {
  so_far : content 0 (drop l.start l.text) ≡ preceded_by (string_bytes l.found) (l.at - l.start) (content 0 (drop l.at l.text));
  from : l.start ≤ l.at;
  boundary : IsCharBoundary l.text l.at;
}

abbrev pub decreases-runs : goal.decreases-runs
decreases-runs l = length l.text - l.at

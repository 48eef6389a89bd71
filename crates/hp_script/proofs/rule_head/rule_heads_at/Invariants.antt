use Rattle.std.proofs.Common.{◌≡◌, [], drop, length, map}
use Rattle.serde_json.specs.View.{view}
use Rattle.hp_model.specs.Parts.{read_from}
use Rattle.hp_model.specs.RuleHeads.{rule_head_at}
use Rattle.hp_rule.specs.Places.{steps}
use Rattle.hp_script.specs.Versions.{version_view}
use Rattle.hp_script.specs.Forms.{heads_view}
use Rattle.hp_script.proofs.rule_head.rule_heads_at.Given as goal

abbrev pub invariant-loop-i : goal.invariant-loop-i
invariant-loop-i l = record {
  reads : read_from (rule_head_at (version_view l.version)) (steps l.place) (heads_view l.heads.items) l.i (map view (drop l.i l.values))
      ≡ read_from (rule_head_at (version_view l.version)) (steps l.place) [] 0 (map view l.values);
  counted : length l.heads.items ≡ l.i;
}

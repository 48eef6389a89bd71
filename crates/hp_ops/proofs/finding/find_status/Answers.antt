use Rattle.std.proofs.Common.{◌∙◌}
use Rattle.hp_model.specs.Cells.{rule_cell}
use Rattle.hp_ops.proofs.Worlds.{status_found, status_shown, still_now}
use Rattle.hp_ops.proofs.finding.find_status.Goals as goal

pub returns-clause-finds : goal.returns-clause-finds
returns-clause-finds c = λ lib.
    status_found lib c.args.rule c.args.view.now c.fetch.new.self _ _ c.in_ok-value.ensures.only c.in_ok-value.ensures.shows
    (c.in_ok-value.ensures.value ∙ still_now (rule_cell c.args.rule) c.in_ok-value.ensures.only) c.status_in.ensures

pub returns-clause-shows : goal.returns-clause-shows
returns-clause-shows c =
    status_shown c.args.rule c.args.view.now c.fetch.new.self _ _ c.in_ok-value.ensures.only c.in_ok-value.ensures.shows
    (c.in_ok-value.ensures.value ∙ still_now (rule_cell c.args.rule) c.in_ok-value.ensures.only) c.status_in.ensures

use Rattle.std.proofs.Common.{sym, ap, ◌∙◌, Some}
use Rattle.serde_json.specs.View.{view}
use Rattle.hp_print.proofs.BodySteps.{empty_body, empty_each, some_each, no_each}
use Rattle.hp_print.proofs.Readings.{no_item}
use Rattle.hp_print.proofs.body.is_empty_list.Goals as goal

pub returns-in-empty-clause-each : goal.returns-in-empty-clause-each
returns-in-empty-clause-each c n = empty_each n _ (sym c.in-Some.ensures ∙ ap Some (no_item view _ c.in-empty.len_below))

pub returns-in-empty-clause-empty : goal.returns-in-empty-clause-empty
returns-in-empty-clause-empty c is n = empty_body n _ (sym c.in-Some.ensures ∙ ap Some (no_item view _ c.in-empty.len_below))

pub returns-in-len1-up-clause-each : goal.returns-in-len1-up-clause-each
returns-in-len1-up-clause-each c n = some_each view n _ _ (sym c.in-Some.ensures) c.in-len1-up.len_at_least

pub returns-in_default-clause-each : goal.returns-in_default-clause-each
returns-in_default-clause-each c n = no_each n _ (sym c.in_default.ensures)

use Rattle.hp_model.proofs.NotationRead.{scripts_are_read, text_has_one_meaning}
use Rattle.hp_model.proofs.NotationForms.{canonical_is_fixed}
use Rattle.hp_model.proofs.NotationValued.{values_are_read, lines_are_read}
use Rattle.hp_model.proofs.laws.notation.Goals as goal

pub returns-clause-round_trip : goal.returns-clause-round_trip
returns-clause-round_trip c = scripts_are_read

pub returns-clause-values : goal.returns-clause-values
returns-clause-values c = values_are_read

pub returns-clause-lines : goal.returns-clause-lines
returns-clause-lines c = lines_are_read

pub returns-clause-fixed : goal.returns-clause-fixed
returns-clause-fixed c = canonical_is_fixed

pub returns-clause-one_meaning : goal.returns-clause-one_meaning
returns-clause-one_meaning c = text_has_one_meaning

use Rattle.hp_lines.proofs.FitLines.{json_lines_fit}
use Rattle.hp_lines.proofs.Sound.{checked_are_sound, checked_stay_sound}
use Rattle.hp_lines.proofs.laws.checked_lines_are_sound.Goals as goal

pub returns-clause-never : goal.returns-clause-never
returns-clause-never c = checked_are_sound

pub returns-clause-between : goal.returns-clause-between
returns-clause-between c = checked_stay_sound

pub returns-clause-json : goal.returns-clause-json
returns-clause-json c = json_lines_fit

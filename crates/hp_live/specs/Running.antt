-- A rule base after units.
use Rattle.std.specs.Prelude.{◌+◌, length}
use Rattle.hp_model.specs.State.{State}
use Rattle.hp_model.specs.Cascade.{run_units}
use Rattle.hp_model.specs.Decode.{Schedule}
use Rattle.hp_lines.specs.Live.{RuleBase}

abbrev pub with_state : RuleBase → State → RuleBase
with_state base S = record { version = base.version; library = base.library; state = S; clock = base.clock; units = base.units }

-- after the units of a schedule
abbrev pub ran_base : RuleBase → Schedule → RuleBase
ran_base base schedule =
    let e = run_units base.library schedule.units base.state in
    record { version = base.version; library = base.library; state = e.state; clock = schedule.clock; units = base.units + length e.units }

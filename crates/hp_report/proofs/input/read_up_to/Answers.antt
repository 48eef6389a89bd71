use Rattle.std.proofs.Common.{rules, ◌≤◌, ◌+◌, length, take}
use Rattle.hp_report.proofs.Known.{takes_more}
use Rattle.hp_report.proofs.input.read_up_to.Goals as goal

pub returns-in_err-extend_from_slice-in-Ok-clause-most : goal.returns-in_err-extend_from_slice-in-Ok-clause-most
returns-in_err-extend_from_slice-in-Ok-clause-most g c =
    let within : length c.loop-reader.input.items + length (take c.in-Ok.count c.read.new.buf) ≤ c.args.limit = search rules in
    takes_more (g.R.Source.remaining c.args.reader.now) (g.R.Source.remaining c.loop-reader.reader) (g.R.Source.remaining c.read.new.self) c.loop-reader.input.items
    (take c.in-Ok.count c.read.new.buf) c.args.limit
    c.loop-reader.invariant.0.taken c.in-Ok.ensures.bytes.0 within

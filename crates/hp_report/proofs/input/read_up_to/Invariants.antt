use Rattle.std.proofs.Common.{◌≡◌, ◌-◌, ◌+◌, vec_len, length}
use Rattle.std.specs.Prelude.{if◌then◌else◌}
use Rattle.hp_report.proofs.Known.{Reading}
use Rattle.hp_report.proofs.input.read_up_to.Given as goal

abbrev pub invariant-loop-reader : goal.invariant-loop-reader
invariant-loop-reader g l =
    Reading (g.R.Source.remaining l.fn.reader) (g.R.Source.remaining l.reader) (g.R.Source.has_failed l.reader) l.input.items l.limit × (length l.buf ≡ 4096)

abbrev pub decreases-loop-reader : goal.decreases-loop-reader
decreases-loop-reader g l = (l.limit - vec_len l.input) + (if g.R.Source.has_ended l.reader then 0 else 1)

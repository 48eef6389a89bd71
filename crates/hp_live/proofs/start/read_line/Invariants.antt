use Rattle.std.proofs.Common.{◌≡◌, length, false}
use Rattle.std.specs.Io.KnownBytes.{Consumes}
use Rattle.hp_live.proofs.start.read_line.Given as goal

abbrev pub invariant-loop : goal.invariant-loop
invariant-loop g l = record {
  taken : Consumes (g.R.Source.remaining l.fn.reader) (g.R.Source.remaining l.reader) l.bytes.items;
  sound : g.R.Source.has_failed l.reader ≡ false;
  room : length l.buf ≡ 4096;
}

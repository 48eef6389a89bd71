use Rattle.std.proofs.Common.{◌≡◌, ◌++◌, ◌*◌, string_bytes, replicate}
use Rattle.hp_print.proofs.writer.put_indent.Given as goal

-- what was written is so many steps
abbrev pub invariant-loop-i : goal.invariant-loop-i
invariant-loop-i l = string_bytes l.text ≡ string_bytes l.fn.text ++ replicate (2 * l._i) 32

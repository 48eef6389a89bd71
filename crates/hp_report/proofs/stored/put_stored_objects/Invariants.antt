use Rattle.std.proofs.Common.{◌≡◌, ◌++◌, string_bytes, drop}
use Rattle.hp_store.specs.Stack.{cells_in}
use Rattle.hp_report.specs.Mapped.{library_of}
use Rattle.hp_report.specs.Stored.{stored_lines}
use Rattle.hp_report.proofs.stored.put_stored_objects.Given as goal

-- what was written and what is still to write is all
abbrev pub invariant-loop-key : goal.invariant-loop-key
invariant-loop-key l =
    string_bytes l.out ++ stored_lines (library_of l.names) (cells_in l.store) l.class (drop l.key-index l.keys)
    ≡ string_bytes l.fn.out ++ stored_lines (library_of l.names) (cells_in l.store) l.class l.keys

use Rattle.std.proofs.Common.{codes}
use Rattle.hp_model.specs.Refusals.{under_root}
use Rattle.hp_model.proofs.WellFormedScripts.{read_library}
use Rattle.hp_script.proofs.decoding.library_of.Goals as goal

pub of_checked-requires : goal.of_checked-requires
of_checked-requires c =
    read_library _ _ _ _ _ _ _ _ (under_root (codes "rules")) _ _ _ c.in_ok-depth_limit.ensures c.in_ok-classes.ensures.reads c.in_ok-heads.ensures.reads
    (rw (c.as_slice.ensures.value, c.as_slice-2.ensures.value) at c.in_ok-rules.ensures)

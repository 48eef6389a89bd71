use Rattle.hp_model.specs.Report.{objects_text}
use Rattle.hp_store.specs.Stack.{cells_in}
use Rattle.hp_report.specs.Mapped.{library}
use Rattle.hp_report.specs.Stored.{GainsOf}
use Rattle.hp_report.proofs.ByClass.{before_class}
use Rattle.hp_report.proofs.stored.put_all_objects.Given as goal

-- the objects of the classes so far were added
abbrev pub invariant-loop-index : goal.invariant-loop-index
invariant-loop-index l = GainsOf (library l.library) (cells_in l.store) (λ S. objects_text (library l.library) (before_class l.index S.objects)) l.fn.out l.out

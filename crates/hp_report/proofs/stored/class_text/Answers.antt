use Rattle.hp_store.specs.Stack.{cells_in}
use Rattle.hp_report.specs.Mapped.{library}
use Rattle.hp_report.specs.Text.{class_text}
use Rattle.hp_report.proofs.Endings.{whole}
use Rattle.hp_report.proofs.stored.class_text.Goals as goal

pub returns : goal.returns
returns c =
    let lib = library c.args.library.now in
    whole lib (cells_in c.args.store.now) (λ S. class_text lib c.args.class S.objects) c.new-out.result c.put_class.new.out c.new-out.ensures.bytes c.in_ok-put_class.ensures

use Rattle.hp_store.specs.Stack.{cells_in}
use Rattle.hp_report.specs.Mapped.{library}
use Rattle.hp_report.specs.Text.{state_text}
use Rattle.hp_report.proofs.Endings.{whole}
use Rattle.hp_report.proofs.stored.state_text.Goals as goal

pub returns : goal.returns
returns c =
    let lib = library c.args.library.now in
    whole lib (cells_in c.args.store.now) (λ S. state_text lib S.objects S.rules) c.new-out.result c.put_state.new.out c.new-out.ensures.bytes c.in_ok-put_state.ensures

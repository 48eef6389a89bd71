use Rattle.hp_store.specs.Stack.{cells_in}
use Rattle.hp_report.specs.Mapped.{library}
use Rattle.hp_report.proofs.Endings.{final_put}
use Rattle.hp_report.proofs.text.state.put_final.Goals as goal

pub returns : goal.returns
returns c =
    final_put (library c.args.library.now) (cells_in c.args.store.now) c.args.out.now c.push_str.new.self c.put_state.new.out c.push_str-2.new.self
    c.in_ok-push_str.ensures.bytes c.in_ok-put_state.ensures c.in_ok-push_str-2.ensures.bytes

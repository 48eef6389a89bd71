use Rattle.serde_json.specs.View.{view}
use Rattle.hp_model.specs.Decode.{decode}
use Rattle.hp_script.specs.Timed.{timed_script_at}
use Rattle.hp_script.proofs.Timed.{untimed_at, gives_untimed}
use Rattle.hp_script.proofs.decoding.decode_value.Goals as goal

pub returns-clause-reads : goal.returns-clause-reads
returns-clause-reads c =
    let value = view c.args.value.now in
    gives_untimed c.script_at.result (timed_script_at value) (decode value) (untimed_at value) c.script_at.ensures.reads

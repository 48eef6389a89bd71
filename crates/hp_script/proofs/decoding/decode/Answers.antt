use Rattle.hp_script.proofs.Timed.{gives_script}
use Rattle.hp_script.proofs.decoding.decode.Goals as goal

pub returns-clause-reads : goal.returns-clause-reads
returns-clause-reads c = gives_script c.script_in.result c.args.bytes.now c.script_in.ensures.timed

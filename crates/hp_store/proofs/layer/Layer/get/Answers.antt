use Rattle.hp_store.proofs.Entered.{read_change}
use Rattle.hp_store.proofs.layer.Layer.get.Goals as goal

pub returns : goal.returns
returns c = read_change c.args.cell c.self.inside.changes c.args.self.now c.get.result c.self.view_is c.get.ensures.value

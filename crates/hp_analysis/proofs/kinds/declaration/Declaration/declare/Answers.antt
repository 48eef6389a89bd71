use Rattle.std.proofs.Common.{string_bytes}
use Rattle.hp_analysis.proofs.Signatures.{declared_is, stored_by}
use Rattle.hp_analysis.proofs.kinds.declaration.Declaration.declare.Goals as goal

pub returns-clause-signature : goal.returns-clause-signature
returns-clause-signature c = λ other. declared_is c.args.self.now.signatures c.insert.new.self (string_bytes c.args.name) c.args.sorts c.in_ok-insert.ensures.updates other

pub returns-clause-stored : goal.returns-clause-stored
returns-clause-stored c = λ other. stored_by c.args.self.now.signatures c.insert.new.self (string_bytes c.args.name) c.args.sorts c.in_ok-insert.ensures.updates other

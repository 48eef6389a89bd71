use Rattle.std.proofs.Common.{sym, ◌∙◌}
use Rattle.hp_analysis.proofs.Signatures.{found_is}
use Rattle.hp_analysis.proofs.kinds.declaration.Declaration.signature.Goals as goal

pub returns : goal.returns
returns c = c.stored.ensures ∙ sym (found_is c.args.self.now.signatures.entries c.args.name.now)

use Rattle.std.proofs.Common.{rules}
use Rattle.hp_sessions.proofs.Legal.{opens}
use Rattle.hp_sessions.proofs.blank.Blank.open.Goals as goal

pub invariant_of-result : goal.invariant_of-result
invariant_of-result g c =
    let i = c.self.invariant in
    (search rules, i.1, search rules, search rules, opens c.self.inside.library.value c.self.inside.opening c.self.inside.store c.new.result.items i.0 i.4 c.new.ensures.items, search rules)

use Rattle.std.proofs.Common.{◌≡◌, ◌++◌, drop, filter}
use Rattle.hp_value.specs.Mapped.{primitive}
use Rattle.hp_rule.specs.Mapped.{library}
use Rattle.hp_rule.specs.Mentions.{is_mentioned}
use Rattle.hp_rule.proofs.library.Library.mentions.Given as goal

-- the rules found so far, followed by those among the rest, are those among all listed ones
abbrev pub invariant-loop-number : goal.invariant-loop-number
invariant-loop-number l =
    l.numbers.items ++ filter (is_mentioned (library l.self).rules (primitive l.prim)) (drop l.number-index l.listed) ≡ filter (is_mentioned (library l.self).rules (primitive l.prim)) l.listed

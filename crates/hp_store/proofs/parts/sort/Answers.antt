use Rattle.std.proofs.Common.{int_eq}
use Rattle.std.proofs.lemmas.List.Filters.{dedup_is}
use Rattle.hp_store.proofs.Picked.{sorted_once, sorted_kept}
use Rattle.hp_store.proofs.parts.sort.Goals as goal

pub returns-clause-rise : goal.returns-clause-rise
returns-clause-rise c =
    sorted_once c.sort_unstable.new.self.items c.dedup.new.self.items c.sort_unstable.ensures.sorted (dedup_is int_eq c.sort_unstable.new.self.items c.dedup.new.self.items c.dedup.ensures.filtered)

pub returns-clause-kept : goal.returns-clause-kept
returns-clause-kept c =
    sorted_kept c.args.keys.now.items c.sort_unstable.new.self.items c.dedup.new.self.items c.sort_unstable.ensures.permutation
    (dedup_is int_eq c.sort_unstable.new.self.items c.dedup.new.self.items c.dedup.ensures.filtered)

use Rattle.std.proofs.Common.{rules, tests, ◌∙◌}
use Rattle.std.proofs.lemmas.Iterator.{YieldsList-from_slice}
use Rattle.std.proofs.lemmas.Iterator.Consumers.{YieldsList-from_filter, count_from_yields_List}
use Rattle.std.proofs.lemmas.List.Sums.{length-filter}
use Rattle.bank.specs.Ends.{is_committed}
use Rattle.bank.proofs.committed.Goals as goal

pub returns : goal.returns
returns c =
    let counted = count_from_yields_List c.filter.result _ c.count.ensures.ran (YieldsList-from_filter _ is_committed (YieldsList-from_slice c.args.entries.now (cc))
    c.filter.ensures.closure (λ x b q k. search (rules, tests))) in
    counted ∙ length-filter is_committed c.args.entries.now

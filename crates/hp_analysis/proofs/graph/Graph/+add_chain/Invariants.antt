use Rattle.hp_analysis.proofs.graph.Graph.+add_chain.Given as goal

-- the firings that are still to be added
abbrev pub decreases-add_chain : goal.decreases-add_chain
decreases-add_chain l = l.more

use Rattle.hp_print.proofs.operand.word_alone.Goals as goal

pub returns-in-now : goal.returns-in-now
returns-in-now c = rw c.in-now.is c.word.ensures

pub returns-in-count : goal.returns-in-count
returns-in-count c = rw c.in-count.is c.occurrence_count.ensures

use Rattle.hp_print.proofs.event.word_alone.Goals as goal

pub returns-in-commit : goal.returns-in-commit
returns-in-commit c part = rw c.in-commit.is c.word.ensures

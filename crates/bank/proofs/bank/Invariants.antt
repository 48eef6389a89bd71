use Rattle.bank.proofs.bank.Given as goal

-- the book's name is that of its table
abbrev pub ghosts-bank_of : goal.ghosts-bank_of
ghosts-bank_of g a = record { table = a.blank.table }

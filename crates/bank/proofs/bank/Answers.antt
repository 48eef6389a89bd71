use Rattle.hp_rule.specs.Mapped.{library}
use Rattle.bank.proofs.bank.Goals as goal

-- the opening store is fit, whatever the library
pub begin-requires : goal.begin-requires
begin-requires g c = c.in_ok-opening.ensures.fit (library c.in_ok-library.library.value)

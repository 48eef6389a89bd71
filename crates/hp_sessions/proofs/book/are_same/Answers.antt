use Rattle.std.proofs.Common.{◌≡◌, subst, sym}
use Rattle.std.specs.Bool.{Decides}
use Rattle.hp_rule.specs.Mapped.{library}
use Rattle.hp_rule.proofs.Told.{libraries_told}
use Rattle.hp_sessions.proofs.book.are_same.Goals as goal

pub returns : goal.returns
returns c =
    subst (λ b. Decides b (library c.args.one.now ≡ library c.args.other.now)) (sym c.eq.ensures) (libraries_told c.args.one.now c.args.other.now)

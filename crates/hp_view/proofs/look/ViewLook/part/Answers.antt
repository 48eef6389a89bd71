use Rattle.std.proofs.Common.{subst}
use Rattle.hp_view.specs.Seeing.{OnlyReads}
use Rattle.hp_view.proofs.Looking.{part_shown}
use Rattle.hp_view.proofs.Wholes.{told_map}
use Rattle.hp_view.proofs.look.ViewLook.part.Goals as goal

pub returns-clause-listed : goal.returns-clause-listed
returns-clause-listed c = told_map c.in_ok-objects.objects (λ objects shows. part_shown shows) c.in_ok-objects.ensures.shows

pub returns-clause-goes_on : goal.returns-clause-goes_on
returns-clause-goes_on c = subst (λ v. OnlyReads v c.part.new.self) c.keep_index.ensures c.part.ensures.only

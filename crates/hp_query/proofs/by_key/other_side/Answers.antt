use Rattle.std.proofs.Common.{subst, sym}
use Rattle.hp_model.specs.Expressions.{compared, equal}
use Rattle.hp_value.specs.Mapped.{expression}
use Rattle.hp_query.specs.ByKey.{AsksFor}
use Rattle.hp_query.proofs.ByKeyLemmas.{asks_first, asks_second}
use Rattle.hp_query.proofs.by_key.other_side.Goals as goal

pub returns-then-is_key_of-clause-asks : goal.returns-then-is_key_of-clause-asks
returns-then-is_key_of-clause-asks c =
    subst (λ e. AsksFor c.args.name.now (compared equal e (expression c.args.b.now)) (expression c.args.b.now)) (sym (c.is_key_of.ensures.told c.if-is_key_of.true))
    (asks_first c.args.name.now (expression c.args.b.now))

pub returns-then-is_key_of-2-clause-asks : goal.returns-then-is_key_of-2-clause-asks
returns-then-is_key_of-2-clause-asks c =
    subst (λ e. AsksFor c.args.name.now (compared equal (expression c.args.a.now) e) (expression c.args.a.now)) (sym (c.is_key_of-2.ensures.told c.if-is_key_of-2.true))
    (asks_second c.args.name.now (expression c.args.a.now))

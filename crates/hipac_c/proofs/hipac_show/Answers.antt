use Rattle.std.proofs.Common.{rules, SFits, w32, of_z, to_z}
use Rattle.std.proofs.lemmas.Int.{to_z-of_z}
use Rattle.hp_live.specs.Sessions.{Gave, show_line}
use Rattle.hipac_c.proofs.Lines.{answered}
use Rattle.hipac_c.proofs.hipac_show.Goals as goal

pub returns-in-Some : goal.returns-in-Some
returns-in-Some c =
    let fits : SFits w32 c.tell-status.result = search rules in
    answered (λ base outcome m now. Gave base outcome m now (show_line m.is_text))
    c.args.handle.now.kept c.put.new.self.kept c.in-Some.base.value c.deref_mut.result.now c.show-came.new.self c.deref.result.now
    c.show-came.result c.tell-status.new.answer c.tell-status.new.length c.tell-status.result (to_z w32 (of_z w32 c.tell-status.result))
    c.in-Some.ensures.taken c.deref_mut.ensures.value c.put.ensures c.deref.ensures (to_z-of_z w32 c.tell-status.result fits)
    c.show-came.ensures.answer c.show-came.ensures.once c.show-came.ensures.lost c.tell-status.ensures

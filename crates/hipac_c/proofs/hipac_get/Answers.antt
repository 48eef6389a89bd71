use Rattle.std.proofs.Common.{rules, subst, ℤ, SFits, w32, w64, of_z, to_z}
use Rattle.std.proofs.lemmas.Int.{to_z-of_z}
use Rattle.hp_live.specs.Sessions.{GaveBy, in_json, get_line}
use Rattle.hipac_c.specs.Exports.{Answered}
use Rattle.hipac_c.proofs.Lines.{answered}
use Rattle.hipac_c.proofs.hipac_get.Goals as goal

pub returns-in-Some : goal.returns-in-Some
returns-in-Some c =
    let fits : SFits w32 c.tell-status.result = search rules in
    let key = to_z w64 (of_z w64 c.args.key) in
    subst (λ (k : ℤ). Answered (λ base outcome m now. GaveBy (in_json m) base outcome m now (get_line c.args.class.now k))
    c.args.handle.now.kept c.put.new.self.kept c.tell-status.new.answer c.tell-status.new.length (to_z w32 (of_z w32 c.tell-status.result)))
    (to_z-of_z w64 c.args.key c.ranges.key)
    (answered (λ base outcome m now. GaveBy (in_json m) base outcome m now (get_line c.args.class.now key))
    c.args.handle.now.kept c.put.new.self.kept c.in-Some.base.value c.deref_mut.result.now c.get-came.new.self c.deref.result.now
    c.get-came.result c.tell-status.new.answer c.tell-status.new.length c.tell-status.result (to_z w32 (of_z w32 c.tell-status.result))
    c.in-Some.ensures.taken c.deref_mut.ensures.value c.put.ensures c.deref.ensures (to_z-of_z w32 c.tell-status.result fits)
    c.get-came.ensures.answer c.get-came.ensures.once c.get-came.ensures.lost c.tell-status.ensures)

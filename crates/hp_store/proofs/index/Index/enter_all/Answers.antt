use Rattle.std.proofs.Common.{◌≡◌, refl, sym, subst, ◌∙◌, Some, to_z, of_z, w64, rules}
use Rattle.hp_store.specs.Indexed.{IsIn}
use Rattle.hp_store.specs.Mapped.{cell_value}
use Rattle.hp_store.proofs.Indexed.{Enters, enters_none, enters_more}
use Rattle.hp_store.proofs.index.Index.enter_all.Goals as goal

pub loop-key-init : goal.loop-key-init
loop-key-init c =
    let all : c.into_iter-key-iterator.result ≡ c.args.table.now.entries = c.into_iter-key-iterator.ensures.into_iter_gives.0 in
    record {
      same = refl;
      so_far = subst (Enters c.args.self.now c.args.table.now.entries) (sym all) (enters_none c.args.self.now c.args.table.now.entries);
    }

pub loop-key-preserved : goal.loop-key-preserved
loop-key-preserved c =
    let key : to_z w64 (of_z w64 c.in-Some.key.now) ≡ c.in-Some.key.now = search rules in
    record {
      same = c.enter.ensures.same.0 ∙ c.loop-key.invariant.same;
      so_far =
          enters_more c.loop-key.self c.enter.new.self c.args.table.now.entries c.loop-key.key-iterator c.next.new.self c.in-Some.key.now c.in-Some.value.now
          c.in-Some.ensures.steps c.enter.ensures.kept
          (subst (λ k. IsIn c.enter.new.self k (Some (cell_value c.in-Some.value.now))) key (c.enter.ensures.entered c.if-not-enter.false)) c.loop-key.invariant.so_far;
    }

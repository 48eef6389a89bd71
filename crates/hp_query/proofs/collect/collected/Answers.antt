use Rattle.std.proofs.Common.{rules, pos, get_or, w64, FitsSigned, sym, ◌∙◌, subst}
use Rattle.std.proofs.Math.ListN.{drop_of_length-le}
use Rattle.std.proofs.lemmas.Int.{to_z-of_z}
use Rattle.hp_query.proofs.CollectLemmas.{Collects, collects_first, collects_more, collects_each, collects_all}
use Rattle.hp_query.proofs.collect.collected.Goals as goal
use Rattle.hp_query.proofs.collect.collected.Goals.{in-Some+in_ok-push, in_default}

pub loop-key-init : goal.loop-key-init
loop-key-init g c = record {
  on = c.keys.ensures.goes_on;
  asks = c.keys.ensures.asks;
  collects = λ world rise allowed.
      subst (Collects c.args.class world c.deref-key-items.result.now) (sym c.new-objects.ensures)
      (collects_first c.args.class world c.deref-key-items.result.now rise (c.deref-key-items.ensures.value ∙ c.in_ok-keys.ensures.listed world rise allowed));
}

pub returns-in_err-row-clause-goes_on : goal.returns-in_err-row-clause-goes_on
returns-in_err-row-clause-goes_on g c = g.met.L.Look.goes_on_then c.args.look.now c.loop-key.look c.row.new.self c.loop-key.invariant.on c.row.ensures.goes_on

pub returns-in_err-row-clause-asks : goal.returns-in_err-row-clause-asks
returns-in_err-row-clause-asks g c = g.met.L.Look.asks_then c.args.class c.args.look.now c.loop-key.look c.row.new.self c.loop-key.invariant.asks c.row.ensures.asks

pub returns-in_err-row-clause-narrows : goal.returns-in_err-row-clause-narrows
returns-in_err-row-clause-narrows g c = λ world allowed.
    g.met.L.Look.narrows c.args.look.now c.loop-key.look c.loop-key.invariant.on world (g.met.L.Look.narrows c.loop-key.look c.row.new.self c.row.ensures.goes_on world allowed)

pub returns-in_err-push-clause-goes_on : goal.returns-in_err-push-clause-goes_on
returns-in_err-push-clause-goes_on g c = g.met.L.Look.goes_on_then c.args.look.now c.loop-key.look c.row.new.self c.loop-key.invariant.on c.row.ensures.goes_on

pub returns-in_err-push-clause-asks : goal.returns-in_err-push-clause-asks
returns-in_err-push-clause-asks g c = g.met.L.Look.asks_then c.args.class c.args.look.now c.loop-key.look c.row.new.self c.loop-key.invariant.asks c.row.ensures.asks

pub returns-in_err-push-clause-narrows : goal.returns-in_err-push-clause-narrows
returns-in_err-push-clause-narrows g c = λ world allowed.
    g.met.L.Look.narrows c.args.look.now c.loop-key.look c.loop-key.invariant.on world (g.met.L.Look.narrows c.loop-key.look c.row.new.self c.row.ensures.goes_on world allowed)

pub loop-key-preserved : goal.loop-key-preserved
loop-key-preserved g c =
    let keys = c.deref-key-items.result.now in
    let fits : FitsSigned w64 (get_or keys c.loop-key.key-index (pos 0)) = search rules in
    record {
      on = g.met.L.Look.goes_on_then c.args.look.now c.loop-key.look c.row.new.self c.loop-key.invariant.on c.row.ensures.goes_on;
      asks = g.met.L.Look.asks_then c.args.class c.args.look.now c.loop-key.look c.row.new.self c.loop-key.invariant.asks c.row.ensures.asks;
      collects = λ world rise allowed.
          let before = c.loop-key.invariant.collects world rise (g.met.L.Look.narrows c.loop-key.look c.row.new.self c.row.ensures.goes_on world allowed) in
          elim c.match-branch-3.branch [
            | in-Some+in_ok-push w ↦
                collects_more keys c.loop-key.key-index _ c.loop-key.objects c.match-branch-3.objects w.in-Some.row c.loop-key-test.true (to_z-of_z w64 _ fits) before
                (sym w.in-Some.is ∙ c.in_ok-row.ensures.found world rise allowed) (w.objects-is ∙ w.in_ok-push.ensures.ok)
            | in_default w ↦
                absurd (collects_each keys c.loop-key.key-index _ c.loop-key.objects c.loop-key-test.true (to_z-of_z w64 _ fits) before
                (sym w.in_default.is ∙ c.in_ok-row.ensures.found world rise allowed))
          ];
    }

pub returns-in_err-new-clause-goes_on : goal.returns-in_err-new-clause-goes_on
returns-in_err-new-clause-goes_on g c = c.loop-key.invariant.on

pub returns-in_err-new-clause-asks : goal.returns-in_err-new-clause-asks
returns-in_err-new-clause-asks g c = c.loop-key.invariant.asks

pub returns-in_err-new-clause-narrows : goal.returns-in_err-new-clause-narrows
returns-in_err-new-clause-narrows g c = g.met.L.Look.narrows c.args.look.now c.loop-key.look c.loop-key.invariant.on

pub returns-clause-goes_on : goal.returns-clause-goes_on
returns-clause-goes_on g c = c.loop-key.invariant.on

pub returns-clause-asks : goal.returns-clause-asks
returns-clause-asks g c = c.loop-key.invariant.asks

pub returns-clause-narrows : goal.returns-clause-narrows
returns-clause-narrows g c = g.met.L.Look.narrows c.args.look.now c.loop-key.look c.loop-key.invariant.on

pub returns-clause-listed : goal.returns-clause-listed
returns-clause-listed g c = λ world rise allowed.
    c.in_ok-new.ensures.ok ∙ collects_all (c.loop-key.invariant.collects world rise allowed) (drop_of_length-le c.deref-key-items.result.now c.loop-key-test.false)

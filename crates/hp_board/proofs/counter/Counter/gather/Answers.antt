use Rattle.atomic_table.specs.Table.{Me}
use Rattle.std.proofs.Common.{rules, ℕ, ◌+◌, sym, vec_len, ◌≡◌, cond, ap, ◌∙◌, arith}
use Rattle.hp_board.specs.Deal.{IsSeatOf, Taken, Deal, times}
use Rattle.hp_board.specs.declared.tally.Tally.{Tally}
use Rattle.hp_board.proofs.Totals.{times-append, total_popped, All-popped}
use Rattle.hp_board.proofs.Draws.{joins}
use Rattle.hp_board.proofs.counter.Counter.gather.Goals as goal

pub loop-seat-init : goal.loop-seat-init
loop-seat-init c =
    let popped = c.in_ok-first.ensures.items in
    let view = c.first.view_is in
    let token = c.first.invariant in
    let ours = All-popped (IsSeatOf c.args.self.now) _ _ _ popped c.requires in
    record {
      table = ap (λ (t : Taken). t.table) view ∙ ours.1.0;
      slots = token.slots;
      some = omega arith;
      parts = search rules;
      drawn = λ x. total_popped (λ (t : Taken). times x t.drawn) _ _ _ _ popped (ap (λ (t : Taken). times x t.drawn) view);
      missed = total_popped (λ (t : Taken). cond t.done 1 0) _ _ _ _ popped (token.missed ∙ ap (λ (t : Taken). cond t.done 1 0) view);
      seats = ours.0;
    }

pub join_seat-requires : goal.join_seat-requires
join_seat-requires c =
    let view = c.seat.view_is in
    let ours = All-popped (IsSeatOf c.args.self.now) _ _ _ c.in-Some.ensures.items c.loop-seat.invariant.seats in
    let table = ap (λ (t : Deal). t.table) c.self.view_is in
    (search rules, ap (λ (t : Taken). t.table) view ∙ (ours.1.0 ∙ sym table), c.seat.invariant.slots, search rules, joins _ _ _ _ _ c.loop-seat.invariant.some)

pub loop-seat-preserved : goal.loop-seat-preserved
loop-seat-preserved c =
    let popped = c.in-Some.ensures.items in
    let view = c.seat.view_is in
    let token = c.seat.invariant in
    let before = c.loop-seat.invariant in
    let me = ap (λ (h : Me ℕ Tally). h.0) c.join_seat.ensures.2 in
    let parts = ap (λ (h : Tally). h.parts) me in
    let missed = ap (λ (h : Tally). h.missed) me in
    let ours = All-popped (IsSeatOf c.args.self.now) _ _ _ popped before.seats in
    record {
      table = c.join_seat.ensures.0 ∙ before.table;
      slots = ap (λ (h : Me ℕ Tally). h.1) c.join_seat.ensures.2 ∙ before.slots;
      some = omega (arith, parts, before.some);
      parts =
          let one_less : vec_len c.loop-seat.seats ≡ vec_len c.pop-in-loop-seat.new.self + 1 = search rules in
          omega (arith, parts, token.parts, before.parts, one_less);
      drawn = λ x.
          let mine = ap (λ (h : Tally). times x h.drawn) me in
          let both = times-append x c.loop-seat.first.me.0.drawn c.seat.inside.token.me.0.drawn in
          let left = total_popped (λ (t : Taken). times x t.drawn) _ _ _ _ popped (ap (λ (t : Taken). times x t.drawn) view) in
          let all = before.drawn x in
          omega (arith, mine, both, left, all);
      missed =
          let left = total_popped (λ (t : Taken). cond t.done 1 0) _ _ _ _ popped (token.missed ∙ ap (λ (t : Taken). cond t.done 1 0) view) in
          omega (arith, missed, left, before.missed);
      seats = ours.0;
    }

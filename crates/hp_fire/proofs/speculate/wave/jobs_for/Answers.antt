use Rattle.std.proofs.Common.{rules, subst, ◌≡◌, ◌∷◌}
use Rattle.std.specs.Prelude.{All}
use Rattle.std.proofs.lemmas.List.Elements.{All-head, All-tail}
use Rattle.hp_board.specs.Deal.{IsSeatOf}
use Rattle.hp_fire.proofs.speculate.wave.jobs_for.Goals as goal

pub add_job-requires : goal.add_job-requires
add_job-requires c =
    let deal = c.args.wave.now.board.deal in
    let split : c.loop-seat.seat-iterator.rest.items ≡ c.in-Some.seat ∷ c.next.new.self.rest.items = search rules in
    All-head (IsSeatOf deal) c.in-Some.seat c.next.new.self.rest.items (subst (All (IsSeatOf deal)) split c.loop-seat.invariant.0)

pub loop-seat-preserved : goal.loop-seat-preserved
loop-seat-preserved c =
    let deal = c.args.wave.now.board.deal in
    let split : c.loop-seat.seat-iterator.rest.items ≡ c.in-Some.seat ∷ c.next.new.self.rest.items = search rules in
    let seats = subst (All (IsSeatOf deal)) split c.loop-seat.invariant.0 in (
      All-tail (IsSeatOf deal) c.in-Some.seat c.next.new.self.rest.items seats,
      c.in_ok-add_job.ensures.jobs c.loop-seat.invariant.1,
      c.in_ok-add_job.ensures.receivers c.loop-seat.invariant.2,
    )

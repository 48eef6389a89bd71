use Rattle.std.proofs.Common.{true≢false, sym, ap, ◌∙◌, ◌∷◌, [], ◌++◌, map}
use Rattle.hp_view.specs.Mapped.{read}
use Rattle.hp_view.specs.Seeing.{now_in}
use Rattle.hp_attempt.proofs.Passed.{passed_more, told_more, untold}
use Rattle.hp_attempt.proofs.holding.first_failed.Goals as goal

pub returns-then-not-read_holds-clause-none : goal.returns-then-not-read_holds-clause-none
returns-then-not-read_holds-clause-none c =
    let r = read (c.in-Some.seen.now, c.in-Some.found.now) in (
      λ e. absurd (true≢false (sym e)),
      λ held. absurd
          (true≢false (sym (c.read_holds.ensures.1 (untold c.loop-seen.invariant.passed r c.loop-seen.invariant.split (ap (map read) c.in-Some.ensures.steps) held)) ∙ c.if-not-read_holds.true)),
    )

pub loop-seen-preserved : goal.loop-seen-preserved
loop-seen-preserved c =
    let r = read (c.in-Some.seen.now, c.in-Some.found.now) in
    record {
      passed = c.loop-seen.invariant.passed ++ r ∷ [];
      split = passed_more c.loop-seen.invariant.passed r c.loop-seen.invariant.split (ap (map read) c.in-Some.ensures.steps);
      held = told_more (now_in c.args.view.now) c.loop-seen.invariant.passed r c.loop-seen.invariant.held (c.read_holds.ensures.0 c.if-not-read_holds.false);
    }

use Rattle.std.proofs.Common.{rules, sym, ap, ◌∙◌, ◌+◌, ◌≡◌, subst, Bool, List, Option, None, drop, length, length-append, map}
use Rattle.std.proofs.lemmas.List.{drop-map}
use Rattle.std.specs.Prelude.{option_map}
use Rattle.hp_value.specs.Mapped.{veto}
use Rattle.hp_rule.specs.Mapped.{task}
use Rattle.hp_model.specs.Cells.{Cells}
use Rattle.hp_model.specs.Tree.{Task}
use Rattle.hp_attempt.specs.declared.outcome.Outcome.{Outcome}
use Rattle.hp_attempt.specs.declared.outcome.Attempt.{Attempt}
use Rattle.hp_attempt.specs.Fronts.{AreSound, AreOutcomes, IsLongest, stopped_by}
use Rattle.hp_fire.specs.Groups.{IsRetried, firsts}
use Rattle.hp_fire.proofs.Coming.{ahead_same, ahead_settled, comes_same}
use Rattle.hp_fire.proofs.Helping.{unmapped_none, sound_drop, so_far_settled, stopped_by_none}
use Rattle.hp_fire.proofs.speculate.progress.Progress.settle.Goals as goal

longest_at : (stops : Bool) (front : List Outcome) (now : Cells) (tasks others : List Task) (left : List (Option Attempt)) → tasks ≡ others
    → IsLongest (stopped_by stops front) now (drop (length front) tasks) left → IsLongest (stopped_by stops front) now (drop (length front) others) left
longest_at stops front now tasks others left same = subst (λ (ts : List Task). IsLongest (stopped_by stops front) now (drop (length front) ts) left) same

pub returns-then-is_some-clause-ahead : goal.returns-then-is_some-clause-ahead
returns-then-is_some-clause-ahead c = ahead_same c.args.self.now

pub returns-then-is_some-clause-comes : goal.returns-then-is_some-clause-comes
returns-then-is_some-clause-comes c = λ library sound. comes_same c.args.view.now c.args.self.now sound

pub returns-clause-ahead : goal.returns-clause-ahead
returns-clause-ahead c =
    let done : c.len-done.result ≡ length c.args.self.now.settled.outcomes.items = search rules in
    let count : c.len-count.result ≡ length c.in_ok-front.front.items = search rules in
    let long = ap length c.in_ok-add_front.ensures.outcomes ∙ length-append c.args.self.now.settled.outcomes.items c.in_ok-front.front.items
    ∙ ap (λ n. length c.args.self.now.settled.outcomes.items + n) (sym count) in
    ahead_settled c.args.self.now _ c.len-count.result long
    (λ none. unmapped_none veto c.add_front.new.self.end (c.in_ok-add_front.ensures.end ∙ stopped_by_none c.args.stop_at_veto c.in_ok-front.front.items (sym count ∙ none)))
    c.add_kept.ensures.same
    (subst (λ n. c.add_kept.new.self.accepted + firsts c.args.self.now.counts.retried.items n
    ≡ c.args.self.now.counts.accepted + firsts c.args.self.now.counts.retried.items (n + c.len-count.result)) done c.add_kept.ensures.exactly)
    c.add_kept.ensures.accepted
    (λ some is. c.add_kept.ensures.retried some (subst (IsRetried c.args.self.now.counts) (sym done) is))

pub returns-clause-comes : goal.returns-clause-comes
returns-clause-comes c = λ library sound.
    let n = length c.in_ok-front.front.items in
    let none : c.args.self.now.settled.end ≡ None = search rules in
    let done : c.len-done.result ≡ length c.args.self.now.settled.outcomes.items = search rules in
    let left = ap (map task) c.left_of-left.ensures ∙ sym (drop-map task c.len-done.result c.args.tasks.now) ∙ ap (λ n. drop n (map task c.args.tasks.now)) done in record {
      ahead = returns-clause-ahead c;
      sound = subst (AreSound library) (sym (c.in_ok-front.ensures.left ∙ ap (λ a. drop n a.items) c.replace-attempts.ensures.value))
          (sound_drop library n c.args.self.now.pending.attempts.items sound);
      so_far = λ first so_far.
          so_far_settled c.args.self.now.settled.outcomes.items c.in_ok-front.front.items c.add_front.new.self.outcomes.items (option_map veto c.args.self.now.settled.end)
          (option_map veto c.add_front.new.self.end) (map task c.left_of-left.result.now) c.replace-attempts.result.items (ap (option_map veto) none) left
          c.in_ok-add_front.ensures.outcomes c.in_ok-add_front.ensures.end so_far c.in_ok-front.ensures.goes_on c.in_ok-front.ensures.front
          (subst (λ a. AreSound library a.items) (sym c.replace-attempts.ensures.value) sound);
    }

pub returns-clause-front : goal.returns-clause-front
returns-clause-front c = λ none.
    let front = c.in_ok-front.front.items in
    let done : c.len-done.result ≡ length c.args.self.now.settled.outcomes.items = search rules in
    let left = ap (map task) c.left_of-left.ensures ∙ sym (drop-map task c.len-done.result c.args.tasks.now) ∙ ap (λ n. drop n (map task c.args.tasks.now)) done in record {
      front = front;
      outcomes = c.in_ok-add_front.ensures.outcomes;
      end = c.in_ok-add_front.ensures.end;
      are = subst (λ a. AreOutcomes c.in_ok-front.front.items a.items) c.replace-attempts.ensures.value c.in_ok-front.ensures.outcomes;
      left = c.in_ok-front.ensures.left ∙ ap (λ a. drop (length c.in_ok-front.front.items) a.items) c.replace-attempts.ensures.value;
      longest = longest_at c.args.stop_at_veto c.in_ok-front.front.items _ (map task c.left_of-left.result.now) _ c.in_ok-front.rest.items left c.in_ok-front.ensures.longest;
    }

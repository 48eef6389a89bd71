use Rattle.std.proofs.Common.{arith, ◌≡◌, ◌+◌, ◌++◌, sym, ap, ◌∙◌, map, length, take, drop, length-append, append-nil, false}
use Rattle.std.proofs.Math.Seq.{take-append_seam, drop-append_seam}
use Rattle.std.proofs.lemmas.List.{map-append, take-map, drop-map, length-map}
use Rattle.std.proofs.lemmas.Result.{on_ok_weaker}
use Rattle.hp_model.specs.Soundness.{Answer}
use Rattle.hp_model.specs.Transactions.{survivors}
use Rattle.hp_model.specs.Answers.{is_done, queued_at, detached_at}
use Rattle.hp_rule.specs.Mapped.{task, detached}
use Rattle.hp_fire.proofs.Adding.{queued_undone, detached_undone}
use Rattle.hp_fire.proofs.closing.leave_after_abort.Goals as goal

pub returns : goal.returns
returns c = on_ok_weaker c.append.result (λ joined outer a part.
    let undone : is_done a.end ≡ false = sym (ap (λ (x : Answer). is_done x.end) part.is) ∙ c.requires in
    let queued_now : map task c.args.course.now.queued.items ≡ outer.queued ++ a.queued = ap (λ (x : Answer). x.queued) part.is in
    let detached_now : map detached c.args.course.now.detached.items ≡ outer.detached ++ a.detached = ap (λ (x : Answer). x.detached) part.is in
    let queued : map task c.truncate.new.self.items ≡ outer.queued ++ queued_at a.end a.queued =
    ap (map task) c.truncate.ensures.items ∙ sym (take-map task c.args.around.now.queued c.args.course.now.queued.items) ∙ (λ i. take (part.begun.queued i) (queued_now i))
    ∙ take-append_seam outer.queued a.queued ∙ sym (append-nil outer.queued) ∙ ap (λ ts. outer.queued ++ ts) (queued_undone a.end undone a.queued) in
    let long : length c.args.course.now.detached.items ≡ length outer.detached + length a.detached =
    sym (length-map c.args.course.now.detached.items detached) ∙ ap length detached_now ∙ length-append outer.detached a.detached in
    let begun : c.min-begun.result ≡ length outer.detached = omega (arith, long, c.min-begun.ensures, c.len.ensures, part.begun.detached) in
    let kept : map detached c.split_off.new.self.items ≡ outer.detached =
    ap (map detached) c.in_ok-inside.ensures.items ∙ sym (take-map detached c.min-begun.result c.args.course.now.detached.items) ∙ (λ i. take (begun i) (detached_now i))
    ∙ take-append_seam outer.detached a.detached in
    let inside : map detached c.in_ok-inside.inside.items ≡ a.detached =
    ap (map detached) c.in_ok-inside.ensures.tail ∙ sym (drop-map detached c.min-begun.result c.args.course.now.detached.items) ∙ (λ i. drop (begun i) (detached_now i))
    ∙ drop-append_seam outer.detached a.detached in
    let left = c.in_ok-left_after_abort.ensures ∙ ap survivors inside in
    let all : map detached c.append.new.all.items ≡ outer.detached ++ detached_at a.end a.detached =
    ap (map detached) joined ∙ map-append detached c.split_off.new.self.items c.in_ok-left_after_abort.field-0.items ∙ (λ i. kept i ++ left i)
    ∙ ap (λ ds. outer.detached ++ ds) (detached_undone a.end undone a.detached) in
    λ i. record {
      end = ap (λ (x : Answer). x.end) part.is i;
      queued = queued i;
      detached = all i;
      items = ap (λ (x : Answer). x.items) part.is i;
    })
    c.append.ensures.items

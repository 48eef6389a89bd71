use Rattle.std.proofs.Common.{◌≡◌, ◌∙◌, Ok, Err, string_bytes}
use Rattle.hp_script.specs.Mapped.{schedule}
use Rattle.hp_script.specs.Asked.{excerpt}
use Rattle.hp_script.specs.Requests as R
use Rattle.hp_live.specs.Kept.{manner, declared_by}
use Rattle.hp_live.proofs.Asked.{kept_request, answers_item, answers_show, answers_refusal}
use Rattle.hp_live.proofs.Replied.{replied}
use Rattle.hp_live.proofs.server.answer_later.Goals as goal

pub returns-in_ok-run-in-Ok-Item : goal.returns-in_ok-run-in-Ok-Item
returns-in_ok-run-in-Ok-Item g c now stands =
    let m = manner c.args.options (declared_by c.args.checks) in
    let kept = c.args.base.now in
    let s = schedule c.in-Ok-Item.schedule in
    let text = c.in_ok-run-in-Ok-Item.field-0 in
    let read : kept_request m kept c.args.line.now ≡ Ok (R.item s) =
    rw c.in-Ok-Item.field-0-is at c.in-Ok-Item.ensures in
    replied c.done.result text kept c.run.new.self m now c.args.line.now (Ok (R.item s)) stands read c.done.ensures.text c.done.ensures.outcome
    (answers_item text kept c.run.new.self m now c.args.line.now s stands read (c.in_ok-run-in-Ok-Item.ensures.text now stands) (c.in_ok-run-in-Ok-Item.ensures.state now stands))

pub returns-in_ok-show-in-Ok-Show : goal.returns-in_ok-show-in-Ok-Show
returns-in_ok-show-in-Ok-Show g c now stands =
    let m = manner c.args.options (declared_by c.args.checks) in
    let kept = c.args.base.now in
    let e = excerpt c.in-Ok-Show.excerpt in
    let text = c.in_ok-show-in-Ok-Show.field-0 in
    let read : kept_request m kept c.args.line.now ≡ Ok (R.show e) =
    rw c.in-Ok-Show.field-0-is at c.in-Ok-Show.ensures in
    replied c.done-in-Ok-Show.result text kept kept m now c.args.line.now (Ok (R.show e)) stands read c.done-in-Ok-Show.ensures.text c.done-in-Ok-Show.ensures.outcome
    (answers_show text kept m now c.args.line.now e stands read (c.in_ok-show-in-Ok-Show.ensures now stands))

pub returns-in-Err-Refused : goal.returns-in-Err-Refused
returns-in-Err-Refused g c now stands =
    let m = manner c.args.options (declared_by c.args.checks) in
    let kept = c.args.base.now in
    let line = c.in-Err-Refused.refusal in
    let read : kept_request m kept c.args.line.now ≡ Err (string_bytes line) =
    rw c.in-Err-Refused.field-0-is at c.in-Err-Refused.ensures in
    replied c.refused.result line kept kept m now c.args.line.now (Err (string_bytes line)) stands read (c.refused.ensures.text ∙ c.in-Err-Refused.refusal-is) c.refused.ensures.outcome
    (answers_refusal line kept m now c.args.line.now stands read)

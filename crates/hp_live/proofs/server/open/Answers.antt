use Rattle.std.proofs.Common.{◌≡◌, ◌∙◌, Ok, Err, string_bytes}
use Rattle.hp_script.specs.Mapped.{timed_script}
use Rattle.hp_lines.specs.Live.{script_for}
use Rattle.hp_live.specs.Kept.{manner, declared_by}
use Rattle.hp_live.proofs.Replied.{replied_first, refused_first}
use Rattle.hp_live.proofs.server.open.Goals as goal

pub returns-in_ok-text-in-Ok : goal.returns-in_ok-text-in-Ok
returns-in_ok-text-in-Ok g c =
    let m = manner c.args.options (declared_by c.args.checks) in
    let read : script_for m c.args.line.now ≡ Ok (timed_script c.in-Ok.script) = rw c.in-Ok.script-is at c.in-Ok.ensures in
    replied_first c.done.result c.in_ok-text-in-Ok.text c.in_ok-text-in-Ok.stage m c.args.line.now (Ok (timed_script c.in-Ok.script)) read c.done.ensures.text c.done.ensures.outcome
    c.in_ok-text-in-Ok.ensures

pub returns-in-Err-Refused : goal.returns-in-Err-Refused
returns-in-Err-Refused g c =
    let m = manner c.args.options (declared_by c.args.checks) in
    let line = c.in-Err-Refused.refusal in
    let read : script_for m c.args.line.now ≡ Err (string_bytes line) = rw c.in-Err-Refused.field-0-is at c.in-Err-Refused.ensures in
    refused_first c.refused.result line m c.args.line.now read (c.refused.ensures.text ∙ c.in-Err-Refused.refusal-is) c.refused.ensures.outcome

use Rattle.std.proofs.Common.{string_bytes}
use Rattle.std.proofs.lemmas.Result.{IfOk-weaker}
use Rattle.hp_text.specs.Mapped.{node_view}
use Rattle.hipac_text.proofs.Written.{compact_of}
use Rattle.hipac_text.proofs.members.value_text.Goals as goal

pub returns : goal.returns
returns c =
    let node = node_view c.args.node in
    IfOk-weaker c.to_string.result _ _ (λ text h. compact_of node _ (string_bytes text) c.in_ok-value.ensures h)
    c.to_string.ensures.text

use Rattle.std.proofs.Common.{rules, ◌≡◌, [], string_bytes}
use Rattle.hipac_text.proofs.Written.{six_pieces}
use Rattle.hipac_text.proofs.members.json_text.Goals as goal

pub returns : goal.returns
returns c =
    let start : string_bytes c.new-text.result ≡ [] = search rules in
    six_pieces _ _ _ _ _ _ (string_bytes c.new-text.result) _ _ _ _ _ _ start
    c.in_ok-put_member.ensures c.in_ok-put_depth.ensures c.in_ok-put_member-2.ensures
    c.in_ok-put_member-3.ensures c.in_ok-put_member-4.ensures c.in_ok-push_str.ensures.bytes

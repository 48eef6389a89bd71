use Rattle.std.proofs.Common.{rules, ◌≡◌, refl, string_bytes}
use Rattle.hp_rule.specs.Noted.{noted, of_name}
use Rattle.hp_rule.proofs.Numbers.{name_noted}
use Rattle.hp_rule.proofs.note.note_name.Goals as goal

pub returns : goal.returns
returns c =
    let copied : string_bytes c.in_ok-from_str.field-0 ≡ c.args.name.now = search rules in
    let is : c.note.new.numbers.items ≡ noted c.args.number (of_name c.args.map.now c.args.name.now) = search rules in
    name_noted c.args.map.now c.remove.new.self c.insert.new.self c.args.name.now _ _ _ c.args.number refl copied c.remove.ensures.updates c.in_ok-insert.ensures.updates is

use Rattle.std.proofs.Common.{◌≡◌, drop, option_map, bytes_eq}
use Rattle.std.specs.Map.{lookup}
use Rattle.hp_value.specs.Mapped.{value, found_values, named_values}
use Rattle.hp_value.proofs.Answered.{last_in}
use Rattle.hp_value.proofs.env.Values.found.Given as goal

abbrev pub invariant-loop-named : goal.invariant-loop-named
invariant-loop-named l = last_in (option_map (λ v. value v.now) l.last) l.name (named_values (drop l.named-index l.found)) ≡ lookup (bytes_eq l.name) (found_values (named_values l.found))

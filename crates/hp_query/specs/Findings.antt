-- What the entries of a condition find, one after another.
use Rattle.std.specs.Prelude.{◌≡◌, ⊤, ◌++◌, Option, Some, None, Result, Ok, Err}
use Rattle.hp_model.specs.Conditions as C
use Rattle.hp_value.specs.declared.halt.Halt.{Halt}
use Rattle.hp_value.specs.declared.halt.Halt.TheVariants.{Memory, Cause as ByCause}
use Rattle.hp_value.specs.Mapped.{cause}
use Rattle.hp_query.specs.declared.entry.Finding.{Finding}
use Rattle.hp_query.specs.Mapped.{finding}

-- what was found first, and then
abbrev pub joined : C.Findings → C.Findings → C.Findings
joined f g = record { answers = f.answers ++ g.answers; values = f.values ++ g.values }

-- what an entry found is the verdict on it alone, unless memory ran out
abbrev pub IsVerdict : Result (Option Finding) Halt → C.Verdict → Type 0
IsVerdict (Ok (Some f)) v = C.satisfied (finding f) ≡ v
IsVerdict (Ok None) v = C.unsatisfied ≡ v
IsVerdict (Err (ByCause c)) v = C.faulty (cause c) ≡ v
IsVerdict (Err Memory) v = ⊤

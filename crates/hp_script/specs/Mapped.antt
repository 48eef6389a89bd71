-- What the crate's types stand for in the model, and what a reader of JSON gives.
use Rattle.std.specs.Prelude.{◌≡◌, ⊤, map, Result, Ok, Err}
use Rattle.hp_model.specs.Refusals as R
use Rattle.hp_model.specs.Cascade as C
use Rattle.hp_model.specs.Decode as D
use Rattle.hp_rule.specs.Mapped.{library, unit}
use Rattle.hp_rule.specs.Places.{path}
use Rattle.hp_rule.specs.Faults.{limit}
use Rattle.hp_script.specs.Timed.{TimedScript}
use Rattle.hp_script.specs.Versions.{version_view}
use Rattle.hp_script.specs.declared.schedule.Schedule.{Schedule}
use Rattle.hp_script.specs.declared.script.Script.{Script}
use Rattle.hp_script.specs.declared.refusal.Refusal.{Refusal}
use Rattle.hp_script.specs.declared.refusal.Refusal.TheVariants.{S1, S2, S3, S4, S5, S6}
use Rattle.hp_script.specs.declared.refusal.DecodeError.{DecodeError}
use Rattle.hp_script.specs.declared.refusal.DecodeError.TheVariants.{Refused, Memory}

abbrev pub refusal : Refusal → R.Refusal
refusal S1 = R.unreadable
refusal (S2 p) = R.wrong_shape (path p.items)
refusal (S3 p) = R.bad_number (path p.items)
refusal (S4 p) = R.bad_name (path p.items)
refusal (S5 l) = R.over_limit (limit l)
refusal S6 = R.unknown_version

-- the error is this refusal, unless memory ran out
abbrev pub IsRefusal : DecodeError → R.Refusal → Type 0
IsRefusal (Refused r) refused = refusal r ≡ refused
IsRefusal Memory refused = ⊤

abbrev pub Fails : {B : Type 0} → DecodeError → R.Decoded B → Type 0
Fails (Refused r) read = read ≡ Err (refusal r)
Fails Memory read = ⊤

-- the result, with its value seen by f, is what the definition reads, unless memory ran out
abbrev pub Gives : {A B : Type 0} → (A → B) → Result A DecodeError → R.Decoded B → Type 0
Gives f (Ok x) read = read ≡ Ok (f x)
Gives f (Err e) read = Fails e read

abbrev pub schedule : Schedule → D.Schedule
schedule s = record { units = map unit s.units.items; clock = s.clock }

abbrev pub script : Script → C.Script
script s = record { library = library s.library.value; units = map unit s.items.items }

abbrev pub timed_script : Script → TimedScript
timed_script s = record { script = script s; version = version_view s.version; clock = s.clock }

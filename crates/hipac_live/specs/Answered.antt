-- What the program writes, and how it ends.
use Rattle.std.specs.Prelude.{◌≡◌, ◌≢◌, ℕ, List, Option, Result, Ok, IfOk, OnOk}
use Rattle.std.specs.Io.KnownBytes.{Appends}
use Rattle.hp_model.specs.Kinds.{Declared}
use Rattle.hp_model.specs.Report.{Bytes}
use Rattle.hp_report.specs.Device.{Begins}
use Rattle.hp_report.specs.Exits.{code_of}
use Rattle.hp_report.specs.declared.fault.Fault.{Fault}
use Rattle.hp_report.specs.declared.status.Status.{Status}
use Rattle.hp_lines.specs.Live as L
use Rattle.hp_checked.specs.Readings.{KeepsGiven}
use Rattle.hp_live.specs.Ends.{status_of}
use Rattle.hp_words.specs.declared.words.Options.{Options}
use Rattle.hipac_live.specs.Asked.{manner_of}

-- what is said holds of how lines are read and answered: if signatures are given, by some declaration that keeps them
abbrev pub ForManner : Options → (given : Option Declared) → (L.Manner → Type 0) → Type 0
ForManner options given demand = (checks : Option Declared) × KeepsGiven given checks × demand (manner_of options checks)

-- on `Ok` the answers to the script's file and the input were written; in any case a prefix of them
pub record Answers (m : L.Manner) (script : Option Bytes) (input : List ℕ) (result : Result Status Fault) (old new : Option (List ℕ)) : Type 0 where
  pub status : IfOk result (λ status. status ≡ status_of m script input)
  pub output : OnOk result (Appends old new (L.output m script input))
  pub begins : Begins old new (L.output m script input)

-- the same by the exit status of the program
pub record EndsWith (m : L.Manner) (script : Option Bytes) (input : List ℕ) (code : ℕ) (old new : Option (List ℕ)) : Type 0 where
  pub code_is : code ≢ 4 → code ≡ code_of (Ok (status_of m script input))
  pub output : code ≢ 4 → Appends old new (L.output m script input)
  pub begins : Begins old new (L.output m script input)

-- What the program keeps of a rule base, and what that stands for.
use Rattle.std.specs.Borrow.{Bor}
use Rattle.std.specs.Prelude.{◌≡◌, ◌≢◌, ◌≤◌, ⊤, ℕ, List, ◌++◌, length, Option, string_bytes}
use Rattle.std.specs.Option.{option_map}
use Rattle.std.specs.declared.vec.Vec.{Vec}
use Rattle.std.specs.declared.string.String.{String}
use Rattle.std.specs.declared.alloc.Global.{Global}
use Rattle.std.specs.Io.KnownBytes.{Appends, Consumes}
use Rattle.hp_model.specs.State.{IsOrdered}
use Rattle.hp_model.specs.Cells.{cells}
use Rattle.hp_model.specs.Kinds as K
use Rattle.hp_model.specs.Report.{Bytes}
use Rattle.hp_rule.specs.Mapped.{library}
use Rattle.hp_script.specs.Versions.{version_view}
use Rattle.hp_store.specs.Stack.{cells_in}
use Rattle.hp_report.specs.Device.{Begins}
use Rattle.hp_analysis.specs.Declarations.{declared}
use Rattle.hp_analysis.specs.declared.kinds.declaration.Declaration.{Declaration}
use Rattle.hp_lines.specs.Live as L
use Rattle.hp_live.specs.declared.base.RuleBase.{RuleBase}
use Rattle.hp_live.specs.declared.options.Options.{Options}
use Rattle.hp_live.specs.declared.server.Stage.{Stage}
use Rattle.hp_live.specs.declared.server.Stage.TheVariants.{Unopened, Up, Closed}
use Rattle.hp_live.specs.declared.server.Server.{Server}

-- a rule base with the same version, library, clock and number of units, whose state has the cells of the store
pub record StandsFor (kept : RuleBase) (base : L.RuleBase) : Type 0 where
  pub version_is : base.version ≡ version_view kept.version
  pub library_is : base.library ≡ library kept.library.value
  pub ordered : IsOrdered base.library base.state
  pub cells_are : cells base.library base.state ≡ cells_in kept.store
  pub clock_is : kept.clock ≡ base.clock
  pub units_are : kept.units ≡ base.units

abbrev pub IsStage : Stage → L.Stage → Type 0
IsStage Unopened L.unopened = ⊤
IsStage (Up kept) (L.up base) = StandsFor kept base
IsStage Closed L.closed = ⊤
IsStage s t = ⊥

-- how lines are read and answered by a user's options, and by what is declared of signals, if the rule base is checked
abbrev pub manner : Options → Option K.Declared → L.Manner
manner options checks = record { is_text = options.text; with_tree = options.tree; checks = checks }

abbrev pub declared_of : Option Declaration → Option K.Declared
declared_of = option_map declared

-- the same of a borrowed one
abbrev pub declared_by : Option (Bor Declaration) → Option K.Declared
declared_by = option_map (λ d. declared d.now)

pub record IsServer (kept : Server) (s : L.Server) : Type 0 where
  pub manner_is : manner kept.options (declared_of kept.checks) ≡ s.manner
  pub stage_is : IsStage kept.stage s.stage
  pub line_is : kept.line.items ≡ s.line

-- the bytes of a script's file, if there is one
abbrev pub bytes_of : Option (Vec ℕ Global) → Option Bytes
bytes_of = option_map (λ script. script.items)

-- the text is the answer, and the kept stage stands for the next one
pub record Answers (text : String Global) (kept : Stage) (a : L.Answer) : Type 0 where
  pub text_is : string_bytes text ≡ a.body ++ a.last
  pub stage_is : IsStage kept a.stage

-- the answers to all that was read were written, and the script wasn't refused
abbrev pub AllAnswered : (left rest : Option (List ℕ)) → (old new : Option (List ℕ)) → L.Server → Type 0
AllAnswered left rest old new s = (bytes : List ℕ) × Consumes left rest bytes × Appends old new (L.piece_output s bytes) × ((L.after s bytes).stage ≢ L.closed)

-- the answers to the first lines of a piece were written, and no other byte
pub record FirstAnswers (old new : Option (List ℕ)) (s : L.Server) (piece : List ℕ) : Type 0 where
  pub fed : List ℕ
  pub unfed : List ℕ
  pub parts : piece ≡ fed ++ unfed
  pub out : Appends old new (L.piece_output s fed)

-- the bytes that were read: those of whose lines all answers were written, and then one piece of at most 4096 bytes
pub record ReadSoFar (left rest : Option (List ℕ)) (old between : Option (List ℕ)) (s : L.Server) : Type 0 where
  pub before : List ℕ
  pub piece : List ℕ
  pub taken : Consumes left rest (before ++ piece)
  pub short : length piece ≤ 4096
  pub out : Appends old between (L.piece_output s before)

-- the answers to all lines that were complete before the last piece were written, and those to some of its lines
pub record WholeAnswers (left rest : Option (List ℕ)) (old new : Option (List ℕ)) (s : L.Server) : Type 0 where
  pub between : Option (List ℕ)
  pub so_far : ReadSoFar left rest old between s
  pub more : FirstAnswers between new (L.after s so_far.before) so_far.piece

-- the answers to all lines that were complete before the last piece were written, and a beginning of the others
pub record AnswersBegun (left rest : Option (List ℕ)) (old new : Option (List ℕ)) (s : L.Server) : Type 0 where
  pub between : Option (List ℕ)
  pub so_far : ReadSoFar left rest old between s
  pub more : Begins between new (L.piece_output (L.after s so_far.before) so_far.piece ++ L.end_output (L.after (L.after s so_far.before) so_far.piece))

-- bytes were read only as long as the script wasn't refused: they are some that leave it so, and one piece more
pub record StopsAtRefusal (left rest : Option (List ℕ)) (s : L.Server) : Type 0 where
  pub before : List ℕ
  pub piece : List ℕ
  pub taken : Consumes left rest (before ++ piece)
  pub short : length piece ≤ 4096
  pub unrefused : (L.after s before).stage ≢ L.closed

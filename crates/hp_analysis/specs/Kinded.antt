-- What the types of `kinds` stand for in the definitions, and the results of its checks.
use Rattle.std.specs.Prelude.{◌≡◌, ⊤, List, map, ◌++◌, Result, Ok, Err}
use Rattle.std.specs.Global.{Vec}
use Rattle.hp_model.specs.Kinds as K
use Rattle.hp_value.specs.Mapped.{kind}
use Rattle.hp_rule.specs.Places.{path}
use Rattle.hp_analysis.specs.Findings as F
use Rattle.hp_analysis.specs.Findings.{Judged, Reasoned, Reading, read_new, read_old, read_key, read_argument, read_time}
use Rattle.hp_analysis.specs.declared.kinds.sort.Sort.{Sort}
use Rattle.hp_analysis.specs.declared.kinds.sort.Sort.TheVariants.{Only, Any}
use Rattle.hp_analysis.specs.declared.kinds.finding.Wanted.{Wanted}
use Rattle.hp_analysis.specs.declared.kinds.finding.Wanted.TheVariants as wants
use Rattle.hp_analysis.specs.declared.kinds.finding.Reason.{Reason}
use Rattle.hp_analysis.specs.declared.kinds.finding.Reason.TheVariants as reasons
use Rattle.hp_analysis.specs.declared.kinds.finding.Finding.{Finding}
use Rattle.hp_analysis.specs.declared.kinds.finding.KindError.{KindError}
use Rattle.hp_analysis.specs.declared.kinds.finding.KindError.TheVariants.{Found, Memory}

abbrev pub sort : Sort → K.Sort
sort (Only k) = K.only (kind k)
sort Any = K.any

abbrev pub wanted : Wanted → F.Wanted
wanted (wants.Kind k) = F.of_kind (kind k)
wanted wants.KnownKind = F.of_known_kind
wanted wants.OrderedKind = F.of_ordered_kind

abbrev pub reason : Reason → F.Reason
reason (reasons.Unsuited w s) = F.unsuited (wanted w) (sort s)
reason reasons.NoOccurrence = F.no_occurrence
reason reasons.NoSuchPart = F.no_such_part
reason reasons.OtherForm = F.other_form
reason reasons.NoSuchField = F.no_such_field
reason reasons.NoSuchArgument = F.no_such_argument
reason reasons.TooFewArguments = F.too_few_arguments
reason reasons.UnsetField = F.unset_field
reason reasons.UnknownName = F.unknown_name
reason reasons.NotFired = F.not_fired

abbrev pub finding : Finding → F.Finding
finding f = record { path = path f.path.items; reason = reason f.reason }

-- a result, with its value mapped by f
abbrev pub explained : {X Y : Type 0} → (X → Y) → Result X Reason → Reasoned Y
explained f (Ok x) = Ok (f x)
explained f (Err r) = Err (reason r)

-- the error is this finding, unless memory ran out
abbrev pub IsFinding : KindError → F.Finding → Type 0
IsFinding Memory f = ⊤
IsFinding (Found g) f = finding g ≡ f

abbrev pub Fails : {Y : Type 0} → KindError → Judged Y → Type 0
Fails Memory check = ⊤
Fails (Found f) check = check ≡ Err (finding f)

-- the result, with its value mapped by f, is the check's, unless memory ran out
abbrev pub Gives : {X Y : Type 0} → (X → Y) → Result X KindError → Judged Y → Type 0
Gives f (Ok x) check = check ≡ Ok (f x)
Gives f (Err e) check = Fails e check

-- it passes exactly if the check does, and otherwise has the check's finding
abbrev pub Passes : Result ⊤ KindError → Judged ⊤ → Type 0
Passes done check = Gives (λ u. u) done check

abbrev pub findings : List Finding → List F.Finding
findings = map finding

-- these were added to the findings
abbrev pub Notes : Vec Finding → Vec Finding → List F.Finding → Type 0
Notes old new fs = findings new.items ≡ findings old.items ++ fs

-- What the crate's types stand for in the model.
use Rattle.std.specs.Prelude.{Bool, true, false, List, [], ◌∷◌, Some, None, map, string_bytes}
use Rattle.std.specs.Global.{Vec}
use Rattle.hp_model.specs.Values as V
use Rattle.hp_model.specs.Rules as R
use Rattle.hp_model.specs.Conditions as C
use Rattle.hp_model.specs.ClassParts as P
use Rattle.hp_value.specs.declared.row.KeyedRow.{KeyedRow}
use Rattle.hp_value.specs.Mapped.{attribute, comparison, value, keyed_row, expression, cause, answer, answers, named_value, named_values}
use Rattle.hp_query.specs.declared.query.Query.{Query}
use Rattle.hp_query.specs.Parts.{AttributeTest, part_compared}
use Rattle.hp_query.specs.declared.part.Compared.{Compared}
use Rattle.hp_query.specs.declared.part.AskedPart.{AskedPart}
use Rattle.hp_query.specs.declared.candidates.Candidates.{Candidates}
use Rattle.hp_query.specs.declared.candidates.Candidates.TheVariants as K
use Rattle.hp_query.specs.declared.aggregate.Aggregate.{Aggregate}
use Rattle.hp_query.specs.declared.aggregate.Aggregate.TheVariants as A
use Rattle.hp_query.specs.declared.terms.Merge.{Merge}
use Rattle.hp_query.specs.declared.terms.Merge.TheVariants.{Sum, Preferred}
use Rattle.hp_query.specs.declared.entry.Entry.{Entry}
use Rattle.hp_query.specs.declared.entry.Entry.TheVariants as E
use Rattle.hp_query.specs.declared.entry.Findings.{Findings}
use Rattle.hp_query.specs.declared.entry.Finding.{Finding}
use Rattle.hp_query.specs.declared.entry.Finding.TheVariants as F
use Rattle.hp_query.specs.declared.condition.Verdict.{Verdict}
use Rattle.hp_query.specs.declared.condition.Verdict.TheVariants.{Satisfied, Unsatisfied, Faulty}

abbrev pub query : Query → R.Query
query q = record { name = string_bytes q.name; class = q.class; predicate = expression q.predicate.value }

abbrev pub aggregate : Aggregate → R.Aggregate
aggregate (A.Count q) = R.count_over (string_bytes q.name) q.class (expression q.predicate.value)
aggregate (A.Sum q e) = R.sum_over (string_bytes q.name) q.class (expression q.predicate.value) (expression e.value)
aggregate (A.Least q e) = R.least_over (string_bytes q.name) q.class (expression q.predicate.value) (expression e.value)
aggregate (A.Greatest q e) = R.greatest_over (string_bytes q.name) q.class (expression q.predicate.value) (expression e.value)
aggregate (A.Next class) = R.next_key class
aggregate (A.Single e) = R.single (expression e.value)

abbrev pub entry : Entry → R.Entry
entry (E.Query q) = R.query_entry (query q)
entry (E.No q) = R.no_entry (query q)
entry (E.Let x a) = R.let_entry (string_bytes x) (aggregate a)

abbrev pub keyed_rows : Vec KeyedRow → List V.KeyedRow
keyed_rows rows = map keyed_row rows.items

abbrev pub attribute_test : Compared → AttributeTest
attribute_test c = record { attribute = attribute c.attribute; comparison = comparison c.comparison; other = expression c.other.now }

abbrev pub asked_part : AskedPart → P.ClassPart
asked_part a = part_compared (attribute a.attribute) (comparison a.comparison) (value a.value)

abbrev pub candidate_rows : Candidates → List V.KeyedRow
candidate_rows (K.One None) = []
candidate_rows (K.One (Some r)) = keyed_row r ∷ []
candidate_rows (K.Part rows) = keyed_rows rows
candidate_rows (K.Selected rows) = keyed_rows rows
candidate_rows (K.All objects) = objects.value

-- whether the predicate is known to be true of all candidates
abbrev pub are_selected : Candidates → Bool
are_selected (K.One found) = false
are_selected (K.Part rows) = false
are_selected (K.Selected rows) = true
are_selected (K.All objects) = false

abbrev pub merge : Merge → C.Merge
merge Sum = C.added
merge (Preferred op) = C.preferred (comparison op)

abbrev pub findings : Findings → C.Findings
findings f = record { answers = answers f.answers.items; values = named_values f.values.items }

abbrev pub finding : Finding → C.Findings
finding (F.Answer a) = record { answers = answer a ∷ []; values = [] }
finding F.Nothing = C.no_findings
finding (F.Value v) = record { answers = []; values = named_value v ∷ [] }

abbrev pub verdict : Verdict → C.Verdict
verdict (Satisfied found) = C.satisfied (findings found)
verdict Unsatisfied = C.unsatisfied
verdict (Faulty c) = C.faulty (cause c)

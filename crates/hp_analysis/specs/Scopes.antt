-- What scopes stand for in the definitions; the checks of what stands in a scope.
use Rattle.std.specs.Prelude.{ℕ, List, [], ◌∷◌, map, option_map, Option, None, Some, string_bytes}
use Rattle.hp_model.specs.Values.{Name, Kind}
use Rattle.hp_model.specs.Rules as R
use Rattle.hp_model.specs.Expressions as E
use Rattle.hp_model.specs.Kinds as K
use Rattle.hp_model.specs.Kinds.{query_classes}
use Rattle.hp_model.specs.Refusals.{Path}
use Rattle.hp_query.specs.Mapped.{entry}
use Rattle.hp_rule.specs.Libraries as libraries
use Rattle.hp_analysis.specs.Kinded.{sort}
use Rattle.hp_analysis.specs.Places.{columns}
use Rattle.hp_analysis.specs.Declarations as declarations
use Rattle.hp_analysis.specs.Findings as F
use Rattle.hp_analysis.specs.Findings.{Judged}
use Rattle.hp_analysis.specs.declared.kinds.rows.Rows.{Rows, fold-Rows}
use Rattle.hp_analysis.specs.declared.kinds.rows.Rows.TheOpen.{Rows-F}
use Rattle.hp_analysis.specs.declared.kinds.sorts.NamedSort.{NamedSort}
use Rattle.hp_analysis.specs.declared.kinds.sorts.Sorts.{Sorts, fold-Sorts}
use Rattle.hp_analysis.specs.declared.kinds.sorts.Sorts.TheOpen.{Sorts-F}
use Rattle.hp_analysis.specs.declared.kinds.scope.Scope.{Scope}

-- the classes of the first rows of the queries' answers, by name, in front of others
abbrev pub rows_after : List (Name × ℕ) → List R.Entry → List (Name × ℕ)
rows_after rows [] = rows
rows_after rows (R.query_entry q ∷ es) = rows_after ((q.name, q.class) ∷ rows) es
rows_after rows (R.no_entry q ∷ es) = rows_after rows es
rows_after rows (R.let_entry x a ∷ es) = rows_after rows es

abbrev pub rows_step : Rows-F (List (Name × ℕ)) → List (Name × ℕ)
rows_step (Rows-F.Entries es) = rows_after [] (map entry es.now)
rows_step (Rows-F.Bound newest class outer) = (newest.now, class) ∷ outer.now

-- the classes by name, the innermost first
abbrev pub rows_in : Rows → List (Name × ℕ)
rows_in = fold-Rows (List (Name × ℕ)) rows_step

abbrev pub named_sort : NamedSort → Name × K.Sort
named_sort n = (string_bytes n.name, sort n.sort)

-- sorts by name, in front of others
abbrev pub sorts_after : List (Name × K.Sort) → List (Name × K.Sort) → List (Name × K.Sort)
sorts_after sorts [] = sorts
sorts_after sorts (n ∷ ns) = sorts_after (n ∷ sorts) ns

abbrev pub sorts_step : Sorts-F (List (Name × K.Sort)) → List (Name × K.Sort)
sorts_step (Sorts-F.Found ns) = sorts_after [] (map named_sort ns.now)
sorts_step (Sorts-F.Bound newest s outer) = (newest.now, sort s) ∷ outer.now

-- the sorts by name, the innermost first
abbrev pub sorts_in : Sorts → List (Name × K.Sort)
sorts_in = fold-Sorts (List (Name × K.Sort)) sorts_step

abbrev pub scope_in : Scope → K.Scope
scope_in s = record { columns = option_map (λ c. columns c.now) s.columns; rows = rows_in s.rows; values = sorts_in s.values }

-- where a rule's condition has come to, after these entries with these sorts of values
abbrev pub scope_there : K.Columns → List R.Entry → List NamedSort → K.Scope
scope_there c es ns = record { columns = Some c; rows = rows_after [] es; values = sorts_after [] (map named_sort ns) }

-- the scope after an entry, with the sort of its value if it has one
abbrev pub row_after : List (Name × ℕ) → R.Entry → List (Name × ℕ)
row_after rows (R.query_entry q) = (q.name, q.class) ∷ rows
row_after rows (R.no_entry q) = rows
row_after rows (R.let_entry x a) = rows

abbrev pub sort_after : List (Name × K.Sort) → Option NamedSort → List (Name × K.Sort)
sort_after sorts None = sorts
sort_after sorts (Some n) = named_sort n ∷ sorts

abbrev pub scope_after_entry : K.Scope → R.Entry → Option NamedSort → K.Scope
scope_after_entry s e n = record { columns = s.columns; rows = row_after s.rows e; values = sort_after s.values n }

abbrev pub library : Scope → R.Library
library s = libraries.library s.library.now

abbrev pub declared : Scope → K.Declared
declared s = declarations.declared s.declared.now

abbrev pub queries : Scope → List (Name × ℕ)
queries s = query_classes (map entry s.condition.now)

-- ---- checks in a scope

abbrev pub sort_there : Scope → Path → E.Expression → Judged K.Sort
sort_there s path e = F.expression_check (library s) (declared s) (scope_in s) path e

abbrev pub kind_there : Scope → Kind → Path → E.Expression → Judged (Unit {0})
kind_there s k path e = F.kind_check (library s) (declared s) (scope_in s) k path e

abbrev pub single_there : Scope → Path → R.Statement → Judged (Unit {0})
single_there s path statement = F.single_check (library s) (declared s) (scope_in s) (queries s) path statement

abbrev pub own_there : Scope → Path → R.Statement → List F.Finding
own_there s path statement = F.own_findings (library s) (declared s) (scope_in s) (queries s) path statement

abbrev pub inner_there : Scope → Path → R.Statement → List F.Finding
inner_there s path statement = F.inner_findings (library s) (declared s) (scope_in s) (queries s) path statement

abbrev pub body_there : Scope → Path → R.Body → List F.Finding
body_there s path body = F.body_findings (library s) (declared s) (scope_in s) (queries s) path 0 body

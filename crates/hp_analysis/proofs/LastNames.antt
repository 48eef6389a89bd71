-- The names of a condition in a scope.
use Rattle.std.proofs.Common.{arith, ◌≡◌, refl, sym, ap, ap₂, ◌∙◌, ℕ, zero, suc, ◌+◌, List, [], ◌∷◌, ◌++◌, take, drop, map, Option, Some, None, append_assoc, bytes_eq, if◌then◌else◌}
use Rattle.std.proofs.lemmas.List.{map-append}
use Rattle.std.specs.Map.{lookup}
use Rattle.hp_model.specs.Values.{Name}
use Rattle.hp_query.specs.Mapped.{entry}
use Rattle.hp_query.specs.declared.entry.Entry.{Entry as AnEntry}
use Rattle.hp_model.specs.Rules.{Entry, query_entry, no_entry, let_entry, Library}
use Rattle.hp_model.specs.Refusals.{Path, item_at}
use Rattle.hp_model.specs.Kinds.{Sort, Declared, Columns, Scope, with_entries}
use Rattle.hp_analysis.specs.Findings.{Finding, entry_findings, scope_then, entries_findings}
use Rattle.hp_analysis.specs.Scopes.{rows_after, sorts_after, row_after, named_sort, scope_there, scope_after_entry}
use Rattle.hp_analysis.specs.declared.kinds.sorts.NamedSort.{NamedSort}

-- the class of the last query of the name, or what was found before
abbrev pub last_from : Option ℕ → Name → List Entry → Option ℕ
last_from class x [] = class
last_from class x (query_entry q ∷ es) = last_from (if bytes_eq x q.name then Some q.class else class) x es
last_from class x (no_entry q ∷ es) = last_from class x es
last_from class x (let_entry y a ∷ es) = last_from class x es

pub last_is : (x : Name) (rows : List (Name × ℕ)) (es : List Entry) → last_from (lookup (bytes_eq x) rows) x es ≡ lookup (bytes_eq x) (rows_after rows es)
last_is x rows [] = refl
last_is x rows (query_entry q ∷ es) = last_is x ((q.name, q.class) ∷ rows) es
last_is x rows (no_entry q ∷ es) = last_is x rows es
last_is x rows (let_entry y a ∷ es) = last_is x rows es

-- the sort of the last value of the name, or what was found before
abbrev pub last_sort_from : Option Sort → Name → List (Name × Sort) → Option Sort
last_sort_from s x [] = s
last_sort_from s x (n ∷ ns) = last_sort_from (if bytes_eq x n.0 then Some n.1 else s) x ns

pub last_sort_is : (x : Name) (sorts ns : List (Name × Sort)) → last_sort_from (lookup (bytes_eq x) sorts) x ns ≡ lookup (bytes_eq x) (sorts_after sorts ns)
last_sort_is x sorts [] = refl
last_sort_is x sorts (n ∷ ns) = last_sort_is x (n ∷ sorts) ns

-- one more entry, and one more value
pub rows_push : (rows : List (Name × ℕ)) (es : List Entry) (e : Entry) → rows_after rows (es ++ e ∷ []) ≡ row_after (rows_after rows es) e
rows_push rows [] (query_entry q) = refl
rows_push rows [] (no_entry q) = refl
rows_push rows [] (let_entry x a) = refl
rows_push rows (query_entry q ∷ es) e = rows_push ((q.name, q.class) ∷ rows) es e
rows_push rows (no_entry q ∷ es) e = rows_push rows es e
rows_push rows (let_entry x a ∷ es) e = rows_push rows es e

pub sorts_push : (sorts ns : List (Name × Sort)) (n : Name × Sort) → sorts_after sorts (ns ++ n ∷ []) ≡ n ∷ sorts_after sorts ns
sorts_push sorts [] n = refl
sorts_push sorts (m ∷ ns) n = sorts_push (m ∷ sorts) ns n

pub scope_push : (c : Columns) (es : List Entry) (ns : List NamedSort) (e : Entry) (n : NamedSort) → scope_after_entry (scope_there c es ns) e (Some n) ≡ scope_there c (es ++ e ∷ []) (ns ++ n ∷ [])
scope_push c es ns e n =
    let make : List (Name × ℕ) → List (Name × Sort) → Scope = λ rows values. record { columns = Some c; rows = rows; values = values } in
    sym (ap₂ make (rows_push [] es e) (ap (sorts_after []) (map-append named_sort ns (n ∷ [])) ∙ sorts_push [] (map named_sort ns) (named_sort n)))

pub scope_keep : (c : Columns) (es : List Entry) (ns : List NamedSort) (e : Entry) → scope_after_entry (scope_there c es ns) e None ≡ scope_there c (es ++ e ∷ []) ns
scope_keep c es ns e =
    let make : List (Name × ℕ) → Scope = λ rows. record { columns = Some c; rows = rows; values = sorts_after [] (map named_sort ns) } in
    sym (ap make (rows_push [] es e))

-- the values after one more entry
abbrev pub kept : Option NamedSort → List NamedSort → List NamedSort
kept None ns = ns
kept (Some n) ns = ns ++ n ∷ []

scope_next : (c : Columns) (es : List Entry) (ns : List NamedSort) (e : Entry) (n : Option NamedSort) → scope_after_entry (scope_there c es ns) e n ≡ scope_there c (es ++ e ∷ []) (kept n ns)
scope_next c es ns e None = scope_keep c es ns e
scope_next c es ns e (Some n) = scope_push c es ns e n

take_next : {A : Type 0} (i : ℕ) (xs : List A) (x : A) (rest : List A) → drop i xs ≡ x ∷ rest → take (i + 1) xs ≡ take i xs ++ x ∷ []
take_next zero xs x rest h = ap (take 1) h
take_next (suc i) [] x rest h = cc
take_next (suc i) (y ∷ xs) x rest h = let e : suc i + 1 ≡ suc (i + 1) = omega arith in ap (λ n. take n (y ∷ xs)) e ∙ ap (λ l. y ∷ l) (take_next i xs x rest h)

-- the scope after one more entry, whose value has this sort
pub scope_step : (library : Library) (d : Declared) (c : Columns) (es : List AnEntry) (i : ℕ) (e : AnEntry) (ns ns' : List NamedSort) (n : Option NamedSort)
    → drop i es ≡ e ∷ drop (i + 1) es → ns' ≡ kept n ns
    → scope_after_entry (scope_there c (map entry (take i es)) ns) (entry e) n ≡ scope_then library d (scope_there c (map entry (take i es)) ns) (entry e)
    → scope_there c (map entry (take (i + 1) es)) ns' ≡ scope_then library d (scope_there c (map entry (take i es)) ns) (entry e)
scope_step library d c es i e ns ns' n split is given =
    let taken : map entry (take (i + 1) es) ≡ map entry (take i es) ++ entry e ∷ [] = ap (map entry) (take_next i es e (drop (i + 1) es) split) ∙ map-append entry (take i es) (e ∷ []) in
    ap₂ (scope_there c) taken is ∙ sym (scope_next c (map entry (take i es)) ns (entry e) n) ∙ given

-- what is found in one more entry, and in those after it
pub entries_noted : (library : Library) (d : Declared) (path : Path) (there inner : Scope) (i : ℕ) (e : Entry) (before rest : List Entry) (old new whole : List Finding)
    → before ≡ e ∷ rest → inner ≡ scope_then library d there e
    → new ≡ old ++ entry_findings library d there (item_at path i) e → old ++ entries_findings library d path there i before ≡ whole
    → new ++ entries_findings library d path inner (i + 1) rest ≡ whole
entries_noted library d path there inner i e before rest old new whole split same gained kept =
    let next : i + 1 ≡ suc i = omega arith in
    let one = entry_findings library d there (item_at path i) e in
    ap (λ k. new ++ entries_findings library d path inner k rest) next
    ∙ ap₂ (λ fs s. fs ++ entries_findings library d path s (suc i) rest) gained same
    ∙ append_assoc old one (entries_findings library d path (scope_then library d there e) (suc i) rest)
    ∙ ap (λ es. old ++ entries_findings library d path there i es) (sym split) ∙ kept

entries_then : (library : Library) (d : Declared) (scope : Scope) (e : Entry) (es : List Entry) → with_entries library d (scope_then library d scope e) es ≡ with_entries library d scope (e ∷ es)
entries_then library d scope (query_entry q) es = refl
entries_then library d scope (no_entry q) es = refl
entries_then library d scope (let_entry x a) es = refl

-- the scope after one more entry and those after it
pub scope_noted : (library : Library) (d : Declared) (there inner whole : Scope) (e : Entry) (before rest : List Entry) → before ≡ e ∷ rest
    → inner ≡ scope_then library d there e → with_entries library d there before ≡ whole → with_entries library d inner rest ≡ whole
scope_noted library d there inner whole e before rest split same kept =
    ap (λ s. with_entries library d s rest) same ∙ entries_then library d there e rest ∙ ap (with_entries library d there) (sym split) ∙ kept

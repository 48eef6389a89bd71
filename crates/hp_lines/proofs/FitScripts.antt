-- The scripts and the lines that are read from JSON fit.
use Rattle.std.proofs.Common.{arith, ◌≡◌, refl, subst, ℕ, zero, suc, ◌+◌, ◌-◌, ◌^◌, ◌≤◌, ◌<◌, pos, List, [], ◌∷◌, length, map, Option, None, Some, Bool, true, false, IsTrue}
use Rattle.std.proofs.Common.{Err}
use Rattle.std.proofs.lemmas.Bool.{and_from}
use Rattle.std.proofs.lemmas.Bool.Decides.{nat_tests}
use Rattle.std.proofs.lemmas.List.{length-map}
use Rattle.std.specs.Prelude.{⊤, nat_lt, filter, codes, cond, option_and_then, if◌then◌else◌}
use Rattle.std.specs.List.{AllByRecursion, list_all, range_with_len}
use Rattle.serde_json.specs.Data.{Data}
use Rattle.hp_model.specs.Values.{Name, fits_64, ◌>>=◌}
use Rattle.hp_model.specs.Rules.{Query, Entry, Library}
use Rattle.hp_model.specs.Cascade.{Unit, transaction, moment}
use Rattle.hp_model.specs.Refusals.{Refusal, rules_limit, Path, item_at, under_root, Decoded}
use Rattle.hp_model.specs.Json.{json_of, list_of}
use Rattle.hp_model.specs.Parts.{new_name_at, place_at}
use Rattle.hp_model.specs.Scopes as S
use Rattle.hp_model.specs.Scopes.{class_names, is_fourth, new_row_at}
use Rattle.hp_model.specs.EventGrammar.{event_at}
use Rattle.hp_model.specs.StatementGrammar.{body_of}
use Rattle.hp_model.specs.RuleHeads.{RuleParts, RuleHead, rule_names, parts_in, rule_parts_of, rule_head_at, rule_heads_at}
use Rattle.hp_model.specs.Decode as D
use Rattle.hp_model.specs.Decode.{Version, first_version, second_version, fourth_version, Schedule, EntryForm, entry_form, entry_form_of, query_form_of, three_in, triple_of, is_word, entry_from}
use Rattle.hp_model.specs.Decode.{let_entry_at, entry_at, condition_at, coupling_at, closed_at, acting, rule_at, rules_at}
use Rattle.hp_model.specs.Decode.{script_scope, due_moments, few_moments, names_moment, no_item, ItemForm, item_form, item_form_at}
use Rattle.hp_model.specs.Decode.{transaction_at, clock_at, item_from, unit_at, units_from, units_at, Root, root_of, version_at, readable, json_at}
use Rattle.hp_model.specs.Ranges.{entry_fits, body_fits, rule_fits, unit_fits, IsFitLibrary}
use Rattle.hp_model.specs.Report.{Bytes}
use Rattle.hp_model.proofs.WellFormedParts.{Reads, Reads-value, Reads-none, Reads-any, Reads-more, Reads-both, Reads-then, Reads-unless, Reads-shaped}
use Rattle.hp_model.proofs.WellFormedScripts.{depth_reads, classes_reads, heads_reads, rules_read, library_passes}
use Rattle.hp_rule.proofs.WellNamedLemmas.{library_fields_differ}
use Rattle.hp_script.specs.Scopes.{library_scope}
use Rattle.hp_script.specs.Timed.{TimedScript, library_at, timed_script_at, timed_script_of}
use Rattle.hp_script.specs.Requests.{Request, item, show, ShowForm, show_form_in, excerpt_from, show_of, nothing_since, item_of, request_from, request_at, request_of}
use Rattle.hp_lines.proofs.FitData.{DataFits, AllFit, mapped, chained, json_fits, list_fits, root_fits}
use Rattle.hp_lines.proofs.FitReadings.{list_reads, short_reads, each_reads, list_true, all_append, time_reads, beside_fits, either_fits, some_fits, formed, Fits, ExpressionFits, whole_reads}
use Rattle.hp_lines.proofs.FitStatements.{aggregate_reads, BodyFits, statements_reads}

-- ---- conditions

abbrev EntryFormFits : EntryForm → Type 0
EntryFormFits (D.query_form name class predicate) = DataFits predicate
EntryFormFits (D.no_form name class predicate) = DataFits predicate
EntryFormFits (D.let_form name aggregate) = DataFits aggregate

entry_forms : (ds : List Data) (x : EntryForm) → AllFit ds → entry_form ds ≡ Some x → EntryFormFits x
entry_forms [] x h e = cc
entry_forms (a ∷ []) x h e = cc
entry_forms (a ∷ b ∷ []) x h e = cc
entry_forms (a ∷ b ∷ c ∷ []) x h e =
    either_fits EntryFormFits (is_word (codes "no") a) None (if is_word (codes "let") a then Some (D.let_form b c) else Some (D.query_form a b c)) x (λ y is. cc)
    (λ y is. either_fits EntryFormFits (is_word (codes "let") a) (Some (D.let_form b c)) (Some (D.query_form a b c)) y
    (λ z at. some_fits EntryFormFits (D.let_form b c) z at h.1.1.0) (λ z at. some_fits EntryFormFits (D.query_form a b c) z at h.1.1.0) is) e
entry_forms (a ∷ b ∷ c ∷ d ∷ []) x h e =
    either_fits EntryFormFits (is_word (codes "no") a) (Some (D.no_form b c d)) None x (λ y is. some_fits EntryFormFits (D.no_form b c d) y is h.1.1.1.0) (λ y is. cc) e
entry_forms (a ∷ b ∷ c ∷ d ∷ g ∷ ds) x h e = cc

three_fit : (ds : List Data) (p : Data × Data × Data) → AllFit ds → three_in ds ≡ Some p → DataFits p.2
three_fit [] p h e = cc
three_fit (a ∷ []) p h e = cc
three_fit (a ∷ b ∷ []) p h e = cc
three_fit (a ∷ b ∷ c ∷ []) p h e = let same : (a, b, c) ≡ p = cc in subst (λ (q : Data × Data × Data). DataFits q.2) same h.1.1.0
three_fit (a ∷ b ∷ c ∷ d ∷ ds) p h e = cc

query_forms : (d : Data) (x : EntryForm) → DataFits d → query_form_of d ≡ Some x → EntryFormFits x
query_forms d x h e =
    let m = mapped (λ (p : Data × Data × Data). D.query_form p.0 p.1 p.2) (triple_of d) x e in
    let c = chained three_in (list_of d) m.0 m.1 in
    subst EntryFormFits m.2 (three_fit c.0 m.0 (list_fits d c.0 h c.1) c.2)

forms_of : (version : Version) (d : Data) (x : EntryForm) → DataFits d → entry_form_of version d ≡ Some x → EntryFormFits x
forms_of version d x h e =
    either_fits EntryFormFits (is_fourth version) (option_and_then entry_form (list_of d)) (query_form_of d) x
    (λ y is. let c = chained entry_form (list_of d) y is in entry_forms c.0 y (list_fits d c.0 h c.1) c.2) (λ y is. query_forms d y h is) e

query_reads : (classes : List Name) (setting : S.Setting) (first second third : Path) (name class predicate : Data) → DataFits predicate
    → Reads (λ (q : Query). ExpressionFits q.predicate) (D.query_at classes setting first second third name class predicate)
unfolding D.query_at
query_reads classes setting first second third name class predicate h =
    Reads-then (Reads-any (new_row_at setting.names first name)) λ x _. Reads-then (Reads-any (place_at classes second class)) λ n _.
    Reads-then (whole_reads (S.row_setting x setting) third predicate h) λ e fit. Reads-value _ fit

abbrev EntryFits : Entry → Type 0
EntryFits e = IsTrue (entry_fits e)

let_reads : (classes : List Name) (setting : S.Setting) (path : Path) (name aggregate : Data) → DataFits aggregate → Reads EntryFits (let_entry_at classes setting path name aggregate)
unfolding let_entry_at
let_reads classes setting path name aggregate h =
    Reads-then (Reads-any (new_row_at setting.names (item_at path 1) name)) λ x _. Reads-then (aggregate_reads classes setting (item_at path 2) aggregate h) λ a fit. Reads-value _ fit

entry_from_reads : (classes : List Name) (setting : S.Setting) (path : Path) (form : EntryForm) → EntryFormFits form → Reads EntryFits (entry_from classes setting path form)
entry_from_reads classes setting path (D.query_form name class predicate) h =
    Reads-then (query_reads classes setting (item_at path 0) (item_at path 1) (item_at path 2) name class predicate h) λ q fit. Reads-value _ fit
entry_from_reads classes setting path (D.no_form name class predicate) h =
    Reads-then (query_reads classes setting (item_at path 1) (item_at path 2) (item_at path 3) name class predicate h) λ q fit. Reads-value _ fit
entry_from_reads classes setting path (D.let_form name aggregate) h = let_reads classes setting path name aggregate h

entry_reads : (version : Version) (classes : List Name) (before : List Entry) → Fits EntryFits (entry_at version classes before)
unfolding entry_at
entry_reads version classes before path d h =
    Reads-then (Reads-more (λ x is. forms_of version d x h is) (Reads-shaped path (entry_form_of version d))) λ form fit.
    entry_from_reads classes (record { version = version; names = S.names_of before }) path form fit

condition_reads : (version : Version) (classes : List Name) → Fits (λ es. IsTrue (list_all entry_fits es)) (condition_at version classes)
unfolding condition_at
condition_reads version classes path d h =
    Reads-then (list_reads path d h) λ ds fit.
    Reads-more (λ es all. list_true entry_fits es all) (each_reads EntryFits DataFits (entry_at version classes) (λ before q x fits. entry_reads version classes before q x fits) path ds fit)

-- ---- rules

abbrev PartsFit : RuleParts → Type 0
PartsFit parts = DataFits parts.condition × DataFits parts.action

parts_fit : (version : Version) (ds : List Data) (p : RuleParts) → AllFit ds → parts_in version ds ≡ Some p → PartsFit p
parts_fit version [] p h e = cc
parts_fit version (a ∷ []) p h e = cc
parts_fit version (a ∷ b ∷ []) p h e = cc
parts_fit version (a ∷ b ∷ c ∷ []) p h e = cc
parts_fit version (a ∷ b ∷ c ∷ d ∷ []) p h e = cc
parts_fit version (a ∷ b ∷ c ∷ d ∷ g ∷ []) p h e = cc
parts_fit version (a ∷ b ∷ c ∷ d ∷ g ∷ f ∷ []) p h e = some_fits PartsFit _ p e (h.1.1.1.0, h.1.1.1.1.1.0)
parts_fit first_version (a ∷ b ∷ c ∷ d ∷ g ∷ f ∷ k ∷ ds) p h e = cc
parts_fit second_version (a ∷ b ∷ c ∷ d ∷ g ∷ f ∷ k ∷ ds) p h e = cc
parts_fit fourth_version (a ∷ b ∷ c ∷ d ∷ g ∷ f ∷ k ∷ []) p h e = some_fits PartsFit _ p e (h.1.1.1.0, h.1.1.1.1.1.0)
parts_fit fourth_version (a ∷ b ∷ c ∷ d ∷ g ∷ f ∷ k ∷ l ∷ ds) p h e = cc

abbrev HeadFits : RuleHead → Type 0
HeadFits head = PartsFit head.parts

head_reads : (version : Version) (before : List RuleHead) → Fits HeadFits (rule_head_at version before)
unfolding rule_head_at
head_reads version before path d h =
    Reads-then (Reads-more (λ p is. let c = chained (parts_in version) (list_of d) p is in parts_fit version c.0 p (list_fits d c.0 h c.1) c.2) (Reads-shaped path (rule_parts_of version d)))
    λ parts fit. Reads-then (Reads-any (new_name_at (rule_names before) (item_at path 0) parts.name)) λ x _. Reads-value _ fit

heads_fit : (version : Version) → Fits (AllByRecursion HeadFits) (rule_heads_at version)
unfolding rule_heads_at
heads_fit version path d h =
    Reads-then (short_reads 256 rules_limit path d h) λ ds fit.
    each_reads HeadFits DataFits (rule_head_at version) (λ before q x fits. head_reads version before q x fits) path ds fit

rule_reads : (version : Version) (scope : S.Scope) (path : Path) (head : RuleHead) → HeadFits head
    → Reads (λ r. IsTrue (rule_fits (length (class_names scope.classes)) r)) (rule_at version scope path head)
unfolding rule_at
rule_reads version scope path head h =
    Reads-then (Reads-any (event_at (class_names scope.classes) (item_at path 1) head.parts.event)) λ event _.
    Reads-then (Reads-any (coupling_at version (item_at path 2) head.parts.event_coupling)) λ ec _.
    Reads-then (condition_reads version (class_names scope.classes) (item_at path 3) head.parts.condition h.0) λ condition fit.
    Reads-then (Reads-any (coupling_at version (item_at path 4) head.parts.action_coupling)) λ ca _.
    Reads-then (statements_reads (acting scope condition) (record { version = version; names = S.names_of condition }) (item_at path 5) head.parts.action h.1) λ action fits.
    Reads-then (Reads-any (closed_at (item_at path 6) head.parts.closing)) λ closed _.
    Reads-value _ (and_from (list_all entry_fits condition) (body_fits (length (class_names scope.classes)) (body_of action)) fit fits)

rules_fit : (version : Version) (scope : S.Scope) (path : Path) (heads : List RuleHead) → AllByRecursion HeadFits heads
    → Reads (λ rs. IsTrue (list_all (rule_fits (length (class_names scope.classes))) rs)) (rules_at version scope path heads)
rules_fit version scope path heads h =
    Reads-more (λ rs all. list_true (rule_fits (length (class_names scope.classes))) rs all)
    (each_reads (λ r. IsTrue (rule_fits (length (class_names scope.classes)) r)) HeadFits (λ _. rule_at version scope) (λ before q x fits. rule_reads version scope q x fits) path heads h)

named : (library : Library) → length (class_names library.classes) ≡ length library.classes
named library = length-map library.classes (λ c. c.name)

library_reads : (version : Version) (root : Root) → DataFits root.rules → Reads IsFitLibrary (library_at version root)
unfolding library_at
library_reads version root h =
    Reads-then (depth_reads (under_root (codes "depth")) root.depth) λ depth of_depth.
    Reads-then (classes_reads (under_root (codes "classes")) root.classes) λ classes of_classes.
    Reads-then (Reads-both (heads_reads version (under_root (codes "rules")) root.rules) (heads_fit version (under_root (codes "rules")) root.rules h)) λ heads both.
    Reads-then (Reads-both (rules_read version classes heads (under_root (codes "rules"))) (rules_fit version (script_scope classes heads) (under_root (codes "rules")) heads both.1)) λ rules made.
    let library : Library = record { classes = classes; rules = rules; depth_limit = depth } in
    Reads-value library (record {
      fields_differ = library_fields_differ library (library_passes depth classes heads rules (record { of_depth = of_depth; of_classes = of_classes; of_heads = both.0 }) made.0);
      rules_fit = subst (λ n. IsTrue (list_all (rule_fits n) rules)) (named library) made.1;
    })

-- ---- units

abbrev pub TimeFits : ℕ → Type 0
TimeFits t = IsTrue (fits_64 (pos t))

less_fits : (most t until : ℕ) → t ≤ until → nat_lt until most ≡ true → nat_lt t most ≡ true
less_fits most t until le h = grind (arith, nat_tests, h)

moments_fit : (p : ℕ → Bool) (until a n : ℕ) → (0 < n → a + n ≤ until + 1) → TimeFits until → AllByRecursion TimeFits (filter p (range_with_len a n))
moments_fit p until a zero h fit = tt
moments_fit p until a (suc n) h fit = by (p a) (less_fits (2 ^ 63) a until (omega (arith, h (omega arith))) fit) (moments_fit p until (a + 1) n (λ some. omega (arith, h (omega arith))) fit)
  where
    by : (b : Bool) → TimeFits a → AllByRecursion TimeFits (filter p (range_with_len (a + 1) n))
        → AllByRecursion TimeFits (cond b (a ∷ filter p (range_with_len (a + 1) n)) (filter p (range_with_len (a + 1) n)))
    by true here later = (here, later)
    by false here later = later

module _ (version : Version) (library : Library) where
  abbrev UnitFits : Unit → Type 0
  UnitFits u = IsTrue (unit_fits library u)

  abbrev pub ScheduleFits : Schedule → Type 0
  ScheduleFits s = AllByRecursion UnitFits s.units × TimeFits s.clock

  times_fit : (ts : List ℕ) → AllByRecursion TimeFits ts → AllByRecursion UnitFits (map moment ts)
  times_fit [] h = tt
  times_fit (t ∷ ts) h = (h.0, times_fit ts h.1)

  transaction_reads : (before : Schedule) → ScheduleFits before → Fits ScheduleFits (λ path d. transaction_at version (library_scope library) path before d)
  unfolding transaction_at
  transaction_reads before fit path d h =
      Reads-then (statements_reads (library_scope library) (record { version = version; names = S.no_names }) (item_at path 1) d h) λ ss fits.
      let body : BodyFits (length library.classes) ss = subst (λ n. BodyFits n ss) (named library) fits in
      Reads-value _ (
        all_append UnitFits before.units (transaction before.clock (body_of ss) ∷ []) fit.0
            (and_from (fits_64 (pos before.clock)) (body_fits (length library.classes) (body_of ss)) fit.1 body, tt),
        fit.1,
      )

  clock_reads : (before : Schedule) → ScheduleFits before → Fits ScheduleFits (λ path d. clock_at library.rules path before d)
  unfolding clock_at
  clock_reads before fit path d h =
      Reads-then (time_reads before.clock (item_at path 1) d h) λ t until.
      Reads-then (Reads-unless {P = λ ts. AllByRecursion TimeFits ts} (nat_lt 1000 (length (due_moments library.rules before.clock t))) _ (due_moments library.rules before.clock t)
      (λ few. moments_fit (names_moment library.rules) t (before.clock + 1) (t - before.clock) (λ some. omega (arith, some)) until)) λ ts all.
      Reads-value _ (all_append UnitFits before.units (map moment ts) fit.0 (times_fit ts all), until)

  abbrev ItemFormFits : ItemForm → Type 0
  ItemFormFits (D.transaction_form body) = DataFits body
  ItemFormFits (D.clock_form time) = DataFits time

  item_forms : (word : List ℕ) (parts : List Data) (x : ItemForm) → AllFit parts → item_form word parts ≡ Some x → ItemFormFits x
  item_forms word [] x h e = cc
  item_forms word (a ∷ []) x h e = beside_fits ItemFormFits word ((codes "tx", D.transaction_form a) ∷ (codes "clock", D.clock_form a) ∷ []) x e (h.0, (h.0, tt))
  item_forms word (a ∷ b ∷ parts) x h e = cc

  item_reads : (before : Schedule) → ScheduleFits before → (path : Path) (form : ItemForm) → ItemFormFits form
      → Reads ScheduleFits (item_from version library.rules (library_scope library) path before form)
  item_reads before fit path (D.transaction_form body) h = transaction_reads before fit path body h
  item_reads before fit path (D.clock_form time) h = clock_reads before fit path time h

  unit_reads : (before : Schedule) → ScheduleFits before → Fits ScheduleFits (λ path d. unit_at version library.rules (library_scope library) path before d)
  unfolding unit_at
  unit_reads before fit path d h =
      Reads-then (formed ItemFormFits (λ f. item_form f.word f.parts) (λ f x fits is. item_forms f.word f.parts x fits is) path d h) λ form fits. item_reads before fit path form fits

  units_from_reads : (path : Path) (before : Schedule) (i : ℕ) (ds : List Data) → ScheduleFits before → AllFit ds
      → Reads ScheduleFits (units_from version library.rules (library_scope library) path before i ds)
  units_from_reads path before i [] fit h = Reads-value before fit
  units_from_reads path before i (d ∷ ds) fit h = Reads-then (unit_reads before fit (item_at path i) d h.0) λ next fits. units_from_reads path next (suc i) ds fits h.1

  units_reads : Fits ScheduleFits (units_at version library.rules (library_scope library))
  unfolding units_at
  units_reads path d h = Reads-then (list_reads path d h) λ ds fit. units_from_reads path no_item 0 ds (tt, refl) fit

-- ---- scripts and lines

pub record TimedFits (t : TimedScript) : Type 0 where
  pub library_fits : IsFitLibrary t.script.library
  pub units_fit : AllByRecursion (λ u. IsTrue (unit_fits t.script.library u)) t.script.units
  pub clock_fits : TimeFits t.clock

script_reads : (d : Data) → DataFits d → Reads TimedFits (timed_script_at d)
unfolding timed_script_at
script_reads d h =
    Reads-then (Reads-more (λ root is. root_fits d root h is) (Reads-shaped [] (root_of d))) λ root fit.
    Reads-then (Reads-any (version_at (under_root (codes "version")) root.version)) λ version _.
    Reads-then (library_reads version root fit.rules) λ library fits.
    Reads-then (units_reads version library (under_root (codes "items")) root.items fit.items) λ schedule all.
    Reads-value _ (record { library_fits = fits; units_fit = all.0; clock_fits = all.1 })

read_fits : (o : Option Data) → ((d : Data) → o ≡ Some d → DataFits d) → Reads DataFits (readable o)
read_fits None h = Reads-none _
read_fits (Some d) h = Reads-value d (h d refl)

json_reads : (bytes : Bytes) → Reads DataFits (json_at bytes)
unfolding json_at
json_reads bytes = read_fits (json_of bytes) (json_fits bytes)

pub Reads-size : {A : Type 0} {P : A → Type 0} (b : Bool) (e : Refusal) (read : Decoded A) → Reads P read → Reads P (if b then Err e else read)
Reads-size true e read h = Reads-none e
Reads-size false e read h = h

pub json_script_fits : (bytes : Bytes) → Reads TimedFits (timed_script_of bytes)
unfolding timed_script_of
json_script_fits bytes = Reads-size (nat_lt 1048576 (length bytes)) _ (json_at bytes >>= timed_script_at) (Reads-then (json_reads bytes) λ d fit. script_reads d fit)

abbrev pub RequestFits : Version → Library → Request → Type 0
RequestFits version library (item s) = ScheduleFits version library s
RequestFits version library (show e) = ⊤

show_reads : (version : Version) (library : Library) (form : ShowForm) → Reads (RequestFits version library) (show_of library form)
unfolding show_of
show_reads version library form = Reads-then (Reads-any (excerpt_from library form)) λ e _. Reads-value _ tt

item_fits : (version : Version) (library : Library) (clock : ℕ) (d : Data) → TimeFits clock → DataFits d → Reads (RequestFits version library) (item_of version library clock d)
unfolding item_of
item_fits version library clock d fit h = Reads-then (unit_reads version library (nothing_since clock) (tt, fit) [] d h) λ s fits. Reads-value _ fits

request_by : (version : Version) (library : Library) (clock : ℕ) (d : Data) (form : Option ShowForm) → TimeFits clock → DataFits d
    → Reads (RequestFits version library) (request_from version library clock d form)
request_by version library clock d None fit h = item_fits version library clock d fit h
request_by version library clock d (Some form) fit h = show_reads version library form

request_reads : (version : Version) (library : Library) (clock : ℕ) (d : Data) → TimeFits clock → DataFits d → Reads (RequestFits version library) (request_at version library clock d)
unfolding request_at
request_reads version library clock d fit h = request_by version library clock d (show_form_in d) fit h

pub json_request_fits : (version : Version) (library : Library) (clock : ℕ) (bytes : Bytes) → TimeFits clock → Reads (RequestFits version library) (request_of version library clock bytes)
unfolding request_of
json_request_fits version library clock bytes fit =
    Reads-size (nat_lt 1048576 (length bytes)) _ (json_at bytes >>= request_at version library clock) (Reads-then (json_reads bytes) λ d h. request_reads version library clock d fit h)

-- That accepted lines are a journal.
use Rattle.std.proofs.Common.{◌≡◌, ℕ, suc, ◌+◌, nat_lt, Bool, true, false, cond, List, [], ◌∷◌, ◌++◌, length, Option, Some, None, Result, Ok, Err, refl, sym, ap, subst, ◌∙◌}
use Rattle.std.proofs.Common.{append_assoc, append-nil, arith}
use Rattle.std.specs.Prelude.{codes, flat_map}
use Rattle.std.proofs.lemmas.List.{length-append}
use Rattle.serde_json.specs.Data.{Data}
use Rattle.hp_model.specs.Values.{◌>>=◌}
use Rattle.hp_model.specs.Rules.{Library, Rule}
use Rattle.hp_model.specs.State.{State, initial_state}
use Rattle.hp_model.specs.Cascade.{Unit, Script, UnitReport, Evaluation, unit_report, run_unit, run_units, evaluate}
use Rattle.hp_model.specs.Scopes.{Scope}
use Rattle.hp_model.specs.Refusals.{Path, Decoded, under_root, item_at, over_limit, size_limit, shaped}
use Rattle.hp_model.specs.Json.{json_of, list_of}
use Rattle.hp_model.specs.Decode.{Version, Schedule, no_item, Root, version_at, root_of, readable, json_at, unit_at, units_from, units_at, decode, script_of}
use Rattle.hp_model.specs.Report.{Bytes, transaction_text, units_text}
use Rattle.hp_model.specs.NotationTree as T
use Rattle.hp_model.specs.NotationPlaces.{Place, read_text, read_text_line}
use Rattle.hp_model.specs.TextScripts.{placed, script_place, line_place, script_checked, line_checked, text_checked, text_line_checked, script_of_text}
use Rattle.hp_model.specs.Output.{refusal_text, placed_refusal_text, text_of}
use Rattle.hp_report.specs.Text.{final_text}
use Rattle.hp_script.specs.Scopes.{library_scope}
use Rattle.hp_script.specs.Requests.{Request, item, show, ShowForm, show_form_in, excerpt_from, show_of, nothing_since, item_of, request_from, request_at, request_of}
use Rattle.hp_script.specs.Timed.{TimedScript, library_at, timed_script_at, timed_script_of, untimed}
use Rattle.hp_script.proofs.Timed.{untimed_at}
use Rattle.hp_notation.specs.Readings.{timed_script_in, request_in}
use Rattle.hp_notation.proofs.Told.{told_ok}
use Rattle.hp_lines.specs.Lines.{Line}
use Rattle.hp_lines.specs.Readings.{script_read, line_read, script_value, line_value}
use Rattle.hp_lines.specs.Checked.{script_fault, request_fault}
use Rattle.hp_lines.specs.Live.{Manner, RuleBase, new_base, up, closed, script_for, request_for, opening_answer, later_answer, stage_after}
use Rattle.hp_lines.specs.Journal.{item_in, value_if, body_if, accepted, accepted_bodies, AcceptedLinesReplay}
use Rattle.hp_lines.proofs.Anywhere.{unit_goes}
use Rattle.hp_lines.proofs.Checked.{checked_read}
use Rattle.hp_lines.proofs.Lines.{too_long}
use Rattle.hp_lines.proofs.Pieces.{closed_stage}

-- ---- units, and then more units

run-append : (library : Library) (us vs : List Unit) (S : State)
    → run_units library (us ++ vs) S ≡ record {
      units = (run_units library us S).units ++ (run_units library vs (run_units library us S).state).units;
      state =
          (run_units library vs (run_units library us S).state).state;
    }
run-append library [] vs S = refl
run-append library (u ∷ us) vs S =
    ap (λ (e : Evaluation). record { units = unit_report u (run_unit library u S) ∷ e.units; state = e.state }) (run-append library us vs (run_unit library u S).state)

text-append : (library : Library) (with_tree : Bool) (n : ℕ) (us vs : List UnitReport) → units_text library with_tree n (us ++ vs) ≡ units_text library with_tree n us
    ++ units_text library with_tree (n + length us) vs
text-append library with_tree n [] vs =
    let same : n ≡ n + 0 = omega arith in
    ap (λ m. units_text library with_tree m vs) same
text-append library with_tree n (u ∷ us) vs =
    let lines : Bytes = flat_map (transaction_text library with_tree n u.time) u.transactions in
    let same : suc n + length us ≡ n + suc (length us) = omega arith in
    ap (λ (b : Bytes). lines ++ b) (text-append library with_tree (suc n) us vs)
    ∙ sym (append_assoc lines (units_text library with_tree (suc n) us) (units_text library with_tree (suc n + length us) vs))
    ∙ ap (λ m. (lines ++ units_text library with_tree (suc n) us) ++ units_text library with_tree m vs) same

-- ---- items, and then more items

after_ok : {A B : Type 0} (r : Decoded A) (x : A) (f : A → Decoded B) → r ≡ Ok x → (r >>= f) ≡ f x
after_ok r x f e = ap (λ q. q >>= f) e

-- what comes of a reading that succeeds
record Both {A B : Type 0} (r : Decoded A) (f : A → Decoded B) (y : B) : Type 0 where
  pub first : A
  pub is : r ≡ Ok first
  pub then_is : f first ≡ Ok y

both : {A B : Type 0} (r : Decoded A) (f : A → Decoded B) (y : B) → (r >>= f) ≡ Ok y → Both r f y
both (Ok x) f y e = record { first = x; is = refl; then_is = e }
both (Err r) f y e = cc

from-append : (version : Version) (rules : List Rule) (scope : Scope) (path : Path) (before : Schedule) (i : ℕ) (ds es : List Data) (s : Schedule)
    → units_from version rules scope path before i ds ≡ Ok s → units_from version rules scope path before i (ds ++ es) ≡ units_from version rules scope path s (i + length ds) es
from-append version rules scope path before i [] es s read =
    let same : before ≡ s = cc in
    let place : i ≡ i + 0 = omega arith in
    ap (λ (b : Schedule). units_from version rules scope path b i es) same ∙ ap (λ n. units_from version rules scope path s n es) place
from-append version rules scope path before i (d ∷ ds) es s read =
    let parts = both (unit_at version rules scope (item_at path i) before d) (λ next. units_from version rules scope path next (suc i) ds) s read in
    let place : suc i + length ds ≡ i + suc (length ds) = omega arith in
    after_ok (unit_at version rules scope (item_at path i) before d) parts.first (λ next. units_from version rules scope path next (suc i) (ds ++ es)) parts.is
    ∙ from-append version rules scope path parts.first (suc i) ds es s parts.then_is ∙ ap (λ n. units_from version rules scope path s n es) place

-- ---- a line that is accepted

unless_ok : {A R : Type 0} (b : Bool) (e : R) (r : Result A R) (x : A) → cond b (Err e) r ≡ Ok x → r ≡ Ok x
unless_ok true e r x h = cc
unless_ok false e r x h = h

placed_ok : {A : Type 0} (place : Path → Place) (r : Decoded A) (x : A) → placed place r ≡ Ok x → r ≡ Ok x
placed_ok place (Ok y) x e = let same : y ≡ x = cc in ap (λ z. Ok z) same
placed_ok place (Err r) x e = cc

readable_some : (o : Option Data) (d : Data) → readable o ≡ Ok d → o ≡ Some d
readable_some None d e = cc
readable_some (Some v) d e = let same : v ≡ d = cc in ap (λ z. Some z) same

-- the value for which a line stands, and what is asked by it
record Asks (is_text : Bool) (version : Version) (library : Library) (clock : ℕ) (l : Line) (r : Request) : Type 0 where
  pub value : Data
  pub value_is : line_value is_text l ≡ Some value
  pub asked : request_at version library clock value ≡ Ok r

asks_by : (version : Version) (library : Library) (clock : ℕ) (l : Line) (r : Request) (read : Result T.Node Place)
    → read_text_line l ≡ read → line_checked (request_at version library clock) l read ≡ Ok r → Asks true version library clock l r
asks_by version library clock l r (Ok n) is asked = record {
  value = T.data_of n;
  value_is = ap line_read is;
  asked = placed_ok (line_place l n) (request_at version library clock (T.data_of n)) r asked;
}
asks_by version library clock l r (Err fault) is asked = cc

asks : (is_text : Bool) (version : Version) (library : Library) (clock : ℕ) (l : Line) (r : Request) → request_in is_text version library clock l ≡ Ok r → Asks is_text version library clock l r
unfolding json_at request_of text_line_checked
asks false version library clock l r read =
    let parts = both (json_at l) (request_at version library clock) r (unless_ok (nat_lt 1048576 (length l)) (over_limit size_limit) (json_at l >>= request_at version library clock)
    r (told_ok refusal_text (request_of version library clock l) r read)) in
    record { value = parts.first; value_is = readable_some (json_of l) parts.first parts.is; asked = parts.then_is }
asks true version library clock l r read =
    asks_by version library clock l r (read_text_line l) refl
    (unless_ok (nat_lt 1048576 (length l)) too_long (line_checked (request_at version library clock) l (read_text_line l)) r
    (told_ok placed_refusal_text (text_line_checked (request_at version library clock) l) r read))

-- the value of an accepted item, and what is read of it
record IsItem (is_text : Bool) (version : Version) (library : Library) (clock : ℕ) (l : Line) (s : Schedule) : Type 0 where
  pub value : Data
  pub value_is : line_value is_text l ≡ Some value
  pub reads : unit_at version library.rules (library_scope library) [] (nothing_since clock) value ≡ Ok s

item_or_show : (version : Version) (library : Library) (clock : ℕ) (d : Data) (form : Option ShowForm) (s : Schedule) → request_from version library clock d form ≡ Ok (item s)
    → item_of version library clock d ≡ Ok (item s)
unfolding show_of
item_or_show version library clock d None s h = h
item_or_show version library clock d (Some form) s h =
    let shown = both (excerpt_from library form) (λ e. Ok (show e)) (item s) h in
    let clash : Ok (show shown.first) ≡ Ok (item s) = shown.then_is in
    cc

abbrev asked_for : Schedule → Decoded Request
asked_for s = Ok (item s)

same_item : (s t : Schedule) (r : Decoded Schedule) → r ≡ Ok s → asked_for s ≡ asked_for t → r ≡ Ok t
same_item s t r read e = let same : s ≡ t = cc in read ∙ ap (λ (x : Schedule). Ok x) same

item_read : (is_text : Bool) (version : Version) (library : Library) (clock : ℕ) (l : Line) (s : Schedule) → request_in is_text version library clock l ≡ Ok (item s)
    → IsItem is_text version library clock l s
unfolding request_at item_of
item_read is_text version library clock l s read =
    let asking = asks is_text version library clock l (item s) read in
    let asked = item_or_show version library clock asking.value (show_form_in asking.value) s asking.asked in
    let schedule = both (unit_at version library.rules (library_scope library) [] (nothing_since clock) asking.value) (λ x. Ok (item x)) (item s) asked in
    record { value = asking.value; value_is = asking.value_is; reads = same_item schedule.first s _ schedule.is schedule.then_is }

-- ---- lines after the first

-- a rule base is where a script's units lead
record Leads (S : State) (before : Schedule) (base : RuleBase) : Type 0 where
  pub clock_is : before.clock ≡ base.clock
  pub state_is : (run_units base.library before.units S).state ≡ base.state
  pub units_are : length (run_units base.library before.units S).units ≡ base.units

-- items that are read after others lead on, and say more
record Leads_on (manner : Manner) (S : State) (path : Path) (base : RuleBase) (before : Schedule) (i : ℕ) (ds : List Data) (bodies : Bytes) (end : RuleBase) : Type 0 where
  pub all : Schedule
  pub reads : units_from base.version base.library.rules (library_scope base.library) path before i ds ≡ Ok all
  pub library_is : end.library ≡ base.library
  pub state_is : (run_units base.library all.units S).state ≡ end.state
  pub text : units_text base.library manner.with_tree 1 (run_units base.library all.units S).units ≡ units_text base.library manner.with_tree 1 (run_units base.library before.units S).units ++ bodies

-- the rule base after an item
abbrev ran_to : RuleBase → Schedule → RuleBase
ran_to base s =
    let e = run_units base.library s.units base.state in
    record { version = base.version; library = base.library; state = e.state; clock = s.clock; units = base.units + length e.units }

abbrev joined : Schedule → Schedule → Schedule
joined before s = record { units = before.units ++ s.units; clock = s.clock }

-- the units of an item, after those before it
ran_joined : (S : State) (base : RuleBase) (before s : Schedule) → Leads S before base
    → run_units base.library (before.units ++ s.units) S ≡ record {
      units = (run_units base.library before.units S).units ++ (run_units base.library s.units base.state).units;
      state =
          (run_units base.library s.units base.state).state;
    }
ran_joined S base before s leads =
    run-append base.library before.units s.units S
    ∙ ap (λ T. record { units = (run_units base.library before.units S).units ++ (run_units base.library s.units T).units; state = (run_units base.library s.units T).state }) leads.state_is

leads_joined : (S : State) (base : RuleBase) (before s : Schedule) → Leads S before base → Leads S (joined before s) (ran_to base s)
leads_joined S base before s leads =
    let both_ran = ran_joined S base before s leads in
    let old = (run_units base.library before.units S).units in
    let new = (run_units base.library s.units base.state).units in
    record {
      clock_is = refl;
      state_is = ap (λ (e : Evaluation). e.state) both_ran;
      units_are = ap (λ (e : Evaluation). length e.units) both_ran ∙ length-append old new ∙ ap (λ n. n + length new) leads.units_are;
    }

text_joined : (manner : Manner) (S : State) (base : RuleBase) (before s : Schedule) → Leads S before base
    → units_text base.library manner.with_tree 1 (run_units base.library (before.units ++ s.units) S).units
    ≡ units_text base.library manner.with_tree 1 (run_units base.library before.units S).units ++ units_text base.library manner.with_tree (base.units + 1)
    (run_units base.library s.units base.state).units
text_joined manner S base before s leads =
    let old = (run_units base.library before.units S).units in
    let new = (run_units base.library s.units base.state).units in
    let number : 1 + length old ≡ base.units + 1 = omega (arith, leads.units_are) in
    ap (λ (e : Evaluation). units_text base.library manner.with_tree 1 e.units) (ran_joined S base before s leads)
    ∙ text-append base.library manner.with_tree 1 old new
    ∙ ap (λ n. units_text base.library manner.with_tree 1 old ++ units_text base.library manner.with_tree n new) number

-- one line more, by what is read of it
step : (manner : Manner) (S : State) (path : Path) (base : RuleBase) (before : Schedule) (i : ℕ) (l : Line) (ls : List Line) (end : RuleBase)
    → ((base : RuleBase) (before : Schedule) (i : ℕ) → Leads S before base → stage_after manner (up base) ls ≡ up end
    → Leads_on manner S path base before i (accepted manner (up base) ls) (accepted_bodies manner (up base) ls) end)
    → Leads S before base → (r : Result Request Bytes) → request_for manner base l ≡ r
    → stage_after manner (later_answer manner.with_tree base r).stage ls ≡ up end
    → Leads_on manner S path base before i (value_if (item_in r) (line_value manner.is_text l) ++ accepted manner (later_answer manner.with_tree base r).stage ls)
    (body_if (item_in r) (later_answer manner.with_tree base r).body ++ accepted_bodies manner (later_answer manner.with_tree base r).stage ls) end
step manner S path base before i l ls end rest leads (Err e) asked ends = rest base before i leads ends
step manner S path base before i l ls end rest leads (Ok (show excerpt)) asked ends = rest base before i leads ends
step manner S path base before i l ls end rest leads (Ok (item s)) asked ends =
    let taken = checked_read manner.checks (request_fault base.library) (request_in manner.is_text base.version base.library base.clock l) (item s) asked in
    let read = item_read manner.is_text base.version base.library base.clock l s taken in
    let clock : nothing_since base.clock ≡ nothing_since before.clock = ap nothing_since (sym leads.clock_is) in
    let alone = ap (λ b. unit_at base.version base.library.rules (library_scope base.library) [] b read.value) (sym clock) ∙ read.reads in
    let here = unit_goes base.version base.library.rules (library_scope base.library) before read.value [] (item_at path i) s alone in
    let later = rest (ran_to base s) (joined before s) (suc i) (leads_joined S base before s leads) ends in
    let body = units_text base.library manner.with_tree (base.units + 1) (run_units base.library s.units base.state).units in
    let more = accepted_bodies manner (up (ran_to base s)) ls in
    record {
      all = later.all;
      reads =
          ap (λ v. units_from base.version base.library.rules (library_scope base.library) path before i (value_if (Some s) v ++ accepted manner (up (ran_to base s)) ls)) read.value_is
          ∙ after_ok _ (joined before s) (λ next. units_from base.version base.library.rules (library_scope base.library) path next (suc i) (accepted manner (up (ran_to base s)) ls)) here
          ∙ later.reads;
      library_is = later.library_is;
      state_is = later.state_is;
      text =
          later.text ∙ ap (λ (b : Bytes). b ++ more) (text_joined manner S base before s leads)
          ∙ append_assoc (units_text base.library manner.with_tree 1 (run_units base.library before.units S).units) body more;
    }

same_end : (base end : RuleBase) → up base ≡ up end → base ≡ end
same_end base end e = cc

later_lines : (manner : Manner) (S : State) (path : Path) (base : RuleBase) (before : Schedule) (i : ℕ) (ls : List Line) (end : RuleBase)
    → Leads S before base → stage_after manner (up base) ls ≡ up end → Leads_on manner S path base before i (accepted manner (up base) ls) (accepted_bodies manner (up base) ls) end
later_lines manner S path base before i [] end leads ends =
    let same : base ≡ end = same_end base end ends in
    record {
      all = before;
      reads = refl;
      library_is = ap (λ (b : RuleBase). b.library) (sym same);
      state_is = leads.state_is ∙ ap (λ (b : RuleBase). b.state) same;
      text = sym (append-nil _);
    }
later_lines manner S path base before i (l ∷ ls) end leads ends =
    step manner S path base before i l ls end (λ base' before' i' leads' ends'. later_lines manner S path base' before' i' ls end leads' ends')
    leads (request_for manner base l) refl ends

-- ---- the first line

-- what the first line's script is read from
record Opening (script : Data) (root : Root) (items : List Data) (t : TimedScript) : Type 0 where
  pub schedule : Schedule
  pub version_read : version_at (under_root (codes "version")) root.version ≡ Ok t.version
  pub library_read : library_at t.version root ≡ Ok t.script.library
  pub items_read : units_from t.version t.script.library.rules (library_scope t.script.library) (under_root (codes "items")) no_item 0 items ≡ Ok schedule
  pub units_are : t.script.units ≡ schedule.units
  pub clock_is : t.clock ≡ schedule.clock

listed : (version : Version) (rules : List Rule) (scope : Scope) (path : Path) (d : Data) (ds : List Data) → list_of d ≡ Some ds
    → units_at version rules scope path d ≡ units_from version rules scope path no_item 0 ds
unfolding units_at
listed version rules scope path d ds is = ap (λ o. shaped path o >>= units_from version rules scope path no_item 0) is

abbrev timed : Version → Library → Schedule → TimedScript
timed version library s = record { script = record { library = library; units = s.units }; version = version; clock = s.clock }

abbrev read_timed : Version → Library → Schedule → Decoded TimedScript
read_timed version library s = Ok (timed version library s)

-- the items of a root over a library
abbrev items_after : Version → Root → Library → Decoded TimedScript
items_after version root library =
    units_at version library.rules (library_scope library) (under_root (codes "items")) root.items >>= read_timed version library

-- the library of a root and its items
abbrev rest_after : Root → Version → Decoded TimedScript
rest_after root version = library_at version root >>= items_after version root

abbrev all_of : Root → Decoded TimedScript
all_of root = version_at (under_root (codes "version")) root.version >>= rest_after root

opened : (script : Data) (root : Root) (items : List Data) (t : TimedScript) (version : Version) (library : Library) (schedule : Schedule)
    → timed version library schedule ≡ t → version_at (under_root (codes "version")) root.version ≡ Ok version → library_at version root ≡ Ok library
    → units_from version library.rules (library_scope library) (under_root (codes "items")) no_item 0 items ≡ Ok schedule → Opening script root items t
opened script root items t version library schedule same is_version is_library are_items =
    subst (λ (x : TimedScript). Opening script root items x) same (record {
      schedule = schedule;
      version_read = is_version;
      library_read = is_library;
      items_read = are_items;
      units_are = refl;
      clock_is = refl;
    })

opening : (script : Data) (root : Root) (items : List Data) (t : TimedScript) → root_of script ≡ Some root → list_of root.items ≡ Some items
    → timed_script_at script ≡ Ok t → Opening script root items t
unfolding timed_script_at
opening script root items t root_is items_are read =
    let of_root = sym (ap (λ o. shaped [] o >>= all_of) root_is) ∙ read in
    let head = both (version_at (under_root (codes "version")) root.version) (rest_after root) t of_root in
    let part = both (library_at head.first root) (items_after head.first root) t head.then_is in
    let rest = both (units_at head.first part.first.rules (library_scope part.first) (under_root (codes "items")) root.items) (read_timed head.first part.first) t part.then_is in
    let same : timed head.first part.first rest.first ≡ t = cc in
    opened script root items t head.first part.first rest.first same head.is part.is
    (sym (listed head.first part.first.rules (library_scope part.first) (under_root (codes "items")) root.items items items_are) ∙ rest.is)

-- ---- the journal

-- the root's members with other items
abbrev with_entries : Root → Data → Root
with_entries root entries = record { version = root.version; depth = root.depth; classes = root.classes; rules = root.rules; items = entries }

same_library : (version : Version) (root : Root) (entries : Data) → library_at version (with_entries root entries) ≡ library_at version root
unfolding library_at
same_library version root entries = refl

journal_read : (journal : Data) (root : Root) (entries : Data) (version : Version) (library : Library) (all : Schedule) → root_of journal ≡ Some (with_entries root entries)
    → version_at (under_root (codes "version")) root.version ≡ Ok version → library_at version root ≡ Ok library
    → units_at version library.rules (library_scope library) (under_root (codes "items")) entries ≡ Ok all → timed_script_at journal ≡ read_timed version library all
unfolding timed_script_at
journal_read journal root entries version library all is_root is_version is_library is_all =
    let whole = with_entries root entries in
    ap (λ o. shaped [] o >>= all_of) is_root
    ∙ after_ok (version_at (under_root (codes "version")) root.version) version (rest_after whole) is_version
    ∙ after_ok (library_at version whole) library (items_after version whole) (same_library version root entries ∙ is_library)
    ∙ after_ok (units_at version library.rules (library_scope library) (under_root (codes "items")) entries) all (read_timed version library) is_all

-- the script of a text
first_by : (first : Line) (script : Data) (t : TimedScript) (read : Result T.Script Place) → script_read read ≡ Some script → script_checked timed_script_at first read ≡ Ok t
    → timed_script_at script ≡ Ok t
first_by first script t (Ok s) value read =
    let same : T.script_data s ≡ script = cc in
    sym (ap timed_script_at same) ∙ placed_ok (script_place first s) (timed_script_at (T.script_data s)) t read
first_by first script t (Err fault) value read = cc

first_read : (is_text : Bool) (first : Line) (script : Data) (t : TimedScript) → script_value is_text first ≡ Some script → timed_script_in is_text first ≡ Ok t → timed_script_at script ≡ Ok t
unfolding json_at timed_script_of text_checked
first_read false first script t value read =
    sym (after_ok (json_at first) script timed_script_at (ap readable value))
    ∙ unless_ok (nat_lt 1048576 (length first)) (over_limit size_limit) (json_at first >>= timed_script_at) t (told_ok refusal_text (timed_script_of first) t read)
first_read true first script t value read =
    first_by first script t (read_text first) value
    (unless_ok (nat_lt 1048576 (length first)) too_long (script_checked timed_script_at first (read_text first)) t (told_ok placed_refusal_text (text_checked timed_script_at first) t read))

-- the law, by what is read of the first line
record ReplaysBy (manner : Manner) (r : Result TimedScript Bytes) (later : List Line) (journal : Data) (base : RuleBase) : Type 0 where
  pub script : Script
  pub decoded : decode journal ≡ Ok script
  pub library_is : script.library ≡ base.library
  pub state_is : (evaluate script).state ≡ base.state
  pub report_is : text_of manner.with_tree (Ok script)
      ≡ ((opening_answer manner.with_tree r).body ++ accepted_bodies manner (opening_answer manner.with_tree r).stage later) ++ final_text base.library base.state.objects base.state.rules

replayed_by : (manner : Manner) (first : Line) (later : List Line) (journal : Data) (base : RuleBase) (script : Data) (root : Root) (entries : Data) (items : List Data) (r : Result TimedScript Bytes)
    → script_for manner first ≡ r → stage_after manner (opening_answer manner.with_tree r).stage later ≡ up base → script_value manner.is_text first ≡ Some script
    → root_of script ≡ Some root
    → root_of journal ≡ Some (with_entries root entries) → list_of root.items ≡ Some items → list_of entries ≡ Some (items ++ accepted manner (opening_answer manner.with_tree r).stage later)
    → ReplaysBy manner r later journal base
replayed_by manner first later journal base script root entries items (Err e) read ends value is_root is_journal are_items are_entries =
    let never : closed ≡ up base = sym (closed_stage manner later) ∙ ends in
    cc
replayed_by manner first later journal base script root entries items (Ok t) read ends value is_root is_journal are_items are_entries =
    let library = t.script.library in
    let S = initial_state library in
    let taken = checked_read manner.checks script_fault (timed_script_in manner.is_text first) t read in
    let o = opening script root items t is_root are_items (first_read manner.is_text first script t value taken) in
    let given : Schedule = record { units = t.script.units; clock = t.clock } in
    let opened = ran_to (new_base t.version library) given in
    let path = under_root (codes "items") in
    let ran_first = (run_units library t.script.units S).units in
    let from_none : length ran_first ≡ 0 + length ran_first = omega arith in
    let leads : Leads S o.schedule opened = record {
      clock_is = sym o.clock_is;
      state_is = ap (λ us. (run_units library us S).state) (sym o.units_are);
      units_are = ap (λ us. length (run_units library us S).units) (sym o.units_are) ∙ from_none;
    } in
    let on = later_lines manner S path opened o.schedule (0 + length items) later base leads ends in
    let all_read = listed t.version library.rules (library_scope library) path entries (items ++ accepted manner (up opened) later) are_entries
    ∙ from-append t.version library.rules (library_scope library) path no_item 0 items (accepted manner (up opened) later) o.schedule o.items_read ∙ on.reads in
    let timed_is = journal_read journal root entries t.version library on.all is_journal o.version_read o.library_read all_read in
    let bodies = accepted_bodies manner (up opened) later in
    record {
      script = (timed t.version library on.all).script;
      decoded = sym (untimed_at journal) ∙ ap untimed timed_is;
      library_is = sym on.library_is;
      state_is = on.state_is;
      report_is =
          ap (λ (b : Bytes). b ++ final_text library (run_units library on.all.units S).state.objects (run_units library on.all.units S).state.rules) on.text
          ∙ ap (λ us. (units_text library manner.with_tree 1 (run_units library us S).units ++ bodies)
          ++ final_text library (run_units library on.all.units S).state.objects (run_units library on.all.units S).state.rules) (sym o.units_are)
          ∙ ap (λ (T : State). (units_text library manner.with_tree 1 (run_units library t.script.units S).units ++ bodies) ++ final_text library T.objects T.rules) on.state_is
          ∙ ap (λ l. (units_text library manner.with_tree 1 (run_units library t.script.units S).units ++ bodies) ++ final_text l base.state.objects base.state.rules) (sym on.library_is);
    }

-- a text is read as its value, unless it is too long
text_read : (text : Bytes) (d : Data) (script : Script) → decode d ≡ Ok script → json_at text ≡ Ok d
    → script_of text ≡ cond (nat_lt 1048576 (length text)) (Err (over_limit size_limit)) (Ok script)
unfolding script_of
text_read text d script decoded value =
    ap (λ r. cond (nat_lt 1048576 (length text)) (Err (over_limit size_limit)) r) (after_ok (json_at text) d decode value ∙ decoded)

-- a text is read as what it stands for, unless it is too long
notation_read : (text : Bytes) (s : T.Script) (d : Data) (script : Script) → decode d ≡ Ok script → read_text text ≡ Ok s → T.script_data s ≡ d
    → script_of_text text ≡ cond (nat_lt 1048576 (length text)) (Err too_long) (Ok script)
unfolding text_checked
notation_read text s d script decoded read same =
    ap (λ r. cond (nat_lt 1048576 (length text)) (Err too_long) r)
    (ap (script_checked decode text) read ∙ ap (placed (script_place text s)) (ap decode same ∙ decoded))

pub accepted_lines_replay : AcceptedLinesReplay
accepted_lines_replay manner first later journal base ends j =
    let by = replayed_by manner first later journal base j.script j.root j.entries j.items (script_for manner first) refl ends j.first_is
    j.root_is j.journal_is j.items_are j.entries_are in
    record {
      script = by.script;
      decoded = by.decoded;
      read_is = λ text value. text_read text journal by.script by.decoded value;
      text_is =
          λ text s read same. notation_read text s journal by.script by.decoded read same;
      library_is = by.library_is;
      state_is = by.state_is;
      report_is = by.report_is;
    }

-- Rules, items and scripts, part by part.
use Rattle.std.proofs.Common.{◌≡◌, refl, sym, ap, ◌∙◌, ℕ, Bool, List, [], ◌∷◌, length, map, drop, get_or, ◌<◌, ◌≤◌, arith, codes, Option, Some, None, option_map}
use Rattle.std.specs.Prelude.{option_and_then}
use Rattle.hp_model.specs.Values.{Name, Kind}
use Rattle.hp_model.specs.Rules.{Coupling}
use Rattle.serde_json.specs.Data.{Data}
use Rattle.hp_model.specs.Json.{Form, form_of, list_of, pair_of}
use Rattle.hp_model.specs.Parts.{name_of}
use Rattle.hp_model.specs.NotationTokens.{if_mark, on_mark, do_mark, colon, equal_sign, open_brace}
use Rattle.hp_model.specs.NotationForms as F
use Rattle.hp_model.specs.NotationForms.{kind_word}
use Rattle.hp_model.specs.NotationPrint.{Gap, tight, space, line, paragraph, Pieces, sign, free, name, natural, expression_in, assignment_pieces, field_pieces, fields_pieces}
use Rattle.hp_model.specs.NotationPrint.{class_pieces, closed_pieces, event_pieces, mode_pieces, condition_pieces, query_pieces, body_pieces, rule_pieces, item_pieces}
use Rattle.hp_model.specs.NotationPrint.{depth_pieces, classes_pieces, rule_pieces}
use Rattle.hp_model.specs.NotationValues.{of_one, of_two, of_three, script_with, assignment_of, field_form, class_form, any_expression, kind_named, list_form, each_of, item_in}
use Rattle.hp_model.specs.NotationValues.{item_form, rule_in, rule_form, rule_of_parts}
use Rattle.serde_json.specs.Find.{as_str}
use Rattle.hp_print.specs.Written.{step}
use Rattle.hp_print.specs.Rules.{conditions_pieces, rules_pieces, items_pieces, script_before}

-- ---- pairs

assigned : (x : Option Name) (e : Option F.Expression) (rest : Option Pieces)
    → step assignment_pieces (of_two (λ y v. record { field = y; value = v }) x e) rest ≡ step (name space) x (option_map (sign space equal_sign) (step (λ v. expression_in 5 v space) e rest))
assigned None e rest = refl
assigned (Some x) None rest = refl
assigned (Some x) (Some e) None = refl
assigned (Some x) (Some e) (Some k) = refl

pub assignment_step : (d a b : Data) → pair_of d ≡ Some (a, b) → (rest : Option Pieces)
    → step assignment_pieces (assignment_of d) rest ≡ step (name space) (name_of a) (option_map (sign space equal_sign) (step (λ v. expression_in 5 v space) (any_expression b) rest))
assignment_step d a b is rest =
    ap (λ o. step assignment_pieces (option_and_then (λ (p : Data × Data). of_two (λ y v. record { field = y; value = v }) (name_of p.0) (any_expression p.1)) o) rest) is
    ∙ assigned (name_of a) (any_expression b) rest

fielded : (x : Option Name) (kind : Option Kind) (rest : Option Pieces)
    → step field_pieces (of_two (λ y v. record { name = y; kind = v }) x kind) rest ≡ step (name space) x (option_map (sign tight colon) (step (λ v. free space (kind_word v)) kind rest))
fielded None kind rest = refl
fielded (Some x) None rest = refl
fielded (Some x) (Some kind) None = refl
fielded (Some x) (Some kind) (Some k) = refl

pub field_step : (d a b : Data) → pair_of d ≡ Some (a, b) → (rest : Option Pieces)
    → step field_pieces (field_form d) rest ≡ step (name space) (name_of a) (option_map (sign tight colon) (step (λ v. free space (kind_word v)) (option_and_then kind_named (as_str b)) rest))
field_step d a b is rest =
    ap (λ o. step field_pieces (option_and_then (λ (p : Data × Data). of_two (λ y v. record { name = y; kind = v }) (name_of p.0) (option_and_then kind_named (as_str p.1))) o) rest) is
    ∙ fielded (name_of a) (option_and_then kind_named (as_str b)) rest

classed : (gap : Gap) (x : Option Name) (fs : Option (List F.Field)) (rest : Option Pieces)
    → step (λ c. class_pieces c gap) (of_two (λ y v. record { name = y; fields = v }) x fs) rest
    ≡ option_map (free gap (codes "class")) (step (name space) x (option_map (sign space open_brace) (step fields_pieces fs rest)))
classed gap None fs rest = refl
classed gap (Some x) None rest = refl
classed gap (Some x) (Some fs) None = refl
classed gap (Some x) (Some fs) (Some k) = refl

pub class_step : (gap : Gap) (d a b : Data) → pair_of d ≡ Some (a, b) → (rest : Option Pieces)
    → step (λ c. class_pieces c gap) (class_form d) rest
    ≡ option_map (free gap (codes "class")) (step (name space) (name_of a) (option_map (sign space open_brace) (step fields_pieces (list_form field_form b) rest)))
class_step gap d a b is rest =
    ap (λ o. step (λ c. class_pieces c gap) (option_and_then (λ (p : Data × Data). of_two (λ y v. record { name = y; fields = v }) (name_of p.0) (list_form field_form p.1)) o) rest) is
    ∙ classed gap (name_of a) (list_form field_form b) rest

-- ---- rules

pub condition_step : (q : Option F.Query) (rest : Option Pieces) → step condition_pieces q rest ≡ option_map (sign (line 1) if_mark) (step query_pieces q rest)
condition_step None rest = refl
condition_step (Some q) None = refl
condition_step (Some q) (Some k) = refl

-- what a rule's parts make
abbrev pub rule_made : (x : Option Name) (e : Option F.Event) (m : Option Coupling) (qs : Option (List F.Query)) (n : Option Coupling) (b : Option F.Body) (c : Option Bool) → Option F.Rule
rule_made x e m qs n b c = option_and_then
    (λ is_closed. option_and_then
    (λ name. option_and_then
    (λ event. option_and_then
    (λ event_mode. of_three
    (λ condition action_mode action.
    record { name = name; is_closed = is_closed; event = event; event_mode = event_mode; condition = condition; action_mode = action_mode; action = action })
    qs n b)
    m)
    e)
    x)
    c

pub rule_step : (x : Option Name) (e : Option F.Event) (m : Option Coupling) (qs : Option (List F.Query)) (n : Option Coupling) (b : Option F.Body) (c : Option Bool) (rest : Option Pieces)
    → step rule_pieces (rule_made x e m qs n b c) rest
    ≡ option_map (free paragraph (codes "rule")) (step (name space) x (step closed_pieces c (option_map (sign space on_mark) (step (λ v. event_pieces v space) e (step mode_pieces m
    (step conditions_pieces qs (option_map (sign (line 1) do_mark) (step mode_pieces n (step (λ a. body_pieces a 1) b rest)))))))))
rule_step None e m qs n b None rest = refl
rule_step None e m qs n b (Some c) rest = refl
rule_step (Some x) e m qs n b None rest = refl
rule_step (Some x) None m qs n b (Some c) rest = refl
rule_step (Some x) (Some e) None qs n b (Some c) rest = refl
rule_step (Some x) (Some e) (Some m) None n b (Some c) rest = refl
rule_step (Some x) (Some e) (Some m) (Some qs) None b (Some c) rest = refl
rule_step (Some x) (Some e) (Some m) (Some qs) (Some n) None (Some c) rest = refl
rule_step (Some x) (Some e) (Some m) (Some qs) (Some n) (Some b) (Some c) None = refl
rule_step (Some x) (Some e) (Some m) (Some qs) (Some n) (Some b) (Some c) (Some k) = refl

-- ---- items

pub transaction_step : (gap : Gap) (b : Option F.Body) (rest : Option Pieces)
    → step (λ i. item_pieces i gap) (of_one F.transaction b) rest ≡ option_map (free gap (codes "transaction")) (step (λ a. body_pieces a 0) b rest)
transaction_step gap None rest = refl
transaction_step gap (Some b) None = refl
transaction_step gap (Some b) (Some k) = refl

pub clock_step : (gap : Gap) (t : Option ℕ) (rest : Option Pieces)
    → step (λ i. item_pieces i gap) (of_one F.clock t) rest ≡ option_map (free gap (codes "clock")) (step (natural space) t rest)
clock_step gap None rest = refl
clock_step gap (Some t) None = refl
clock_step gap (Some t) (Some k) = refl

-- ---- scripts

pub depth_step : (n : Option ℕ) (rest : Option Pieces) → step depth_pieces (option_map Some n) rest ≡ option_map (free (line 0) (codes "depth")) (step (natural space) n rest)
depth_step None rest = refl
depth_step (Some n) None = refl
depth_step (Some n) (Some k) = refl

pub script_step : (version : ℕ) (depth : Option (Option ℕ)) (cs : Option (List F.Class)) (rs : Option (List F.Rule)) (is : Option (List F.Item)) (rest : Option Pieces)
    → step script_before (option_and_then (λ d. of_three (script_with version d) cs rs is) depth) rest
    ≡ option_map (free tight (codes "version")) (option_map (natural space version) (step depth_pieces depth (step classes_pieces cs (step rules_pieces rs (step items_pieces is rest)))))
script_step version None cs rs is rest = refl
script_step version (Some d) None rs is rest = refl
script_step version (Some d) (Some cs) None is rest = refl
script_step version (Some d) (Some cs) (Some rs) None rest = refl
script_step version (Some d) (Some cs) (Some rs) (Some is) None = refl
script_step version (Some d) (Some cs) (Some rs) (Some is) (Some k) = refl

pub item_in_form : (d : Data) (f : Form) (ps : List Data) → form_of d ≡ Some f → f.parts ≡ ps → item_form d ≡ item_in f.word ps
unfolding item_form
item_in_form d f ps form parts = ap (λ o. option_and_then (λ (g : Form). item_in g.word g.parts) o) form ∙ ap (λ qs. item_in f.word qs) parts

pub rule_in_items : {V : Type 0} (lets : Bool) (g : V → Data) (vs : List V) (x e m qs k b : V) (c : List V)
    → 6 ≤ length vs → x ≡ get_or vs 0 x → e ≡ get_or vs 1 e → m ≡ get_or vs 2 m → qs ≡ get_or vs 3 qs → k ≡ get_or vs 4 k → b ≡ get_or vs 5 b → c ≡ drop 6 vs
    → rule_in lets (map g vs) ≡ rule_of_parts lets (g x) (g e) (g m) (g qs) (g k) (g b) (map g c)
rule_in_items lets g [] x e m qs k b c least p0 p1 p2 p3 p4 p5 rest = absurd (omega (arith, least))
rule_in_items lets g (v0 ∷ []) x e m qs k b c least p0 p1 p2 p3 p4 p5 rest = absurd (omega (arith, least))
rule_in_items lets g (v0 ∷ v1 ∷ []) x e m qs k b c least p0 p1 p2 p3 p4 p5 rest = absurd (omega (arith, least))
rule_in_items lets g (v0 ∷ v1 ∷ v2 ∷ []) x e m qs k b c least p0 p1 p2 p3 p4 p5 rest = absurd (omega (arith, least))
rule_in_items lets g (v0 ∷ v1 ∷ v2 ∷ v3 ∷ []) x e m qs k b c least p0 p1 p2 p3 p4 p5 rest = absurd (omega (arith, least))
rule_in_items lets g (v0 ∷ v1 ∷ v2 ∷ v3 ∷ v4 ∷ []) x e m qs k b c least p0 p1 p2 p3 p4 p5 rest = absurd (omega (arith, least))
rule_in_items lets g (v0 ∷ v1 ∷ v2 ∷ v3 ∷ v4 ∷ v5 ∷ vs) x e m qs k b c least p0 p1 p2 p3 p4 p5 rest =
    ap (λ u. rule_of_parts lets (g u) (g v1) (g v2) (g v3) (g v4) (g v5) (map g vs)) (sym p0)
    ∙ ap (λ u. rule_of_parts lets (g x) (g u) (g v2) (g v3) (g v4) (g v5) (map g vs)) (sym p1)
    ∙ ap (λ u. rule_of_parts lets (g x) (g e) (g u) (g v3) (g v4) (g v5) (map g vs)) (sym p2)
    ∙ ap (λ u. rule_of_parts lets (g x) (g e) (g m) (g u) (g v4) (g v5) (map g vs)) (sym p3)
    ∙ ap (λ u. rule_of_parts lets (g x) (g e) (g m) (g qs) (g u) (g v5) (map g vs)) (sym p4)
    ∙ ap (λ u. rule_of_parts lets (g x) (g e) (g m) (g qs) (g k) (g u) (map g vs)) (sym p5)
    ∙ ap (λ us. rule_of_parts lets (g x) (g e) (g m) (g qs) (g k) (g b) (map g us)) (sym rest)

pub no_rule : {V : Type 0} (lets : Bool) (g : V → Data) (d : Data) (vs : List V) → list_of d ≡ Some (map g vs) → length vs < 6 → rule_form lets d ≡ None
no_rule lets g d vs list below = ap (λ o. option_and_then (rule_in lets) o) list ∙ go vs below
  where
    go : (us : List _) → length us < 6 → rule_in lets (map g us) ≡ None
    go [] less = refl
    go (v0 ∷ []) less = refl
    go (v0 ∷ v1 ∷ []) less = refl
    go (v0 ∷ v1 ∷ v2 ∷ []) less = refl
    go (v0 ∷ v1 ∷ v2 ∷ v3 ∷ []) less = refl
    go (v0 ∷ v1 ∷ v2 ∷ v3 ∷ v4 ∷ []) less = refl
    go (v0 ∷ v1 ∷ v2 ∷ v3 ∷ v4 ∷ v5 ∷ us) less = absurd (omega (arith, less))

pub rule_in_list : (lets : Bool) (d : Data) (ds : List Data) → list_of d ≡ Some ds → rule_form lets d ≡ rule_in lets ds
rule_in_list lets d ds list = ap (λ o. option_and_then (rule_in lets) o) list

pub list_step : {A : Type 0} (put : List A → Pieces → Pieces) (read : Data → Option A) (d : Data) (ds : List Data) → list_of d ≡ Some ds → (rest : Option Pieces)
    → step put (list_form read d) rest ≡ step put (each_of read ds) rest
list_step put read d ds list rest = ap (λ o. step put (option_and_then (each_of read) o) rest) list

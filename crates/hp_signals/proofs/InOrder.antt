-- Signals that are read one after another, each with those before it.
use Rattle.std.proofs.Common.{arith, length, ◌≡◌, ℕ, suc, ◌+◌, ◌<◌, List, [], ◌∷◌, ◌++◌, map, drop, get_or, Ok, Err, refl, ap, sym, ◌∙◌}
use Rattle.std.proofs.lemmas.List.{drop_more}
use mathlib.Core.Path.{fun_ext}
use Rattle.std.specs.Prelude.{is_some}
use Rattle.serde_json.specs.Data.{Data}
use Rattle.serde_json.specs.View.{view}
use Rattle.serde_json.specs.declared.value.Value.{Value}
use Rattle.hp_model.specs.Values.{Name, ◌>>=◌}
use Rattle.hp_model.specs.Kinds.{Declared}
use Rattle.hp_model.specs.Refusals.{Path, item_at, Decoded}
use Rattle.hp_model.specs.Parts.{list_at, read_each, read_from}
use Rattle.hp_rule.specs.Places.{steps, steps_step}
use Rattle.hp_rule.specs.declared.place.Place.TheVariants.{Root, rolls-Root}
use Rattle.hp_rule.specs.declared.place.Place.TheOpen.{Place-F}
use Rattle.hp_rule.specs.declared.place.Place.TheFolds.{fold-roll-Place}
use Rattle.hp_script.specs.Mapped.{Fails, refusal}
use Rattle.hp_script.specs.declared.refusal.DecodeError.{DecodeError}
use Rattle.hp_script.specs.declared.refusal.DecodeError.TheVariants.{Refused, Memory}
use Rattle.hp_signals.specs.Signals.{Signature, signature_at, signatures_at, has_signal}
use Rattle.hp_signals.specs.Mapped.{is_in, Lists}

-- how a file's next signal is read
abbrev pub read_next : List Signature → Path → Data → Decoded Signature
read_next before = signature_at (has_signal before)

-- by what is declared so far
pub read_by : (d : Declared) (before : List Signature) (path : Path) (v : Data) → Lists d before → signature_at (is_in d) path v ≡ read_next before path v
read_by d before path v lists = ap (λ (taken : Name → _). signature_at taken path v) (fun_ext (λ name. ap is_some (lists.each name)))

-- the list at its next item
at_next : (before : List Signature) (i : ℕ) (y : Value) (ys : List Value) (all : Decoded (List Signature)) → i < length ys → y ≡ get_or ys i y
    → read_from read_next [] before i (map view (drop i ys)) ≡ all
    → read_from read_next [] before i (view y ∷ map view (drop (i + 1) ys)) ≡ all
at_next before i y ys all below there so_far =
    ap (λ (zs : List Value). read_from read_next [] before i (map view zs)) (ap (λ z. z ∷ drop (i + 1) ys) there ∙ sym (drop_more ys i y below)) ∙ so_far

-- once the next signal is read
pub read_one_more : (before : List Signature) (s : Signature) (i : ℕ) (y : Value) (ys : List Value) (all : Decoded (List Signature)) → i < length ys → y ≡ get_or ys i y
    → read_next before (item_at [] i) (view y) ≡ Ok s → read_from read_next [] before i (map view (drop i ys)) ≡ all
    → read_from read_next [] (before ++ s ∷ []) (i + 1) (map view (drop (i + 1) ys)) ≡ all
read_one_more before s i y ys all below there here so_far = sym (step (map view (drop (i + 1) ys))) ∙ at_next before i y ys all below there so_far
  where
    step : (zs : List Data) → read_from read_next [] before i (view y ∷ zs) ≡ read_from read_next [] (before ++ s ∷ []) (i + 1) zs
    step zs =
        let one_more : suc i ≡ i + 1 = omega arith in
        rw here (ap (λ j. read_from read_next [] (before ++ s ∷ []) j zs) one_more)

-- if the next one is refused, so is the list
pub stops : (before : List Signature) (e : DecodeError) (i : ℕ) (y : Value) (ys : List Value) (all : Decoded (List Signature)) → i < length ys → y ≡ get_or ys i y
    → Fails e (read_next before (item_at [] i) (view y)) → read_from read_next [] before i (map view (drop i ys)) ≡ all → Fails e all
stops before Memory i y ys all below there here so_far = tt
stops before (Refused r) i y ys all below there here so_far = sym (at_next before i y ys all below there so_far) ∙ step (map view (drop (i + 1) ys))
  where
    step : (zs : List Data) → read_from read_next [] before i (view y ∷ zs) ≡ Err (refusal r)
    step zs = rw here refl

pub root_is : steps Root ≡ []
root_is = ap steps (sym rolls-Root) ∙ fold-roll-Place Path steps_step Place-F.Root

-- the signals of a list
pub of_list : (d : Data) (ds : List Data) → list_at (steps Root) d ≡ Ok ds → signatures_at d ≡ read_from read_next [] [] 0 ds
of_list d ds is = ap (λ (r : Decoded (List Data)). r >>= λ es. read_each read_next [] es) (ap (λ (p : Path). list_at p d) (sym root_is) ∙ is)

-- The library of a script, and what its items are read with.
use Rattle.std.proofs.Common.{◌≡◌, ◌≤◌, ℕ, nat_lt, Bool, true, false, cond, List, [], length, map, refl, sym, ap, ◌∙◌, Ok, Err, arith}
use Rattle.std.proofs.lemmas.List.{length-map}
use Rattle.std.proofs.lemmas.Bool.Decides.{nat_tests}
use Rattle.std.specs.Prelude.{⊤}
use Rattle.hp_model.specs.Values.{ClassDef, ◌>>=◌}
use Rattle.hp_model.specs.Rules as R
use Rattle.hp_model.specs.Refusals.{Path, Limit, Refusal, classes_limit, rules_limit, over_limit, Decoded}
use Rattle.hp_model.specs.RuleHeads as H
use Rattle.hp_model.specs.Decode.{Version, rules_at, script_scope}
use Rattle.hp_model.specs.Checked.{classes_check, heads_check, library_check, limit_check, script_body_check}
use Rattle.hp_model.specs.StatementGrammar.{body_of, statements_at}
use Rattle.serde_json.specs.Data.{Data}
use Rattle.hp_model.proofs.WellFormedScripts.{rules_read, IsScriptScope, in_script, body_passes}
use Rattle.hp_script.specs.Scopes.{library_scope}

abbrev Passed : Decoded ⊤ → Type 0
Passed check = check ≡ Ok tt

-- the first of two checks passes, and so does the second
first : (a b : Decoded ⊤) → Passed (a >>= λ _. b) → Passed a
first (Ok u) b is = refl
first (Err e) b is = cc

second : (a b : Decoded ⊤) → Passed (a >>= λ _. b) → Passed b
second (Ok u) b is = is
second (Err e) b is = cc

not_over : (b : Bool) (r : Refusal) → Passed (cond b (Err r) (Ok tt)) → b ≡ false
not_over true r is = cc
not_over false r is = refl

within : (most : ℕ) (limit : Limit) (n : ℕ) → Passed (limit_check most limit n) → n ≤ most
within most limit n is =
    let h : nat_lt most n ≡ false = not_over (nat_lt most n) (over_limit limit) is in
    grind (arith, nat_tests)

-- a library that is checked is within the limits
pub few_classes : (l : R.Library) → Passed (library_check l) → length l.classes ≤ 64
unfolding library_check classes_check
few_classes l is = within 64 classes_limit (length l.classes) (first _ _ (first _ _ (second _ _ is)))

pub few_rules : (l : R.Library) → Passed (library_check l) → length l.rules ≤ 256
unfolding library_check heads_check
few_rules l is = within 256 rules_limit (length l.rules) (first _ _ (first _ _ (second _ _ (second _ _ is))))

-- the library whose rules were read from heads is named as by these
pub named_by_heads : (version : Version) (classes : List ClassDef) (heads : List H.RuleHead) (rules : List R.Rule) (depth : ℕ) (path : Path)
    → rules_at version (script_scope classes heads) path heads ≡ Ok rules
    → library_scope (record { classes = classes; rules = rules; depth_limit = depth }) ≡ script_scope classes heads
named_by_heads version classes heads rules depth path read =
    ap (λ names. record { classes = classes; rules = names; queries = []; in_action = false }) ((rules_read version classes heads path).fact rules read).names

its_scope : (l : R.Library) → IsScriptScope l (library_scope l)
its_scope l = record { classes = refl; rules = length-map l.rules (λ (r : R.Rule). r.name); in_action = refl; queries = refl }

-- a body that was read where the library stands is well formed
pub read_body : (version : Version) (l : R.Library) (path : Path) (d : Data) (ss : List R.Statement) → statements_at (library_scope l) (in_script version) path d ≡ Ok ss
    → script_body_check l [] (body_of ss) ≡ Ok tt
read_body version l path d ss read = (body_passes version l (library_scope l) (its_scope l) path d).fact ss read []

-- what a list stands for is as long
pub shorter : {A B : Type 0} (f : A → B) (xs : List A) (ys : List B) (most : ℕ) → map f xs ≡ ys → length ys ≤ most → length xs ≤ most
shorter f xs ys most is le = rw (sym (length-map xs f) ∙ ap length is) le

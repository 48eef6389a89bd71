-- Lists of rule numbers.
use Rattle.std.proofs.Common.{arith, ◌≡◌, ℕ, suc, ◌-◌, ◌==◌, ◌≤◌, Bool, true, false, ◌||◌, cond, List, [], ◌∷◌, ◌++◌, length, Some, None, refl, sym, ap, ◌∙◌, append_assoc}
use Rattle.std.proofs.Common.{append-nil, length-append, bytes_eq}
use Rattle.std.specs.Prelude.{slice_get}
use Rattle.std.specs.Global.{Vec}
use Rattle.std.specs.BTreeMap.{BTreeMap, UpdatesBy, get_by_text}
use Rattle.std.specs.String.{string_cmp}
use Rattle.std.specs.Ordering.{nat_cmp}
use Rattle.std.specs.Cmp.Lexicographic.{slice_cmp}
use Rattle.std.specs.Prelude.{String, string_bytes}
use Rattle.std.specs.declared.alloc.Global.{Global}
use Rattle.std.proofs.lemmas.Map.Text.{btree_map_updates_text}
use Rattle.std.proofs.lemmas.Bool.Decides.{nat_tests}
use lib.Pointwise.{bytes_decides}
use Rattle.hp_model.specs.Events.{Event}
use Rattle.hp_model.specs.Rules.{Rule}
use Rattle.hp_rule.specs.Noted.{is_number, noted, noted_if, numbers, of_name}
use Rattle.hp_rule.specs.Index.{numbers_from, noted_from}

last_push : (ns : List ℕ) (n : ℕ) → slice_get (ns ++ n ∷ []) (length (ns ++ n ∷ []) - 1) ≡ Some n
last_push ns n =
    let at_end : length (ns ++ n ∷ []) - 1 ≡ length ns = omega (arith, length-append ns (n ∷ [])) in
    ap (slice_get (ns ++ n ∷ [])) at_end ∙ found ns
  where
    found : (xs : List ℕ) → slice_get (xs ++ n ∷ []) (length xs) ≡ Some n
    found [] = refl
    found (x ∷ xs) = found xs

same_number : (n : ℕ) → (n == n) ≡ true
same_number n = grind (arith, nat_tests)

other_number : (m n : ℕ) → suc n ≤ m → (n == m) ≡ false
other_number m n below = grind (arith, nat_tests)

-- adding a number twice adds it once
noted_twice : (n : ℕ) (ns : List ℕ) → noted n (noted n ns) ≡ noted n ns
noted_twice n ns = by (is_number n (slice_get ns (length ns - 1))) refl
  where
    by : (b : Bool) → is_number n (slice_get ns (length ns - 1)) ≡ b → noted n (cond b ns (ns ++ n ∷ [])) ≡ cond b ns (ns ++ n ∷ [])
    by true is = ap (λ b. cond b ns (ns ++ n ∷ [])) is
    by false is = ap (λ b. cond b (ns ++ n ∷ []) ((ns ++ n ∷ []) ++ n ∷ [])) (ap (is_number n) (last_push ns n) ∙ same_number n)

pub noted_either : (a b : Bool) (n : ℕ) (ns : List ℕ) → noted_if b n (noted_if a n ns) ≡ noted_if (a || b) n ns
noted_either true true n ns = noted_twice n ns
noted_either true false n ns = refl
noted_either false b n ns = refl

-- the last number is below n
abbrev IsBelow : ℕ → List ℕ → Type 0
IsBelow n ns = (m : ℕ) → n ≤ m → is_number m (slice_get ns (length ns - 1)) ≡ false

noted_from_is : (test : Event → Bool) (n : ℕ) (ns : List ℕ) (rules : List Rule) → IsBelow n ns → noted_from test n ns rules ≡ ns ++ numbers_from test n rules
noted_from_is test n ns [] below = sym (append-nil ns)
noted_from_is test n ns (rule ∷ rules) below =
    by (test rule.event) (noted_from_is test (suc n) (ns ++ n ∷ []) rules pushed) (noted_from_is test (suc n) ns rules (λ m above. below m (omega arith)))
  where
    pushed : IsBelow (suc n) (ns ++ n ∷ [])
    pushed m above = ap (is_number m) (last_push ns n) ∙ other_number m n above

    later : List ℕ
    later = numbers_from test (suc n) rules

    by : (b : Bool) → noted_from test (suc n) (ns ++ n ∷ []) rules ≡ (ns ++ n ∷ []) ++ later → noted_from test (suc n) ns rules ≡ ns ++ later
        → noted_from test (suc n) (noted_if b n ns) rules ≡ ns ++ cond b (n ∷ later) later
    by true more same = ap (λ b. noted_from test (suc n) (cond b ns (ns ++ n ∷ [])) rules) (below n (omega arith)) ∙ more ∙ append_assoc ns (n ∷ []) later
    by false more same = same

pub noted_are : (test : Event → Bool) (rules : List Rule) → noted_from test 0 [] rules ≡ numbers_from test 0 rules
noted_are test rules = noted_from_is test 0 [] rules (λ m above. refl)

-- a map in which a name's list was removed, extended and put back
pub name_noted : (before removed after : BTreeMap (String Global) (Vec ℕ)) (name first second : List ℕ) (list : Vec ℕ) (number : ℕ) → first ≡ name → second ≡ name
    → UpdatesBy string_cmp (λ k. slice_cmp nat_cmp first (string_bytes k)) before removed None
    → UpdatesBy string_cmp (λ k. slice_cmp nat_cmp second (string_bytes k)) removed after (Some list)
    → list.items ≡ noted number (of_name before name)
    → (x : List ℕ) → of_name after x ≡ noted_if (bytes_eq name x) number (of_name before x)
name_noted before removed after name first second list number one two taken put is x =
    ap numbers (btree_map_updates_text second removed after (Some list) put x ∙ ap (cond (bytes_eq second x) (Some list)) (btree_map_updates_text first before removed None taken x))
    ∙ ap (λ y. numbers (cond (bytes_eq y x) (Some list) (cond (bytes_eq first x) None (get_by_text before x)))) two
    ∙ ap (λ y. numbers (cond (bytes_eq name x) (Some list) (cond (bytes_eq y x) None (get_by_text before x)))) one
    ∙ by (bytes_eq name x) (bytes_decides name x).0
  where
    by : (b : Bool) → (b ≡ true → name ≡ x) → numbers (cond b (Some list) (cond b None (get_by_text before x))) ≡ noted_if b number (of_name before x)
    by true same = is ∙ ap (λ y. noted number (of_name before y)) (same refl)
    by false same = refl

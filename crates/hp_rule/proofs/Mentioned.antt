-- The rules that the index lists, with those that don't mention the occurrence left out, are the rules that mention it.
use Rattle.std.proofs.Common.{arith, ◌≡◌, ℕ, suc, ◌+◌, Bool, true, false, ◌||◌, cond, List, [], ◌∷◌, filter, refl, ap, ◌∙◌}
use Rattle.hp_model.specs.Occurrences.{Primitive, moment_reached}
use Rattle.hp_model.specs.Events.{Pattern, at_moment, every_moment, matches, Event, pattern_event, or_event, seq_event, closure_event, mentions}
use Rattle.hp_model.specs.Rules.{Rule}
use Rattle.hp_rule.specs.Mentions.{mentioning_from, is_mentioned}
use Rattle.hp_rule.specs.Index.{may_match, may_mention, numbers_from, candidates}

may_match_lem : (pattern : Pattern) (p : Primitive) → matches pattern p ≡ true → may_match pattern p ≡ true
may_match_lem (at_moment t) (moment_reached u) is = refl
may_match_lem (every_moment first period) (moment_reached t) is = refl
may_match_lem pattern p is = is

either_true : (a b c d : Bool) → (a ≡ true → c ≡ true) → (b ≡ true → d ≡ true) → (a || b) ≡ true → (c || d) ≡ true
either_true true b c d f g is = ap (λ x. x || d) (f refl)
either_true false b true d f g is = refl
either_true false b false d f g is = g is

may_mention_lem : (event : Event) (p : Primitive) → mentions event p ≡ true → may_mention event p ≡ true
may_mention_lem (pattern_event pattern) p is = may_match_lem pattern p is
may_mention_lem (or_event a b) p is = either_true (mentions a p) (mentions b p) (may_mention a p) (may_mention b p) (may_mention_lem a p) (may_mention_lem b p) is
may_mention_lem (seq_event a b) p is = either_true (mentions a p) (mentions b p) (may_mention a p) (may_mention b p) (may_mention_lem a p) (may_mention_lem b p) is
may_mention_lem (closure_event a t) p is = either_true (mentions a p) (mentions t p) (may_mention a p) (may_mention t p) (may_mention_lem a p) (may_mention_lem t p) is

filtered_from : (p : Primitive) (test : ℕ → Bool) (n : ℕ) (rules : List Rule) → ((i : ℕ) → test (i + n) ≡ is_mentioned rules p i)
    → filter test (numbers_from (λ e. may_mention e p) n rules) ≡ mentioning_from n rules p
filtered_from p test n [] at = refl
filtered_from p test n (rule ∷ rules) at =
    by (may_mention rule.event p) (mentions rule.event p) (may_mention_lem rule.event p) (ap test (omega arith) ∙ at 0)
    (filtered_from p test (suc n) rules (λ i. ap test (omega arith) ∙ at (suc i)))
  where
    listed : List ℕ
    listed = numbers_from (λ e. may_mention e p) (suc n) rules

    by : (may does : Bool) → (does ≡ true → may ≡ true) → test n ≡ does → filter test listed ≡ mentioning_from (suc n) rules p
        → filter test (cond may (n ∷ listed) listed) ≡ cond does (n ∷ mentioning_from (suc n) rules p) (mentioning_from (suc n) rules p)
    by true true may here later = ap (λ b. cond b (n ∷ filter test listed) (filter test listed)) here ∙ ap (λ ns. n ∷ ns) later
    by true false may here later = ap (λ b. cond b (n ∷ filter test listed) (filter test listed)) here ∙ later
    by false true may here later = absurd (let not : false ≡ true = may refl in cc)
    by false false may here later = later

pub filtered : (rules : List Rule) (p : Primitive) → filter (is_mentioned rules p) (candidates rules p) ≡ mentioning_from 0 rules p
filtered rules p = filtered_from p (is_mentioned rules p) 0 rules (λ i. ap (is_mentioned rules p) (omega arith))

-- There is a link wherever a rule may trigger another one, and what it names stands there.
use Rattle.std.proofs.Common.{arith, ◌≡◌, refl, sym, ap, ◌∙◌, subst, ℕ, zero, suc, pos, ◌+◌, ◌<◌, ◌==◌, Bool, true, false, List, [], ◌∷◌, ◌++◌, Option, Some, None}
use Rattle.std.proofs.Common.{append_assoc, append-nil, inl, inr}
use Rattle.std.proofs.lemmas.Bool.Decides.{nat_tests}
use Rattle.std.specs.Prelude.{◌⊎◌, ◌||◌, is_some, unwrap_or, slice_get, if◌then◌else◌}
use Rattle.std.specs.List.{list_any}
use Rattle.std.specs.Option.{option_or, option_and_then}
use Rattle.hp_model.specs.Occurrences.{Primitive, created, updated, deleted, signalled, commit_reached}
use Rattle.hp_model.specs.Events.{Pattern, matches, Event, pattern_event, or_event, seq_event, closure_event}
use Rattle.hp_model.specs.Rules.{Statement, create, update, delete, signal, emit, when, each, for_answer, with_object, subtransaction, let_value, abort, veto, veto_with, on_rule}
use Rattle.hp_model.specs.Rules.{fire, Body, empty, ◌then◌, Rule, Library}
use Rattle.hp_model.specs.Refusals.{to_item, Path, item_at}
use Rattle.hp_model.specs.Chains.{completes, triggers_from, signal_triggers, statement_triggers, body_triggers, may_detach, rule_triggers}
use Rattle.hp_analysis.specs.Parts.{along}
use Rattle.hp_analysis.specs.Links.{Link, rule_path, event_path, linked, by_signal, statement_link, body_link, mode_path, commit_link, link_between, link_onward, rule_link}
use Rattle.hp_analysis.specs.Links.{statement_below, body_below, pattern_below, EndsAt, TriggersAt, IsLink, LinksStand}
use Rattle.hp_analysis.proofs.Bodies.{body_from, from_start, statement_is, later_is}

-- ---- events

abbrev Ends : Path → Event → Primitive → Path → Type 0
Ends path e p found = (steps : Path) × (pattern : Pattern) × (found ≡ path ++ steps) × (pattern_below steps e ≡ Some pattern) × (matches pattern p ≡ true)

same_value : {A : Type 0} (x y : A) → Some x ≡ Some y → y ≡ x
same_value x y is = sym (ap (λ o. unwrap_or o x) is)

ends_deeper : (path : Path) (i : ℕ) (e a : Event) (p : Primitive) (found : Path) → ((steps : Path) → pattern_below (to_item i ∷ steps) e ≡ pattern_below steps a)
    → Ends (item_at path i) a p found → Ends path e p found
ends_deeper path i e a p found same (steps, pattern, is, there, matched) = (to_item i ∷ steps, pattern, is ∙ append_assoc path (to_item i ∷ []) steps, same steps ∙ there, matched)

event_stands : (path : Path) (e : Event) (p : Primitive) (found : Path) → event_path path e p ≡ Some found → Ends path e p found
event_stands path (pattern_event pattern) p found is = by (matches pattern p) refl is
  where
    by : (b : Bool) → matches pattern p ≡ b → (if b then Some path else None) ≡ Some found → Ends path (pattern_event pattern) p found
    by true matched is = ([], pattern, same_value path found is ∙ sym (append-nil path), refl, matched)
    by false matched is = cc
event_stands path (or_event a b) p found is =
    by (event_path (item_at path 1) a p) refl (λ h. event_stands (item_at path 1) a p found h) (λ h. event_stands (item_at path 2) b p found h) is
  where
    by : (o : Option Path) → event_path (item_at path 1) a p ≡ o → (event_path (item_at path 1) a p ≡ Some found → Ends (item_at path 1) a p found)
        → (event_path (item_at path 2) b p ≡ Some found → Ends (item_at path 2) b p found)
        → option_or o (event_path (item_at path 2) b p) ≡ Some found → Ends path (or_event a b) p found
    by None first at_a at_b is = ends_deeper path 2 (or_event a b) b p found (λ steps. refl) (at_b is)
    by (Some q) first at_a at_b is = ends_deeper path 1 (or_event a b) a p found (λ steps. refl) (at_a (first ∙ is))
event_stands path (seq_event a b) p found is = ends_deeper path 2 (seq_event a b) b p found (λ steps. refl) (event_stands (item_at path 2) b p found is)
event_stands path (closure_event a t) p found is = ends_deeper path 2 (closure_event a t) t p found (λ steps. refl) (event_stands (item_at path 2) t p found is)

some_or : {A : Type 0} (a b : Option A) → is_some (option_or a b) ≡ (is_some a || is_some b)
some_or None b = refl
some_or (Some x) b = refl

either_holds : (a b c d : Bool) → (a ≡ true → c ≡ true) → (b ≡ true → d ≡ true) → (a || b) ≡ true → (c || d) ≡ true
either_holds true b c d first second is = ap (λ x. x || d) (first refl)
either_holds false b true d first second is = refl
either_holds false b false d first second is = second is

event_found : (path : Path) (e : Event) (p : Primitive) → completes e p ≡ true → is_some (event_path path e p) ≡ true
event_found path (pattern_event pattern) p is = ap (λ b. is_some (if b then Some path else None)) is
event_found path (or_event a b) p is =
    some_or (event_path (item_at path 1) a p) (event_path (item_at path 2) b p)
    ∙ either_holds (completes a p) (completes b p) (is_some (event_path (item_at path 1) a p)) (is_some (event_path (item_at path 2) b p))
    (λ h. event_found (item_at path 1) a p h) (λ h. event_found (item_at path 2) b p h) is
event_found path (seq_event a b) p is = event_found (item_at path 2) b p is
event_found path (closure_event a t) p is = event_found (item_at path 2) t p is

-- ---- which rules an occurrence triggers

abbrev is_among : ℕ → List ℕ → Bool
is_among m ns = list_any (λ t. t == m) ns

other_number : (k n : ℕ) → n < k → (k == n) ≡ false
other_number k n low = grind (arith, nat_tests, low)

later_number : (k j : ℕ) → (k == k + suc j) ≡ false
later_number k j = let low : k < k + suc j = omega arith in grind (arith, nat_tests, low)

none_below : (p : Primitive) (n k : ℕ) (rules : List Rule) → n < k → is_among n (triggers_from k rules p) ≡ false
none_below p n k [] low = refl
none_below p n k (r ∷ rs) low = by (completes r.event p) (none_below p n (suc k) rs (omega (arith, low)))
  where
    by : (b : Bool) → is_among n (triggers_from (suc k) rs p) ≡ false → is_among n (if b then k ∷ triggers_from (suc k) rs p else triggers_from (suc k) rs p) ≡ false
    by true rest = ap (λ c. c || is_among n (triggers_from (suc k) rs p)) (other_number k n low) ∙ rest
    by false rest = rest

triggers_in : (p : Primitive) (k j : ℕ) (rules : List Rule) (next : Rule) → slice_get rules j ≡ Some next → is_among (k + j) (triggers_from k rules p) ≡ true → completes next.event p ≡ true
triggers_in p k j [] next there is = cc
triggers_in p k zero (r ∷ rs) next there is = by (completes r.event p) refl is
  where
    by : (b : Bool) → completes r.event p ≡ b → is_among (k + 0) (if b then k ∷ triggers_from (suc k) rs p else triggers_from (suc k) rs p) ≡ true → completes next.event p ≡ true
    by true own is = ap (λ (x : Rule). completes x.event p) (same_value r next there) ∙ own
    by false own is = let low : k + 0 < suc k = omega arith in let none = none_below p (k + 0) (suc k) rs low in cc
triggers_in p k (suc j) (r ∷ rs) next there is =
    let e : k + suc j ≡ suc k + j = omega arith in
    triggers_in p (suc k) j rs next there (subst (λ n. is_among n (triggers_from (suc k) rs p) ≡ true) e (by (completes r.event p) is))
  where
    by : (b : Bool) → is_among (k + suc j) (if b then k ∷ triggers_from (suc k) rs p else triggers_from (suc k) rs p) ≡ true → is_among (k + suc j) (triggers_from (suc k) rs p) ≡ true
    by true is = sym (ap (λ c. c || is_among (k + suc j) (triggers_from (suc k) rs p)) (later_number k j)) ∙ is
    by false is = is

among_either : (m : ℕ) (xs ys : List ℕ) → is_among m (xs ++ ys) ≡ true → (is_among m xs ≡ true) ⊎ (is_among m ys ≡ true)
among_either m [] ys is = inr is
among_either m (x ∷ xs) ys is = by (x == m) is (among_either m xs ys)
  where
    by : (b : Bool) → (b || is_among m (xs ++ ys)) ≡ true → (is_among m (xs ++ ys) ≡ true → (is_among m xs ≡ true) ⊎ (is_among m ys ≡ true)) → ((b || is_among m xs) ≡ true) ⊎ (is_among m ys ≡ true)
    by true is rest = inl refl
    by false is rest = rest is

either_some : {A : Type 0} (a b : Option A) → (is_some a ≡ true) ⊎ (is_some b ≡ true) → is_some (option_or a b) ≡ true
either_some (Some x) b is = refl
either_some None b (inl is) = cc
either_some None b (inr is) = is

-- ---- links to a rule

module _ (library : Library) (m : ℕ) (next : Rule) (there : slice_get library.rules m ≡ Some next) where
  -- what is signalled at a path
  signal_found : (path : Path) (p : Primitive) → is_among m (signal_triggers library p) ≡ true → is_some (by_signal m next.event path p) ≡ true
  signal_found path p is =
      let same : m ≡ 0 + m = omega arith in
      let here : is_among (0 + m) (signal_triggers library p) ≡ true = subst (λ n. is_among n (signal_triggers library p) ≡ true) same is in
      by (event_path (item_at (rule_path m) 1) next.event p) (event_found (item_at (rule_path m) 1) next.event p (triggers_in p 0 m library.rules next there here))
    where
      by : (o : Option Path) → is_some o ≡ true → is_some (linked path o) ≡ true
      by (Some q) is = refl
      by None is = is

  signal_stands : (path : Path) (p : Primitive) (l : Link) → by_signal m next.event path p ≡ Some l → (l.by ≡ path) × EndsAt m next.event p l.event
  signal_stands path p l is = by (event_path (item_at (rule_path m) 1) next.event p) refl is
    where
      by : (o : Option Path) → event_path (item_at (rule_path m) 1) next.event p ≡ o → linked path o ≡ Some l → (l.by ≡ path) × EndsAt m next.event p l.event
      by None found is = cc
      by (Some q) found is =
          let same : l ≡ record { by = path; event = q } = same_value (record { by = path; event = q }) l is in
          (ap (λ (x : Link). x.by) same, event_stands (item_at (rule_path m) 1) next.event p l.event (found ∙ ap Some (sym (ap (λ (x : Link). x.event) same))))

  abbrev Stands : (Path → Option Statement) → Path → Link → Type 0
  Stands below path l = (steps : Path) × (s : Statement) × (l.by ≡ path ++ steps) × (below steps ≡ Some s) × TriggersAt m next.event s l.event

  abbrev Below : Statement → Path → Option Statement
  Below s steps = statement_below steps s

  abbrev BelowBody : Body → Path → Option Statement
  BelowBody b steps = body_below steps b

  stands_deeper : (outer inner : Path → Option Statement) (path : Path) (i : ℕ) (l : Link) → ((steps : Path) → outer (to_item i ∷ steps) ≡ inner steps)
      → Stands inner (item_at path i) l → Stands outer path l
  stands_deeper outer inner path i l same (steps, s, is, at, triggers) = (to_item i ∷ steps, s, is ∙ append_assoc path (to_item i ∷ []) steps, same steps ∙ at, triggers)

  -- of two places the first that has a link
  two_stand : (outer one other : Path → Option Statement) (path : Path) (i j : ℕ) (a b : Option Link) (l : Link) → ((steps : Path) → outer (to_item i ∷ steps) ≡ one steps)
      → ((steps : Path) → outer (to_item j ∷ steps) ≡ other steps)
      → (a ≡ Some l → Stands one (item_at path i) l) → (b ≡ Some l → Stands other (item_at path j) l) → option_or a b ≡ Some l → Stands outer path l
  two_stand outer one other path i j (Some k) b l first second at_one at_other is = stands_deeper outer one path i l first (at_one is)
  two_stand outer one other path i j None b l first second at_one at_other is = stands_deeper outer other path j l second (at_other is)

  -- two bodies of which one has what triggers the rule
  two_found : (a b : Body) (one other : Option Link) → (is_among m (body_triggers library a) ≡ true → is_some one ≡ true) → (is_among m (body_triggers library b) ≡ true → is_some other ≡ true)
      → is_among m (body_triggers library a ++ body_triggers library b) ≡ true → is_some (option_or one other) ≡ true
  two_found a b one other first second is =
      elim (among_either m (body_triggers library a) (body_triggers library b) is) [
        | inl h ↦ either_some one other (inl (first h))
        | inr h ↦ either_some one other (inr (second h))
      ]

  mutual
    statement_found : (path : Path) (s : Statement) → is_among m (statement_triggers library s) ≡ true → is_some (statement_link m next.event path s) ≡ true
    statement_found path (create class key assignments) is = signal_found path (created class (pos 0) []) is
    statement_found path (update class key assignments) is = signal_found path (updated class (pos 0) [] []) is
    statement_found path (delete class key) is = signal_found path (deleted class (pos 0) []) is
    statement_found path (signal name arguments) is = signal_found path (signalled name []) is
    statement_found path (when e a b) is =
        two_found a b (body_link m next.event (item_at path 2) 0 a) (body_link m next.event (item_at path 3) 0 b) (λ h. body_found (item_at path 2) 0 a h) (λ h. body_found (item_at path 3) 0 b h) is
    statement_found path (each x class predicate body) is = body_found (item_at path 4) 0 body is
    statement_found path (for_answer x body) is = body_found (item_at path 2) 0 body is
    statement_found path (with_object x class key body) is = body_found (item_at path 4) 0 body is
    statement_found path (subtransaction a b) is =
        two_found a b (body_link m next.event (item_at path 1) 0 a) (body_link m next.event (item_at path 2) 0 b) (λ h. body_found (item_at path 1) 0 a h) (λ h. body_found (item_at path 2) 0 b h) is
    statement_found path (let_value x a body) is = body_found (item_at path 3) 0 body is
    statement_found path (fire n) is = by (n == m) is
      where
        by : (b : Bool) → (b || false) ≡ true → is_some {T = Link} (if b then Some (record { by = path; event = rule_path m }) else None) ≡ true
        by true is = refl
        by false is = is
    statement_found path (emit e) is = cc
    statement_found path abort is = cc
    statement_found path veto is = cc
    statement_found path (veto_with e) is = cc
    statement_found path (on_rule op n) is = cc

    body_found : (path : Path) (i : ℕ) (b : Body) → is_among m (body_triggers library b) ≡ true → is_some (body_link m next.event path i b) ≡ true
    body_found path i empty is = cc
    body_found path i (s then rest) is =
        elim (among_either m (statement_triggers library s) (body_triggers library rest) is) [
          | inl first ↦ either_some (statement_link m next.event (item_at path i) s) (body_link m next.event path (suc i) rest) (inl (statement_found (item_at path i) s first))
          | inr second ↦ either_some (statement_link m next.event (item_at path i) s) (body_link m next.event path (suc i) rest) (inr (body_found path (suc i) rest second))
        ]

  mutual
    statement_stands : (path : Path) (s : Statement) (l : Link) → statement_link m next.event path s ≡ Some l → Stands (Below s) path l
    statement_stands path (create class key assignments) l is = let h = signal_stands path (created class (pos 0) []) l is in ([], create class key assignments, h.0 ∙ sym (append-nil path), refl, h.1)
    statement_stands path (update class key assignments) l is = let h = signal_stands path (updated class (pos 0) [] []) l is in
        ([], update class key assignments, h.0 ∙ sym (append-nil path), refl, h.1)
    statement_stands path (delete class key) l is = let h = signal_stands path (deleted class (pos 0) []) l is in ([], delete class key, h.0 ∙ sym (append-nil path), refl, h.1)
    statement_stands path (signal name arguments) l is = let h = signal_stands path (signalled name []) l is in ([], signal name arguments, h.0 ∙ sym (append-nil path), refl, h.1)
    statement_stands path (when e a b) l is =
        two_stand (Below (when e a b)) (BelowBody a) (BelowBody b) path 2 3 (body_link m next.event (item_at path 2) 0 a) (body_link m next.event (item_at path 3) 0 b)
        l (λ steps. refl) (λ steps. refl)
        (body_stands (item_at path 2) a 0 a l (from_start a)) (body_stands (item_at path 3) b 0 b l (from_start b)) is
    statement_stands path (each x class predicate body) l is = stands_deeper (Below (each x class predicate body)) (BelowBody body) path 4 l (λ steps. refl)
        (body_stands (item_at path 4) body 0 body l (from_start body) is)
    statement_stands path (for_answer x body) l is = stands_deeper (Below (for_answer x body)) (BelowBody body) path 2 l (λ steps. refl)
        (body_stands (item_at path 2) body 0 body l (from_start body) is)
    statement_stands path (with_object x class key body) l is = stands_deeper (Below (with_object x class key body)) (BelowBody body) path 4 l (λ steps. refl)
        (body_stands (item_at path 4) body 0 body l (from_start body) is)
    statement_stands path (subtransaction a b) l is =
        two_stand (Below (subtransaction a b)) (BelowBody a) (BelowBody b) path 1 2 (body_link m next.event (item_at path 1) 0 a) (body_link m next.event (item_at path 2) 0 b)
        l (λ steps. refl) (λ steps. refl)
        (body_stands (item_at path 1) a 0 a l (from_start a)) (body_stands (item_at path 2) b 0 b l (from_start b)) is
    statement_stands path (let_value x a body) l is = stands_deeper (Below (let_value x a body)) (BelowBody body) path 3 l (λ steps. refl)
        (body_stands (item_at path 3) body 0 body l (from_start body) is)
    statement_stands path (fire n) l is = by (n == m) refl is
      where
        by : (b : Bool) → (n == m) ≡ b → (if b then Some (record { by = path; event = rule_path m }) else None) ≡ Some l → Stands (Below (fire n)) path l
        by true own is =
            let same : l ≡ record { by = path; event = rule_path m } = same_value (record { by = path; event = rule_path m }) l is in
            ([], fire n, ap (λ (x : Link). x.by) same ∙ sym (append-nil path), refl, (own, ap (λ (x : Link). x.event) same))
        by false own is = cc
    statement_stands path (emit e) l is = cc
    statement_stands path abort l is = cc
    statement_stands path veto l is = cc
    statement_stands path (veto_with e) l is = cc
    statement_stands path (on_rule op n) l is = cc

    body_stands : (path : Path) (whole : Body) (i : ℕ) (b : Body) (l : Link) → body_from i whole ≡ b → body_link m next.event path i b ≡ Some l → Stands (BelowBody whole) path l
    body_stands path whole i empty l from is = cc
    body_stands path whole i (s then rest) l from is =
        by (statement_link m next.event (item_at path i) s) refl (λ h. statement_stands (item_at path i) s l h) (λ h. body_stands path whole (suc i) rest l (later_is i whole s rest from) h) is
      where
        by : (o : Option Link) → statement_link m next.event (item_at path i) s ≡ o → (statement_link m next.event (item_at path i) s ≡ Some l → Stands (Below s) (item_at path i) l)
            → (body_link m next.event path (suc i) rest ≡ Some l → Stands (BelowBody whole) path l) → option_or o (body_link m next.event path (suc i) rest) ≡ Some l → Stands (BelowBody whole) path l
        by None first own later is = later is
        by (Some k) first own later is =
            stands_deeper (BelowBody whole) (Below s) path i l (λ steps. ap (λ o. along o (λ t. statement_below steps t)) (statement_is i whole s rest from)) (own (first ∙ is))

  -- ---- from a rule

  commit_found : (n : ℕ) (rule : Rule) → is_among m (if may_detach rule then signal_triggers library commit_reached else []) ≡ true → is_some (commit_link n rule m next.event) ≡ true
  commit_found n rule is = by (may_detach rule) is
    where
      by : (b : Bool) → is_among m (if b then signal_triggers library commit_reached else []) ≡ true → is_some (if b then by_signal m next.event (mode_path n rule) commit_reached else None) ≡ true
      by true is = signal_found (mode_path n rule) commit_reached is
      by false is = cc

  between_found : (n : ℕ) (rule : Rule) → is_among m (rule_triggers library rule) ≡ true → is_some (link_between n rule m next.event) ≡ true
  between_found n rule is =
      either_some (body_link m next.event (item_at (rule_path n) 5) 0 rule.action) (commit_link n rule m next.event)
      (elim (among_either m (body_triggers library rule.action) (if may_detach rule then signal_triggers library commit_reached else []) is) [
        | inl first ↦ inl (body_found (item_at (rule_path n) 5) 0 rule.action first)
        | inr second ↦ inr (commit_found n rule second)
      ])

  commit_stands : (n : ℕ) (rule : Rule) (l : Link) → commit_link n rule m next.event ≡ Some l → IsLink n rule m next.event l
  commit_stands n rule l is = by (may_detach rule) refl is
    where
      by : (b : Bool) → may_detach rule ≡ b → (if b then by_signal m next.event (mode_path n rule) commit_reached else None) ≡ Some l → IsLink n rule m next.event l
      by true own is = let h = signal_stands (mode_path n rule) commit_reached l is in inr (h.0, own, h.1)
      by false own is = cc

  between_stands : (n : ℕ) (rule : Rule) (l : Link) → link_between n rule m next.event ≡ Some l → IsLink n rule m next.event l
  between_stands n rule l is = by (body_link m next.event (item_at (rule_path n) 5) 0 rule.action) refl is
    where
      by : (o : Option Link) → body_link m next.event (item_at (rule_path n) 5) 0 rule.action ≡ o → option_or o (commit_link n rule m next.event) ≡ Some l → IsLink n rule m next.event l
      by None first is = commit_stands n rule l is
      by (Some k) first is = inl (body_stands (item_at (rule_path n) 5) rule.action 0 rule.action l (from_start rule.action) (first ∙ is))

  pub link_stands : (n : ℕ) (rule : Rule) → slice_get library.rules n ≡ Some rule → is_among m (rule_triggers library rule) ≡ true
      → (l : Link) × (rule_link library n m ≡ Some l) × IsLink n rule m next.event l
  link_stands n rule at is =
      let same : rule_link library n m ≡ link_between n rule m next.event =
      ap (λ o. option_and_then (λ (r : Rule). link_onward n r m (slice_get library.rules m)) o) at ∙ ap (link_onward n rule m) there in
      by (link_between n rule m next.event) refl same (between_found n rule is)
    where
      by : (o : Option Link) → link_between n rule m next.event ≡ o → rule_link library n m ≡ link_between n rule m next.event → is_some o ≡ true
          → (l : Link) × (rule_link library n m ≡ Some l) × IsLink n rule m next.event l
      by (Some l) found same is = (l, same ∙ found, between_stands n rule l found)
      by None found same is = cc

pub links_stand : LinksStand
links_stand library n m rule next at there is = link_stands library m next there n rule at is

-- the link of the rest of a body, after a statement that has none
pub link_next : (m : ℕ) (event : Event) (path : Path) (i : ℕ) (s : Statement) (before rest : Body) (whole : Option Link) → before ≡ (s then rest) → None ≡ statement_link m event (item_at path i) s
    → body_link m event path i before ≡ whole → body_link m event path (i + 1) rest ≡ whole
link_next m event path i s before rest whole split none kept =
    let next : i + 1 ≡ suc i = omega arith in
    ap (λ k. body_link m event path k rest) next ∙ ap (λ o. option_or o (body_link m event path (suc i) rest)) none ∙ ap (body_link m event path i) (sym split) ∙ kept

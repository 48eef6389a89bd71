-- Each step on the counter keeps the rule.
use Rattle.std.proofs.Common.{◌≡◌, ◌≢◌, ℕ, zero, suc, ◌+◌, ◌%◌, ◌^◌, ◌<◌, ◌≤◌, min, List, [], ◌∷◌, ◌++◌, get_or, set, Bool, true, false, cond, refl, sym, ap, ◌∙◌, subst, ⊎_elim, arith}
use Rattle.std.specs.Prelude.{slice_index, slice_set, nat_lt, nat_eq}
use Rattle.std.proofs.lemmas.Bool.Decides.{nat_tests}
use mathlib.Core.Option.{some, some-injective, some-ne-none}
use lib.ListN.{get_elem?}
use Rattle.atomic_table.specs.Table.{Me, Act, Allows, Splits, Joins, Final, Seen, Valid, homes_after, carried_after, opening}
use Rattle.atomic_table.specs.Table.Act.{keeps}
use Rattle.atomic_table.proofs.Lists.{at_set, at_snoc}
use Rattle.hp_board.specs.declared.tally.Tally.{Tally}
use Rattle.hp_board.specs.declared.tally.Shape.{Shape}
use Rattle.hp_board.specs.Deal.{times, once_below, total, tally, IsTally, IsCounted, Counted, after_draw, fewer, newcomer, joined, nobody, Knows, Taken, Gathers, Ended}
use Rattle.hp_board.proofs.Totals.{times-append, total-append, total_set, total_at, total_lt, total_alone, total_get}

once_below-suc : (x w : ℕ) → once_below x (w + 1) ≡ once_below x w + cond (nat_eq w x) 1 0
once_below-suc x w = grind (arith, nat_tests)

times-one : (x w : ℕ) → times x (w ∷ []) ≡ cond (nat_eq w x) 1 0
times-one x w = omega arith

-- a tally that its seat's own step didn't change
later : (n w w' : ℕ) (v : Tally) → w ≤ w' → IsTally n w v → IsTally n w' v
later n w w' v up h = record { idle = h.idle; same = h.same; missed = h.missed; past = λ m. let p : n ≤ w = h.past m in omega arith }

each_set : (n w w' : ℕ) (views : List Tally) (id : ℕ) (u : Tally) → w ≤ w' → ((k : ℕ) (v : Tally) → get_elem? views k ≡ some v → IsTally n w v) → IsTally n w' u
    → (k : ℕ) (v : Tally) → get_elem? (set views id u) k ≡ some v → IsTally n w' v
each_set n w w' views id u up h mine k v e =
    ⊎_elim (λ (t : (k ≡ id) × (u ≡ v)). subst (IsTally n w') t.1 mine) (λ (t : (k ≢ id) × (get_elem? views k ≡ some v)). later n w w' v up (h k v t.1)) (at_set views id k u v e)

module _ (shape : Shape) (w : ℕ) (views : List Tally) (id : ℕ) (v : Tally) (d : IsCounted shape w views) (at : get_elem? views id ≡ some v) (one : v.parts ≡ 1) (none : v.missed ≡ 0) where
  spare : total (λ (u : Tally). u.missed) views < shape.seats
  spare = let l = total_lt (λ (u : Tally). u.missed) (λ (u : Tally). u.parts) views id v at (omega arith) (λ k u e. (d.each k u e).missed) in omega (arith, d.parts)

  pub no_wrap : w + 1 < 2 ^ 64
  no_wrap = omega (arith, spare, d.bound, d.fits)

  draws_new : w < shape.numbers → IsCounted shape (w + 1) (set views id (tally v.numbers v.parts (v.drawn ++ w ∷ []) v.missed))
  draws_new new = let u = tally v.numbers v.parts (v.drawn ++ w ∷ []) v.missed in record {
    fits = d.fits;
    parts = omega (arith, total_set (λ (y : Tally). y.parts) views id v u at, d.parts);
    drawn = λ x. let a = total_set (λ (y : Tally). times x y.drawn) views id v u at in let b = times-append x v.drawn (w ∷ []) in let c = times-one x w in let e = d.drawn x in
        let f : min w shape.numbers ≡ w = omega arith in let f' : min (w + 1) shape.numbers ≡ w + 1 = omega arith in
        let g = once_below-suc x w in let e' = rw f at e in rw f' (omega arith);
    bound = omega arith;
    each = each_set shape.numbers w (w + 1) views id u (omega arith) d.each (record {
      idle = λ z. absurd (omega arith);
      same = (d.each id v at).same;
      missed =
          omega arith;
      past = λ z. absurd (omega arith);
    });
  }

  draws_none : shape.numbers ≤ w → IsCounted shape (w + 1) (set views id (tally v.numbers v.parts v.drawn (v.missed + 1)))
  draws_none old = let u = tally v.numbers v.parts v.drawn (v.missed + 1) in record {
    fits = d.fits;
    parts = omega (arith, total_set (λ (y : Tally). y.parts) views id v u at, d.parts);
    drawn = λ x. let a = total_set (λ (y : Tally). times x y.drawn) views id v u at in let e = d.drawn x in
        let f : min w shape.numbers ≡ shape.numbers = omega arith in let f' : min (w + 1) shape.numbers ≡ shape.numbers = omega arith in
        let e' = rw f at e in rw f' (omega arith);
    bound = omega (arith, d.bound, total_set (λ (y : Tally). y.missed) views id v u at);
    each = each_set shape.numbers w (w + 1) views id u (omega arith) d.each (record { idle = λ z. absurd (omega arith); same = (d.each id v at).same; missed = omega arith; past = λ z. omega arith });
  }

  same_numbers : v.numbers ≡ shape.numbers
  same_numbers = (d.each id v at).same (omega arith)

  pub draws_step : IsCounted shape (w + 1) (set views id (after_draw v w))
  draws_step = go (nat_lt w v.numbers) refl
    where
      go : (b : Bool) → nat_lt w v.numbers ≡ b → IsCounted shape (w + 1) (set views id (cond b (tally v.numbers v.parts (v.drawn ++ w ∷ []) v.missed) (tally v.numbers v.parts v.drawn (v.missed + 1))))
      go true is = draws_new (let l : w < v.numbers = grind (arith, nat_tests) in omega (arith, same_numbers))
      go false is = draws_none (let l : v.numbers ≤ w = grind (arith, nat_tests) in omega (arith, same_numbers))

pub draws : (shape : Shape) (slots id : ℕ) (v : Tally) → v.parts ≡ 1 → v.missed ≡ 0
    → Allows (Counted shape) slots id (v, []) 0 (λ n. (n + 1) % 2 ^ 64) (λ found after. after ≡ (after_draw v found, []))
draws shape slots id v one none s h len at below =
    let w = h.0 in
    let d = h.2 in
    let P : List ℕ → Type 0 = λ ws. (u : Tally) × (a : Act ℕ) × Valid s.homes [] a
    × Counted shape (record { words = slice_set ws 0 ((slice_index ws 0 + 1) % 2 ^ 64); homes = homes_after s.homes [] a; views = slice_set s.views id u })
    × ◌≡◌ {A = Me ℕ Tally} (u, carried_after [] a) (after_draw v (slice_index ws 0), []) in
    let fits = no_wrap shape w s.views id v d at one none in
    let plain : (w + 1) % 2 ^ 64 ≡ w + 1 = omega arith in
    subst P (sym h.1) (after_draw v w, keeps, tt, (w + 1, ap (λ (n : ℕ). n ∷ []) plain, draws_step shape w s.views id v d at one none), refl)

pub opens : (shape : Shape) → shape.numbers + shape.seats < 2 ^ 64 → Counted shape (opening (0 ∷ []) [] (tally shape.numbers shape.seats [] 0))
opens shape fits = (
  0,
  refl,
  record {
    fits = fits;
    parts = omega arith;
    drawn = λ x. grind (arith, nat_tests);
    bound = omega arith;
    each = one;
  },
)
  where
    first : IsTally shape.numbers 0 (tally shape.numbers shape.seats [] 0)
    first = record { idle = λ _. refl; same = λ _. refl; missed = omega arith; past = λ z. absurd (omega arith) }

    one : (k : ℕ) (v : Tally) → get_elem? (tally shape.numbers shape.seats [] 0 ∷ []) k ≡ some v → IsTally shape.numbers 0 v
    one zero v e = subst (IsTally shape.numbers 0) (some-injective _ _ e) first
    one (suc k) v e = absurd (some-ne-none v (sym e))

past_of : (a b n w : ℕ) → (0 < a → n ≤ w) → (0 < b → n ≤ w) → 0 < a + b → n ≤ w
past_of zero b n w f g h = g (omega arith)
past_of (suc a) b n w f g h = f (omega arith)

module _ (shape : Shape) (w : ℕ) (views : List Tally) (d : IsCounted shape w views) where
  pub splits_off : (id : ℕ) (v : Tally) → get_elem? views id ≡ some v → 1 < v.parts → v.missed < v.parts → IsCounted shape w (set views id (fewer v) ++ newcomer v ∷ [])
  splits_off id v at more room = let l = set views id (fewer v) in let r = newcomer v ∷ [] in record {
    fits = d.fits;
    parts = omega (arith, total-append (λ (y : Tally). y.parts) l r, total_set (λ (y : Tally). y.parts) views id v (fewer v) at, d.parts);
    drawn = λ x. let a = total-append (λ (y : Tally). times x y.drawn) l r in let b = total_set (λ (y : Tally). times x y.drawn) views id v (fewer v) at in let e = d.drawn x in omega arith;
    bound = omega (arith, total-append (λ (y : Tally). y.missed) l r, total_set (λ (y : Tally). y.missed) views id v (fewer v) at, d.bound);
    each = λ k u e. ⊎_elim
        (λ (was : get_elem? l k ≡ some u). each_set shape.numbers w w views id (fewer v) (omega arith) d.each
        (let h = d.each id v at in record { idle = λ z. absurd (omega arith); same = λ _. h.same (omega arith); missed = omega arith; past = h.past }) k u was)
        (λ (is : newcomer v ≡ u). subst (IsTally shape.numbers w) is (let h = d.each id v at in record {
          idle = λ _. refl;
          same = λ _. h.same (omega arith);
          missed =
              omega arith;
          past = λ z. absurd (omega arith);
        }))
        (at_snoc l (newcomer v) u k e);
  }

  pub joins_in : (id : ℕ) (v : Tally) (other : ℕ) (u : Tally) → get_elem? views id ≡ some v → (other ≡ id → ⊥) → get_elem? (set views id (joined v u)) other ≡ some u → 0 < v.parts
      → IsCounted shape w (set (set views id (joined v u)) other nobody)
  joins_in id v other u at apart there part = let m = joined v u in let l = set views id m in
      let h = d.each id v at in
      let was : get_elem? views other ≡ some u = ⊎_elim (λ (t : (other ≡ id) × (m ≡ u)). absurd (apart t.0)) (λ (t : (other ≢ id) × (get_elem? views other ≡ some u)). t.1)
      (at_set views id other m u there) in
      let g = d.each other u was in record {
        fits = d.fits;
        parts = omega (arith, total_set (λ (y : Tally). y.parts) l other u nobody there, total_set (λ (y : Tally). y.parts) views id v m at, d.parts);
        drawn = λ x. let a = total_set (λ (y : Tally). times x y.drawn) l other u nobody there in let b = total_set (λ (y : Tally). times x y.drawn) views id v m at in
            let e = d.drawn x in let c = times-append x v.drawn u.drawn in omega arith;
        bound = omega (arith, total_set (λ (y : Tally). y.missed) l other u nobody there, total_set (λ (y : Tally). y.missed) views id v m at, d.bound);
        each = each_set shape.numbers w w l other nobody (omega arith)
            (each_set shape.numbers w w views id m (omega arith) d.each (record {
              idle = λ z. absurd (omega arith);
              same = λ _. h.same part;
              missed =
                  omega (arith, h.missed, g.missed);
              past = past_of v.missed u.missed shape.numbers w h.past g.past;
            }))
            (record { idle = λ _. refl; same = λ z. absurd (omega arith); missed = omega arith; past = λ z. absurd (omega arith) });
      }

pub splits : (shape : Shape) (id : ℕ) (v : Tally) → 1 < v.parts → v.missed < v.parts → Splits (Counted shape) id v (fewer v) (newcomer v)
splits shape id v more room s h at = (h.0, h.1, splits_off shape h.0 s.views h.2 id v at more room)

pub joins : (shape : Shape) (id : ℕ) (v : Tally) (other : ℕ) (u : Tally) → 0 < v.parts → Joins (Counted shape) id v other u (joined v u) nobody
joins shape id v other u part s h at apart there = (h.0, h.1, joins_in shape h.0 s.views h.2 id v other u at apart there part)

knows : (shape : Shape) (w : ℕ) (views : List Tally) → IsCounted shape w views → (id : ℕ) (v : Tally) → get_elem? views id ≡ some v → Knows shape w v
knows shape w views d id v at = record {
  once = λ x. let a = total_at (λ (y : Tally). times x y.drawn) views id v at in let e = d.drawn x in omega arith;
  every = λ all x. let a = total_alone (λ (y : Tally). times x y.drawn) (λ (y : Tally). y.parts) views id v at (omega (arith, d.parts)) (λ k u e z. ap (times x) ((d.each k u e).idle z)) in
      let e = d.drawn x in omega arith;
  past = (d.each id v at).past;
}

pub ends : (shape : Shape) (id : ℕ) (v : Tally) (ws xs : List ℕ) → Final (Seen (Counted shape) id v) ws xs → (w : ℕ) × (ws ≡ w ∷ []) × Knows shape w v
ends shape id v ws xs (s, (h, at), words, homes, rest) = (h.0, sym words ∙ h.1, knows shape h.0 s.views h.2 id v at)

-- the same for a seat that holds no slot
pub draws_as : (shape : Shape) (slots id : ℕ) (me : Me ℕ Tally) → me.1 ≡ [] → me.0.parts ≡ 1 → me.0.missed ≡ 0
    → Allows (Counted shape) slots id me 0 (λ n. (n + 1) % 2 ^ 64) (λ found after. after ≡ (after_draw me.0 found, me.1))
draws_as shape slots id me none one miss =
    let P : List (ℕ × ℕ) → Type 0 = λ l. Allows (Counted shape) slots id (me.0, l) 0 (λ n. (n + 1) % 2 ^ 64) (λ found after. ◌≡◌ {A = Me ℕ Tally} after (after_draw me.0 found, l)) in
    subst P (sym none) (draws shape slots id me.0 one miss)

pub ends_at : (shape : Shape) (id : ℕ) (v : Tally) (ws xs : List ℕ) (n : ℕ) → Final (Seen (Counted shape) id v) ws xs → get_elem? ws 0 ≡ some n → Knows shape n v
ends_at shape id v ws xs n f e =
    let t = ends shape id v ws xs f in
    let e' = subst (λ (l : List ℕ). get_elem? l 0 ≡ some n) t.1 e in
    subst (λ (k : ℕ). Knows shape k v) (some-injective t.0 n e') t.2

pub ended : (shape : Shape) (w : ℕ) (v : Tally) (ts : List Taken) → Knows shape w v → Gathers v ts → (n k : ℕ) → shape.numbers ≡ n → shape.seats ≡ k → Ended n k ts w
ended shape w v ts h g n k en ek =
    let P : ℕ → Type 0 = λ m. Ended m k ts w in
    subst P en record {
      once = λ x. let a = h.once x in let b = g.drawn x in omega arith;
      every = λ all x. let b = g.drawn x in sym b ∙ h.every (g.parts ∙ (all ∙ sym ek)) x;
      done = λ j d j<n is.
          let a : cond (get_or ts j d).done 1 0 ≤ total (λ (t : Taken). cond t.done 1 0) ts = total_get (λ (t : Taken). cond t.done 1 0) ts j d j<n in
          let b : cond (get_or ts j d).done 1 0 ≡ 1 = ap (λ (c : Bool). cond {A = ℕ} c 1 0) is in
          h.past (omega (arith, g.missed, a, b));
    }

pub ended_alone : (n k w : ℕ) (ts : List Taken) → ts ≡ [] → 0 < k → Ended n k ts w
ended_alone n k w ts e pos = let P : List Taken → Type 0 = λ l. Ended n k l w in subst P (sym e) record {
  once = λ x. omega arith;
  every = λ z. absurd (omega arith);
  done =
      λ j d h. absurd (omega arith);
}

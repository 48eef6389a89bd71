-- The layers of settled tasks, when tasks are posted and settled.
use Rattle.std.proofs.Common.{◌≡◌, ℕ, zero, suc, ◌+◌, ◌≤◌, List, [], ◌∷◌, ◌++◌, length, set, refl, ap, ◌∙◌, subst, arith, Option, Some, None, false, true}
use Rattle.std.specs.Prelude.{IsSome, is_some, slice_get}
use Rattle.std.specs.List.{cons_option}
use Rattle.std.specs.Option.{option_flatten}
use Rattle.std.proofs.lemmas.Option.{none-some, same_Some, slice_get_past}
use Rattle.hp_board.specs.declared.machine.Settling.{Settling}
use Rattle.hp_board.specs.declared.machine.Settling.TheVariants.{Accepted, Reran}
use Rattle.hp_board.specs.GroupFields.{settled_layer, settled_layers, AreSettled}

some_none : false ≡ true → ⊥
some_none h = cc

module _ {T : Type 0} where
  length-cons : (o : Option T) (xs : List T) → IsSome o → length (cons_option o xs) ≡ length xs + 1
  length-cons None xs h = absurd (some_none h)
  length-cons (Some x) xs h = omega arith

  cons-append : (o : Option T) (xs ys : List T) → cons_option o (xs ++ ys) ≡ cons_option o xs ++ ys
  cons-append None xs ys = refl
  cons-append (Some x) xs ys = refl

  slice_get-cons : (o : Option T) (xs : List T) (k : ℕ) → IsSome o → slice_get (cons_option o xs) (suc k) ≡ slice_get xs k
  slice_get-cons None xs k h = absurd (some_none h)
  slice_get-cons (Some x) xs k h = refl

  slice_get-head : (o : Option T) (xs : List T) → IsSome o → slice_get (cons_option o xs) 0 ≡ o
  slice_get-head None xs h = absurd (some_none h)
  slice_get-head (Some x) xs h = refl

  is_some_of : (o : Option T) (x : T) → o ≡ Some x → IsSome o
  is_some_of o x e = ap is_some e

  pub settled_len : (ps : List (Option T)) (ss : List (Settling T)) → AreSettled ps ss → length (settled_layers ps ss) ≡ length ss
  settled_len ps [] h = refl
  settled_len [] (s ∷ ss) h = absurd h
  settled_len (p ∷ ps) (s ∷ ss) h = omega (arith, length-cons (settled_layer p s) (settled_layers ps ss) h.0, settled_len ps ss h.1)

  pub settled_none : (ps : List (Option T)) (ss : List (Settling T)) (k : ℕ) → AreSettled ps ss → length ss ≤ k → slice_get (settled_layers ps ss) k ≡ None
  settled_none ps ss k h past = slice_get_past (settled_layers ps ss) k (omega (arith, settled_len ps ss h))

  pub settled_at : (ps : List (Option T)) (ss : List (Settling T)) (k : ℕ) (p : Option T) (s : Settling T) → AreSettled ps ss → slice_get ps k ≡ Some p → slice_get ss k ≡ Some s
      → slice_get (settled_layers ps ss) k ≡ settled_layer p s
  settled_at ps [] k p s h at is = absurd (none-some s is)
  settled_at [] (r ∷ ss) k p s h at is = absurd h
  settled_at (q ∷ ps) (r ∷ ss) zero p s h at is = slice_get-head (settled_layer q r) (settled_layers ps ss) h.0 ∙ (λ i. settled_layer (same_Some q p at i) (same_Some r s is i))
  settled_at (q ∷ ps) (r ∷ ss) (suc k) p s h at is = slice_get-cons (settled_layer q r) (settled_layers ps ss) k h.0 ∙ settled_at ps ss k p s h.1 at is

  -- a settled task is one of the tasks
  pub settled_fit : (ps : List (Option T)) (ss : List (Settling T)) → AreSettled ps ss → length ss ≤ length ps
  settled_fit ps [] h = omega arith
  settled_fit [] (s ∷ ss) h = absurd h
  settled_fit (p ∷ ps) (s ∷ ss) h = omega (arith, settled_fit ps ss h.1)

  -- one more task is settled, by a layer
  pub settles : (ps : List (Option T)) (ss : List (Settling T)) (p : Option T) (s : Settling T) (x : T) → AreSettled ps ss → slice_get ps (length ss) ≡ Some p → settled_layer p s ≡ Some x
      → (settled_layers ps (ss ++ s ∷ []) ≡ settled_layers ps ss ++ x ∷ []) × AreSettled ps (ss ++ s ∷ [])
  settles [] [] p s x h at is = absurd (none-some p at)
  settles (q ∷ ps) [] p s x h at is =
      let e : settled_layer q s ≡ Some x = ap (λ (o : Option T). settled_layer o s) (same_Some q p at) ∙ is in
      (ap (λ (o : Option T). cons_option o []) e, (is_some_of (settled_layer q s) x e, tt))
  settles [] (r ∷ ss) p s x h at is = absurd h
  settles (q ∷ ps) (r ∷ ss) p s x h at is =
      let t = settles ps ss p s x h.1 at is in
      (ap (cons_option (settled_layer q r)) t.0 ∙ cons-append (settled_layer q r) (settled_layers ps ss) (x ∷ []), (h.0, t.1))

  -- a task that wasn't posted wasn't settled by a posted layer, so a post changes nothing of what is settled
  pub keeps : (ps : List (Option T)) (ss : List (Settling T)) (i : ℕ) (x : T) → AreSettled ps ss → option_flatten (slice_get ps i) ≡ None
      → (settled_layers (set ps i (Some x)) ss ≡ settled_layers ps ss) × AreSettled (set ps i (Some x)) ss
  keeps ps [] i x h none = (refl, tt)
  keeps [] (s ∷ ss) i x h none = absurd h
  keeps (p ∷ ps) (Accepted ∷ ss) zero x h none = absurd (some_none (subst IsSome none h.0))
  keeps (p ∷ ps) (Reran y ∷ ss) zero x h none = (refl, h)
  keeps (p ∷ ps) (s ∷ ss) (suc i) x h none = let t = keeps ps ss i x h.1 none in (ap (cons_option (settled_layer p s)) t.0, (h.0, t.1))

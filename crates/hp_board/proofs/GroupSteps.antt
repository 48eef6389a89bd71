-- A group's step is the machine's: when an event is enabled, and what its effect is.
use Rattle.std.proofs.Common.{◌≡◌, ℕ, ◌<◌, List, [], ◌∷◌, ◌++◌, length, map, set, refl, sym, ap, ◌∙◌, subst, Option, Some, None, Bool, true, false, ◌&&◌, not, nat_lt, ◌==◌, arith, Vec}
use Rattle.std.specs.Prelude.{is_some, IsSome, IfSome, slice_get}
use Rattle.std.specs.Option.{option_map, option_flatten}
use Rattle.std.specs.declared.alloc.Global.{Global}
use Rattle.std.proofs.lemmas.Bool.Decides.{nat_tests}
use Rattle.std.proofs.lemmas.List.{length-map, map-set, map-append}
use Rattle.std.proofs.lemmas.Option.{slice_get-map}
use Rattle.hp_model.specs.Cells.{Cells, Changes, no_changes}
use Rattle.hp_model.specs.Groups as M
use Rattle.hp_board.specs.Groups.{GroupView, is_drawn, posted_at}
use Rattle.hp_board.specs.Mapped.{machine, event}
use Rattle.hp_board.specs.declared.machine.Event.{Event}
use Rattle.hp_board.specs.declared.machine.Event.TheVariants.{Draw, Look, Post, Accept, Rerun}

-- ---- tests

both-left : (a b : Bool) → (a && b) ≡ true → a ≡ true
both-left true b h = refl
both-left false b h = h

both-right : (a b : Bool) → (a && b) ≡ true → b ≡ true
both-right true b h = h
both-right false b h = cc

not_some : {X : Type 0} (o : Option X) → not (is_some o) ≡ true → o ≡ None
not_some None h = refl
not_some (Some x) h = cc

-- ---- what the machine of a group shows

module _ {A B : Type 0} (f : A → B) where
  option_flatten-map : (o : Option (Option A)) → option_flatten (option_map (option_map f) o) ≡ option_map f (option_flatten o)
  option_flatten-map None = refl
  option_flatten-map (Some o) = refl

  is_some-map : (o : Option A) → is_some (option_map f o) ≡ is_some o
  is_some-map None = refl
  is_some-map (Some x) = refl

module _ {T : Type 0} (g : GroupView T) (base : Cells) (changes : T → Changes) where
  posted_at-machine : (i : ℕ) → M.posted_at (machine base changes g) i ≡ option_map changes (posted_at g i)
  posted_at-machine i = ap option_flatten (slice_get-map (option_map changes) g.posted i) ∙ option_flatten-map changes (slice_get g.posted i)

  is_posted-machine : (i : ℕ) → is_some (M.posted_at (machine base changes g) i) ≡ is_some (posted_at g i)
  is_posted-machine i = ap is_some (posted_at-machine i) ∙ is_some-map changes (posted_at g i)

  -- the effects of the five events
  draws : (w : ℕ) → machine base changes (record g { drawn = g.drawn ++ w ∷ [] }) ≡ M.effect (machine base changes g) (M.draw w)
  draws w = refl

  looks : (w i : ℕ) (predecessors : List ℕ) → machine base changes (record g { seen = set g.seen i (Some predecessors) }) ≡ M.effect (machine base changes g) (M.look w i predecessors)
  looks w i predecessors = refl

  posts : (w i : ℕ) (x : T) → machine base changes (record g { posted = set g.posted i (Some x) }) ≡ M.effect (machine base changes g) (M.post w i (changes x))
  posts w i x k = record (machine base changes g) { posted = map-set (option_map changes) g.posted i (Some x) k }

  settles : (x : T) → machine base changes (record g { settled = g.settled ++ x ∷ [] }) ≡ M.settling (machine base changes g) (Some (changes x))
  settles x k = record (machine base changes g) { settled = map-append changes g.settled (x ∷ []) k }

  accepts : (i : ℕ) (x : T) → posted_at g i ≡ Some x → machine base changes (record g { settled = g.settled ++ x ∷ [] }) ≡ M.effect (machine base changes g) (M.accept i)
  accepts i x is = settles x ∙ ap (M.settling (machine base changes g)) (sym (posted_at-machine i ∙ ap (option_map changes) is))

-- ---- an event that is taken

steps_not : (m : M.Machine) (e : M.Event) → M.is_enabled m e ≡ false → M.step m e ≡ m
steps_not m e h = rw h

steps : (m : M.Machine) (e : M.Event) → M.is_enabled m e ≡ true → M.step m e ≡ M.effect m e
steps m e h = rw h

-- b says whether e is enabled
module _ {T : Type 0} (g : GroupView T) (e : Event T) (b : Bool) (tells : (base : Cells) (changes : T → Changes) → b ≡ M.is_enabled (machine base changes g) (event changes e)) where
  pub stays : b ≡ false → (base : Cells) (changes : T → Changes) → machine base changes g ≡ M.step (machine base changes g) (event changes e)
  stays failed base changes = sym (steps_not (machine base changes g) (event changes e) (sym (tells base changes) ∙ failed))

  module _ (yes : b ≡ true) where
    lands : (next : GroupView T) (base : Cells) (changes : T → Changes) → machine base changes next ≡ M.effect (machine base changes g) (event changes e)
        → machine base changes next ≡ M.step (machine base changes g) (event changes e)
    lands next base changes h = h ∙ sym (steps (machine base changes g) (event changes e) (sym (tells base changes) ∙ yes))

    -- the test, on empty cells and layers
    passed : (d : Event T) → e ≡ d → M.is_enabled (machine (λ _. None) (λ _. no_changes) g) (event (λ _. no_changes) d) ≡ true
    passed d is = ap (λ (x : Event T). M.is_enabled (machine (λ _. None) (λ _. no_changes) g) (event (λ _. no_changes) x)) (sym is) ∙ (sym (tells (λ _. None) (λ _. no_changes)) ∙ yes)

    pub draw_ready : (w : ℕ) → e ≡ Draw w → length g.drawn < length g.posted
    draw_ready w is = let h : nat_lt (length g.drawn) (length g.posted) ≡ true = ap (nat_lt (length g.drawn)) (sym (length-map g.posted (option_map (λ _. no_changes))))
        ∙ passed (Draw w) is in grind (arith, nat_tests)

    pub look_ready : (w i : ℕ) (predecessors : Vec ℕ Global) → e ≡ Look w i predecessors → i < length g.drawn
    look_ready w i predecessors is = let h : nat_lt i (length g.drawn) ≡ true = both-left _ _ (both-left (is_drawn g w i) _ (passed (Look w i predecessors) is)) in grind (arith, nat_tests)

    pub post_drawn : (w i : ℕ) (x : T) → e ≡ Post w i x → i < length g.drawn
    post_drawn w i x is = let h : nat_lt i (length g.drawn) ≡ true = both-left _ _ (both-left (is_drawn g w i) _ (passed (Post w i x) is)) in grind (arith, nat_tests)

    pub post_fresh : (w i : ℕ) (x : T) → e ≡ Post w i x → posted_at g i ≡ None
    post_fresh w i x is = not_some (posted_at g i) (ap not (sym (is_posted-machine g (λ _. None) (λ _. no_changes) i)) ∙ both-right _ _ (both-right (is_drawn g w i) _ (passed (Post w i x) is)))

    next_is : (i : ℕ) → (i == length (map (λ (x : T). no_changes) g.settled)) ≡ true → i ≡ length g.settled
    next_is i h = let n = length-map g.settled (λ (x : T). no_changes) in let s : i ≡ length (map (λ (x : T). no_changes) g.settled) = grind (arith, nat_tests) in s ∙ n

    pub accept_ready : (i : ℕ) → e ≡ Accept i → IsSome (posted_at g (length g.settled))
    accept_ready i is =
        let h = passed (Accept i) is in
        subst (λ (k : ℕ). IsSome (posted_at g k)) (next_is i (both-left _ _ h)) (sym (is_posted-machine g (λ _. None) (λ _. no_changes) i)
        ∙ both-right (i == length (map (λ (x : T). no_changes) g.settled)) _ h)

    pub rerun_ready : (i : ℕ) (x : T) → e ≡ Rerun i x → length g.settled < length g.posted
    rerun_ready i x is =
        let h = passed (Rerun i x) is in
        let a : i ≡ length g.settled = next_is i (both-left _ _ h) in
        let b' : nat_lt i (length g.posted) ≡ true = ap (nat_lt i) (sym (length-map g.posted (option_map (λ _. no_changes)))) ∙ both-right (i == length (map (λ (x : T). no_changes) g.settled)) _ h in
        let l : i < length g.posted = grind (arith, nat_tests) in
        subst (λ (k : ℕ). k < length g.posted) a l

    -- the machine of the group after an effect is the machine after the step
    module _ (next : GroupView T) (base : Cells) (changes : T → Changes) where
      abbrev m : M.Machine
      m = machine base changes g

      lands_as : (d : Event T) → e ≡ d → machine base changes next ≡ M.effect m (event changes d) → machine base changes next ≡ M.step m (event changes e)
      lands_as d is h = lands next base changes (h ∙ ap (λ (x : Event T). M.effect m (event changes x)) (sym is))

      pub draw_lands : (w : ℕ) → e ≡ Draw w → next ≡ record g { drawn = g.drawn ++ w ∷ [] } → machine base changes next ≡ M.step m (event changes e)
      draw_lands w is to = lands_as (Draw w) is (ap (machine base changes) to ∙ draws g base changes w)

      pub look_lands : (w i : ℕ) (predecessors : Vec ℕ Global) → e ≡ Look w i predecessors → next ≡ record g { seen = set g.seen i (Some predecessors.items) }
          → machine base changes next ≡ M.step m (event changes e)
      look_lands w i predecessors is to = lands_as (Look w i predecessors) is (ap (machine base changes) to ∙ looks g base changes w i predecessors.items)

      pub post_lands : (w i : ℕ) (x : T) → e ≡ Post w i x → next ≡ record g { posted = set g.posted i (Some x) } → machine base changes next ≡ M.step m (event changes e)
      post_lands w i x is to = lands_as (Post w i x) is (ap (machine base changes) to ∙ posts g base changes w i x)

      pub accept_lands : (i : ℕ) → e ≡ Accept i → IfSome (posted_at g (length g.settled)) (λ x. next ≡ record g { settled = g.settled ++ x ∷ [] })
          → machine base changes next ≡ M.step m (event changes e)
      accept_lands i is to = go (posted_at g (length g.settled)) refl to
        where
          at : i ≡ length g.settled
          at = next_is i (both-left _ _ (passed (Accept i) is))

          go : (o : Option T) → posted_at g (length g.settled) ≡ o → IfSome o (λ x. next ≡ record g { settled = g.settled ++ x ∷ [] }) → machine base changes next ≡ M.step m (event changes e)
          go None none t = absurd (let s = accept_ready i is in let n : is_some (posted_at g (length g.settled)) ≡ false = ap is_some none in cc)
          go (Some x) some t = lands_as (Accept i) is (ap (machine base changes) t ∙ accepts g base changes i x (ap (posted_at g) at ∙ some))

      pub rerun_lands : (i : ℕ) (x : T) → e ≡ Rerun i x → next ≡ record g { settled = g.settled ++ x ∷ [] } → machine base changes next ≡ M.step m (event changes e)
      rerun_lands i x is to = lands_as (Rerun i x) is (ap (machine base changes) to ∙ settles g base changes x)

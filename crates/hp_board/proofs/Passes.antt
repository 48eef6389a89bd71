-- What a step at one cell does to a pass.
use Rattle.std.proofs.Common.{◌≡◌, ℕ, zero, suc, ◌<◌, List, [], ◌∷◌, map, length, get_or, set, refl, sym, ap, ◌∙◌, subst, arith, Option, None, Some}
use Rattle.std.specs.Prelude.{IfNone, IfSome, All}
use Rattle.std.proofs.Math.ListN.{get_or-map}
use Rattle.std.proofs.Math.Seq.{map-set_same}
use Rattle.std.proofs.lemmas.List.Elements.{All-nil, All-cons, All-same}
use Rattle.std.specs.declared.alloc.Global.{Global}
use Rattle.once_cell.specs.Once.{cell_name}
use Rattle.hp_board.specs.Passes.{Fact, fact, cells_of, known_at, Agrees, IsPassOf, Learns, AgreeAt}

get_or-other : {X : Type 0} (l : List X) (i : ℕ) (d e : X) → i < length l → get_or l i d ≡ get_or l i e
get_or-other [] i d e h = absurd (omega arith)
get_or-other (x ∷ l) zero d e h = refl
get_or-other (x ∷ l) (suc i) d e h = get_or-other l i d e (omega arith)

length-map' : {X Y : Type 0} (f : X → Y) (l : List X) → length (map f l) ≡ length l
length-map' f [] = refl
length-map' f (x ∷ l) = ap suc (length-map' f l)

set_same : {X : Type 0} (l : List X) (i : ℕ) (x : X) → x ≡ get_or l i x → set l i x ≡ l
set_same [] i x e = refl
set_same (y ∷ l) zero x e = ap (λ z. z ∷ l) e
set_same (y ∷ l) (suc i) x e = ap (λ m. y ∷ m) (set_same l i x e)

module _ {T : Type 0} where
  pub length_of : (names : List ℕ) (facts : List (Fact T)) (i : ℕ) → IsPassOf names facts → i < length names → i < length facts
  length_of names facts i of h = omega (arith, length-map' (λ (f : Fact T). f.cell) facts, ap length of)

  pub pass_of : (names : List ℕ) (facts whole : List (Fact T)) → facts ≡ whole → IsPassOf names whole → IsPassOf names facts
  pass_of names facts whole is of = ap cells_of is ∙ of

  pub cell_name_at : (facts : List (Fact T)) (i : ℕ) (f : Fact T) → f ≡ get_or facts i f → get_or (cells_of facts) i f.cell ≡ f.cell
  cell_name_at facts i f at = get_or-map (λ (g : Fact T). g.cell) facts i f ∙ ap (λ (g : Fact T). g.cell) (sym at)

  module _ (facts : List (Fact T)) (i : ℕ) (f : Fact T) (at : f ≡ get_or facts i f) (in' : i < length facts) where
    fact_at : get_or facts i (fact 0 None) ≡ f
    fact_at = get_or-other facts i (fact 0 None) f in' ∙ sym at

    pub known_here : known_at facts i ≡ f.known
    known_here = ap (λ (g : Fact T). g.known) fact_at

    pub cell_at : (names : List ℕ) (cells : List (Global × ℕ)) (cell : Global × ℕ) → map cell_name cells ≡ names → IsPassOf names facts → cell ≡ get_or cells i cell → f.cell ≡ cell_name cell
    cell_at names cells cell named of at' =
        let b : get_or (map cell_name cells) i (cell_name cell) ≡ cell_name cell = get_or-map cell_name cells i cell ∙ ap cell_name (sym at') in
        let inside : i < length (cells_of facts) = omega (arith, length-map' (λ (g : Fact T). g.cell) facts) in
        sym (cell_name_at facts i f at) ∙ (get_or-other (cells_of facts) i f.cell (cell_name cell) inside ∙ (ap (λ l. get_or l i (cell_name cell)) (of ∙ sym named) ∙ b))

    -- the same of the pass as a clause sees it
    module _ (whole : List (Fact T)) (is : facts ≡ whole) where
      pub known_of : f.known ≡ None → known_at whole i ≡ None
      known_of old = subst (λ (l : List (Fact T)). known_at l i ≡ None) is (known_here ∙ old)

      module _ (f' : Fact T) (same : f'.cell ≡ f.cell) where
        pub learns : (x : T) → f'.known ≡ Some x → Agrees f.known x → Learns whole i x (set facts i f')
        learns x new old = subst (λ (l : List (Fact T)). Learns l i x (set facts i f')) is (
          ap (λ (g : Fact T). set facts i g) (λ j. fact ((same ∙ sym (ap (λ (g : Fact T). g.cell) fact_at)) j) (new j)),
          subst (λ (o : Option T). Agrees o x) (sym known_here) old,
        )

        pub still_of : (names : List ℕ) → IsPassOf names facts → IsPassOf names (set facts i f')
        still_of names of = map-set_same (λ (g : Fact T). g.cell) facts i f' f (same ∙ ap (λ (g : Fact T). g.cell) at) ∙ of

        pub looks_none : {X : Type 0} (o : Option X) → IfNone o ((f.known ≡ None) × (f'.known ≡ None)) → IfNone o ((known_at whole i ≡ None) × (set facts i f' ≡ whole))
        looks_none None m = (known_of m.0, ap (λ (g : Fact T). set facts i g) (λ j. fact (same j) ((m.1 ∙ sym m.0) j)) ∙ (set_same facts i f at ∙ is))
        looks_none (Some x) m = tt

        pub looks_some : {X : Type 0} (o : Option X) (now : X → T) → IfSome o (λ r. (f'.known ≡ Some (now r)) × Agrees f.known (now r)) → IfSome o (λ r. Learns whole i (now r) (set facts i f'))
        looks_some None now m = tt
        looks_some (Some r) now m = learns (now r) m.0 m.1

  pub agrees_none : (o : Option T) (x : T) → o ≡ None → Agrees o x
  agrees_none o x e = subst (λ (p : Option T). Agrees p x) (sym e) tt

  -- two passes of the same cells
  pub same_length : (fs gs : List (Fact T)) → cells_of fs ≡ cells_of gs → length fs ≡ length gs
  same_length fs gs e = sym (length-map' (λ (f : Fact T). f.cell) fs) ∙ (ap length e ∙ length-map' (λ (f : Fact T). f.cell) gs)

  pub meet_cell : (fs gs : List (Fact T)) (i : ℕ) (a b : Fact T) → cells_of fs ≡ cells_of gs → i < length fs → a ≡ get_or fs i a → b ≡ get_or gs i b → a.cell ≡ b.cell
  meet_cell fs gs i a b same in' ia ib =
      let inside : i < length (cells_of fs) = omega (arith, length-map' (λ (f : Fact T). f.cell) fs) in
      sym (cell_name_at fs i a ia) ∙ (get_or-other (cells_of fs) i a.cell b.cell inside ∙ (ap (λ l. get_or l i b.cell) same ∙ cell_name_at gs i b ib))

  pub meet_here : (fs gs : List (Fact T)) (i : ℕ) (a b : Fact T) → i < length fs → i < length gs → a ≡ get_or fs i a → b ≡ get_or gs i b → IfSome b.known (Agrees a.known) → AgreeAt fs gs i
  meet_here fs gs i a b in1 in2 ia ib h =
      let P : Option T → Option T → Type 0 = λ x y. IfSome y (Agrees x) in
      subst (λ (x : Option T). P x (known_at gs i)) (sym (known_here fs i a ia in1)) (subst (λ (y : Option T). P a.known y) (sym (known_here gs i b ib in2)) h)

  -- a pass that knows nothing
  abbrev pub fresh : Global × ℕ → Fact T
  fresh c = fact (cell_name c) None

  fresh_each : (cells : List (Global × ℕ)) → All (λ (f : Fact T). f.known ≡ None) (map fresh cells)
  fresh_each [] = All-nil (λ (f : Fact T). f.known ≡ None)
  fresh_each (c ∷ cells) = All-cons (λ (f : Fact T). f.known ≡ None) (fresh c) (map fresh cells) refl (fresh_each cells)

  pub all_fresh : (facts : List (Fact T)) (cells : List (Global × ℕ)) → facts ≡ map fresh cells → All (λ (f : Fact T). f.known ≡ None) facts
  all_fresh facts cells e = All-same (λ (f : Fact T). f.known ≡ None) facts (map fresh cells) e (fresh_each cells)

pub cells_of-fresh : (T : Type 0) (cells : List (Global × ℕ)) → cells_of {T = T} (map fresh cells) ≡ map cell_name cells
cells_of-fresh T [] = refl
cells_of-fresh T (c ∷ cells) = ap (λ l. cell_name c ∷ l) (cells_of-fresh T cells)

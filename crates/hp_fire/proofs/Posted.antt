-- What a worker has found to be posted by the predecessors of a task.
use Rattle.std.proofs.Common.{arith, ◌⊎◌, inl, inr, ◌≡◌, refl, sym, ap, ◌∙◌, subst, ℕ, zero, suc, ◌+◌, ◌<◌, ◌≤◌, List, length, Option, Some, None}
use Rattle.std.proofs.lemmas.List.{get_or-set_same, get_or-set_other}
use Rattle.std.proofs.lemmas.Bool.{cases_lt}
use Rattle.std.specs.Prelude.{IsSome, IfSome, IfNone}
use denote.Ref.{Bor}
use Rattle.std.specs.Option.{option_or}
use Rattle.hp_model.specs.Cells.{Cell, Cells, Changes, no_changes, over}
use Rattle.hp_model.proofs.BridgesCells.{over-over}
use Rattle.hp_board.specs.Passes.{Fact, fact, known_at, Agrees, IsPassOf, Learns}
use Rattle.hp_board.proofs.Passes.{length_of}
use Rattle.hp_fire.specs.declared.speculate.wave.Wave.{Wave}
use Rattle.hp_fire.specs.declared.speculate.pending.Tried.{Tried}
use Rattle.hp_fire.specs.Starts.{change_of, posted_below, AreMerged, Remembers, OnlyLearns, Posts, IsTriedBy, IsTriedFrom}

or_assoc : {X : Type 0} (a b c : Option X) → option_or (option_or a b) c ≡ option_or a (option_or b c)
or_assoc None b c = refl
or_assoc (Some x) b c = refl

or_none : {X : Type 0} (a b : Option X) → a ≡ None → option_or a b ≡ b
or_none a b none = ap (λ o. option_or o b) none

module _ {T : Type 0} where
  known_other : (facts : List (Fact T)) (i : ℕ) (x : T) (after : List (Fact T)) (j : ℕ) → Learns facts i x after → (j ≡ i → ⊥) → known_at after j ≡ known_at facts j
  known_other facts i x after j learns other =
      ap (λ l. known_at l j) learns.0 ∙ ap (λ (f : Fact T). f.known) (get_or-set_other facts i j _ (fact 0 None) other)

  known_same : (facts : List (Fact T)) (i : ℕ) (x : T) (after : List (Fact T)) → Learns facts i x after → i < length facts → known_at after i ≡ Some x
  known_same facts i x after learns inside =
      ap (λ l. known_at l i) learns.0 ∙ ap (λ (f : Fact T). f.known) (get_or-set_same facts i _ (fact 0 None) inside)

  agreed : (o : Option T) (x : T) → IsSome o → Agrees o x → Some x ≡ o
  agreed None x some agrees = cc
  agreed (Some y) x some agrees = ap Some (sym agrees)

  known_keeps : (facts : List (Fact T)) (i : ℕ) (x : T) (after : List (Fact T)) (j : ℕ) → Learns facts i x after → i < length facts → IsSome (known_at facts j) → known_at after j ≡ known_at facts j
  known_keeps facts i x after j learns inside some = by (cases_lt j i) (cases_lt i j)
    where
      by : (j < i) ⊎ (i ≤ j) → (i < j) ⊎ (j ≤ i) → known_at after j ≡ known_at facts j
      by (inl less) b = known_other facts i x after j learns (λ e. omega (arith, less, e))
      by (inr more) (inl less) = known_other facts i x after j learns (λ e. omega (arith, less, e))
      by (inr more) (inr most) =
          let same : j ≡ i = omega (arith, more, most) in
          ap (known_at after) same ∙ known_same facts i x after learns inside
          ∙ agreed (known_at facts i) x (subst (λ n. IsSome (known_at facts n)) same some) learns.1 ∙ ap (known_at facts) (sym same)

  -- ---- what a pass remembers

  pub remembers_same : (facts : List (Fact T)) → Remembers facts facts
  remembers_same facts = λ j was. refl

  pub remembers_then : (a b c : List (Fact T)) → Remembers a b → Remembers b c → Remembers a c
  remembers_then a b c one two = λ j was. two j (subst IsSome (sym (one j was)) was) ∙ one j was

  -- it learns what the task of number i has posted
  pub remembers_learns : (names : List ℕ) (facts : List (Fact T)) (i : ℕ) (x : T) (after : List (Fact T)) → IsPassOf names facts → i < length names → Learns facts i x after → Remembers facts after
  remembers_learns names facts i x after is inside learns = λ j was. known_keeps facts i x after j learns (length_of names facts i is inside) was

  -- it looks at the task of number i
  pub remembers_looked : (names : List ℕ) (facts after : List (Fact T)) (i : ℕ) (found : Option (Bor T)) → IsPassOf names facts → i < length names
      → IfNone found ((known_at facts i ≡ None) × (after ≡ facts)) → IfSome found (λ r. Learns facts i r.now after) → Remembers facts after
  remembers_looked names facts after i None is inside none some = λ j was. ap (λ l. known_at l j) none.1
  remembers_looked names facts after i (Some r) is inside none some = remembers_learns names facts i r.now after is inside some

  pub only_same : (p : Option (List (Fact T))) → OnlyLearns p p
  only_same None = tt
  only_same (Some facts) = (facts, refl, remembers_same facts)

  none_some : (facts : List (Fact T)) → None ≡ Some facts → ⊥
  none_some facts e = cc

  same_some : (facts others : List (Fact T)) → Some facts ≡ Some others → facts ≡ others
  same_some facts others e = cc

  pub only_then : (p q r : Option (List (Fact T))) → OnlyLearns p q → OnlyLearns q r → OnlyLearns p r
  only_then p q None one two = tt
  only_then p None (Some c) one two = absurd (none_some two.0 two.1)
  only_then p (Some b) (Some c) one two =
      (one.0, one.1, remembers_then one.0 b c one.2 (subst (λ (facts : List (Fact T)). Remembers facts c) (sym (same_some b two.0 two.1)) two.2))

  module _ (changes_of : T → Changes) where
    below_same : (facts after : List (Fact T)) (n : ℕ) (cell : Cell) → ((j : ℕ) → j < n → known_at after j ≡ known_at facts j)
        → posted_below changes_of after n cell ≡ posted_below changes_of facts n cell
    below_same facts after zero cell same = refl
    below_same facts after (suc n) cell same =
        ap (λ o. option_or (change_of changes_of o cell) (posted_below changes_of after n cell)) (same n (omega arith))
        ∙ ap (option_or (change_of changes_of (known_at facts n) cell)) (below_same facts after n cell (λ j less. same j (omega (arith, less))))

    -- what is merged stays so, whatever the pass learns
    pub merged_learns : (facts : List (Fact T)) (i : ℕ) (x : T) (after : List (Fact T)) (count : ℕ) (merged : Changes) → Learns facts i x after → i < length facts
        → AreMerged changes_of facts count merged → AreMerged changes_of after count merged
    merged_learns facts i x after count merged learns inside are = record {
      each = λ j less. subst IsSome (sym (keeps j less)) (are.each j less);
      changes = λ cell. are.changes cell ∙ sym (below_same facts after count cell keeps);
    }
      where
        keeps : (j : ℕ) → j < count → known_at after j ≡ known_at facts j
        keeps j less = known_keeps facts i x after j learns inside (are.each j less)

    -- nothing is merged
    pub merged_none : (facts : List (Fact T)) (count : ℕ) (merged : Changes) → count ≡ 0 → ((cell : Cell) → merged cell ≡ None) → AreMerged changes_of facts count merged
    merged_none facts count merged none empty = record {
      each = λ j less. absurd (omega (arith, none, less));
      changes = λ cell. empty cell ∙ ap (λ n. posted_below changes_of facts n cell) (sym none);
    }

    -- as far as the numbers below i are looked at: some layers are merged, and others were found later
    pub record AreFound (facts : List (Fact T)) (count : ℕ) (merged later : Changes) (i : ℕ) : Type 0 where
      pub from : count ≤ i
      pub none : count ≡ i → (cell : Cell) → later cell ≡ None
      pub all : (cell : Cell) → option_or (later cell) (merged cell) ≡ posted_below changes_of facts i cell
      pub merged_are : AreMerged changes_of facts count merged

    pub found_starts : (facts : List (Fact T)) (count : ℕ) (merged later : Changes) → ((cell : Cell) → later cell ≡ None) → AreMerged changes_of facts count merged
        → AreFound facts count merged later count
    found_starts facts count merged later empty are = record {
      from = omega arith;
      none = λ _. empty;
      all = λ cell. or_none (later cell) (merged cell) (empty cell) ∙ are.changes cell;
      merged_are = are;
    }

    -- the task of number i has posted nothing that is found
    pub found_none : (facts : List (Fact T)) (count : ℕ) (merged later : Changes) (i : ℕ) → known_at facts i ≡ None → AreFound facts count merged later i → AreFound facts count merged later (suc i)
    found_none facts count merged later i unknown f = record {
      from = omega (arith, f.from);
      none = λ e. absurd (omega (arith, f.from, e));
      all = λ cell. f.all cell ∙ sym (ap (λ o. option_or (change_of changes_of o cell) (posted_below changes_of facts i cell)) unknown);
      merged_are = f.merged_are;
    }

    below_learns : (facts : List (Fact T)) (i : ℕ) (x : T) (after : List (Fact T)) (cell : Cell) → Learns facts i x after → i < length facts
        → posted_below changes_of after (suc i) cell ≡ option_or (changes_of x cell) (posted_below changes_of facts i cell)
    below_learns facts i x after cell learns inside =
        ap (λ o. option_or (change_of changes_of o cell) (posted_below changes_of after i cell)) (known_same facts i x after learns inside)
        ∙ ap (option_or (changes_of x cell)) (below_same facts after i cell (λ j less. known_other facts i x after j learns (λ e. omega (arith, less, e))))

    -- its layer is found, and is the next to be merged
    pub found_next : (facts : List (Fact T)) (i : ℕ) (x : T) (after : List (Fact T)) (count : ℕ) (merged later merged' : Changes) → Learns facts i x after → i < length facts
        → AreFound facts count merged later i → i ≡ count → ((cell : Cell) → merged' cell ≡ option_or (changes_of x cell) (merged cell)) → AreFound after (suc i) merged' later (suc i)
    found_next facts i x after count merged later merged' learns inside f is grown = record {
      from = omega arith;
      none = λ _. empty;
      all = λ cell. or_none (later cell) (merged' cell) (empty cell) ∙ whole cell;
      merged_are = record { each = each; changes = whole };
    }
      where
        empty : (cell : Cell) → later cell ≡ None
        empty = f.none (sym is)

        whole : (cell : Cell) → merged' cell ≡ posted_below changes_of after (suc i) cell
        whole cell = grown cell ∙ ap (option_or (changes_of x cell)) (sym (or_none (later cell) (merged cell) (empty cell)) ∙ f.all cell) ∙ sym (below_learns facts i x after cell learns inside)

        each : (j : ℕ) → j < suc i → IsSome (known_at after j)
        each j less = by (cases_lt j i)
          where
            by : (j < i) ⊎ (i ≤ j) → IsSome (known_at after j)
            by (inl before) = subst IsSome (sym (known_other facts i x after j learns (λ e. omega (arith, before, e)))) (f.merged_are.each j (omega (arith, before, is)))
            by (inr here) =
                let same : j ≡ i = omega (arith, less, here) in
                subst (λ n. IsSome (known_at after n)) (sym same) (subst IsSome (sym (known_same facts i x after learns inside)) refl)

    -- its layer is found, after one that is missing
    pub found_later : (facts : List (Fact T)) (i : ℕ) (x : T) (after : List (Fact T)) (count : ℕ) (merged later later' : Changes) → Learns facts i x after → i < length facts
        → AreFound facts count merged later i → (i ≡ count → ⊥) → ((cell : Cell) → later' cell ≡ option_or (changes_of x cell) (later cell)) → AreFound after count merged later' (suc i)
    found_later facts i x after count merged later later' learns inside f other grown = record {
      from = omega (arith, f.from);
      none = λ e. absurd (omega (arith, f.from, e));
      all = λ cell. ap (λ o. option_or o (merged cell)) (grown cell) ∙ or_assoc (changes_of x cell) (later cell) (merged cell)
          ∙ ap (option_or (changes_of x cell)) (f.all cell) ∙ sym (below_learns facts i x after cell learns inside);
      merged_are = merged_learns facts i x after count merged learns inside f.merged_are;
    }

    -- the cells under all that was found
    pub found_cells : (base : Cells) (facts : List (Fact T)) (count : ℕ) (merged later : Changes) (n : ℕ) → AreFound facts count merged later n
        → over (over base merged) later ≡ over base (posted_below changes_of facts n)
    found_cells base facts count merged later n f = over-over base merged later ∙ (λ i. over base (λ cell. f.all cell i))

    -- what is merged stays so after a look at the task of number i
    pub merged_looked : (names : List ℕ) (facts after : List (Fact T)) (i count : ℕ) (merged : Changes) (found : Option (Bor T)) → IsPassOf names facts → i < length names
        → IfNone found ((known_at facts i ≡ None) × (after ≡ facts)) → IfSome found (λ r. Learns facts i r.now after)
        → AreMerged changes_of facts count merged → AreMerged changes_of after count merged
    merged_looked names facts after i count merged None is inside none some are = subst (λ l. AreMerged changes_of l count merged) (sym none.1) are
    merged_looked names facts after i count merged (Some r) is inside none some are = merged_learns facts i r.now after count merged some (length_of names facts i is inside) are

    -- the task of number i is looked at, and its layer isn't found
    pub found_nothing : (facts after : List (Fact T)) (i next count : ℕ) (merged later : Changes) → next ≡ suc i → (known_at facts i ≡ None) × (after ≡ facts)
        → AreFound facts count merged later i → AreFound after count merged later next
    found_nothing facts after i next count merged later is none f =
        subst (AreFound after count merged later) (sym is) (subst (λ l. AreFound l count merged later (suc i)) (sym none.1) (found_none facts count merged later i none.0 f))

    -- its layer is found, and taken in
    pub found_layer : (names : List ℕ) (facts after : List (Fact T)) (i next : ℕ) (x : T) (count count' : ℕ) (merged merged' later later' : Changes) → IsPassOf names facts → i < length names
        → next ≡ suc i → Learns facts i x after → AreFound facts count merged later i
        → (i ≡ count → (cell : Cell) → merged' cell ≡ option_or (changes_of x cell) (merged cell))
        → (i ≡ count → (count' ≡ i + 1) × ((cell : Cell) → later' cell ≡ later cell))
        → ((i ≡ count → ⊥) → (cell : Cell) → later' cell ≡ option_or (changes_of x cell) (later cell))
        → ((i ≡ count → ⊥) → (count' ≡ count) × ((cell : Cell) → merged' cell ≡ merged cell))
        → AreFound after count' merged' later' next
    found_layer names facts after i next x count count' merged merged' later later' is inside step learns f at_next after_next at_later after_later =
        subst (AreFound after count' merged' later') (sym step) (by (cases_lt count i))
      where
        within : i < length facts
        within = length_of names facts i is inside

        by : (count < i) ⊎ (i ≤ count) → AreFound after count' merged' later' (suc i)
        by (inl less) =
            let other : i ≡ count → ⊥ = λ e. omega (arith, less, e) in
            let same : count' ≡ count = (after_later other).0 in
            subst (λ n. AreFound after n merged' later' (suc i)) (sym same)
            (found_later facts i x after count merged' later later' learns within
            (record {
              from = f.from;
              none = f.none;
              all = λ cell. ap (λ o. option_or (later cell) o) ((after_later other).1 cell) ∙ f.all cell;
              merged_are = record { each = f.merged_are.each; changes = λ cell. (after_later other).1 cell ∙ f.merged_are.changes cell };
            }) other (at_later other))
        by (inr most) =
            let here : i ≡ count = omega (arith, most, f.from) in
            let grown : count' ≡ suc i = omega (arith, (after_next here).0) in
            subst (λ n. AreFound after n merged' later' (suc i)) (sym grown)
            (found_next facts i x after count merged later' merged' learns within
            (record {
              from = f.from;
              none = λ e cell. (after_next here).1 cell ∙ f.none e cell;
              all = λ cell. ap (λ o. option_or o (merged cell)) ((after_next here).1 cell) ∙ f.all cell;
              merged_are = f.merged_are;
            }) here (at_next here))

-- a layer that changes nothing
pub over_none : (base : Cells) (changes : Changes) → changes ≡ no_changes → over base changes ≡ base
over_none base changes none = ap (over base) none ∙ (λ i cell. base cell)

-- ---- tried tasks

-- the pass has only learned before
pub tried_since : (w : Wave) (first before after : Option Posts) (t : Tried) → OnlyLearns first before → IsTriedBy w before after t → IsTriedBy w first after t
tried_since w first before after t since tried = record {
  number = tried.number;
  index = tried.index;
  posts = tried.posts;
  then_knew = only_then first before (Some tried.posts) since tried.then_knew;
  still_knows = tried.still_knows;
  has_pass = tried.has_pass;
  held = tried.held;
}

pub tried_from : (w : Wave) (before after : Option Posts) (t : Tried) → IsTriedBy w before after t → IsTriedFrom w.snapshot w.done t
tried_from w before after t tried = record { number = tried.number; index = tried.index; posts = tried.posts; held = tried.held }

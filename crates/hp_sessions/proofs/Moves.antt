-- Each step keeps what seats know true.
use Rattle.std.proofs.Common.{◌≡◌, ◌≢◌, ℕ, zero, suc, List, [], ◌∷◌, ◌++◌, set, true, false, true≢false, refl, sym, ap, ◌∙◌, subst, ⊎_elim}
use mathlib.Core.Option.{some, some-ne-none, some-injective}
use mathlib.Core.List.{IsPrefix}
use lib.ListN.{get_elem?}
use Rattle.atomic_table.specs.Table.{State, Me, Allows, Splits, Joins}
use Rattle.atomic_table.specs.Table.Act.{keeps}
use Rattle.atomic_table.proofs.Lists.{at_set, at_snoc, set_again}
use Rattle.hp_sessions.specs.declared.entry.Entry.{Entry}
use Rattle.hp_sessions.specs.declared.tokens.View.{View}
use Rattle.hp_sessions.specs.Tokens.{view, book_of, reader_of, shown, Fits, Kept, Appended, Compared}
use Rattle.hp_sessions.proofs.Fronts.{prefix_self, prefix_nil, prefix_longer}

off : {X : Type 0} → false ≡ true → X
off e = absurd (true≢false (sym e))

reader_fits : (seat by : ℕ) (log list : List Entry) → IsPrefix list log → Fits seat log by (reader_of list)
reader_fits seat by log list p = record { book = λ e. off e; knows = p; shows = prefix_nil log }

fits_set : (seat : ℕ) (log now : List Entry) (views : List View) (by : ℕ) (w : View) → ((j : ℕ) (u : View) → j ≢ by → get_elem? views j ≡ some u → Fits seat now j u) → Fits seat now by w
    → (j : ℕ) (u : View) → get_elem? (set views by w) j ≡ some u → Fits seat now j u
fits_set seat log now views by w others mine j u e =
    ⊎_elim
    (λ (x : (j ≡ by) × (w ≡ u)). subst (λ (y : ℕ × View). Fits seat now y.0 y.1) (λ i. (sym x.0 i, x.1 i)) mine)
    (λ (x : (j ≢ by) × (get_elem? views j ≡ some u)). others j u x.0 x.1)
    (at_set views by j w u e)

pub begins : Kept (book_of [] ∷ [])
begins = (0, [], one)
  where
    one : (by : ℕ) (v : View) → get_elem? (book_of [] ∷ []) by ≡ some v → Fits 0 [] by v
    one zero v e = subst (Fits 0 [] 0) (some-injective _ _ e) (record { book = λ _. (refl, refl); knows = prefix_nil []; shows = prefix_nil [] })
    one (suc by) v e = absurd (some-ne-none v (sym e))

abbrev Rule : State Entry View → Type 0
Rule s = Kept s.views

pub appends : (slots id : ℕ) (me : Me Entry View) (f : ℕ → ℕ) (e : Entry) → me.0.keeps ≡ true → Allows Rule slots id me 0 f (λ found now. Appended (some e) me now)
appends slots id me f e book s h len at below =
    let v = me.0 in
    let mine = h.2 id v at in
    let b = mine.book book in
    let log = h.1 ++ e ∷ [] in
    let w = view v.keeps (v.list ++ e ∷ []) [] in
    let same : v.list ++ e ∷ [] ≡ log = ap (λ l. l ++ e ∷ []) b.1 in (
      w,
      keeps,
      tt,
      (
        h.0,
        log,
        fits_set h.0 log log s.views id w
            (λ j u apart there.
            let was = h.2 j u there in
            record { book = λ k. absurd (apart ((was.book k).0 ∙ sym b.0)); knows = prefix_longer u.list h.1 (e ∷ []) was.knows; shows = prefix_longer u.shown h.1 (e ∷ []) was.shows })
            (record { book = λ _. (b.0, same); knows = subst (λ l. IsPrefix (v.list ++ e ∷ []) l) same (prefix_self (v.list ++ e ∷ [])); shows = prefix_nil log }),
      ),
      refl,
    )

pub compares : (slots id : ℕ) (me : Me Entry View) (f : ℕ → ℕ) → Allows Rule slots id me 0 f (λ found now. Compared me now)
compares slots id me f s h len at below =
    let v = me.0 in
    let mine = h.2 id v at in
    let w = view v.keeps v.list [] in (
      w,
      keeps,
      tt,
      (h.0, h.1, fits_set h.0 h.1 h.1 s.views id w (λ j u apart there. h.2 j u there) (record { book = mine.book; knows = mine.knows; shows = prefix_nil h.1 })),
      (refl, λ k. subst (λ l. IsPrefix v.shown l) (sym (mine.book k).1) mine.shows),
    )

pub copies : (id : ℕ) (v : View) → Splits Rule id v v (reader_of v.list)
copies id v s h at = (
  h.0,
  h.1,
  λ j u e. ⊎_elim
      (λ was. h.2 j u (subst (λ l. get_elem? l j ≡ some u) (set_again s.views id v at) was))
      (λ (same : reader_of v.list ≡ u). subst (Fits h.0 h.1 j) same (reader_fits h.0 j h.1 v.list (h.2 id v at).knows))
      (at_snoc (set s.views id v) (reader_of v.list) u j e),
)

pub shows : (id : ℕ) (v : View) (other : ℕ) (w : View) → Joins Rule id v other w (shown v w) (reader_of [])
shows id v other w s h at apart there =
    let m = shown v w in
    let mine = h.2 id v at in
    let theirs = ⊎_elim (λ (t : (other ≡ id) × (m ≡ w)). absurd (apart t.0)) (λ (t : (other ≢ id) × (get_elem? s.views other ≡ some w)). h.2 other w t.1) (at_set s.views id other m w there) in (
      h.0,
      h.1,
      fits_set h.0 h.1 h.1 (set s.views id m) other (reader_of [])
          (λ j u _ e. fits_set h.0 h.1 h.1 s.views id m (λ i y _ e'. h.2 i y e') (record { book = mine.book; knows = mine.knows; shows = theirs.knows }) j u e)
          (reader_fits h.0 other h.1 [] (prefix_nil h.1)),
    )

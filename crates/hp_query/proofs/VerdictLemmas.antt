-- The verdict on a condition, one entry after another.
use Rattle.std.proofs.Common.{◌≡◌, ℕ, suc, ◌+◌, ◌<◌, ◌≤◌, length, get_or, drop, add-one, List, [], ◌∷◌, ◌++◌}
use Rattle.std.proofs.Common.{map, Option, Some, None, Ok, Err, refl, sym, ap, ◌∙◌, append-nil, append_assoc, subst}
use Rattle.std.proofs.Math.Seq.{drop-cons}
use Rattle.std.proofs.Math.ListN.{drop_of_length-le}
use Rattle.hp_model.specs.Values.{Name, NamedValues, Value, KeyedRow, Cause, Outcome}
use Rattle.hp_model.specs.Expressions.{Environment, bound, holding}
use Rattle.hp_model.specs.State.{Objects}
use Rattle.hp_model.specs.Rules.{Entry, query_entry, no_entry, let_entry}
use Rattle.hp_model.specs.Conditions.{answer, aggregated, Answers, Findings, no_findings, Verdict, satisfied, unsatisfied, faulty}
use Rattle.hp_model.specs.Conditions.{keeping, keeping_value, if_answered, if_unanswered, if_valued, verdict, with_answers, with_values, with_findings}
use Rattle.hp_query.specs.Findings.{joined}

-- ---- lists

pub split_at : {A : Type 0} (xs : List A) (i : ℕ) (x : A) → i < length xs → x ≡ get_or xs i x → drop i xs ≡ x ∷ drop (i + 1) xs
split_at xs i x within is = rw add-one (drop-cons xs i x within ∙ ap (λ y. y ∷ drop (suc i) xs) (sym is))

-- ---- the environment after what was found

with_answers-append : (env : Environment) (as' bs : Answers) → with_answers env (as' ++ bs) ≡ with_answers (with_answers env as') bs
with_answers-append env [] bs = refl
with_answers-append env ((x, []) ∷ as') bs = with_answers-append env as' bs
with_answers-append env ((x, r ∷ rs) ∷ as') bs = with_answers-append (bound x r env) as' bs

with_values-append : (env : Environment) (vs ws : NamedValues) → with_values env (vs ++ ws) ≡ with_values (with_values env vs) ws
with_values-append env [] ws = refl
with_values-append env (v ∷ vs) ws = with_values-append (holding v.0 v.1 env) vs ws

with_values-bound : (env : Environment) (x : Name) (r : KeyedRow) (vs : NamedValues) → with_values (bound x r env) vs ≡ bound x r (with_values env vs)
with_values-bound env x r [] = refl
with_values-bound env x r (v ∷ vs) = with_values-bound (holding v.0 v.1 env) x r vs

-- rows and values have names of their own, so their order doesn't matter
with_values-answers : (env : Environment) (vs : NamedValues) (as' : Answers) → with_values (with_answers env as') vs ≡ with_answers (with_values env vs) as'
with_values-answers env vs [] = refl
with_values-answers env vs ((x, []) ∷ as') = with_values-answers env vs as'
with_values-answers env vs ((x, r ∷ rs) ∷ as') = with_values-answers (bound x r env) vs as' ∙ ap (λ e. with_answers e as') (with_values-bound env x r vs)

with_findings-joined : (env : Environment) (f g : Findings) → with_findings env (joined f g) ≡ with_findings (with_findings env f) g
with_findings-joined env f g =
    ap (λ e. with_values e (f.values ++ g.values)) (with_answers-append env f.answers g.answers)
    ∙ with_values-append (with_answers (with_answers env f.answers) g.answers) f.values g.values
    ∙ ap (λ e. with_values e g.values) (with_values-answers (with_answers env f.answers) f.values g.answers)

-- ---- a verdict after what was found

abbrev pub after : Findings → Verdict → Verdict
after f (satisfied g) = satisfied (joined f g)
after f unsatisfied = unsatisfied
after f (faulty c) = faulty c

after_joined : (f g : Findings) (v : Verdict) → after (joined f g) v ≡ after f (after g v)
after_joined f g (satisfied h) =
    ap satisfied (λ i. record { answers = append_assoc f.answers g.answers h.answers i; values = append_assoc f.values g.values h.values i })
after_joined f g unsatisfied = refl
after_joined f g (faulty c) = refl

after_nothing : (v : Verdict) → after no_findings v ≡ v
after_nothing (satisfied f) = refl
after_nothing unsatisfied = refl
after_nothing (faulty c) = refl

after_last : (f : Findings) → after f (satisfied no_findings) ≡ satisfied f
after_last f = ap satisfied (λ i. record { answers = append-nil f.answers i; values = append-nil f.values i })

after_answer : (x : Name) (rows : List KeyedRow) (v : Verdict) → keeping x rows v ≡ after (record { answers = (x, rows) ∷ []; values = [] }) v
after_answer x rows (satisfied f) = refl
after_answer x rows unsatisfied = refl
after_answer x rows (faulty c) = refl

after_value : (x : Name) (w : Value) (v : Verdict) → keeping_value x w v ≡ after (record { answers = []; values = (x, w) ∷ [] }) v
after_value x w (satisfied f) = refl
after_value x w unsatisfied = refl
after_value x w (faulty c) = refl

-- ---- the first entry, and then the others

abbrev followed : Verdict → (Findings → Verdict) → Verdict
followed (satisfied f) next = after f (next f)
followed unsatisfied next = unsatisfied
followed (faulty c) next = faulty c

module _ (objects : Objects) (env : Environment) (es : List Entry) where
  abbrev others : Findings → Verdict
  others f = verdict objects (with_findings env f) es

  by_answer : (x : Name) (o : Outcome (List KeyedRow))
      → if_answered x o (λ first. verdict objects (bound x first env) es) ≡ followed (if_answered x o (λ first. satisfied no_findings)) others
  by_answer x (Err c) = refl
  by_answer x (Ok []) = refl
  by_answer x (Ok (r ∷ rs)) = after_answer x (r ∷ rs) (verdict objects (bound x r env) es)

  by_none : (o : Outcome (List KeyedRow)) → if_unanswered o (verdict objects env es) ≡ followed (if_unanswered o (satisfied no_findings)) others
  by_none (Err c) = refl
  by_none (Ok []) = sym (after_nothing (verdict objects env es))
  by_none (Ok (r ∷ rs)) = refl

  by_value : (x : Name) (o : Outcome (Option Value)) → if_valued x o (λ v. verdict objects (holding x v env) es) ≡ followed (if_valued x o (λ v. satisfied no_findings)) others
  by_value x (Err c) = refl
  by_value x (Ok None) = refl
  by_value x (Ok (Some v)) = after_value x v (verdict objects (holding x v env) es)

  verdict-cons : (e : Entry) → verdict objects env (e ∷ es) ≡ followed (verdict objects env (e ∷ [])) others
  verdict-cons (query_entry q) = by_answer q.name (answer env q.name q.class q.predicate objects)
  verdict-cons (no_entry q) = by_none (answer env q.name q.class q.predicate objects)
  verdict-cons (let_entry x a) = by_value x (aggregated objects env a)

-- ---- the entries that are left

module _ (objects : Objects) (env : Environment) (entries : List Entry) where
  -- the verdict on the entries that are left, after what was found so far, is the condition's
  pub record Continues (found : Findings) (left : List Entry) : Type 0 where
    pub same : after found (verdict objects (with_findings env found) left) ≡ verdict objects env entries

module _ {objects : Objects} {env : Environment} {entries : List Entry} where
  goes_by : (found : Findings) (e : Entry) (left : List Entry) (v : Verdict) → Continues objects env entries found (e ∷ left) → v ≡ verdict objects (with_findings env found) (e ∷ [])
      → after found (followed v (λ f. verdict objects (with_findings (with_findings env found) f) left)) ≡ verdict objects env entries
  goes_by found e left v continues is =
      ap (λ w. after found (followed w (λ f. verdict objects (with_findings (with_findings env found) f) left))) is
      ∙ sym (ap (after found) (verdict-cons objects (with_findings env found) left e)) ∙ continues.same

  pub continues_found : (found more : Findings) (e : Entry) (left : List Entry) → Continues objects env entries found (e ∷ left) → satisfied more ≡ verdict objects (with_findings env found) (e ∷ [])
      → Continues objects env entries (joined found more) left
  continues_found found more e left continues is = record {
    same =
        ap (λ s. after (joined found more) (verdict objects s left)) (with_findings-joined env found more)
        ∙ after_joined found more (verdict objects (with_findings (with_findings env found) more) left)
        ∙ goes_by found e left (satisfied more) continues is;
  }

  pub continues_unsatisfied : (found : Findings) (e : Entry) (left : List Entry) → Continues objects env entries found (e ∷ left) → unsatisfied ≡ verdict objects (with_findings env found) (e ∷ [])
      → unsatisfied ≡ verdict objects env entries
  continues_unsatisfied found e left continues is = goes_by found e left unsatisfied continues is

  pub continues_faulty : (found : Findings) (e : Entry) (left : List Entry) (c : Cause) → Continues objects env entries found (e ∷ left) → faulty c ≡ verdict objects (with_findings env found) (e ∷ [])
      → faulty c ≡ verdict objects env entries
  continues_faulty found e left c continues is = goes_by found e left (faulty c) continues is

  pub continues_last : (found : Findings) → Continues objects env entries found [] → satisfied found ≡ verdict objects env entries
  continues_last found continues = sym (after_last found) ∙ continues.same

  -- the entries that are left from an index on
  pub continues_at : {A : Type 0} (f : A → Entry) (xs : List A) (i : ℕ) (x : A) (found : Findings) → i < length xs → x ≡ get_or xs i x
      → Continues objects env entries found (map f (drop i xs)) → Continues objects env entries found (f x ∷ map f (drop (i + 1) xs))
  continues_at f xs i x found within is continues = subst (λ ys. Continues objects env entries found (map f ys)) (split_at xs i x within is) continues

  pub continues_past : {A : Type 0} (f : A → Entry) (xs : List A) (i : ℕ) (found : Findings) → length xs ≤ i → Continues objects env entries found (map f (drop i xs))
      → Continues objects env entries found []
  continues_past f xs i found past continues = subst (λ ys. Continues objects env entries found (map f ys)) (drop_of_length-le xs past) continues

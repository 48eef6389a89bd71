-- The list that a loop over detached tasks collects.
use Rattle.std.proofs.Common.{◌≡◌, refl, sym, ap, ◌∙◌, ℕ, ◌≤◌, ◌==◌, length, arith, true≢false, true, false, List, [], ◌∷◌, ◌++◌, append-nil, Option, None, Some, map}
use Rattle.std.specs.Prelude.{filter_map}
use Rattle.std.specs.Bool.{then_some}
use Rattle.std.specs.List.{cons_option}
use Rattle.std.proofs.lemmas.Bool.Decides.{Decides-eqb}
use Rattle.std.proofs.lemmas.List.{map-append}
use Rattle.std.proofs.lemmas.List.Elements.{filter_map-append}
use Rattle.hp_model.specs.Transactions as model
use Rattle.hp_model.specs.Transactions.{survivor_by, survivors}
use Rattle.hp_model.specs.Cascade.{due_by, due}
use Rattle.hp_value.specs.Mapped.{coupling}
use Rattle.hp_rule.specs.declared.task.Task.{Task as RuleTask}
use Rattle.hp_rule.specs.declared.task.Detached.{Detached}
use Rattle.hp_rule.specs.Mapped.{task, detached}

-- what `is_empty` tells of a list
pub is_nothing : {A : Type 0} (xs : List A) (n : ℕ) → n ≡ length xs → (n == 0) ≡ true → xs ≡ []
is_nothing [] n e h = refl
is_nothing (x ∷ xs) n e h = absurd (omega (arith, (Decides-eqb n 0).0 h))

pub is_something : {A : Type 0} (xs : List A) (n : ℕ) → n ≡ length xs → (n == 0) ≡ false → 1 ≤ length xs
is_something [] n e h = absurd (true≢false (ap (λ m. m == 0) (sym e) ∙ h))
is_something (x ∷ xs) n e h = omega arith

-- ---- detached tasks

option-one : {X : Type 0} (o : Option X) (x : X) → o ≡ Some x → cons_option o [] ≡ x ∷ []
option-one o x is = ap (λ p. cons_option p []) is

option-none : {X : Type 0} (o : Option X) → o ≡ None → cons_option o [] ≡ []
option-none o is = ap (λ p. cons_option p []) is

-- one more task, and its value under f
module _ {X : Type 0} (f : model.Detached → Option X) (so_far : List X) (ds : List Detached) (d : Detached) (is : so_far ≡ filter_map f (map detached ds)) where
  one_more : so_far ++ cons_option (f (detached d)) [] ≡ filter_map f (map detached (ds ++ d ∷ []))
  one_more =
      ap (λ xs. xs ++ cons_option (f (detached d)) []) is
      ∙ sym (filter_map-append f (map detached ds) (detached d ∷ []))
      ∙ ap (filter_map f) (sym (map-append detached ds (d ∷ [])))

  pub one_kept : (x : X) → f (detached d) ≡ Some x → so_far ++ x ∷ [] ≡ filter_map f (map detached (ds ++ d ∷ []))
  one_kept x got = ap (λ xs. so_far ++ xs) (sym (option-one (f (detached d)) x got)) ∙ one_more

  pub one_left_out : f (detached d) ≡ None → so_far ≡ filter_map f (map detached (ds ++ d ∷ []))
  one_left_out none = sym (append-nil so_far) ∙ ap (λ xs. so_far ++ xs) (sym (option-none (f (detached d)) none)) ∙ one_more

pub due_kept : (tasks new : List RuleTask) (ds : List Detached) (d : Detached) → new ≡ tasks ++ d.task ∷ [] → due_by (coupling d.task.place) d.released ≡ true
    → map task tasks ≡ due (map detached ds) → map task new ≡ due (map detached (ds ++ d ∷ []))
due_kept tasks new ds d pushed is so_far =
    ap (map task) pushed ∙ map-append task tasks (d.task ∷ [])
    ∙ one_kept (λ (x : model.Detached). then_some (due_by x.task.place x.released) x.task) (map task tasks) ds d so_far (task d.task) (ap (λ b. then_some b (task d.task)) is)

pub due_gone : (tasks : List RuleTask) (ds : List Detached) (d : Detached) → due_by (coupling d.task.place) d.released ≡ false
    → map task tasks ≡ due (map detached ds) → map task tasks ≡ due (map detached (ds ++ d ∷ []))
due_gone tasks ds d is so_far =
    one_left_out (λ (x : model.Detached). then_some (due_by x.task.place x.released) x.task) (map task tasks) ds d so_far (ap (λ b. then_some b (task d.task)) is)

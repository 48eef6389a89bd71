-- Courses with what firings gave.
use Rattle.std.specs.Prelude.{◌≡◌, List, [], ◌∷◌, ◌++◌, length}
use Rattle.hp_model.specs.Tree.{Items, no_items, append}
use Rattle.hp_model.specs.Soundness.{Answer, FiringAnswer}
use Rattle.hp_model.specs.Answers.{followed, group_answer, queued_at, detached_at, queued_in, detached_in, items_in}
use Rattle.hp_tree.specs.Mapped as tree
use Rattle.hp_fire.specs.declared.course.Around.{Around}

-- an answer with these firings added, which don't change its end
abbrev pub with_firings : Answer → List FiringAnswer → Answer
with_firings a fs = record { end = a.end; queued = a.queued ++ queued_in fs; detached = a.detached ++ detached_in fs; items = append a.items (items_in fs) }

-- a firing without siblings as a part of the transaction around it, which its veto aborts
abbrev pub alone : FiringAnswer → Answer
alone f = group_answer (record { firings = f ∷ []; vetoed_by = f.vetoed_by })

-- an answer with these items added, which don't change its end
abbrev pub with_items : Answer → Items → Answer
with_items a items = record { end = a.end; queued = a.queued; detached = a.detached; items = append a.items items }

-- ---- nested transactions

-- an answer when a nested transaction begins in it
abbrev pub opened : Answer → Answer
opened a = record { end = a.end; queued = a.queued; detached = a.detached; items = no_items }

-- what is kept of the answer around a nested transaction
pub record IsAround (around : Around) (outer : Answer) : Type 0 where
  pub items : tree.items_in around.items.items ≡ outer.items
  pub queued : around.queued ≡ length outer.queued
  pub detached : around.detached ≡ length outer.detached

-- the answer now: a nested transaction began in it, and a is what that has done
pub record IsPart (around : Around) (outer a now : Answer) : Type 0 where
  pub begun : IsAround around outer
  pub is : now ≡ followed (opened outer) a

-- the same, with no tasks of the nested transaction but those that it leaves
abbrev pub leaving : Answer → Answer → Answer
leaving outer a = record { end = a.end; queued = outer.queued ++ queued_at a.end a.queued; detached = outer.detached ++ detached_at a.end a.detached; items = a.items }

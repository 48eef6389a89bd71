-- Trees in which only some causes end something stay so as trees are joined and reported.
use Rattle.std.proofs.Common.{List, [], ◌∷◌, map}
use Rattle.std.specs.List.{AllByRecursion}
use Rattle.hp_model.specs.Values.{Cause}
use Rattle.hp_model.specs.Tree.{Task, Items, no_items, operation, emission, detachment, node, append, without_detachments}
use Rattle.hp_model.specs.Transactions.{detachments}
use Rattle.hp_model.specs.Cascade.{Transaction, TransactionReport, transaction_report}
use Rattle.hp_model.specs.Endings.{Ended, whole_transaction, EndsOnlyBy, TreeHasOnly, TransactionsHaveOnly}

module _ (allowed : Ended → Cause → Type 0) where
  pub only_append : (a b : Items) → TreeHasOnly allowed a → TreeHasOnly allowed b → TreeHasOnly allowed (append a b)
  only_append no_items b h k = k
  only_append (operation op rest) b h k = only_append rest b h k
  only_append (emission v rest) b h k = only_append rest b h k
  only_append (detachment t rest) b h k = only_append rest b h k
  only_append (node what end inside rest) b h k = (h.0, only_append rest b h.1 k)

  pub only_detachments : (ts : List Task) → TreeHasOnly allowed (detachments ts)
  only_detachments [] = tt
  only_detachments (t ∷ ts) = only_detachments ts

  only_without : (items : Items) → TreeHasOnly allowed items → TreeHasOnly allowed (without_detachments items)
  only_without no_items h = tt
  only_without (operation op rest) h = only_without rest h
  only_without (emission v rest) h = only_without rest h
  only_without (detachment t rest) h = only_without rest h
  only_without (node what end inside rest) h = ((h.0.0, only_without inside h.0.1), only_without rest h.1)

  pub reports_only : (ts : List Transaction) → TransactionsHaveOnly allowed ts
      → AllByRecursion (λ (t : TransactionReport). EndsOnlyBy (allowed whole_transaction) t.ending × TreeHasOnly allowed t.items) (map transaction_report ts)
  reports_only [] h = tt
  reports_only (t ∷ ts) h = ((h.0.0, only_without t.items h.0.1), reports_only ts h.1)

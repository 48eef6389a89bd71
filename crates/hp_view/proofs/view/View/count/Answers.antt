use Rattle.std.proofs.Common.{subst, inl, inr}
use Rattle.hp_model.specs.Cells.{over}
use Rattle.hp_store.specs.Changes.{Entries, changes}
use Rattle.hp_store.specs.Counts.{IsUncountable}
use Rattle.hp_store.specs.Stack.{cells_in}
use Rattle.hp_view.specs.Seeing.{Seeing, now_in}
use Rattle.hp_view.proofs.Greatest.{on_err}
use Rattle.hp_view.proofs.view.View.count.Goals as goal

pub returns-in_err-count-clause-again : goal.returns-in_err-count-clause-again
returns-in_err-count-clause-again c = λ known.
    on_err c.from_residual.result (inr (subst (λ (u : Seeing). IsUncountable (now_in u) c.args.class) c.self.view_is
    (subst (λ (es : Entries). IsUncountable (over (cells_in c.self.inside.base) (changes es)) c.args.class) c.deref.ensures c.in_err-count.ensures.err)))

pub returns-in_err-read_class_count-clause-again : goal.returns-in_err-read_class_count-clause-again
returns-in_err-read_class_count-clause-again c = λ known.
    on_err c.from_residual-in_err-read_class_count.result (inl (c.in_err-read_class_count.ensures.again known))

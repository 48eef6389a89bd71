use Rattle.std.proofs.Common.{ap, ◌∙◌, append-nil}
use Rattle.hp_model.specs.Soundness.{Answer}
use Rattle.hp_model.proofs.Faithful.{append-none}
use Rattle.hp_fire.proofs.course.Course.into_outcome.Goals as goal

pub returns : goal.returns
returns c = λ f is i. record {
  vetoed_by = c.veto_inside.ensures f.vetoed_by (ap (λ (a : Answer). a.end) is) i;
  queued = (ap (λ (a : Answer). a.queued) is ∙ append-nil f.queued) i;
  detached = (ap (λ (a : Answer). a.detached) is ∙ append-nil f.detached) i;
  items = (ap (λ (a : Answer). a.items) is ∙ append-none f.items) i;
}

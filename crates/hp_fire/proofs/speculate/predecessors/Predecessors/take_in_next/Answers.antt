use Rattle.std.specs.Prelude.{Result, Ok, Err, OnOk}
use Rattle.hp_fire.proofs.speculate.predecessors.Predecessors.take_in_next.Goals as goal

where_ok : {T E P Q : Type 0} (r : Result T E) → (P → Q) → OnOk r P → OnOk r Q
where_ok (Ok x) more promise = more promise
where_ok (Err e) more promise = tt

pub returns-then-predecessor-self-clause-next : goal.returns-then-predecessor-self-clause-next
returns-then-predecessor-self-clause-next c = where_ok c.take_in.result (λ ok same. absurd (c.if-predecessor-self.true same)) c.take_in.ensures.ok

pub returns-then-predecessor-self-clause-later : goal.returns-then-predecessor-self-clause-later
returns-then-predecessor-self-clause-later c = where_ok c.take_in.result (λ ok other. ok) c.take_in.ensures.ok

pub returns-then-predecessor-self-clause-after_next : goal.returns-then-predecessor-self-clause-after_next
returns-then-predecessor-self-clause-after_next c = where_ok c.take_in.result (λ ok same. absurd (c.if-predecessor-self.true same)) c.take_in.ensures.ok

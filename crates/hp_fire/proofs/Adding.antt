-- What calls add to a course.
use Rattle.std.proofs.Common.{◌≡◌, refl, sym, ap, ◌∙◌, append-nil, List, [], ◌++◌, true, false}
use Rattle.std.specs.Prelude.{Option, Some, None}
use Rattle.hp_model.specs.Values as V
use Rattle.hp_model.specs.Rules.{Library}
use Rattle.hp_model.specs.Tree.{Task, Node}
use Rattle.hp_model.specs.Transactions as X
use Rattle.hp_model.specs.Transactions.{Work, done}
use Rattle.hp_model.specs.Firing.{end_of, action_veto}
use Rattle.hp_model.specs.Soundness.{Answer}
use Rattle.hp_model.specs.Answers.{ended, followed, is_done, queued_at, detached_at, closing, closing_action}
use Rattle.hp_model.proofs.Faithful.{followed-assoc, append-none}
use Rattle.hp_value.specs.declared.halt.Cause.TheVariants.{Exists, Missing, Kind, Overflow, DivideByZero, NoParameter, Depth, Asked}
use Rattle.hp_view.specs.Seeing.{Seeing}
use Rattle.hp_fire.specs.declared.course.End.{End}
use Rattle.hp_fire.specs.declared.course.End.TheVariants.{Done, Abort, Vetoed, Veto}
use Rattle.hp_fire.specs.declared.course.Around.{Around}
use Rattle.hp_fire.specs.Joined.{alone, opened, leaving, IsAround, IsPart}
use Rattle.hp_fire.specs.Mapped.{end}
use Rattle.hp_fire.specs.Runs.{Runs, Appends, Adds}
use Rattle.hp_fire.proofs.Steps.{runs_answer}

-- what was added has another property, too
pub appends_as : {P Q : Answer → Type 0} {before after : Answer} → ((a : Answer) → P a → Q a) → Appends P before after → Appends Q before after
appends_as f p = record { answer = p.answer; is = f p.answer p.is; added = p.added }

-- one after another
pub appends_then : {P Q R : Answer → Type 0} {before middle after : Answer} → ((a b : Answer) → P a → Q b → R (followed a b)) → Appends P before middle → Appends Q middle after
    → Appends R before after
appends_then {before = before} f p q = record {
  answer = followed p.answer q.answer;
  is = f p.answer q.answer p.is q.is;
  added = q.added ∙ ap (λ a. followed a q.answer) p.added ∙ followed-assoc before p.answer q.answer;
}

-- to a course of nothing
pub adds_alone : {library : Library} {work : Work} {v w : Seeing} {before after : Answer} → before ≡ ended done → Adds library work v w before after → Runs library work v w after
adds_alone is p = runs_answer (p.added ∙ ap (λ a. followed a p.answer) is) p.is

-- ---- nested transactions

queued_done : (e : X.End) → is_done e ≡ true → (ts : List Task) → ts ≡ queued_at e ts
queued_done done h ts = refl
queued_done (X.abort_by x) h ts = cc
queued_done (X.veto_by v) h ts = cc

detached_done : (e : X.End) → is_done e ≡ true → (ds : List X.Detached) → ds ≡ detached_at e ds
detached_done done h ds = refl
detached_done (X.abort_by x) h ds = cc
detached_done (X.veto_by v) h ds = cc

pub queued_undone : (e : X.End) → is_done e ≡ false → (ts : List Task) → [] ≡ queued_at e ts
queued_undone done h ts = cc
queued_undone (X.abort_by x) h ts = refl
queued_undone (X.veto_by v) h ts = refl

pub detached_undone : (e : X.End) → is_done e ≡ false → (ds : List X.Detached) → X.survivors ds ≡ detached_at e ds
detached_undone done h ds = cc
detached_undone (X.abort_by x) h ds = refl
detached_undone (X.veto_by v) h ds = refl

-- one that is done leaves all tasks
pub leaves_all : {around : Around} {outer a now : Answer} → IsPart around outer a now → is_done now.end ≡ true → now ≡ leaving outer a
leaves_all {outer = outer} {a} part ends =
    let done_too : is_done a.end ≡ true = sym (ap (λ (x : Answer). is_done x.end) part.is) ∙ ends in
    part.is ∙ (λ i. record {
      end = a.end;
      queued = outer.queued ++ queued_done a.end done_too a.queued i;
      detached = outer.detached ++ detached_done a.end done_too a.detached i;
      items = a.items;
    })

-- its part of the answer around it
pub part_begins : {library : Library} {work : Work} {v w : Seeing} {around : Around} {outer begun now : Answer} → IsAround around outer → begun ≡ opened outer
    → (p : Adds library work v w begun now) → IsPart around outer p.answer now
part_begins is at p = record { begun = is; is = p.added ∙ ap (λ a. followed a p.answer) at }

-- ---- firings

-- a firing's part of the transaction around it
pub closing_alone : (what : Node) (closed : _) (rule : _) (a : Answer) (e : X.End) → e ≡ end_of (action_veto closed rule a.end) → closing what a e ≡ alone (closing_action what closed rule a)
closing_alone what closed rule a e is i = record {
  end = is i;
  queued = sym (append-nil (queued_at a.end a.queued)) i;
  detached = sym (append-nil (detached_at a.end a.detached)) i;
  items = sym (append-none (closing what a e).items) i;
}

-- the veto of the one firing by which a course ended
pub inside_some : (v : V.Veto) (o : Option V.Veto) → X.abort_by (V.vetoed v) ≡ end_of o → Some v ≡ o
inside_some v None e = cc
inside_some v (Some w) e = cc

pub inside_none : (e : End) (o : Option V.Veto) → ((v : _) → e ≡ Vetoed v → ⊥) → end e ≡ end_of o → None ≡ o
inside_none e None apart is = refl
inside_none Done (Some w) apart is = cc
inside_none (Abort Exists) (Some w) apart is = cc
inside_none (Abort Missing) (Some w) apart is = cc
inside_none (Abort Kind) (Some w) apart is = cc
inside_none (Abort Overflow) (Some w) apart is = cc
inside_none (Abort DivideByZero) (Some w) apart is = cc
inside_none (Abort NoParameter) (Some w) apart is = cc
inside_none (Abort Depth) (Some w) apart is = cc
inside_none (Abort Asked) (Some w) apart is = cc
inside_none (Vetoed v) (Some w) apart is = absurd (apart v refl)
inside_none (Veto v) (Some w) apart is = cc

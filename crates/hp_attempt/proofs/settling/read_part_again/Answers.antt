use Rattle.std.proofs.Common.{◌≡◌, false, true≢false, refl, sym, ap, ◌∙◌, ℤ, subst}
use Rattle.hp_model.specs.Cells.{object_cell, part_read}
use Rattle.hp_value.specs.Mapped.{class_part}
use Rattle.hp_view.specs.Mapped.{part_found, objects_found}
use Rattle.hp_view.specs.Adding.{AddsReads, IsOfClass, IsOfPart, adds_none}
use Rattle.hp_view.specs.Parts.{number_of}
use Rattle.hp_view.specs.Seeing.{Seeing, written, now_in, number_was_read, Shows}
use Rattle.hp_view.proofs.Adding.{adds_more}
use Rattle.hp_attempt.specs.Holding.{IsReadAgain, IsFor}
use Rattle.hp_attempt.proofs.Taking.{again_part, again_class, adds_part, class_for_part, of_keys, where_ok}
use Rattle.hp_attempt.proofs.settling.read_part_again.Goals as goal

pub returns-then-branch-clause-again : goal.returns-then-branch-clause-again
returns-then-branch-clause-again c =
    let objects = objects_found c.args.found.now in
    subst (λ p. IsReadAgain c.args.view.now c.read_part.new.self (part_read c.args.class p objects)) c.part.ensures
    (again_part c.args.view.now c.read_part.new.self c.args.class (class_part c.part.result) objects (c.in_ok-read_part.ensures.shows c.if-branch.true))

pub returns-clause-again : goal.returns-clause-again
returns-clause-again c =
    where_ok c.read_objects.result
    (λ cells. again_class c.args.view.now c.read_objects.new.self c.args.class (part_found c.args.found.now) (objects_found c.args.found.now)
    (subst (λ u. (key : ℤ) → Shows c.read_objects.new.self (object_cell c.args.class key) (now_in u (object_cell c.args.class key))) (c.in_ok-read_part.ensures.none c.if-branch.false) cells))
    c.read_objects.ensures.cells

pub returns-then-branch-clause-reads : goal.returns-then-branch-clause-reads
returns-then-branch-clause-reads c =
    let w = written c.args.view.now in
    let objects = objects_found c.args.found.now in
    subst (λ p. AddsReads (IsFor w (part_read c.args.class p objects)) c.args.view.now.reads c.read_part.new.self.reads) c.part.ensures
    (adds_part (IsFor w (part_read c.args.class (class_part c.part.result) objects)) (λ hits. (refl, refl)) (c.in_ok-read_part.ensures.reads c.if-branch.true))

pub returns-clause-reads : goal.returns-clause-reads
returns-clause-reads c =
    let w = written c.args.view.now in
    let part = part_found c.args.found.now in
    let objects = objects_found c.args.found.now in
    adds_more (class_for_part w c.args.class part objects)
    (subst (λ (v : Seeing). AddsReads (IsOfClass (written v) c.args.class) v.reads c.read_objects.new.self.reads) (c.in_ok-read_part.ensures.none c.if-branch.false) c.read_objects.ensures.reads)

pub returns-in_err-read_part-clause-alone : goal.returns-in_err-read_part-clause-alone
returns-in_err-read_part-clause-alone c = λ bounded fresh. adds_none (IsOfPart c.args.class (part_found c.args.found.now)) (ap (λ (v : Seeing). v.reads) c.in_err-read_part.ensures.err)

pub returns-then-branch-clause-alone : goal.returns-then-branch-clause-alone
returns-then-branch-clause-alone c = λ bounded fresh.
    subst (λ p. AddsReads (IsOfPart c.args.class p) c.args.view.now.reads c.read_part.new.self.reads) c.part.ensures
    (adds_part (IsOfPart c.args.class (class_part c.part.result)) (λ hits. (refl, refl)) (c.in_ok-read_part.ensures.reads c.if-branch.true))

pub returns-clause-alone : goal.returns-clause-alone
returns-clause-alone c = λ bounded fresh.
    let own = subst (λ p. number_was_read c.args.view.now.reads c.args.class (number_of p) ≡ false) (sym c.part.ensures) fresh in
    absurd (true≢false (sym (c.in_ok-read_part.ensures.found (of_keys c.part.result (part_found c.args.found.now) c.part.ensures bounded) own) ∙ c.if-branch.false))

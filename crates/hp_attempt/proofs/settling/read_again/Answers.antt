use Rattle.std.proofs.Common.{◌≡◌, refl, ap, subst, sym}
use Rattle.hp_model.specs.Cells.{greatest_read, count_read}
use Rattle.hp_value.specs.Mapped.{cell}
use Rattle.hp_view.specs.declared.reads.Seen.TheVariants.{Cell as OfCell}
use Rattle.hp_view.specs.Adding.{AddsReads, adds_none}
use Rattle.hp_view.specs.Seeing.{Seeing, written}
use Rattle.hp_view.proofs.Adding.{adds_cell}
use Rattle.hp_view.specs.Mapped.{read, greatest_found, count_found}
use Rattle.hp_attempt.specs.Holding.{IsReadAgain, IsFor}
use Rattle.hp_attempt.proofs.Taking.{again_cell, again_greatest, again_count, adds_greatest, adds_count, where_ok, either_way}
use Rattle.hp_attempt.proofs.settling.read_again.Goals as goal

pub returns-in-Cell-clause-again : goal.returns-in-Cell-clause-again
returns-in-Cell-clause-again c =
    let found = c.args.found.now in
    where_ok c.read.result
    (λ shows. subst (λ s. IsReadAgain c.args.view.now c.read.new.self (read (s, found))) (sym c.in-Cell.is) (again_cell c.args.view.now c.read.new.self c.in-Cell.cell found shows))
    c.read.ensures.shows

pub returns-in-Keys-clause-again : goal.returns-in-Keys-clause-again
returns-in-Keys-clause-again c =
    where_ok c.read_class_again.result (λ again. subst (λ s. IsReadAgain c.args.view.now c.read_class_again.new.view (read (s, c.args.found.now))) (sym c.in-Keys.is) again)
    c.read_class_again.ensures.again

pub returns-in-Greatest-clause-again : goal.returns-in-Greatest-clause-again
returns-in-Greatest-clause-again c =
    let found = c.args.found.now in
    where_ok c.read_greatest_key.result
    (λ shows. subst (λ s. IsReadAgain c.args.view.now c.read_greatest_key.new.self (read (s, found))) (sym c.in-Greatest.is)
    (again_greatest c.args.view.now c.read_greatest_key.new.self c.in-Greatest.class (greatest_found found) shows))
    c.read_greatest_key.ensures.shows

pub returns-in-Count-clause-again : goal.returns-in-Count-clause-again
returns-in-Count-clause-again c =
    let found = c.args.found.now in
    where_ok c.read_class_count.result
    (λ shows. subst (λ s. IsReadAgain c.args.view.now c.read_class_count.new.self (read (s, found))) (sym c.in-Count.is)
    (again_count c.args.view.now c.read_class_count.new.self c.in-Count.class (count_found found) shows))
    c.read_class_count.ensures.shows

pub returns-in-Part-clause-again : goal.returns-in-Part-clause-again
returns-in-Part-clause-again c =
    where_ok c.read_part_again.result (λ again. subst (λ s. IsReadAgain c.args.view.now c.read_part_again.new.view (read (s, c.args.found.now))) (sym c.in-Part.is) again)
    c.read_part_again.ensures.again

pub returns-in-Cell-clause-reads : goal.returns-in-Cell-clause-reads
returns-in-Cell-clause-reads c =
    let w = written c.args.view.now in
    let q = cell c.in-Cell.cell in
    let r = read (OfCell c.in-Cell.cell, c.args.found.now) in
    subst (λ s. AddsReads (IsFor w (read (s, c.args.found.now))) c.args.view.now.reads c.read.new.self.reads) (sym c.in-Cell.is)
    (either_way c.read.result (adds_cell (IsFor w r) q (λ e. (refl, e))) (λ (same : c.read.new.self ≡ c.args.view.now). adds_none (IsFor w r) (ap (λ (v : Seeing). v.reads) same))
    c.read.ensures.reads c.read.ensures.err)

pub returns-in-Keys-clause-reads : goal.returns-in-Keys-clause-reads
returns-in-Keys-clause-reads c =
    subst (λ s. AddsReads (IsFor (written c.args.view.now) (read (s, c.args.found.now))) c.args.view.now.reads c.read_class_again.new.view.reads) (sym c.in-Keys.is) c.read_class_again.ensures.reads

pub returns-in-Greatest-clause-reads : goal.returns-in-Greatest-clause-reads
returns-in-Greatest-clause-reads c =
    let w = written c.args.view.now in
    let r = greatest_read c.in-Greatest.class (greatest_found c.args.found.now) in
    subst (λ s. AddsReads (IsFor w (read (s, c.args.found.now))) c.args.view.now.reads c.read_greatest_key.new.self.reads) (sym c.in-Greatest.is)
    (either_way c.read_greatest_key.result
    (adds_greatest (IsFor w r) (λ greatest. refl) (λ deletes keys. (refl, deletes.greatest.0, deletes.greatest.2)))
    (λ (same : c.read_greatest_key.new.self ≡ c.args.view.now). adds_none (IsFor w r) (ap (λ (v : Seeing). v.reads) same))
    c.read_greatest_key.ensures.reads c.read_greatest_key.ensures.err)

pub returns-in-Count-clause-reads : goal.returns-in-Count-clause-reads
returns-in-Count-clause-reads c =
    let w = written c.args.view.now in
    let r = count_read c.in-Count.class (count_found c.args.found.now) in
    subst (λ s. AddsReads (IsFor w (read (s, c.args.found.now))) c.args.view.now.reads c.read_class_count.new.self.reads) (sym c.in-Count.is)
    (either_way c.read_class_count.result
    (adds_count (IsFor w r) (λ count. refl) (λ unread keys. (refl, unread.object.0, unread.object.1)))
    (λ (same : c.read_class_count.new.self ≡ c.args.view.now). adds_none (IsFor w r) (ap (λ (v : Seeing). v.reads) same))
    c.read_class_count.ensures.reads c.read_class_count.ensures.err)

pub returns-in-Part-clause-reads : goal.returns-in-Part-clause-reads
returns-in-Part-clause-reads c =
    subst (λ s. AddsReads (IsFor (written c.args.view.now) (read (s, c.args.found.now))) c.args.view.now.reads c.read_part_again.new.view.reads) (sym c.in-Part.is) c.read_part_again.ensures.reads

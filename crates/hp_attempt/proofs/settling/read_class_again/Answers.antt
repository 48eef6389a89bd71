use Rattle.std.proofs.Common.{◌≡◌, refl, ap, subst, sym, []}
use Rattle.hp_model.specs.Cells.{keys_read}
use Rattle.hp_view.specs.Adding.{AddsReads, adds_none}
use Rattle.hp_view.specs.Seeing.{Seeing, written}
use Rattle.hp_view.proofs.Adding.{adds_keys}
use Rattle.hp_view.specs.Mapped.{class_read}
use Rattle.hp_attempt.specs.Holding.{IsReadAgain, IsFor}
use Rattle.hp_attempt.proofs.Taking.{again_keys, again_objects, where_ok, either_way}
use Rattle.hp_attempt.proofs.settling.read_class_again.Goals as goal

pub returns-in-Objects-clause-again : goal.returns-in-Objects-clause-again
returns-in-Objects-clause-again c =
    where_ok c.read_objects.result
    (λ shows. subst (λ f. IsReadAgain c.args.view.now c.read_objects.new.self (class_read c.args.class f)) (sym c.in-Objects.is)
    (again_objects c.args.view.now c.read_objects.new.self c.args.class c.in-Objects.field-0.value shows))
    c.read_objects.ensures.shows

pub returns-in-Keys-clause-again : goal.returns-in-Keys-clause-again
returns-in-Keys-clause-again c =
    where_ok c.read_keys.result
    (λ shows. subst (λ f. IsReadAgain c.args.view.now c.read_keys.new.self (class_read c.args.class f)) (sym c.in-Keys.is)
    (again_keys c.args.view.now c.read_keys.new.self c.args.class c.in-Keys.field-0.items shows))
    c.read_keys.ensures.shows

pub returns-in-Value-clause-again : goal.returns-in-Value-clause-again
returns-in-Value-clause-again c =
    where_ok c.read_keys-in-Value.result
    (λ shows. subst (λ f. IsReadAgain c.args.view.now c.read_keys-in-Value.new.self (class_read c.args.class f)) (sym c.in-Value.is)
    (again_keys c.args.view.now c.read_keys-in-Value.new.self c.args.class [] shows))
    c.read_keys-in-Value.ensures.shows

pub returns-in-Greatest-clause-again : goal.returns-in-Greatest-clause-again
returns-in-Greatest-clause-again c =
    where_ok c.read_keys-in-Greatest.result
    (λ shows. subst (λ f. IsReadAgain c.args.view.now c.read_keys-in-Greatest.new.self (class_read c.args.class f)) (sym c.in-Greatest.is)
    (again_keys c.args.view.now c.read_keys-in-Greatest.new.self c.args.class [] shows))
    c.read_keys-in-Greatest.ensures.shows

pub returns-in-Count-clause-again : goal.returns-in-Count-clause-again
returns-in-Count-clause-again c =
    where_ok c.read_keys-in-Count.result
    (λ shows. subst (λ f. IsReadAgain c.args.view.now c.read_keys-in-Count.new.self (class_read c.args.class f)) (sym c.in-Count.is)
    (again_keys c.args.view.now c.read_keys-in-Count.new.self c.args.class [] shows))
    c.read_keys-in-Count.ensures.shows

pub returns-in-Part-clause-again : goal.returns-in-Part-clause-again
returns-in-Part-clause-again c =
    where_ok c.read_keys-in-Part.result
    (λ shows. subst (λ f. IsReadAgain c.args.view.now c.read_keys-in-Part.new.self (class_read c.args.class f)) (sym c.in-Part.is)
    (again_keys c.args.view.now c.read_keys-in-Part.new.self c.args.class [] shows))
    c.read_keys-in-Part.ensures.shows

pub returns-in-Objects-clause-reads : goal.returns-in-Objects-clause-reads
returns-in-Objects-clause-reads c =
    subst (λ f. AddsReads (IsFor (written c.args.view.now) (class_read c.args.class f)) c.args.view.now.reads c.read_objects.new.self.reads) (sym c.in-Objects.is) c.read_objects.ensures.reads

pub returns-in-Keys-clause-reads : goal.returns-in-Keys-clause-reads
returns-in-Keys-clause-reads c =
    let w = written c.args.view.now in
    let r = keys_read c.args.class c.in-Keys.field-0.items in
    subst (λ f. AddsReads (IsFor w (class_read c.args.class f)) c.args.view.now.reads c.read_keys.new.self.reads) (sym c.in-Keys.is)
    (either_way c.read_keys.result (adds_keys (IsFor w r) (λ keys. refl)) (λ (same : c.read_keys.new.self ≡ c.args.view.now). adds_none (IsFor w r) (ap (λ (v : Seeing). v.reads) same))
    c.read_keys.ensures.reads c.read_keys.ensures.err)

pub returns-in-Value-clause-reads : goal.returns-in-Value-clause-reads
returns-in-Value-clause-reads c =
    let w = written c.args.view.now in
    let r = keys_read c.args.class [] in
    subst (λ f. AddsReads (IsFor w (class_read c.args.class f)) c.args.view.now.reads c.read_keys-in-Value.new.self.reads) (sym c.in-Value.is)
    (either_way c.read_keys-in-Value.result (adds_keys (IsFor w r) (λ keys. refl)) (λ (same : c.read_keys-in-Value.new.self ≡ c.args.view.now). adds_none
    (IsFor w r) (ap (λ (v : Seeing). v.reads) same)) c.read_keys-in-Value.ensures.reads c.read_keys-in-Value.ensures.err)

pub returns-in-Greatest-clause-reads : goal.returns-in-Greatest-clause-reads
returns-in-Greatest-clause-reads c =
    let w = written c.args.view.now in
    let r = keys_read c.args.class [] in
    subst (λ f. AddsReads (IsFor w (class_read c.args.class f)) c.args.view.now.reads c.read_keys-in-Greatest.new.self.reads) (sym c.in-Greatest.is)
    (either_way c.read_keys-in-Greatest.result (adds_keys (IsFor w r) (λ keys. refl)) (λ (same : c.read_keys-in-Greatest.new.self ≡ c.args.view.now).
    adds_none (IsFor w r) (ap (λ (v : Seeing). v.reads) same)) c.read_keys-in-Greatest.ensures.reads c.read_keys-in-Greatest.ensures.err)

pub returns-in-Count-clause-reads : goal.returns-in-Count-clause-reads
returns-in-Count-clause-reads c =
    let w = written c.args.view.now in
    let r = keys_read c.args.class [] in
    subst (λ f. AddsReads (IsFor w (class_read c.args.class f)) c.args.view.now.reads c.read_keys-in-Count.new.self.reads) (sym c.in-Count.is)
    (either_way c.read_keys-in-Count.result (adds_keys (IsFor w r) (λ keys. refl)) (λ (same : c.read_keys-in-Count.new.self ≡ c.args.view.now). adds_none
    (IsFor w r) (ap (λ (v : Seeing). v.reads) same)) c.read_keys-in-Count.ensures.reads c.read_keys-in-Count.ensures.err)

pub returns-in-Part-clause-reads : goal.returns-in-Part-clause-reads
returns-in-Part-clause-reads c =
    let w = written c.args.view.now in
    let r = keys_read c.args.class [] in
    subst (λ f. AddsReads (IsFor w (class_read c.args.class f)) c.args.view.now.reads c.read_keys-in-Part.new.self.reads) (sym c.in-Part.is)
    (either_way c.read_keys-in-Part.result (adds_keys (IsFor w r) (λ keys. refl)) (λ (same : c.read_keys-in-Part.new.self ≡ c.args.view.now). adds_none
    (IsFor w r) (ap (λ (v : Seeing). v.reads) same)) c.read_keys-in-Part.ensures.reads c.read_keys-in-Part.ensures.err)

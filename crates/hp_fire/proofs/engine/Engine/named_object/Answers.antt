use Rattle.std.proofs.Common.{rules, ◌≡◌, ℤ, Ok, Some, None, ◌∙◌, subst, sym}
use Rattle.std.proofs.Common.{SFits, w64, of_z, to_z}
use Rattle.std.proofs.lemmas.Int.{to_z-of_z}
use Rattle.hp_model.specs.Cells.{object_cell}
use Rattle.hp_model.specs.State.{find_object}
use Rattle.hp_model.specs.Values.{Outcome}
use Rattle.hp_model.specs.Answers.{Finds}
use Rattle.hp_model.specs.Firing.{named_object}
use Rattle.hp_value.specs.Mapped.{expression}
use Rattle.hp_rule.specs.Mapped.{library}
use Rattle.hp_view.specs.Adding.{AddsReads}
use Rattle.hp_view.specs.Seeing.{written}
use Rattle.hp_ops.specs.Reading.{IsReadOf}
use Rattle.hp_fire.specs.Mapped.{context}
use Rattle.hp_fire.specs.Runs.{Finding}
use Rattle.hp_fire.proofs.Making.{named_there, named_missing}
use Rattle.hp_fire.proofs.engine.Engine.named_object.Goals as goal

pub returns-in-Some-clause-found : goal.returns-in-Some-clause-found
returns-in-Some-clause-found g c =
    let fits : SFits w64 c.in_ok-key.key = search rules in
    let back : to_z w64 (of_z w64 c.in_ok-key.key) ≡ c.in_ok-key.key = to_z-of_z w64 c.in_ok-key.key fits in
    subst (λ k. Finding (library c.args.self.now.lib.now) (λ S. named_object S.objects (context c.args.context.now).environment c.args.class (expression c.args.key.now))
    c.args.view.now c.find_object.new.view (Ok (record { key = k; row = c.in-Some.row }))) (sym back)
    (named_there (library c.args.self.now.lib.now) (context c.args.context.now).environment c.args.class (expression c.args.key.now) c.in_ok-key.key
    c.in-Some.row c.args.view.now c.find_object.new.view
    c.in_ok-key.ensures c.find_object.ensures.only
    (subst (λ k. Finds (library c.args.self.now.lib.now) (λ S. find_object S.objects c.args.class k) c.find_object.new.view.reads (written c.find_object.new.view) (Some c.in-Some.row)) back
    (subst (λ o. Finds (library c.args.self.now.lib.now) (λ S. find_object S.objects c.args.class (to_z w64 (of_z w64 c.in_ok-key.key))) c.find_object.new.view.reads
    (written c.find_object.new.view) o) c.in-Some.is
    (c.in_ok-row.ensures.finds (library c.args.self.now.lib.now)))))

pub returns-in-None-clause-found : goal.returns-in-None-clause-found
returns-in-None-clause-found g c =
    let fits : SFits w64 c.in_ok-key.key = search rules in
    let back : to_z w64 (of_z w64 c.in_ok-key.key) ≡ c.in_ok-key.key = to_z-of_z w64 c.in_ok-key.key fits in
    named_missing (library c.args.self.now.lib.now) (context c.args.context.now).environment c.args.class (expression c.args.key.now) c.in_ok-key.key c.args.view.now c.find_object.new.view
    c.in_ok-key.ensures c.find_object.ensures.only
    (subst (λ k. Finds (library c.args.self.now.lib.now) (λ S. find_object S.objects c.args.class k) c.find_object.new.view.reads (written c.find_object.new.view) None) back
    (subst (λ o. Finds (library c.args.self.now.lib.now) (λ S. find_object S.objects c.args.class (to_z w64 (of_z w64 c.in_ok-key.key))) c.find_object.new.view.reads
    (written c.find_object.new.view) o) c.in-None.is
    (c.in_ok-row.ensures.finds (library c.args.self.now.lib.now))))

-- the key that an expression has is the one that was found
same_key : {k found : ℤ} {outcome : Outcome ℤ} → outcome ≡ Ok k → Ok found ≡ outcome → found ≡ k
same_key is gives = cc

pub returns-in-Some-clause-reads : goal.returns-in-Some-clause-reads
returns-in-Some-clause-reads g c = λ k is.
    let fits : SFits w64 c.in_ok-key.key = search rules in
    let back : to_z w64 (of_z w64 c.in_ok-key.key) ≡ c.in_ok-key.key = to_z-of_z w64 c.in_ok-key.key fits in
    subst (λ z. AddsReads (IsReadOf (object_cell c.args.class z)) c.args.view.now.reads c.find_object.new.view.reads) (back ∙ same_key is c.in_ok-key.ensures) c.find_object.ensures.reads

pub returns-in-None-clause-reads : goal.returns-in-None-clause-reads
returns-in-None-clause-reads g c = λ k is.
    let fits : SFits w64 c.in_ok-key.key = search rules in
    let back : to_z w64 (of_z w64 c.in_ok-key.key) ≡ c.in_ok-key.key = to_z-of_z w64 c.in_ok-key.key fits in
    subst (λ z. AddsReads (IsReadOf (object_cell c.args.class z)) c.args.view.now.reads c.find_object.new.view.reads) (back ∙ same_key is c.in_ok-key.ensures) c.find_object.ensures.reads

pub returns-in_err-row-clause-reads : goal.returns-in_err-row-clause-reads
returns-in_err-row-clause-reads g c = λ k is.
    let fits : SFits w64 c.in_ok-key.key = search rules in
    let back : to_z w64 (of_z w64 c.in_ok-key.key) ≡ c.in_ok-key.key = to_z-of_z w64 c.in_ok-key.key fits in
    subst (λ z. AddsReads (IsReadOf (object_cell c.args.class z)) c.args.view.now.reads c.find_object.new.view.reads) (back ∙ same_key is c.in_ok-key.ensures) c.find_object.ensures.reads

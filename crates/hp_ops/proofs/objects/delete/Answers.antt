use Rattle.std.proofs.Common.{rules, ◌≡◌, sym, subst, SFits, w64, of_z, to_z, None, Some, Ok}
use Rattle.std.proofs.lemmas.Int.{to_z-of_z}
use Rattle.hp_model.specs.Occurrences.{deleted}
use Rattle.hp_model.specs.Operations.{FaithfulOperation, delete_object}
use Rattle.hp_model.specs.Cells.{object_cell}
use Rattle.hp_view.specs.Seeing.{written, Writes}
use Rattle.hp_ops.proofs.Operating.{ObjectFound, delete_refused, delete_made}
use Rattle.hp_ops.proofs.objects.delete.Goals as goal

pub returns-in_default-clause-operation : goal.returns-in_default-clause-operation
returns-in_default-clause-operation c =
    let fits : SFits w64 c.args.key = search rules in
    let back : to_z w64 (of_z w64 c.args.key) ≡ c.args.key = to_z-of_z w64 c.args.key fits in
    let none : c.in_ok-old.field-0 ≡ None = search rules in
    delete_refused c.args.view.now c.find_object.new.view c.args.class c.args.key c.in_ok-old.field-0 none c.in_ok-old.ensures.only
    (subst (λ k. ObjectFound c.args.class k c.find_object.new.view c.in_ok-old.field-0) back c.in_ok-old.ensures.finds)

pub returns-clause-operation : goal.returns-clause-operation
returns-clause-operation c = λ lib.
    let fits : SFits w64 c.args.key = search rules in
    let back : to_z w64 (of_z w64 c.args.key) ≡ c.args.key = to_z-of_z w64 c.args.key fits in
    let there : c.in_ok-old.field-0 ≡ Some c.in-Some.old = search rules in
    subst (λ k. FaithfulOperation lib (delete_object c.args.class c.args.key) c.cut.new.self.reads (written c.args.view.now) (written c.cut.new.self)
    (Ok (deleted c.args.class k c.in-Some.old))) (sym back)
    (delete_made c.args.view.now c.find_object.new.view c.cut.new.self c.args.class c.args.key c.in-Some.old c.in_ok-old.field-0 there c.in_ok-old.ensures.only
    (subst (λ k. ObjectFound c.args.class k c.find_object.new.view c.in_ok-old.field-0) back c.in_ok-old.ensures.finds)
    (subst (λ k. Writes c.find_object.new.view c.cut.new.self (object_cell c.args.class k) None) back c.in_ok-cut.ensures.ok) lib)

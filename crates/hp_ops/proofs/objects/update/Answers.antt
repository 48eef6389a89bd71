use Rattle.std.proofs.Common.{rules, ◌≡◌, sym, subst, SFits, w64, of_z, to_z, None, Some, Ok}
use Rattle.std.proofs.lemmas.Int.{to_z-of_z}
use Rattle.hp_model.specs.Values.{Row}
use Rattle.hp_model.specs.Occurrences.{updated}
use Rattle.hp_model.specs.Firing.{changed_row}
use Rattle.hp_model.specs.Operations.{FaithfulOperation, update_object}
use Rattle.hp_model.specs.Cells.{object_cell, row_value}
use Rattle.hp_view.specs.Seeing.{written, Writes}
use Rattle.hp_ops.specs.Given.{given_in}
use Rattle.hp_ops.proofs.Operating.{ObjectFound, update_refused, update_made}
use Rattle.hp_ops.proofs.objects.update.Goals as goal

pub returns-in_default-clause-operation : goal.returns-in_default-clause-operation
returns-in_default-clause-operation c =
    let fits : SFits w64 c.args.key = search rules in
    let back : to_z w64 (of_z w64 c.args.key) ≡ c.args.key = to_z-of_z w64 c.args.key fits in
    let none : c.in_ok-old.field-0 ≡ None = search rules in
    update_refused c.args.view.now c.find_object.new.view c.args.class c.args.key (given_in c.args.given.now) c.in_ok-old.field-0 none c.in_ok-old.ensures.only
    (subst (λ k. ObjectFound c.args.class k c.find_object.new.view c.in_ok-old.field-0) back c.in_ok-old.ensures.finds)

pub returns-clause-operation : goal.returns-clause-operation
returns-clause-operation c = λ lib.
    let fits : SFits w64 c.args.key = search rules in
    let back : to_z w64 (of_z w64 c.args.key) ≡ c.args.key = to_z-of_z w64 c.args.key fits in
    let there : c.in_ok-old.field-0 ≡ Some c.in-Some.old = search rules in
    let given = given_in c.args.given.now in
    let changed : c.in_ok-new.new ≡ changed_row given c.in-Some.old = c.in_ok-new.ensures in
    let same : c.in_ok-written.written ≡ c.in_ok-new.new = search rules in
    let writes : Writes c.find_object.new.view c.put.new.self (object_cell c.args.class (to_z w64 (of_z w64 c.args.key))) (Some (row_value c.in_ok-written.written)) = c.in_ok-put.ensures.ok in
    subst (λ k. FaithfulOperation lib (update_object c.args.class c.args.key given) c.put.new.self.reads (written c.args.view.now) (written c.put.new.self)
    (Ok (updated c.args.class k c.in-Some.old c.in_ok-new.new))) (sym back)
    (update_made c.args.view.now c.find_object.new.view c.put.new.self c.args.class c.args.key given c.in-Some.old c.in_ok-new.new c.in_ok-old.field-0 there changed c.in_ok-old.ensures.only
    (subst (λ k. ObjectFound c.args.class k c.find_object.new.view c.in_ok-old.field-0) back c.in_ok-old.ensures.finds)
    (subst (λ k. Writes c.find_object.new.view c.put.new.self (object_cell c.args.class k) (Some (row_value c.in_ok-new.new))) back
    (subst (λ (r : Row). Writes c.find_object.new.view c.put.new.self (object_cell c.args.class (to_z w64 (of_z w64 c.args.key))) (Some (row_value r))) same writes)) lib)

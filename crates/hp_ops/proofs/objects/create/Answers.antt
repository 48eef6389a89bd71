use Rattle.std.proofs.Common.{rules, ◌≡◌, sym, subst, SFits, w64, of_z, to_z, true, false, is_some, Ok, Some}
use Rattle.std.proofs.lemmas.Int.{to_z-of_z}
use Rattle.hp_model.specs.Values.{Row}
use Rattle.hp_model.specs.Occurrences.{created}
use Rattle.hp_model.specs.Operations.{FaithfulOperation, create_object}
use Rattle.hp_model.specs.Cells.{object_cell, row_value}
use Rattle.hp_view.specs.Seeing.{written, Writes}
use Rattle.hp_ops.proofs.Operating.{ObjectFound, create_refused, create_made}
use Rattle.hp_ops.proofs.objects.create.Goals as goal

pub returns-then-is_some-clause-operation : goal.returns-then-is_some-clause-operation
returns-then-is_some-clause-operation c =
    let fits : SFits w64 c.args.key = search rules in
    let back : to_z w64 (of_z w64 c.args.key) ≡ c.args.key = to_z-of_z w64 c.args.key fits in
    let there : is_some c.in_ok-find_object.field-0 ≡ true = search rules in
    create_refused c.args.view.now c.find_object.new.view c.args.class c.args.key c.args.new c.in_ok-find_object.field-0 there c.in_ok-find_object.ensures.only
    (subst (λ k. ObjectFound c.args.class k c.find_object.new.view c.in_ok-find_object.field-0) back c.in_ok-find_object.ensures.finds)

pub returns-clause-operation : goal.returns-clause-operation
returns-clause-operation c = λ lib.
    let fits : SFits w64 c.args.key = search rules in
    let back : to_z w64 (of_z w64 c.args.key) ≡ c.args.key = to_z-of_z w64 c.args.key fits in
    let apart : is_some c.in_ok-find_object.field-0 ≡ false = search rules in
    let same : c.in_ok-written.written ≡ c.args.new = search rules in
    let writes : Writes c.find_object.new.view c.put.new.self (object_cell c.args.class (to_z w64 (of_z w64 c.args.key))) (Some (row_value c.in_ok-written.written)) = c.in_ok-put.ensures.ok in
    subst (λ k. FaithfulOperation lib (create_object c.args.class c.args.key c.args.new) c.put.new.self.reads (written c.args.view.now) (written c.put.new.self)
    (Ok (created c.args.class k c.args.new))) (sym back)
    (create_made c.args.view.now c.find_object.new.view c.put.new.self c.args.class c.args.key c.args.new c.in_ok-find_object.field-0 apart c.in_ok-find_object.ensures.only
    (subst (λ k. ObjectFound c.args.class k c.find_object.new.view c.in_ok-find_object.field-0) back c.in_ok-find_object.ensures.finds)
    (subst (λ k. Writes c.find_object.new.view c.put.new.self (object_cell c.args.class k) (Some (row_value c.args.new))) back
    (subst (λ (r : Row). Writes c.find_object.new.view c.put.new.self (object_cell c.args.class (to_z w64 (of_z w64 c.args.key))) (Some (row_value r))) same writes)) lib)

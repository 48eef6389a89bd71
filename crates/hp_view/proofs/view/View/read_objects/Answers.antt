use Rattle.std.proofs.Common.{refl, ◌∙◌, sym, subst}
use Rattle.std.specs.declared.sync.Arc.{Arc}
use Rattle.std.specs.declared.alloc.Global.{Global}
use Rattle.hp_value.specs.declared.objects.ObjectList.{ObjectList}
use Rattle.hp_view.specs.Adding.{IsOfClass}
use Rattle.hp_view.proofs.Adding.{adds_whole, adds_keys, adds_on}
use Rattle.std.specs.Prelude.{All}
use Rattle.hp_model.specs.Cells.{object_cell}
use Rattle.hp_view.specs.Seeing.{Shows, now_in, written}
use Rattle.hp_view.specs.Looks.{only_reads_then}
use Rattle.hp_view.proofs.Reading.{some_told}
use Rattle.hp_view.proofs.Wholes.{whole_still, read_by_rows, cells_of_whole, cells_by_rows}
use Rattle.hp_view.proofs.view.View.read_objects.Goals as goal

pub returns-then-is_some-clause-shows : goal.returns-then-is_some-clause-shows
returns-then-is_some-clause-shows c = λ objects are.
    let found = some_told c.in_ok-whole_beneath.field-0 c.in_ok-whole_beneath.ensures.held (sym c.is_some.ensures ∙ c.if-is_some.true) in
    whole_still c.whole_beneath.ensures.only c.in_ok-whole_beneath.ensures.reads_held found.1 are

pub returns-clause-shows : goal.returns-clause-shows
returns-clause-shows c = λ objects are.
    read_by_rows (only_reads_then c.args.self.now c.whole_beneath.new.self c.keys.new.self c.whole_beneath.ensures.only c.keys.ensures.only) c.in_ok-keys.ensures.shows c.in_ok-keys.ensures.reads_held
    c.read_rows.ensures.only
    (subst (All (λ key. Shows c.read_rows.new.self (object_cell c.args.class key) (now_in c.keys.new.self (object_cell c.args.class key)))) c.deref.ensures.value c.in_ok-read_rows.ensures.shows) are

pub returns-then-is_some-clause-cells : goal.returns-then-is_some-clause-cells
returns-then-is_some-clause-cells c =
    let found = some_told c.in_ok-whole_beneath.field-0 c.in_ok-whole_beneath.ensures.held (sym c.is_some.ensures ∙ c.if-is_some.true) in
    cells_of_whole c.whole_beneath.ensures.only c.in_ok-whole_beneath.ensures.reads_held found.1

pub returns-clause-cells : goal.returns-clause-cells
returns-clause-cells c =
    cells_by_rows (only_reads_then c.args.self.now c.whole_beneath.new.self c.keys.new.self c.whole_beneath.ensures.only c.keys.ensures.only) c.in_ok-keys.ensures.shows c.in_ok-keys.ensures.reads_held
    c.read_rows.ensures.only
    (subst (All (λ key. Shows c.read_rows.new.self (object_cell c.args.class key) (now_in c.keys.new.self (object_cell c.args.class key)))) c.deref.ensures.value c.in_ok-read_rows.ensures.shows)

pub returns-then-is_some-clause-reads : goal.returns-then-is_some-clause-reads
returns-then-is_some-clause-reads c =
    adds_whole (λ (o : Arc ObjectList Global). o.value) c.args.self.now c.whole_beneath.new.self c.args.class c.in_ok-whole_beneath.field-0
    c.in_ok-whole_beneath.ensures.reads c.in_ok-whole_beneath.ensures.none

pub returns-clause-reads : goal.returns-clause-reads
returns-clause-reads c =
    let whole = adds_whole (λ (o : Arc ObjectList Global). o.value) c.args.self.now c.whole_beneath.new.self c.args.class c.in_ok-whole_beneath.field-0
    c.in_ok-whole_beneath.ensures.reads c.in_ok-whole_beneath.ensures.none in
    let by_keys = adds_on c.keys.new.self c.args.class c.whole_beneath.ensures.only whole
    (adds_keys (IsOfClass (written c.whole_beneath.new.self) c.args.class) (λ keys. refl) c.in_ok-keys.ensures.reads) in
    adds_on c.read_rows.new.self c.args.class (only_reads_then c.args.self.now c.whole_beneath.new.self c.keys.new.self c.whole_beneath.ensures.only c.keys.ensures.only)
    by_keys c.read_rows.ensures.reads

pub returns-in_err-read_rows-clause-reads : goal.returns-in_err-read_rows-clause-reads
returns-in_err-read_rows-clause-reads c =
    let whole = adds_whole (λ (o : Arc ObjectList Global). o.value) c.args.self.now c.whole_beneath.new.self c.args.class c.in_ok-whole_beneath.field-0
    c.in_ok-whole_beneath.ensures.reads c.in_ok-whole_beneath.ensures.none in
    let by_keys = adds_on c.keys.new.self c.args.class c.whole_beneath.ensures.only whole
    (adds_keys (IsOfClass (written c.whole_beneath.new.self) c.args.class) (λ keys. refl) c.in_ok-keys.ensures.reads) in
    adds_on c.read_rows.new.self c.args.class (only_reads_then c.args.self.now c.whole_beneath.new.self c.keys.new.self c.whole_beneath.ensures.only c.keys.ensures.only)
    by_keys c.read_rows.ensures.reads

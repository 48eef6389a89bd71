use Rattle.std.proofs.Common.{pos, get_or, w64, FitsSigned, rules, subst}
use Rattle.std.specs.Prelude.{All}
use Rattle.std.proofs.lemmas.Int.{to_z-of_z}
use Rattle.std.proofs.lemmas.List.{take_all}
use Rattle.hp_model.specs.Cells.{object_cell}
use Rattle.hp_view.specs.Looks.{only_reads_then}
use Rattle.hp_view.specs.Seeing.{now_in, Shows}
use Rattle.hp_view.proofs.Adding.{adds_row}
use Rattle.hp_view.proofs.Views.{GoesOn-then}
use Rattle.hp_view.proofs.Wholes.{read_more}
use Rattle.hp_view.proofs.view.View.read_rows.Goals as goal

pub loop-key-preserved : goal.loop-key-preserved
loop-key-preserved c =
    let fits : FitsSigned w64 (get_or c.args.keys.now c.loop-key.key-index (pos 0)) = search rules in
    record {
      only = only_reads_then c.args.self.now c.loop-key.self c.read.new.self c.loop-key.invariant.only c.read.ensures.only;
      on = GoesOn-then c.loop-key.invariant.on c.read.ensures.goes_on;
      adds = adds_row c.args.class _ c.loop-key.invariant.only c.loop-key.invariant.adds c.in_ok-read.ensures.reads;
      shows = read_more c.args.self.now c.args.class c.args.keys.now c.loop-key.key-index _ c.loop-key-test.true (to_z-of_z w64 _ fits) c.loop-key.invariant.only c.read.ensures.only
          c.loop-key.invariant.shows c.in_ok-read.ensures.shows;
    }

pub returns-clause-shows : goal.returns-clause-shows
returns-clause-shows c =
    subst (All (λ key. Shows c.loop-key.self (object_cell c.args.class key) (now_in c.args.self.now (object_cell c.args.class key))))
    (take_all c.loop-key.key-index c.args.keys.now c.loop-key-test.false) c.loop-key.invariant.shows

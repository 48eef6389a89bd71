-- Views that go on, for the layers above.
use Rattle.std.proofs.Common.{refl, sym, ap, ◌∙◌, ◌≤◌, [], ◌++◌, append-nil, append_assoc, length, arith}
use Rattle.hp_view.specs.Seeing.{Seeing, GoesOn}

-- a view goes on from itself
pub GoesOn-same : (v : Seeing) → GoesOn v v
GoesOn-same v = record { base = refl; reads = ([], sym (append-nil v.reads)); undo = omega arith; before = λ n within. refl }

-- and from one from which another goes on that it goes on from
pub GoesOn-then : {first second third : Seeing} → GoesOn first second → GoesOn second third → GoesOn first third
GoesOn-then {first} {second} {third} one two = record {
  base = two.base ∙ one.base;
  reads = (one.reads.0 ++ two.reads.0, two.reads.1 ∙ ap (λ rs. rs ++ two.reads.0) one.reads.1 ∙ append_assoc first.reads one.reads.0 two.reads.0);
  undo = omega arith;
  before = λ n within.
      let further : n ≤ length second.undo = omega arith in
      two.before n further ∙ one.before n within;
}

use Rattle.std.proofs.Common.{◌≡◌, true, take, IfSome}
use Rattle.hp_store.specs.Changes.{changes_in}
use Rattle.hp_store.specs.Greatest.{is_below, NamesNone}
use Rattle.hp_store.proofs.greatest.greatest_in.Given as goal

abbrev pub invariant-loop-shared : goal.invariant-loop-shared
invariant-loop-shared l = record {
  below : IfSome l.greatest (λ key. is_below l.bound key ≡ true);
  above : NamesNone (changes_in (take l.shared-index l.layers)) l.class l.bound l.greatest;
}

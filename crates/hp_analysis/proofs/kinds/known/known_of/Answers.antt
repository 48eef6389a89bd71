use Rattle.std.proofs.Common.{Some, sym, subst, List}
use Rattle.std.proofs.lemmas.List.Elements.{All-push}
use Rattle.hp_analysis.specs.Bases as bases
use Rattle.hp_analysis.specs.Knowledge.{IsKnown, AreKnown}
use Rattle.hp_analysis.specs.Places.{columns}
use Rattle.hp_analysis.specs.declared.kinds.known.Known.{Known}
use Rattle.hp_analysis.proofs.kinds.known.known_of.Goals as goal

pub loop-asked-preserved : goal.loop-asked-preserved
loop-asked-preserved c =
    let L = bases.library c.args.base in
    let d = bases.declared c.args.base in
    let cs = Some (columns c.args.columns.now) in
    subst (λ (ks : List Known). AreKnown L d cs ks) (sym c.in_ok-push.ensures.items)
    (All-push (IsKnown L d cs) c.loop-asked.known.items _ c.loop-asked.invariant c.look-given.ensures)

use Rattle.std.proofs.Common.{◌≡◌, refl, sym, ap, ◌∙◌, length, [], true, false, btree_map_len}
use Rattle.std.proofs.lemmas.List.{length-map}
use Rattle.hp_analysis.specs.Declarations.{signatures}
use Rattle.hp_analysis.specs.Graphs.{seen}
use Rattle.hp_analysis.proofs.Marks.{none_raised, raised_marked}
use Rattle.hp_analysis.proofs.triggers.Triggers.mark_raised.Goals as goal

pub returns-then-is_empty : goal.returns-then-is_empty
returns-then-is_empty c =
    let es = c.args.declaration.now.signatures.entries in
    let none : btree_map_len c.args.declaration.now.signatures ≡ 0 = c.if-is_empty.ensures.0 refl in
    none_raised (seen c.args.self.now) (signatures es) c.args.set.now.items (length-map es _ ∙ none)

pub returns : goal.returns
returns c =
    let es = c.args.declaration.now.signatures.entries in
    let some : signatures es ≡ [] → ⊥ = λ none.
    let empty : false ≡ true = c.if-is_empty.ensures.1 (sym (length-map es _) ∙ ap length none) in
    cc in
    raised_marked (seen c.args.self.now) (signatures es) c.args.set.now.items c.mark_signals.new.set.items c.mark_commit.new.set.items some c.mark_signals.ensures c.mark_commit.ensures

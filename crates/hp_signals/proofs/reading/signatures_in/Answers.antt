use Rattle.std.proofs.Common.{◌≡◌, ◌∙◌, ap, sym, subst, [], ◌∷◌, ◌++◌, map, string_bytes, Ok}
use Rattle.serde_json.specs.View.{view}
use Rattle.hp_model.specs.Refusals.{Path, item_at, Decoded}
use Rattle.hp_model.specs.Parts.{read_from}
use Rattle.hp_rule.specs.Places.{steps}
use Rattle.hp_script.specs.Mapped.{Fails}
use Rattle.hp_analysis.specs.Kinded.{sort}
use Rattle.hp_analysis.specs.Declarations.{declared}
use Rattle.hp_signals.specs.Signals.{Signature, signature_at}
use Rattle.hp_signals.specs.Mapped.{signature, is_in}
use Rattle.hp_signals.proofs.Listing.{lists_more}
use Rattle.hp_signals.proofs.InOrder.{read_next, read_by, read_one_more, stops, root_is, of_list}
use Rattle.hp_signals.proofs.reading.signatures_in.Goals as goal

pub loop-i-preserved : goal.loop-i-preserved
loop-i-preserved c =
    let before = c.loop-i.invariant.0 in
    let lists = c.loop-i.invariant.1 in
    let d = declared c.loop-i.declaration in
    let i = c.loop-i.i in
    let v = c.index-values-i.result in
    let next = signature c.in-Ok.next in
    let all = read_from read_next [] [] 0 (map view c.in_ok-values.values.now) in
    let at : steps c.item.result ≡ item_at [] i = c.item.ensures ∙ ap (λ (path : Path). item_at path i) root_is in
    let here : read_next before (item_at [] i) (view v) ≡ Ok next =
    sym (read_by d before (item_at [] i) (view v) lists) ∙ ap (λ (path : Path). signature_at (is_in d) path (view v)) (sym at) ∙ c.in-Ok.ensures.reads in (
      before ++ next ∷ [],
      lists_more d (declared c.declare.new.self) before (string_bytes c.in-Ok.next.name) (map sort c.in-Ok.next.sorts.items) lists
          c.in-Ok.ensures.new c.in_ok-declare-in-Ok.ensures.stored c.in_ok-declare-in-Ok.ensures.fired,
      read_one_more before next i v c.in_ok-values.values.now all c.loop-i-test.true c.index-values-i.is here c.loop-i.invariant.2,
    )

pub returns-in-Err : goal.returns-in-Err
returns-in-Err c =
    let before = c.loop-i.invariant.0 in
    let d = declared c.loop-i.declaration in
    let i = c.loop-i.i in
    let v = c.index-values-i.result in
    let e = c.in-Err.error in
    let all = read_from read_next [] [] 0 (map view c.in_ok-values.values.now) in
    let at : steps c.item.result ≡ item_at [] i = c.item.ensures ∙ ap (λ (path : Path). item_at path i) root_is in
    let same : signature_at (is_in d) (steps c.item.result) (view v) ≡ read_next before (item_at [] i) (view v) =
    ap (λ (path : Path). signature_at (is_in d) path (view v)) at ∙ read_by d before (item_at [] i) (view v) c.loop-i.invariant.1 in
    let fails = subst (λ (r : Decoded Signature). Fails e r) same c.in-Err.ensures.reads in
    subst (λ r. Fails e r) (sym (of_list (view c.args.value.now) (map view c.in_ok-values.values.now) c.in_ok-values.ensures))
    (stops before e i v c.in_ok-values.values.now all c.loop-i-test.true c.index-values-i.is fails c.loop-i.invariant.2)

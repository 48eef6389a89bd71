-- `none` makes the null handle.
use Rattle.std.proofs.Common.{◌≡◌, [], ◌∷◌, refl, lit<}
use base.Logic.{emp}
use base.Fml.{ftrue}
use types.Kit.{‵, raw, ◌⊛◌, ◌$◌, ◌∵◌, !, qed, by, keep, split, use0, feq_i}
use types.Run.{lit, no_more, and_then, returns, enter}
use types.ByLocal.{alloc_all, pass_all, free_all, look_at, sets}
use types.Part.{agg}
use contract.Monad.{fact, fact_i}
use contract.Running.{tables}
use denote.RawPtr.{Ptr, null_ptr}
use denote.Steps.{nothing}
use denote.Triple.Walked.{Stays, walk_of}
use Rattle.std.specs.declared.option.Option.{Option}
use Rattle.std.specs.declared.option.Option.TheVariants.{None}
use Rattle.hipac_c.specs.Kept.{Kept}
use Rattle.std.proofs.raw_atomic.Walks.{proved_at, leaves}
use Rattle.hipac_c.proofs.Values.{alone, handle_in}
use Rattle.hipac_c.specs.contracts.handle.Handle.none.{ended, clauses}
use Rattle.hipac_c.specs.contracts.handle.Handle.none.Key.{name as #self}
use Rattle.hipac_c.proofs.handle.Handle.none.Statement.{statement}
use Rattle.hipac_c.proofs.handle.Handle.none.Code as code

pub none_spec : {M : Type 1} → statement M
none_spec 𝓤 𝓛 𝓜 𝓡 wired =
    let H = 𝓛.H in let 𝓣 = tables 𝓤 H 𝓜 𝓡 𝓡.env in let c = clauses 𝓛 𝓜.mem 𝓡.returns in let hs : Stays ended.signature.params ended.kept = tt in
    proved_at 𝓛 ended hs c 𝓜 𝓡 tt #self code.function (code.unfolded 𝓤 H 𝓜 𝓡 wired) (λ z are.
    let bare : Option Kept = None in let Same = bare ≡ None in
    qed 𝓛 ((‵ ftrue ⊛ ‵ ftrue) ∷ ‵ ftrue ∷ []) ∵ split ! $ enter ! 𝓣.C 𝓣.Λ code.function [] ((walk_of 𝓛 ended hs c).post z) $ alloc_all ! (λ l. pass_all ! refl tt $
    sets ! (agg ! (and_then ! (lit ! tt) (no_more !))) refl (tt, (record { fits = lit< tt }, tt)) $
    use0 𝓛 (raw (fact 𝓤 Same)) (fact_i 𝓤 Same (emp 𝓤) refl) $ feq_i ! Ptr null_ptr null_ptr refl $ handle_in ! null_ptr None $ nothing ! $ nothing ! $
    returns ! (look_at ! 0 refl) $ free_all ! refl $ keep ! (0 ∷ 1 ∷ 2 ∷ 3 ∷ []) $ by ! (leaves 𝓛 ended hs c z (alone null_ptr) (record { at = null_ptr; kept = None }) tt tt)))

use Prim.Native.Nat.{ℕ}
use base.Shift.{Keyless}
use denote.RattleType.{RattleType}
use denote.Param.Send.{IsSync, sendable}
use Rattle.std.specs.declared.option.Option.{Option}
use Rattle.std.specs.declared.option.Option.TheVariants.{None, Some}
use Rattle.once_cell.specs.Once.{noted}
use Rattle.hp_board.specs.contracts.witness.Witness as W

noted_keyless : (R : RattleType) (γ : ℕ) (k : Option R.Denot) → Keyless (noted R γ k)
noted_keyless R γ None = tt
noted_keyless R γ (Some x) = tt

pub sync : (T : RattleType) → IsSync (W.the_row T)
sync T = let fields : IsSync (denote.Struct.Struct.Struct (denote.Struct.Owning.shape (W.the_type T))) = search sendable depth 20 in
    record { shared = λ d b o κ. (fields.shared (tt, tt) b o κ, noted_keyless T d.cell d.known) }

-- A base is opened by some declaration, if it is checked.
use Rattle.std.proofs.Common.{◌≡◌, sym, ap, [], Bool, true, false}
use Rattle.std.specs.declared.option.Option.{Option}
use Rattle.std.specs.declared.option.Option.TheVariants.{None, Some}
use Rattle.hp_model.specs.Kinds.{Declared}
use Rattle.hipac_c.specs.Exports.{checks_by, ChecksBy}

none_declared : Declared
none_declared = record { signatures = []; fired = [] }

pub unchecked : (b : Bool) → b ≡ false → ChecksBy b None
unchecked b is = (none_declared, ap (λ (x : Bool). checks_by x none_declared) (sym is))

pub checked : (b : Bool) (d : Declared) → b ≡ true → ChecksBy b (Some d)
checked b d is = (d, ap (λ (x : Bool). checks_by x d) (sym is))

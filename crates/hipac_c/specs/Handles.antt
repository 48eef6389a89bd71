-- What a handle owns.
--     heap                the one value of an allocator's handle
--     kept_owns p k       at p lies the boxed value k, with the right to free it
--     handle_owns p x     the same of the value x;  with none p is null
use base.Fml.{Fml, feq}
use denote.RawPtr.{Ptr, null_ptr}
use Rattle.std.specs.declared.option.Option.{Option}
use Rattle.std.specs.declared.option.Option.TheVariants.{None, Some}
use Rattle.std.specs.declared.alloc.Global.{Global}
use Rattle.std.specs.contracts.impls.GlobalAllocator.TheImpl.{ghosts}
use Rattle.std.specs.Box.Ownership.{box_owns}
use Rattle.hipac_c.specs.Kept.{the_row, Kept}

abbrev pub heap : Global
heap = record { memory = record { seal = tt } }

abbrev pub kept_owns : Ptr → Kept → Fml
kept_owns p k = box_owns (ghosts.dealloc_token heap) the_row p k

abbrev pub handle_owns : Ptr → Option Kept → Fml
handle_owns p None = feq Ptr p null_ptr
handle_owns p (Some k) = kept_owns p k

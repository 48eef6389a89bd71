use Rattle.std.proofs.Common.{◌≡◌, ℕ, subst, take}
use Rattle.std.specs.Prelude.{IfOk, IfSome}
use Rattle.hipac_text.proofs.running.read_input.Goals as goal

pub returns-clause-bytes : goal.returns-clause-bytes
returns-clause-bytes g c =
    let remaining = g.R.Source.remaining c.args.reader.now in
    subst (λ (n : ℕ). IfOk c.read_up_to.result (λ input. IfSome remaining (λ all. input.items ≡ take n all)))
    c.most_read.ensures c.read_up_to.ensures.bytes

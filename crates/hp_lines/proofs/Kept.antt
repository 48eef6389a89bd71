-- What goes out, over several calls.
use Rattle.std.proofs.Common.{ℕ, List, [], ◌++◌, Option, sym, ap, ◌∙◌, append_assoc, append-nil}
use Rattle.std.proofs.KnownBytes.{Appends-trans}
use Rattle.std.specs.Io.KnownBytes.{Appends}
use Rattle.hp_report.specs.Device.{Begins}

-- all of it went out
pub begins_whole : (a b : Option (List ℕ)) (text : List ℕ) → Appends a b text → Begins a b text
begins_whole a b text out = (text, [], sym (append-nil text), out)

-- a beginning is one of more
pub begins_more : (a b : Option (List ℕ)) (text more : List ℕ) → Begins a b text → Begins a b (text ++ more)
begins_more a b text more p = (p.0, p.1 ++ more, ap (λ (l : List ℕ). l ++ more) p.2 ∙ append_assoc p.0 p.1 more, p.3)

-- a beginning goes on
pub begins_on : (a b c : Option (List ℕ)) (text more : List ℕ) → Appends a b text → Begins b c more → Begins a c (text ++ more)
begins_on a b c text more out p =
    (text ++ p.0, p.1, ap (λ (l : List ℕ). text ++ l) p.2 ∙ sym (append_assoc text p.0 p.1), Appends-trans a b c text p.0 out p.3)

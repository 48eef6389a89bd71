-- Reads of one cell, of a rule, and of the rules that an occurrence concerns.
use Rattle.std.proofs.Common.{◌≡◌, ℕ, List, true, inl, inr}
use Rattle.hp_model.specs.Occurrences.{Primitive}
use Rattle.hp_model.specs.Rules.{Library}
use Rattle.hp_model.specs.Cells.{Cell, Read, rule_cell, detector_cell}
use Rattle.hp_model.proofs.BridgesCells.{same_self}
use Rattle.hp_rule.specs.Mentions.{is_mentioned}
use Rattle.hp_view.specs.Adding.{AddsReads, adds_then}
use Rattle.hp_view.specs.Seeing.{Seeing, read_cell}
use Rattle.hp_view.proofs.Adding.{adds_cell, adds_more}
use Rattle.hp_ops.specs.Reading.{IsReadOf, IsReadOfRule, IsReadOfMentioned}

-- what reading the cell adds
pub adds_read : {old new : Seeing} (cell : Cell) → new ≡ record old { reads = read_cell old cell } → AddsReads (IsReadOf cell) old.reads new.reads
adds_read cell is = adds_cell (IsReadOf cell) cell (λ e. same_self cell) is

-- what reading a rule's status adds
pub adds_status : {old new : Seeing} (n : ℕ) → new ≡ record old { reads = read_cell old (rule_cell n) } → AddsReads (IsReadOfRule n) old.reads new.reads
adds_status n is = adds_more (λ r. inl) (adds_read (rule_cell n) is)

-- and then its detector
pub adds_detector : {old new : Seeing} {after : List Read} (n : ℕ) → new ≡ record old { reads = read_cell old (rule_cell n) } → AddsReads (IsReadOf (detector_cell n)) new.reads after
    → AddsReads (IsReadOfRule n) old.reads after
adds_detector n is more = adds_then (adds_status n is) (adds_more (λ r. inr) more)

-- what is read of a mentioned rule
pub adds_mentioned : (library : Library) (p : Primitive) (n : ℕ) {first second third : List Read} → is_mentioned library.rules p n ≡ true
    → AddsReads (IsReadOfMentioned library p) first second → AddsReads (IsReadOfRule n) second third → AddsReads (IsReadOfMentioned library p) first third
adds_mentioned library p n mentioned so_far more = adds_then so_far (adds_more (λ r is. record { rule = n; mentioned = mentioned; reads = is }) more)

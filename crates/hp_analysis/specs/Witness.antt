-- A chain of more firings than may nest, as a reason why a library or a script isn't safe.
use Rattle.std.specs.Prelude.{ℕ, zero, suc, Bool, true, false, IsTrue, List, [], ◌∷◌, length, map, ◌==◌, ◌≡◌, ◌+◌, ⊤, Ok}
use Rattle.std.specs.List.{list_any}
use Rattle.std.specs.Option.{option_map_or}
use Rattle.hp_model.specs.Rules.{Library, rule_at}
use Rattle.hp_model.specs.Cascade.{Unit}
use Rattle.hp_model.specs.Checked.{library_check}
use Rattle.hp_model.specs.Chains.{rule_triggers, rule_within}
use Rattle.hp_analysis.specs.Sets.{no_rules, targets, begun, outside_from}
use Rattle.hp_analysis.specs.Installed.{with_only}
use Rattle.hp_analysis.specs.Tables.{within}

-- the rule, and then always the first rule that it may trigger from which the rest of the chain goes on
abbrev pub chain_from : Library → (more : ℕ) → (n : ℕ) → List ℕ
chain_from library zero n = n ∷ []
chain_from library (suc more) n = n ∷ option_map_or (chain_from library more) (outside_from (within library more) 0 (targets library (rule_at library n))) []

-- the same from the first rule of the set that begins a chain of more firings than may nest, if one does
abbrev pub chain_of : Library → (set : List Bool) → List ℕ
chain_of library set = option_map_or (chain_from library library.depth_limit) (outside_from (within library library.depth_limit) 0 set) []

-- a chain of any rules, and one that these units begin
abbrev pub library_chain : Library → List ℕ
library_chain library = chain_of library (map (λ r. true) library.rules)

abbrev pub script_chain : Library → List Unit → List ℕ
script_chain library units = chain_of library (begun library units (no_rules library))

-- each rule of the list may trigger the next one
abbrev pub IsPath : Library → ℕ → List ℕ → Type 0
IsPath library n [] = ⊤
IsPath library n (m ∷ ms) = IsTrue (list_any (λ t. t == m) (rule_triggers library (rule_at library n))) × IsPath library m ms

abbrev pub IsPathOf : Library → List ℕ → Type 0
IsPathOf library [] = ⊤
IsPathOf library (n ∷ ns) = IsPath library n ns

-- for a rule that begins a chain of more than `more` firings it is a path of one firing more than that
abbrev pub ChainIsPath : Type 0
ChainIsPath = (library : Library) → library_check library ≡ Ok tt → (more n : ℕ) → rule_within library more (rule_at library n) ≡ false
    → IsPathOf library (chain_from library more n) × (length (chain_from library more n) ≡ more + 1)

-- also in the library in which the rules outside a set do nothing
abbrev pub ChainIsPathAmong : Type 0
ChainIsPathAmong = (library : Library) (set : List Bool) → library_check library ≡ Ok tt → let among = with_only set library in (more n : ℕ) → rule_within among more (rule_at among n) ≡ false
    → IsPathOf among (chain_from among more n) × (length (chain_from among more n) ≡ more + 1)

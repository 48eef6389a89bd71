-- How long the longest chain of firings is.
use Rattle.std.specs.Prelude.{ℕ, zero, suc, nat_lt, Bool, ◌&&◌, Option, Some, None, if◌then◌else◌}
use Rattle.hp_model.specs.Rules.{Library}
use Rattle.hp_model.specs.Cascade.{Script}
use Rattle.hp_model.specs.Chains.{library_within, script_within}

-- the least number from j on that passes the test, if one of these does
abbrev pub least_from : (test : ℕ → Bool) → (j more : ℕ) → Option ℕ
least_from test j zero = if test j then Some j else None
least_from test j (suc more) = if test j then Some j else least_from test (suc j) more

abbrev pub least : (test : ℕ → Bool) → (most : ℕ) → Option ℕ
least test most = least_from test 0 most

-- the number of firings of the library's longest chain, if no chain has more than may nest
abbrev pub library_depth : Library → Option ℕ
library_depth library = least (library_within library) library.depth_limit

-- the same for the chains that the script's units begin
abbrev pub script_depth : Script → Option ℕ
script_depth script = least (λ k. nat_lt 0 k && script_within k script) script.library.depth_limit

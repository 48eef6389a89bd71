-- How much is left to run, which decreases with each nested call.
use Rattle.std.specs.Prelude.{ℕ, ◌+◌, ◌*◌, ◌-◌}
use denote.Param.Weighed.{most}
use Rattle.hp_rule.specs.declared.stmt.Stmt.{size-Stmt}
use Rattle.hp_rule.specs.declared.library.Library.{Library}

-- how deep statements nest in the library's actions
abbrev pub deepest : Library → ℕ
deepest lib = most (λ rule. most size-Stmt rule.action.items) lib.rules.items

-- how many firings can still nest in a transaction of this depth
abbrev pub levels : Library → (depth : ℕ) → ℕ
levels lib depth = lib.depth_limit - depth

-- the weight of this many firings and this many levels of statements: a firing counts more than any action
abbrev pub left : Library → ℕ → ℕ → ℕ
left lib firings size = firings * (deepest lib + 2) + size

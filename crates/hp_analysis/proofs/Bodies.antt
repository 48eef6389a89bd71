-- The statements of a body by their indices.
use Rattle.std.proofs.Common.{◌≡◌, refl, ap, ◌∙◌, ℕ, zero, suc, Some}
use Rattle.hp_model.specs.Rules.{Statement, Body, empty, ◌then◌}
use Rattle.hp_analysis.specs.Parts.{statement_at}

-- the statements from an index on
abbrev pub body_from : ℕ → Body → Body
body_from i empty = empty
body_from zero (s then rest) = s then rest
body_from (suc i) (s then rest) = body_from i rest

pub from_start : (b : Body) → body_from 0 b ≡ b
from_start empty = refl
from_start (s then rest) = refl

pub statement_is : (i : ℕ) (whole : Body) (s : Statement) (rest : Body) → body_from i whole ≡ (s then rest) → statement_at i whole ≡ Some s
statement_is i empty s rest is = cc
statement_is zero (t then more) s rest is = ap (statement_at 0) is
statement_is (suc i) (t then more) s rest is = statement_is i more s rest is

pub later_is : (i : ℕ) (whole : Body) (s : Statement) (rest : Body) → body_from i whole ≡ (s then rest) → body_from (suc i) whole ≡ rest
later_is i empty s rest is = cc
later_is zero (t then more) s rest is = ap (body_from 1) is ∙ from_start rest
later_is (suc i) (t then more) s rest is = later_is i more s rest is

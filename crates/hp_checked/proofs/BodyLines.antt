-- The line that refuses an item.
use Rattle.std.proofs.Common.{◌≡◌, refl, [], ◌∷◌, ◌++◌}
use Rattle.std.specs.Prelude.{codes}
use Rattle.std.specs.Fmt.{digits}
use Rattle.std.specs.List.{flat_map}
use Rattle.hp_model.specs.Refusals.{Path, to_item}
use Rattle.hp_model.specs.Output.{step_text, path_text}
use Rattle.hp_lines.specs.Checked.{kinds_refusal}

pub body_line : (path : Path) → codes "refused S8 kinds /1" ++ (flat_map (λ step. 47 ∷ step_text step) path ++ 10 ∷ []) ≡ kinds_refusal (path_text (to_item 1 ∷ path) ∷ [])
unfolding digits
body_line path = refl

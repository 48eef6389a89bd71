-- Reading one byte more than the longest script is enough.
use Rattle.std.proofs.Common.{◌≡◌, ℕ, List, take, ap, Bool, true, false}
use Rattle.hp_model.specs.Output.{text_of, text_of_notation, output}
use Rattle.hp_notation.proofs.Longest.{script_of_take, script_of_text_take}
use Rattle.hipac.specs.Ends.{status_for, status_of}

pub output_of_take : (input : List ℕ) (is_text with_tree : Bool) → output (take 1048577 input) is_text with_tree ≡ output input is_text with_tree
output_of_take input false with_tree = ap (text_of with_tree) (script_of_take input)
output_of_take input true with_tree = ap (text_of_notation with_tree) (script_of_text_take input)

pub status_of_take : (input : List ℕ) (is_text : Bool) → status_of (take 1048577 input) is_text ≡ status_of input is_text
status_of_take input false = ap status_for (script_of_take input)
status_of_take input true = ap status_for (script_of_text_take input)

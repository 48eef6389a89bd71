-- The task of words by their number.
use Rattle.std.proofs.Common.{◌≡◌, ◌≢◌, refl, List, [], ◌∷◌, length, map, get_or, None, String, string_bytes}
use Rattle.std.specs.declared.alloc.Global.{Global}
use Rattle.hipac_text.specs.Ends.{task_named, task_for}

pub task_of_two : (words : List (String Global)) (word : String Global) → length words ≡ 2
    → word ≡ get_or words 1 word → task_for (map string_bytes words) ≡ task_named (string_bytes word)
task_of_two [] word two is = cc
task_of_two (a ∷ []) word two is = cc
task_of_two (a ∷ b ∷ []) word two is = cc
task_of_two (a ∷ b ∷ c ∷ ws) word two is = cc

pub task_of_others : (words : List (String Global)) → length words ≢ 2 → task_for (map string_bytes words) ≡ None
task_of_others [] others = refl
task_of_others (a ∷ []) others = refl
task_of_others (a ∷ b ∷ []) others = absurd (others refl)
task_of_others (a ∷ b ∷ c ∷ ws) others = refl

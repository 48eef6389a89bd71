-- The lines of an input.
use Rattle.std.specs.Prelude.{ℕ, ◌==◌, nat_lt, List, [], ◌∷◌, ◌++◌, length, if◌then◌else◌}

abbrev pub Line : Type 0
Line = List ℕ

-- the last line, if any byte of it has come
abbrev pub begun : Line → List Line
begun [] = []
begun (x ∷ line) = (x ∷ line) ∷ []

-- the lines of the bytes, the first of which has begun before them; each but the last ends with a line feed
abbrev pub lines_from : Line → List ℕ → List Line
lines_from line [] = begun line
lines_from line (x ∷ xs) = if x == 10 then line ∷ lines_from [] xs else lines_from (line ++ x ∷ []) xs

abbrev pub lines_of : List ℕ → List Line
lines_of bytes = lines_from [] bytes

-- the part of a line that is kept after one more byte; one byte over the limit shows that the line is too long
abbrev pub kept_with : Line → ℕ → Line
kept_with line x = if nat_lt 1048576 (length line) then line else line ++ x ∷ []

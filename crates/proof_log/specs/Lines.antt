-- Lines of a text.
use Rattle.std.specs.Prelude.{ℕ, List, [], ◌∷◌, ◌++◌}

-- a line with the line feed that ends it
abbrev pub fed : List ℕ → List ℕ
fed line = line ++ 10 ∷ []

-- the text of some lines
abbrev pub text_of_lines : List (List ℕ) → List ℕ
text_of_lines [] = []
text_of_lines (line ∷ lines) = fed line ++ text_of_lines lines

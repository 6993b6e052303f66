-- A case as text: the other way from reading (Table, Case), by the same table, from the fields of its lines (01, "The case text"; 02, Card
-- 2). proofs/Printing shows that a text that reads as a case is the print of that case, and that the print of a case within the ranges
-- reads as that case. Assumes nothing.
use Rattle.std.specs.Prelude.{List, [], ◌∷◌, ◌++◌, ℕ}
use Prim.Native.Char.{code}
use Rattle.rules.specs.Text.{decimal}
use Rattle.rules.specs.Case.{Case, Valued}
use Rattle.rules.specs.Fields.{line_fields, lines_of}

-- "fields are in fixed order, parted by commas, no quoting": each number after a comma.
abbrev pub numbers_text : List ℕ → List ℕ
numbers_text [] = []
numbers_text (n ∷ ns) = code "," ∷ (decimal n ++ numbers_text ns)

-- "Lines end in a line feed"; "Field 1 is a letter. The rest are plain numbers": a line by its fields.
unfoldable pub line_text : List ℕ → List ℕ
line_text [] = code "\n" ∷ []
line_text (letter ∷ numbers) = letter ∷ (numbers_text numbers ++ (code "\n" ∷ []))

-- Lines in turn.
abbrev pub lines_text : List Valued → List ℕ
lines_text [] = []
lines_text (x ∷ xs) = line_text (line_fields x) ++ lines_text xs

-- The text of a case.
unfoldable pub printed : Case → List ℕ
printed k = lines_text (lines_of k)

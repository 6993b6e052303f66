-- The lines, words and names of the two texts that come beside a case (02, Card 6). A place in a text is a number of bytes from its start.
-- Assumes nothing.
use Rattle.std.specs.Prelude.{Bool, true, false, ◌&&◌, not, List, [], ◌∷◌, ℕ, suc, ◌+◌, eqb, leb, ltb, length, drop}
use Rattle.std.proofs.Math.Option.{Option, none, some}
use Prim.Native.Char.{code}
use Rattle.rules.specs.declared.Answer.TheVariants.{WrongShape}
use Rattle.rules.specs.Result.{Result, found, refused}
use Rattle.rules.specs.Text.{is_feed, is_comma, is_plain, value_of, feed_follows}
use Rattle.rules.specs.Case.{Read}
use Rattle.rules.specs.Faults.{pieces}

-- ---- Lines

-- The bytes of the line that starts here, up to its line feed.
abbrev pub line_of : List ℕ → List ℕ
line_of [] = []
line_of (b ∷ bs) = elim (is_feed b) [ true ↦ [] | false ↦ b ∷ line_of bs ]

-- "17, line missing": the line that is due here has a line feed. What it holds, the number of the next line and its place. The item is "1 in
-- the name list, else 0".
unfoldable pub due_line : List ℕ → ℕ → ℕ → ℕ → Read (List ℕ)
due_line text item n place =
    elim (feed_follows text place) [
      | true ↦ found (line_of (drop place text), n + 1, place + suc (length (line_of (drop place text))))
      | false ↦ refused (WrongShape n item)
    ]

-- 17, line "surplus": nothing stands after the last due line's line feed.
unfoldable pub no_more : List ℕ → ℕ → ℕ → ℕ → Result (Unit {0})
no_more text item n place = elim (ltb place (length text)) [ true ↦ refused (WrongShape n item) | false ↦ found tt ]

-- 17, a line "of another shape": what the shape of a line gives, if it has that shape.
abbrev pub shaped : {A : Type 0} → ℕ → ℕ → Option A → Result A
shaped item n none = refused (WrongShape n item)
shaped item n (some a) = found a

-- ---- Words

unfoldable pub is_space : ℕ → Bool
is_space b = eqb b (code " ")

-- "One space parts words"
unfoldable pub words_of : List ℕ → List (List ℕ)
words_of line = pieces is_space line

-- "names one or more bytes 33 to 126 but comma"
unfoldable pub in_name : ℕ → Bool
in_name b = leb 33 b && (leb b 126 && not (is_comma b))

abbrev pub all_in_name : List ℕ → Bool
all_in_name [] = true
all_in_name (b ∷ bs) = in_name b && all_in_name bs

abbrev pub is_name : List ℕ → Bool
is_name [] = false
is_name (b ∷ bs) = all_in_name (b ∷ bs)

-- Two words are the same bytes.
abbrev pub same_bytes : List ℕ → List ℕ → Bool
same_bytes [] [] = true
same_bytes [] (c ∷ cs) = false
same_bytes (b ∷ bs) [] = false
same_bytes (b ∷ bs) (c ∷ cs) = eqb b c && same_bytes bs cs

-- "ids are plain numbers": all of these words are.
abbrev pub all_plain : List (List ℕ) → Bool
all_plain [] = true
all_plain (w ∷ ws) = is_plain w && all_plain ws

-- The id that a word stands for.
unfoldable pub id_of : List ℕ → ℕ
id_of word = value_of 0 word

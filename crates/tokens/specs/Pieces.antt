-- The piece of a line that starts at a place of a text, up to a separator or the line feed. Assumes nothing.
use Rattle.std.specs.Prelude.{◌≡◌, Bool, true, false, ◌||◌, List, [], ◌∷◌, ℕ, ◌+◌, eqb, length, get_or, drop, Option, None, Some}
use Rattle.rules.specs.Text.{is_feed, Number, number, not_plain, missing, number_in, feed_follows}
use Rattle.rules.specs.Tokens.{is_name}
use Rattle.tokens.specs.declared.Plain.{Plain}

unfoldable pub ends_piece : ℕ → ℕ → Bool
ends_piece separator b = eqb b separator || is_feed b

abbrev pub up_to : (ℕ → Bool) → List ℕ → List ℕ
up_to ends [] = []
up_to ends (b ∷ bs) = elim (ends b) [ true ↦ [] | false ↦ b ∷ up_to ends bs ]

unfoldable pub piece_from : ℕ → List ℕ → ℕ → List ℕ
piece_from separator text place = up_to (ends_piece separator) (drop place text)

-- No byte of a word ends a piece.
abbrev pub NoneEnds : ℕ → List ℕ → Type 0
NoneEnds separator [] = Unit {0}
NoneEnds separator (b ∷ bs) = (ends_piece separator b ≡ false) × NoneEnds separator bs

-- A number as the code's type.
abbrev pub as_plain : Number → Option Plain
as_plain (number value next) = Some (record { value = value; next = next })
as_plain not_plain = None
as_plain missing = None

-- Where the piece ends that starts here, if it is a name.
abbrev pub name_end : ℕ → List ℕ → Option ℕ
name_end from piece = elim (is_name piece) [ true ↦ Some (from + length piece) | false ↦ None ]

-- From a place on a line goes on with these numbers, a space ahead of each, and then it ends.
abbrev pub Spells : List ℕ → ℕ → List ℕ → Type 0
Spells text at [] = (feed_follows text at ≡ true) × (get_or text at 0 ≡ 10)
Spells text at (v ∷ vs) =
    (feed_follows text at ≡ true)
    × (get_or text at 0 ≡ 32)
    × ((next : ℕ) × (number_in (at + 1) (piece_from 32 text (at + 1)) ≡ number v next) × Spells text next vs)

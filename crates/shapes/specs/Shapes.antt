-- What a line of the form says, as the types of the code: its words are bytes of the text between two places. Assumes nothing.
use Rattle.std.specs.Prelude.{◌≡◌, true, false, List, [], ◌∷◌, map, ℕ, ◌+◌, ◌-◌, ◌≤◌, ◌<◌, eqb, length, get_or, take, drop, Option, Some, None}
use Rattle.std.proofs.Math.Option.{some}
use Rattle.rules.specs.declared.Answer.TheVariants.{WrongShape}
use Rattle.rules.specs.Text.{is_plain, feed_follows}
use Rattle.rules.specs.Result.{found, refused, ◌>>=◌}
use Rattle.rules.specs.Tokens.{line_of, due_line, shaped, words_of, is_name, all_plain, id_of}
use Rattle.rules.specs.Form.{an_action, the_root, front_line, a_compound, the_end, back_line, opening_of}
use Rattle.tokens.specs.Pieces.{piece_from, Spells}
use Rattle.shapes.specs.declared.Front.{Front}
use Rattle.shapes.specs.declared.Front.TheVariants.{Action, Root}
use Rattle.shapes.specs.declared.Back.{Back}
use Rattle.shapes.specs.declared.Back.TheVariants.{Compound, End}
use Rattle.shapes.specs.declared.Ids.{Ids}

-- The bytes between two places.
abbrev pub bytes : List ℕ → ℕ → ℕ → List ℕ
bytes text from to = take (to - from) (drop from text)

-- The words of the line from a place on, and where the line ends.
abbrev pub words_at : List ℕ → ℕ → List (List ℕ)
words_at text at = words_of (line_of (drop at text))

abbrev pub end_at : List ℕ → ℕ → ℕ
end_at text at = at + length (line_of (drop at text))

-- The words after the one that ends at a place, and where the line ends: a space, and they follow; or the line ends here.
unfoldable pub words_after : List ℕ → ℕ → List (List ℕ)
words_after text end = elim (eqb (get_or text end 0) 32) [ true ↦ words_at text (end + 1) | false ↦ [] ]

unfoldable pub end_after : List ℕ → ℕ → ℕ
end_after text end = elim (eqb (get_or text end 0) 32) [ true ↦ end_at text (end + 1) | false ↦ end ]

-- The line's first word is an id, and ends at a place.
pub record Numbered (text : List ℕ) (at id next : ℕ) : Type 0 where
  pub feeds : feed_follows text at ≡ true
  pub plain : is_plain (piece_from 32 text at) ≡ true
  pub worth : id ≡ id_of (piece_from 32 text at)
  pub ends : next ≡ at + length (piece_from 32 text at)

-- It is none.
abbrev pub NotNumbered : List ℕ → ℕ → Type 0
NotNumbered text at = is_plain (piece_from 32 text at) ≡ false

-- The line's first word is an id, the second a name between two places, and more words follow it.
pub record Headed (text : List ℕ) (at id from to : ℕ) : Type 0 where
  pub feeds : feed_follows text at ≡ true
  pub plain : is_plain (piece_from 32 text at) ≡ true
  pub worth : id ≡ id_of (piece_from 32 text at)
  pub named : is_name (bytes text from to) ≡ true
  pub order : from ≤ to
  pub parts : words_at text at ≡ piece_from 32 text at ∷ bytes text from to ∷ words_at text (to + 1)
  pub ends : end_at text at ≡ end_at text (to + 1)
  pub goes : feed_follows text (to + 1) ≡ true

-- The words after the one that ends at a place, as ids.
abbrev pub IdsAre : List ℕ → ℕ → Option Ids → Type 0
IdsAre text end (Some r) =
    (ids : List ℕ) × Spells text end ids × (r.count ≡ length ids) × (all_plain (words_after text end) ≡ true) × (map id_of (words_after text end) ≡ ids)
    × (r.next ≡ end_after text end + 1)
IdsAre text end None = all_plain (words_after text end) ≡ false

-- What reading the line gives, whatever its number is.
abbrev pub FrontIs : List ℕ → ℕ → Option Front → Type 0
FrontIs text at (Some (Action id from to)) =
    (from ≤ to) × (to < length text) × ((n : ℕ) → front_line text n at ≡ found (an_action id (bytes text from to), n + 1, to + 1))
FrontIs text at (Some (Root id next)) = (n : ℕ) → front_line text n at ≡ found (the_root id, n + 1, next)
FrontIs text at None = (n : ℕ) → front_line text n at ≡ refused (WrongShape n 0)

abbrev pub BackIs : List ℕ → ℕ → Option Back → Type 0
BackIs text at (Some (Compound id from to method end count next)) =
    (from ≤ to) × (to < length text) × (method ≤ end) × (end < length text)
    × ((ids : List ℕ) × Spells text end ids × (count ≡ length ids)
    × ((n : ℕ) → back_line text n at ≡ found (a_compound id (bytes text from to) (bytes text method end) ids, n + 1, next)))
BackIs text at (Some (End next)) = (n : ℕ) → back_line text n at ≡ found (the_end, n + 1, next)
BackIs text at None = (n : ℕ) → back_line text n at ≡ refused (WrongShape n 0)

-- The opening line of the form, with its line feed: where the next line starts; or it is missing, or another line.
abbrev pub OpeningIs : List ℕ → Option ℕ → Type 0
OpeningIs text (Some r) = (due_line text 0 1 0 ≡ found (line_of text, 2, r)) × (opening_of (words_of (line_of text)) ≡ some tt)
OpeningIs text None = (due_line text 0 1 0 >>= λ x. shaped 0 1 (opening_of (words_of x.0))) ≡ refused (WrongShape 1 0)

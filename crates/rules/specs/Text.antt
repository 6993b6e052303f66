-- The bytes of a case: line feeds, fields and plain numbers (01, "The case text"). A place in the text is a number of bytes from its
-- start; reading a field starts at the byte that ended the field before it. Assumes nothing.
use Rattle.std.specs.Prelude.{Bool, true, false, ◌&&◌, ◌||◌, not, List, [], ◌∷◌, ℕ, zero, suc, ◌+◌, ◌-◌, ◌*◌, ◌/◌, ◌%◌, eqb, leb, ltb, length, drop}
use Prim.Native.Char.{code}

unfoldable pub is_feed : ℕ → Bool
is_feed b = eqb b (code "\n")

unfoldable pub is_comma : ℕ → Bool
is_comma b = eqb b (code ",")

unfoldable pub is_digit : ℕ → Bool
is_digit b = leb (code "0") b && leb b (code "9")

-- "Lines end in a line feed; fields are in fixed order, parted by commas, no quoting."
unfoldable pub ends_field : ℕ → Bool
ends_field b = is_comma b || is_feed b

-- The bytes of the field that starts here.
abbrev pub field_of : List ℕ → List ℕ
field_of [] = []
field_of (b ∷ bs) = elim (ends_field b) [ true ↦ [] | false ↦ b ∷ field_of bs ]

abbrev pub all_digits : List ℕ → Bool
all_digits [] = true
all_digits (b ∷ bs) = is_digit b && all_digits bs

-- "plain numbers: digits, no leading zero except 0 itself, at most 4,294,967,295"
abbrev pub digits_only : List ℕ → Bool
digits_only [] = false
digits_only (b ∷ []) = is_digit b
digits_only (b ∷ c ∷ bs) = is_digit b && (not (eqb b (code "0")) && all_digits (c ∷ bs))

-- The number that digits stand for in base ten, after v.
abbrev pub value_of : ℕ → List ℕ → ℕ
value_of v [] = v
value_of v (b ∷ bs) = value_of (v * 10 + (b - code "0")) bs

unfoldable pub is_plain : List ℕ → Bool
is_plain field = digits_only field && leb (value_of 0 field) 4294967295

-- The digits of a number, so many at most, before what follows them.
abbrev pub decimal_in : ℕ → ℕ → List ℕ → List ℕ
decimal_in zero n rest = rest
decimal_in (suc digits) n rest =
    elim (ltb n 10) [ true ↦ (code "0" + n) ∷ rest | false ↦ decimal_in digits (n / 10) ((code "0" + n % 10) ∷ rest) ]

-- The plain number that stands for n: one of 32 bits has at most ten digits.
unfoldable pub decimal : ℕ → List ℕ
decimal n = decimal_in 10 n []

-- What stands where a number is due: one, with the place of the byte that ends it; a field that is none; or no field at all.
pub data Number : Type 0 where
  number : (value next : ℕ) → Number
  not_plain : Number
  missing : Number

abbrev pub number_in : ℕ → List ℕ → Number
number_in from field = elim (is_plain field) [ true ↦ number (value_of 0 field) (from + length field) | false ↦ not_plain ]

-- A further field follows a comma.
abbrev pub number_after : ℕ → List ℕ → Number
number_after place [] = missing
number_after place (b ∷ bs) = elim (is_comma b) [ true ↦ number_in (place + 1) (field_of bs) | false ↦ missing ]

unfoldable pub number_at : List ℕ → ℕ → Number
number_at text place = number_after place (drop place text)

-- "Field 1 is a letter." The one byte of the field that starts a line; or a field of another length.
pub data Letter : Type 0 where
  letter : (byte next : ℕ) → Letter
  no_letter : Letter

abbrev pub letter_of : ℕ → List ℕ → Letter
letter_of place [] = no_letter
letter_of place (b ∷ []) = letter b (place + 1)
letter_of place (b ∷ c ∷ bs) = no_letter

unfoldable pub letter_at : List ℕ → ℕ → Letter
letter_at text place = letter_of place (field_of (drop place text))

-- The line ends here: the next one starts past the line feed. Or a further field comes.
pub data Ending : Type 0 where
  ended : (next : ℕ) → Ending
  surplus : Ending

abbrev pub ending_of : ℕ → List ℕ → Ending
ending_of place [] = surplus
ending_of place (b ∷ bs) = elim (is_feed b) [ true ↦ ended (place + 1) | false ↦ surplus ]

unfoldable pub ending_at : List ℕ → ℕ → Ending
ending_at text place = ending_of place (drop place text)

-- A line feed follows, here or later.
abbrev pub has_feed : List ℕ → Bool
has_feed [] = false
has_feed (b ∷ bs) = elim (is_feed b) [ true ↦ true | false ↦ has_feed bs ]

unfoldable pub feed_follows : List ℕ → ℕ → Bool
feed_follows text place = has_feed (drop place text)

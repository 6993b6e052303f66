-- A number part of whose digits are read: what the contracts of the private functions say. Assumes nothing.
use Rattle.std.specs.Prelude.{Bool, true, false, ◌&&◌, List, [], ◌∷◌, ℕ, ◌+◌, leb, length}
use Rattle.rules.specs.Text.{Number, number, not_plain, all_digits, value_of}

abbrev pub is_over : List ℕ → Bool
is_over [] = true
is_over (b ∷ bs) = false

-- The number v, read up to here, where nothing of the field is left.
abbrev pub closed : ℕ → ℕ → List ℕ → Number
closed v here [] = number v here
closed v here (b ∷ bs) = not_plain

-- The number v that ends here, if it is one.
abbrev pub accepted : Bool → ℕ → ℕ → Number
accepted true v here = number v here
accepted false v here = not_plain

-- The number that digits which make v, and are not 0, begin, where the field goes on here.
abbrev pub continued : ℕ → ℕ → List ℕ → Number
continued v here field = accepted (all_digits field && leb (value_of v field) 4294967295) (value_of v field) (here + length field)

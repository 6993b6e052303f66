-- Ids as keys of a table (02, Card 6): a list of the ids that lines define, line by line, and the slot to begin at. Assumes nothing.
use Rattle.std.specs.Prelude.{ℕ, ◌*◌, ◌/◌, ◌%◌, Bool, List, eqb, get_or}

-- Whether the entry e has the id k. `first (same_id ids k) n` then is the "first line that defines" the id, among the first n.
abbrev pub same_id : List ℕ → ℕ → ℕ → Bool
same_id ids k e = eqb (get_or ids e 0) k

-- The slot to begin at, one of 8,192: the upper 13 of 32 bits of a product, so that ids in a row lie apart.
unfoldable pub hash_id : ℕ → ℕ
hash_id k = k * 2654435769 % 4294967296 / 524288

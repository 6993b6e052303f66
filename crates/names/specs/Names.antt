-- Names as keys of a table (02, Card 6): an entry e is a place of a text, the bytes from starts[e] to before ends[e]; and the slot to begin
-- at. Assumes nothing.
use Rattle.std.specs.Prelude.{◌≡◌, Bool, List, [], ◌∷◌, ℕ, ◌+◌, ◌*◌, ◌-◌, ◌/◌, ◌%◌, ◌≤◌, ◌<◌, length, get_or, take, drop}
use Rattle.rules.specs.Tokens.{same_bytes}

-- ---- A name, and whether an entry has it

-- The name of the entry e.
abbrev pub name_at : List ℕ → List ℕ → List ℕ → ℕ → List ℕ
name_at text starts ends e = take (get_or ends e 0 - get_or starts e 0) (drop (get_or starts e 0) text)

-- Whether the entry e has the name k. Over the entries of one use, `first (same_name text starts ends k) n` is nothing for "a name not listed
-- for that use"; of the name of the entry n it is an earlier entry exactly if that one is "listed again", n "the later line".
abbrev pub same_name : List ℕ → List ℕ → List ℕ → List ℕ → ℕ → Bool
same_name text starts ends k e = same_bytes (name_at text starts ends e) k

-- Every entry is a place of the text.
pub record Placed (text starts ends : List ℕ) : Type 0 where
  pub pairs : length ends ≡ length starts
  pub order : (e : ℕ) → e < length starts → get_or starts e 0 ≤ get_or ends e 0
  pub inside : (e : ℕ) → e < length starts → get_or ends e 0 ≤ length text

-- ---- The slot to begin at

-- A byte more, in 32 bits.
unfoldable pub mix : ℕ → ℕ → ℕ
mix h b = (h * 31 + b) % 4294967296

-- All bytes of a name, one after the other.
abbrev pub hash_from : ℕ → List ℕ → ℕ
hash_from h [] = h
hash_from h (b ∷ l) = hash_from (mix h b) l

-- One of 4,096 slots: the upper 12 of 32 bits of a product, on which every bit of h bears.
unfoldable pub cut : ℕ → ℕ
cut h = h * 2654435769 % 4294967296 / 1048576

-- The slot to begin at for a name.
abbrev pub hash_name : List ℕ → ℕ
hash_name l = cut (hash_from 0 l)

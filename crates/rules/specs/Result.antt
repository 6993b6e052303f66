-- What is looked for, or the answer that refuses the text: the one type for reading, walking and judging, and the one way to go on.
-- Assumes nothing.
use Rattle.rules.specs.declared.Answer.{Answer}

infixl 20 ◌>>=◌
infixl 20 ◌>>◌
pub data Result (A : Type 0) : Type 0 where
  found : A → Result A
  refused : Answer → Result A

-- Whatever is found goes on to the rest; a refusal ends it.
abbrev pub ◌>>=◌ : {A B : Type 0} → Result A → (A → Result B) → Result B
found a >>= rest = rest a
refused r >>= rest = refused r

-- The same where nothing is handed on.
abbrev pub ◌>>◌ : {A B : Type 0} → Result A → Result B → Result B
found a >> rest = rest
refused r >> rest = refused r

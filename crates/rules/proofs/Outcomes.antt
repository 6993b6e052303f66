-- What is said of an item or of a line that is read, and what of the field where it is refused, along the steps of reading one. Every walk over a
-- line goes by these. Assumes nothing.
use mathlib.Core.List.{List, ◌∷◌}
use Prim.Native.Nat.{ℕ}
use Rattle.rules.specs.Table.{Value, scalar, listed, ItemRead, item, with_member, LineRead, line, follow_item, with_value}

-- P once a member has been put before the others.
abbrev pub AfterMember : (Value → ℕ → ℕ → Type 0) → ℕ → Value → ℕ → ℕ → Type 0
AfterMember P v (scalar w) field next = P (scalar w) field next
AfterMember P v (listed vs) field next = P (listed (v ∷ vs)) field next

module _ (Bad Out : ℕ → Type 0) where
  -- P of an item that is read; Bad or Out of the field that is refused.
  abbrev pub ItemSays : (Value → ℕ → ℕ → Type 0) → ItemRead → Type 0
  ItemSays P (item v field next) = P v field next
  ItemSays P (ItemRead.unreadable field) = Bad field
  ItemSays P (ItemRead.outside field) = Out field

  pub member_says : (P : Value → ℕ → ℕ → Type 0) (v : ℕ) (x : ItemRead) → ItemSays (AfterMember P v) x → ItemSays P (with_member v x)
  member_says P v (item (scalar w) field next) p = p
  member_says P v (item (listed vs) field next) p = p
  member_says P v (ItemRead.unreadable field) p = p
  member_says P v (ItemRead.outside field) p = p

  -- P of a line that is read; Bad or Out of the field that is refused.
  abbrev pub LineSays : (ℕ → List Value → ℕ → Type 0) → LineRead → Type 0
  LineSays P (line l vs next) = P l vs next
  LineSays P (LineRead.unreadable field) = Bad field
  LineSays P (LineRead.outside field) = Out field

  pub value_says : (P : ℕ → List Value → ℕ → Type 0) (v : Value) (x : LineRead) → LineSays (λ l vs next. P l (v ∷ vs) next) x → LineSays P (with_value v x)
  value_says P v (line l vs next) p = p
  value_says P v (LineRead.unreadable field) p = p
  value_says P v (LineRead.outside field) p = p

  pub item_then : (P : ℕ → List Value → ℕ → Type 0) (Q : Value → ℕ → ℕ → Type 0) (x : ItemRead) (rest : Value → ℕ → ℕ → LineRead) → ItemSays Q x
      → ((v : Value) (field next : ℕ) → Q v field next → LineSays P (rest v field next)) → LineSays P (follow_item x rest)
  item_then P Q (item v field next) rest q f = f v field next q
  item_then P Q (ItemRead.unreadable field) rest q f = q
  item_then P Q (ItemRead.outside field) rest q f = q

-- The entry, by the two tests of the letter: each settles what line it is. Assumes nothing.
use mathlib.Core.Path.{◌≡◌, sym, ap, ◌∙◌}
use mathlib.Core.Logic.{◌≢◌}
use mathlib.Core.Bool.{Bool, true, false}
use Prim.Native.Nat.{ℕ}
use native.Mathlib.Omega.{arith}
use lib.Dec.{eqb}
use lib.ListN.{get_or}
use borrow.Author.Tests.{eq-eqb, ne_eqb}
use Rattle.rules.specs.Case.{NodeLine, D, E, L, node_of}
use Rattle.tree.specs.Fits.{as_entry, entry_at}
use Rattle.tree.proofs.Entries.{two_fields, three_fields}
use Rattle.tree.proofs.fit.entry_at.Goals as goal

abbrev by_E : ℕ → ℕ → Bool → NodeLine
by_E x y b = elim b [ true ↦ E x y | false ↦ L x y ]

abbrev by_D : ℕ → ℕ → ℕ → Bool → NodeLine
by_D l x y b = elim b [ true ↦ D x | false ↦ by_E x y (eqb l 69) ]

module _ (l x y : ℕ) where
  line_D : l ≡ 68 → node_of l x y ≡ D x
  unfolding node_of
  line_D e = ap (by_D l x y) (eq-eqb l 68 e)

  line_E : l ≢ 68 → l ≡ 69 → node_of l x y ≡ E x y
  unfolding node_of
  line_E n e = ap (by_D l x y) (ne_eqb l 68 n) ∙ ap (by_E x y) (eq-eqb l 69 e)

  line_L : l ≢ 68 → l ≢ 69 → node_of l x y ≡ L x y
  unfolding node_of
  line_L n m = ap (by_D l x y) (ne_eqb l 68 n) ∙ ap (by_E x y) (ne_eqb l 69 m)

pub bounds-fields-at : goal.bounds-fields-at
bounds-fields-at c = let a = c.args in omega (arith, c.requires, two_fields (get_or a.fields.now a.at 0))

pub bounds-fields-at-2 : goal.bounds-fields-at-2
bounds-fields-at-2 c = let a = c.args in omega (arith, c.requires, two_fields (get_or a.fields.now a.at 0))

pub returns-then-letter-eq-TASK : goal.returns-then-letter-eq-TASK
unfolding entry_at
returns-then-letter-eq-TASK c = sym (ap as_entry (line_D _ _ _ c.if-letter-eq-TASK.true))

pub bounds-fields-at-3 : goal.bounds-fields-at-3
bounds-fields-at-3 c = let a = c.args in omega (arith, c.requires, three_fields (get_or a.fields.now a.at 0) c.if-letter-eq-TASK.false)

pub returns-then-letter-eq-EMPTY : goal.returns-then-letter-eq-EMPTY
unfolding entry_at
returns-then-letter-eq-EMPTY c = sym (ap as_entry (line_E _ _ _ c.if-letter-eq-TASK.false c.if-letter-eq-EMPTY.true))

pub returns-else-letter-eq-EMPTY : goal.returns-else-letter-eq-EMPTY
unfolding entry_at
returns-else-letter-eq-EMPTY c = sym (ap as_entry (line_L _ _ _ c.if-letter-eq-TASK.false c.if-letter-eq-EMPTY.false))

-- The part of a set of subtasks, lowest member first: that of the members joined so far and of those that remain. Assumes nothing.
use mathlib.Core.Path.{◌≡◌, refl, sym, ap, ap₂, subst, ◌∙◌}
use mathlib.Core.Logic.{◌≢◌}
use mathlib.Core.List.{List, [], ◌∷◌, head_d, tail}
use mathlib.Core.List.Memᴰ.{head as here}
use mathlib.Core.List.{Memᴰ as Mem}
use Prim.Native.Nat.{ℕ, zero, suc, ◌^◌, ◌<◌}
use native.Mathlib.Omega.{arith}
use lib.ListN.{length}
use Rattle.rules.specs.State.{bit}
use Rattle.subsets.specs.Members.{members_of}
use Rattle.subsets.proofs.Chosen.{head_tail, chosen_has}
use Rattle.subsets.proofs.Members.{members_cons}
use Rattle.entering.specs.declared.sums.Part.{Part}
use Rattle.entering.specs.Parts.{joined, part_in, joined_with, part_of_set}

-- The part of a set that is not empty.
abbrev pub part_of_some : List Part → ℕ → Part
part_of_some sums u = joined_with sums (part_in sums (head_d (members_of u) 32)) (tail (members_of u))

some_part : (sums : List Part) (own : Part) (u : ℕ) → u ≢ 0 → part_of_some sums u ≡ part_of_set sums own u
unfolding part_of_set
some_part sums own zero n = absurd (n refl)
some_part sums own (suc u) n = refl

pub whole_part : (sums : List Part) (own : Part) (u : ℕ) → u ≡ 0 → own ≡ part_of_set sums own u
unfolding part_of_set
whole_part sums own u e = ap (part_of_set sums own) (sym e)

-- What is joined, and what remains.
pub record Joining (sums : List Part) (u : ℕ) (part : Part) (rest : ℕ) : Type 0 where
  pub same : part_of_some sums u ≡ joined_with sums part (members_of rest)

pub joining_starts : (sums : List Part) (u : ℕ) {l : ℕ} {part : Part} {rest : ℕ} → l ≡ head_d (members_of u) 32 → part ≡ part_in sums l → members_of rest ≡ tail (members_of u)
    → Joining sums u part rest
joining_starts sums u e p r = record { same = ap₂ (joined_with sums) (sym (p ∙ ap (part_in sums) e)) (sym r) }

pub some_members : (u : ℕ) → u < 2 ^ 32 → u ≢ 0 → 0 < length (members_of u)
some_members u h n = omega (arith, ap length (members_cons u n h))

module _ (rest : ℕ) (some : 0 < length (members_of rest)) where
  first_rest : members_of rest ≡ head_d (members_of rest) 32 ∷ tail (members_of rest)
  first_rest = head_tail (members_of rest) 32 (λ e. omega (arith, ap length e))

  -- The lowest member is one of 32 subtasks.
  pub lowest_few : head_d (members_of rest) 32 < 32
  unfolding members_of
  lowest_few =
      let w = chosen_has (bit rest) 32 0 (head_d (members_of rest) 32) (subst (λ (l : List ℕ). Mem (head_d (members_of rest) 32) l) (sym first_rest) (here refl)) in
      omega (arith, w.1)

  pub fewer : (rest' : ℕ) → members_of rest' ≡ tail (members_of rest) → length (members_of rest') < length (members_of rest)
  fewer rest' r = omega (arith, ap length r, ap length first_rest)

  pub joining_on : (sums : List Part) (u : ℕ) {part : Part} {l : ℕ} {other both : Part} {rest' : ℕ} → Joining sums u part rest → l ≡ head_d (members_of rest) 32
      → other ≡ part_in sums l → both ≡ joined part other → members_of rest' ≡ tail (members_of rest) → Joining sums u both rest'
  joining_on sums u {part} j e o b r = record {
    same = j.same ∙ ap (joined_with sums part) first_rest
        ∙ ap₂ (joined_with sums) (ap (joined part) (sym (o ∙ ap (part_in sums) e)) ∙ sym b) (sym r);
  }

pub joining_ends : (sums : List Part) (own : Part) (u : ℕ) {part : Part} {rest : ℕ} → u ≢ 0 → Joining sums u part rest → length (members_of rest) ≡ 0
    → part ≡ part_of_set sums own u
joining_ends sums own u {part} {rest} n j e = sym (sym (some_part sums own u n) ∙ j.same ∙ ap (joined_with sums part) (none (members_of rest) e))
  where
    none : (l : List ℕ) → length l ≡ 0 → l ≡ []
    none [] q = refl
    none (x ∷ l) q = absurd (omega arith)

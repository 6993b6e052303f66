-- What node lines say of a span, summed line by line. Assumes nothing.
use mathlib.Core.Path.{◌≡◌, refl, ap, ◌∙◌}
use mathlib.Core.List.{List, [], ◌∷◌}
use Prim.Native.Nat.{ℕ, ◌+◌, ◌*◌, ◌≤◌, ◌<◌, min, max}
use native.Mathlib.Omega.{arith}
use lib.ListN.{length, get_or, drop, length-append, drop_of_length-le}
use Rattle.rules.specs.Index.{of_gap}
use Rattle.rules.specs.Case.{NodeLine, D, E, L}
use Rattle.rules.specs.Gaps.{empty_count}
use Rattle.fields.specs.Standing.{Stands}
use Rattle.fields.specs.Directory.{node_size}
use Rattle.fields.proofs.Lines.{node_fields}
use Rattle.records.specs.Records.{NodesStand}
use Rattle.gaps.specs.Sums.{low_of, high_of}
use Rattle.gaps.proofs.Lines.{fields_of_lines, line_at, Due, line_due, stands_next}

-- No cue that counts comes after the last gap.
pub low_most : (k : ℕ) (ns : List NodeLine) → low_of k ns ≤ of_gap k
low_most k [] = omega arith
low_most k (D m ∷ ns) = low_most k ns
low_most k (E m g ∷ ns) = low_most k ns
low_most k (L a i ∷ ns) = let h = low_most k ns in omega arith

-- The lines from line i on stand at a place; what was summed, joined to what they say, is what all say.
pub record Summing (k : ℕ) (fields : List ℕ) (ns : List NodeLine) (from p i low high empties : ℕ) : Type 0 where
  pub here : Stands fields p (fields_of_lines (drop i ns))
  pub least : min low (low_of k (drop i ns)) ≡ low_of k ns
  pub greatest : max high (high_of (drop i ns)) ≡ high_of ns
  pub number : empties + empty_count (drop i ns) ≡ empty_count ns
  pub next : p + length (fields_of_lines (drop i ns)) ≡ from + length (fields_of_lines ns)

abbrev pub Sums : ℕ → List ℕ → ℕ → ℕ → ℕ → ℕ → ℕ → ℕ → ℕ → Type 0
Sums k fields from count p i low high empties = (ns : List NodeLine) → NodesStand fields from count ns → Summing k fields ns from p i low high empties

pub sums_start : (k : ℕ) (fields : List ℕ) (from count : ℕ) → Sums k fields from count from 0 (2 * k + 1) 0 0
unfolding of_gap
sums_start k fields from count ns w =
    let most = low_most k ns in
    record { here = w.here; least = omega arith; greatest = omega arith; number = omega arith; next = refl }

-- What line i adds.
pub record Step (k i low high empties low' high' empties' : ℕ) (ns : List NodeLine) : Type 0 where
  pub least : min low' (low_of k (drop (i + 1) ns)) ≡ min low (low_of k (drop i ns))
  pub greatest : max high' (high_of (drop (i + 1) ns)) ≡ max high (high_of (drop i ns))
  pub number : empties' + empty_count (drop (i + 1) ns) ≡ empties + empty_count (drop i ns)

module _ (k : ℕ) (fields : List ℕ) (from count p i low high empties : ℕ) (t : Sums k fields from count p i low high empties) where
  pub due_in : (ns : List NodeLine) → NodesStand fields from count ns → i < count → Due fields p ns i
  due_in ns w more = line_due fields p ns i (t ns w).here (omega (arith, w.counted))

  pub sums_on : i < count → (low' high' empties' size : ℕ) → size ≡ node_size (get_or fields p 0)
      → ((ns : List NodeLine) → Due fields p ns i → Step k i low high empties low' high' empties' ns) → Sums k fields from count (p + size) (i + 1) low' high' empties'
  sums_on more low' high' empties' size e step ns w =
      let d = due_in ns w more in
      let g = t ns w in
      let s = step ns d in
      let split = ap length d.split ∙ length-append (node_fields (line_at ns i)) (fields_of_lines (drop (i + 1) ns)) in
      record {
        here = stands_next fields p ns i d size e;
        least = s.least ∙ g.least;
        greatest = s.greatest ∙ g.greatest;
        number = s.number ∙ g.number;
        next = omega (arith, d.size, g.next);
      }

  pub sums_end : low ≤ 2 * k + 1 → count ≤ i → (ns : List NodeLine) → NodesStand fields from count ns
      → (low ≡ low_of k ns) × (high ≡ high_of ns) × (empties ≡ empty_count ns) × (p ≡ from + length (fields_of_lines ns))
  unfolding of_gap
  sums_end few most ns w =
      let none : drop i ns ≡ [] = drop_of_length-le ns {i = i} (omega (arith, w.counted)) in
      let g = t ns w in (
        omega (arith, ap (low_of k) none, g.least),
        omega (arith, ap high_of none, g.greatest),
        omega (arith, ap empty_count none, g.number),
        omega (arith, ap (λ (l : List NodeLine). length (fields_of_lines l)) none, g.next),
      )

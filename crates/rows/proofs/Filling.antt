-- A list of zeros whose stretches are filled in turn, each lent on as a middle part. Assumes nothing.
use mathlib.Core.Path.{◌≡◌, refl, sym, ap, subst, ◌∙◌}
use mathlib.Core.List.{List, ◌++◌}
use Prim.Native.Nat.{ℕ, ◌+◌, ◌-◌, ◌*◌, ◌≤◌, ◌<◌}
use native.Mathlib.Nat.{not-suc-le-zero}
use native.Mathlib.Omega.{arith}
use borrow.Author.Count.{below_more}
use lib.ListN.{length, take, drop, replicate, length-replicate, replicate-append-replicate}
use lib.Seq.{take_at}
use Rattle.rows.specs.Rows.{stretch_at, put_stretch}
use Rattle.rows.proofs.Written.{stretch_ends, part_at, part_put, at_put, other_put, length_put, drop_zeros}

-- Of `count` stretches of n numbers in a list of `size`, those below i are as P says, and the others are zero.
pub record Filling (n count size : ℕ) (P : ℕ → List ℕ → Type 0) (l : List ℕ) (i : ℕ) : Type 0 where
  pub fits : n * count ≤ size
  pub long : length l ≡ size
  pub most : i ≤ count
  pub done : (j : ℕ) → j < i → P j (stretch_at n l j)
  pub blank : (j : ℕ) → i ≤ j → j < count → stretch_at n l j ≡ replicate n 0

zeros_first : (n m : ℕ) → take {A = ℕ} n (replicate (n + m) 0) ≡ replicate n 0
zeros_first n m = ap (take n) (sym (replicate-append-replicate n m 0)) ∙ take_at (replicate n 0) (replicate m 0) n (length-replicate n 0)

stretch_zeros : (n size j : ℕ) → n * j + n ≤ size → stretch_at n (replicate size 0) j ≡ replicate n 0
unfolding stretch_at
stretch_zeros n size j h =
    let split : size - n * j ≡ n + (size - n * j - n) = omega arith in
    ap (take n) (drop_zeros (n * j) size) ∙ ap (λ (m : ℕ). take n (replicate m 0)) split ∙ zeros_first n (size - n * j - n)

module _ {n count size : ℕ} {P : ℕ → List ℕ → Type 0} {l : List ℕ} where
  pub filling_none : l ≡ replicate size 0 → n * count ≤ size → Filling n count size P l 0
  filling_none e h = record {
    fits = h;
    long = ap length e ∙ length-replicate size 0;
    most = omega arith;
    done = λ j b. absurd (not-suc-le-zero b);
    blank = λ j _ b. ap (λ (x : List ℕ). stretch_at n x j) e ∙ stretch_zeros n size j (omega (arith, stretch_ends n j count b));
  }

  -- Stretch i is next, and its part is lent.
  module _ {i : ℕ} (p : Filling n count size P l i) (more : i < count) (from : ℕ) (e : from ≡ n * i) where
    inside : n * i + n ≤ length l
    inside = omega (arith, stretch_ends n i count more, p.fits, p.long)

    pub filling_blank : take (from + n - from) (drop from l) ≡ replicate n 0
    filling_blank = part_at n l i from e ∙ p.blank i (omega arith) more

    -- The part has come back.
    module _ {part : List ℕ} (kept : length part ≡ length (take (from + n - from) (drop from l))) (is : P i part) where
      size_part : length part ≡ n
      size_part = kept ∙ ap length filling_blank ∙ length-replicate n 0

      put : Filling n count size P (put_stretch n l i part) (i + 1)
      put = record {
        fits = p.fits;
        long = length_put n l i part inside size_part ∙ p.long;
        most = omega arith;
        done = below_more (λ (j : ℕ). P j (stretch_at n (put_stretch n l i part) j)) i
            (λ j b. subst (P j) (sym (other_put n l i part inside size_part j (λ q. omega arith))) (p.done j b))
            (subst (P i) (sym (at_put n l i part inside size_part)) is);
        blank = λ j a b. other_put n l i part inside size_part j (λ q. omega arith) ∙ p.blank j (omega arith) b;
      }

      pub filling_next : Filling n count size P (take from l ++ (part ++ drop (from + n - from) (drop from l))) (i + 1)
      filling_next = subst (λ (x : List ℕ). Filling n count size P x (i + 1)) (sym (part_put n l i from e part part refl)) put

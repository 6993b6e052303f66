-- A list that is filled with zeros from the front, one store a turn: for lists of numbers of any width. Assumes nothing.
use mathlib.Core.Path.{◌≡◌, refl, ap, ap₂, ◌∙◌}
use mathlib.Core.List.{List, ◌++◌, append-nil}
use Prim.Native.Nat.{ℕ, ◌+◌, ◌≤◌, ◌<◌}
use native.Mathlib.Omega.{arith}
use borrow.Author.Fill.{fill_more}
use lib.ListN.{length, set, drop, replicate, length-set, drop_of_length-le}

-- What was d is zero below i.
pub record Cleared (d l : List ℕ) (i : ℕ) : Type 0 where
  pub most : i ≤ length d
  pub size : length l ≡ length d
  pub is : l ≡ replicate i 0 ++ drop i d

pub clears : (d : List ℕ) → Cleared d d 0
clears d = record { most = omega arith; size = refl; is = refl }

pub clears_next : (d l : List ℕ) (i : ℕ) → Cleared d l i → i < length l → Cleared d (set l i 0) (i + 1)
clears_next d l i p h =
    let s = p.size in
    record {
      most = omega arith;
      size = length-set l i 0 ∙ s;
      is = ap (λ (x : List ℕ). set x i 0) p.is ∙ fill_more i 0 d (omega arith);
    }

pub clears_all : (d l : List ℕ) (i : ℕ) → Cleared d l i → length l ≤ i → l ≡ replicate (length d) 0
clears_all d l i p h =
    let s = p.size in
    let m = p.most in
    let all : i ≡ length d = omega arith in
    p.is ∙ ap₂ (λ (n : ℕ) (x : List ℕ). replicate n 0 ++ x) all (drop_of_length-le d {i = i} (omega arith)) ∙ append-nil (replicate (length d) 0)

-- The lists that the loops of `clear_from` and `fill` make, as pure facts of lists.
--     written f xs from k    xs after k turns, which store f 0, f 1, .. from the place `from` on
--     written_front          up to the last store: what stood before the first, and what is stored
--     cleared                x at each place from `from` on
--     gathered               f 0, f 1, .. in front, and x from there on
-- Assumes nothing.
use mathlib.Core.Path.{◌≡◌, refl, sym, ◌∙◌, ap, subst}
use mathlib.Core.List.{List, [], ◌∷◌, ◌++◌, append_assoc, append-nil}
use Prim.Native.Nat.{ℕ, zero, suc, ◌+◌, ◌-◌, ◌<◌, ◌≤◌}
use native.Mathlib.Nat.{add-zero, add-suc, zero-add}
use native.Mathlib.Numerals.{add-one}
use native.Mathlib.Omega.{arith}
use lib.ListN.{length, take, set, replicate, length-set, length-take, replicate-append-replicate}
use lib.Seq.{take-suc-set, take_all}
use Rattle.rules.specs.Verdict.{filled}
use Rattle.records.specs.Records.{up_to}

module _ {A : Type 0} where
  abbrev pub written : (ℕ → A) → List A → ℕ → ℕ → List A
  written f xs from zero = xs
  written f xs from (suc k) = set (written f xs from k) (from + k) (f k)

  module _ (f : ℕ → A) (xs : List A) (from : ℕ) where
    pub length_written : (k : ℕ) → length (written f xs from k) ≡ length xs
    length_written zero = refl
    length_written (suc k) = length-set (written f xs from k) (from + k) (f k) ∙ length_written k

    written_front : (k : ℕ) → k ≤ length xs - from → take (from + k) (written f xs from k) ≡ take from xs ++ up_to f k
    written_front zero h = ap (λ (m : ℕ). take m xs) (add-zero from) ∙ sym (append-nil (take from xs))
    written_front (suc k) h =
        ap (λ (m : ℕ). take m (written f xs from (suc k))) (add-suc from k)
        ∙ take-suc-set (written f xs from k) (from + k) (f k) (subst (λ (n : ℕ). from + k < n) (sym (length_written k)) (omega arith))
        ∙ ap (λ (l : List A). l ++ (f k ∷ [])) (written_front k (omega arith))
        ∙ append_assoc (take from xs) (up_to f k) (f k ∷ [])

  module _ (x : A) where
    up_to_one : (k : ℕ) → up_to (λ _. x) k ≡ replicate k x
    up_to_one zero = refl
    up_to_one (suc k) = ap (λ (l : List A). l ++ (x ∷ [])) (up_to_one k) ∙ replicate-append-replicate k 1 x ∙ ap (λ (m : ℕ). replicate m x) (add-one k)

    pub cleared : (xs : List A) (from : ℕ) → written (λ _. x) xs from (length xs - from) ≡ filled (length xs) x (take from xs)
    unfolding filled
    cleared xs from =
        let k = length xs - from in let all = written (λ _. x) xs from k in let left : k ≡ length xs - length (take from xs) = omega (arith, length-take from xs) in
        sym (take_all (from + k) all (omega (arith, length_written (λ _. x) xs from k)))
        ∙ written_front (λ _. x) xs from k (omega arith)
        ∙ ap (λ (l : List A). take from xs ++ l) (up_to_one k)
        ∙ ap (λ (m : ℕ). take from xs ++ replicate m x) left

    pub gathered : (f : ℕ → A) (xs : List A) (k : ℕ) → k ≤ length xs → filled (length (written f xs 0 k)) x (take k (written f xs 0 k)) ≡ filled (length xs) x (up_to f k)
    gathered f xs k h =
        ap (λ (n : ℕ). filled n x (take k (written f xs 0 k))) (length_written f xs 0 k)
        ∙ ap (λ (m : ℕ). filled (length xs) x (take m (written f xs 0 k))) (sym (zero-add k))
        ∙ ap (filled (length xs) x) (written_front f xs 0 k (omega arith))

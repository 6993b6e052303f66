-- The least and the greatest of a list. Each joins the extremes of two parts of a list that are not empty, so it may be taken part by part:
-- that is all that spans need of it.
use mathlib.Core.Path.{◌≡◌, refl, sym, ◌∙◌, ap}
use mathlib.Core.List.{List, [], ◌∷◌, ◌++◌, map, foldr, flatten, append-nil}
use mathlib.Core.List.Memᴰ.{head as here}
use mathlib.Core.List.Memᴰ.{not-nil}
use mathlib.Core.List.Memᴰ.{tail as there}
use mathlib.Core.List.{Memᴰ as Mem}
use Prim.Native.Nat.{ℕ, min, max}
use native.Mathlib.Omega.{arith}
use Rattle.rules.specs.Index.{least, greatest}

pub record Extreme (best : List ℕ → ℕ) : Type 0 where
  pub join : ℕ → ℕ → ℕ
  pub single : (x : ℕ) → best (x ∷ []) ≡ x
  pub append : (x y : ℕ) (xs ys : List ℕ) → best ((x ∷ xs) ++ (y ∷ ys)) ≡ join (best (x ∷ xs)) (best (y ∷ ys))

abbrev pub Filled : List ℕ → Type 0
Filled l = (x : ℕ) × Mem x l

-- The extreme of lists put together is that of their extremes.
pub best_flatten : (best : List ℕ → ℕ) → Extreme best → (ls : List (List ℕ)) → ((l : List ℕ) → Mem l ls → Filled l) → best (flatten ls) ≡ best (map best ls)
unfolding flatten
best_flatten best b [] f = refl
best_flatten best b (l ∷ []) f = ap best (append-nil l) ∙ sym (b.single (best l))
best_flatten best b ([] ∷ m ∷ ls) f = absurd (not-nil (f [] (here refl)).1)
best_flatten best b ((x ∷ xs) ∷ [] ∷ ls) f = absurd (not-nil (f [] (there (here refl))).1)
best_flatten best b ((x ∷ xs) ∷ (y ∷ ys) ∷ ls) f =
    b.append x y xs (ys ++ flatten ls)
    ∙ ap (b.join (best (x ∷ xs))) (best_flatten best b ((y ∷ ys) ∷ ls) (λ l h. f l (there h)))
    ∙ ap (λ z. b.join z (best (best (y ∷ ys) ∷ map best ls))) (sym (b.single (best (x ∷ xs))))
    ∙ sym (b.append (best (x ∷ xs)) (best (y ∷ ys)) [] (map best ls))

least_swap : (x y : ℕ) (l : List ℕ) → min y (foldr min x l) ≡ min x (foldr min y l)
least_swap x y [] = omega arith
least_swap x y (z ∷ l) = omega (arith, least_swap x y l)

least_append : (x y : ℕ) (xs ys : List ℕ) → foldr min x (xs ++ (y ∷ ys)) ≡ min (foldr min x xs) (foldr min y ys)
least_append x y [] ys = least_swap x y ys
least_append x y (z ∷ xs) ys = omega (arith, least_append x y xs ys)

pub least_extreme : Extreme least
unfolding least
least_extreme = record { join = min; single = λ x. refl; append = least_append }

greatest_append : (xs ys : List ℕ) → foldr max 0 (xs ++ ys) ≡ max (foldr max 0 xs) (foldr max 0 ys)
greatest_append [] ys = omega arith
greatest_append (x ∷ xs) ys = omega (arith, greatest_append xs ys)

pub greatest_extreme : Extreme greatest
unfolding greatest
greatest_extreme = record { join = max; single = λ x. omega arith; append = λ x y xs ys. greatest_append (x ∷ xs) (y ∷ ys) }

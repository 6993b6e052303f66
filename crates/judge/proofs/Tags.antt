-- Of the variants of an answer an acceptance alone has tag 0. Assumes nothing.
use mathlib.Core.Path.{◌≡◌, subst}
use mathlib.Core.List.{List, [], ◌∷◌, map}
use mathlib.Core.Logic.{inl, inr}
use Prim.Native.Nat.{ℕ, suc}
use native.Mathlib.Omega.{arith}
use denote.Enum.Declared.{tag_of}
use types.Run.{OneOf}
use Rattle.rules.specs.declared.Answer.{Answer}
use Rattle.rules.specs.declared.Answer.TheVariants.{Accepted}
use Rattle.rules.specs.contracts.Answer as S

not_zero : (k : ℕ) (ks : List ℕ) → OneOf (map suc (k ∷ ks)) 0 → ⊥
not_zero k [] e = omega arith
not_zero k (j ∷ ks) (inl e) = omega arith
not_zero k (j ∷ ks) (inr h) = not_zero j ks h

-- The tags of the refusals, less one.
abbrev later : List ℕ
later = 1 ∷ 2 ∷ 3 ∷ 4 ∷ 5 ∷ 6 ∷ 7 ∷ 8 ∷ 9 ∷ 10 ∷ 11 ∷ 12 ∷ 13 ∷ 14 ∷ 15 ∷ 16 ∷ 17 ∷ 18 ∷ 19 ∷ 20 ∷ 21 ∷ []

-- An answer with one of them is no acceptance.
pub not_accepted : (a : Answer) → OneOf (map suc (0 ∷ later)) (tag_of S.the_type a) → (cues nodes : ℕ) → a ≡ Accepted cues nodes → ⊥
not_accepted a h cues nodes e = not_zero 0 later (subst (λ (x : Answer). OneOf (map suc (0 ∷ later)) (tag_of S.the_type x)) e h)

-- A set is kept as words, and its propositions come back ascending: of an ascending list below 64 * word_count they are that list, so the
-- fields of a set that was read are the set's. Assumes nothing.
use mathlib.Core.Path.{◌≡◌, refl, ap, ap₂, ◌∙◌, subst}
use mathlib.Core.Bool.{Bool, true, false, ◌||◌}
use mathlib.Core.List.{List, [], ◌∷◌}
use Prim.Native.Nat.{ℕ, zero, suc, ◌+◌, ◌*◌, ◌≤◌, ◌<◌}
use native.Mathlib.Decide.{ℕ_discrete}
use native.Mathlib.Omega.{arith}
use lib.Dec.{eqb}
use lib.ListN.{length}
use borrow.Author.Tests.{eq-eqb, ne_eqb}
use Rattle.rules.specs.State.{State, word_count, member, no_propositions, insert, insert_all}
use Rattle.rules.specs.Fields.{propositions_from, propositions_of}
use Rattle.rules.proofs.Tables.{length_tabulate}
use Rattle.rules.proofs.Members.{member_empty, length_insert, member_insert}

-- From low on, strictly ascending, below top.
abbrev pub Ascends : ℕ → ℕ → List ℕ → Type 0
Ascends low top [] = Unit {0}
Ascends low top (v ∷ vs) = (low ≤ v) × (v < top) × Ascends (v + 1) top vs

unfoldable has : ℕ → List ℕ → Bool
has q [] = false
has q (v ∷ vs) = eqb q v || has q vs

or_turn : (a b c : Bool) → (a || (b || c)) ≡ ((b || a) || c)
or_turn true true c = refl
or_turn true false c = refl
or_turn false true c = refl
or_turn false false c = refl

or-false : (a : Bool) → (a || false) ≡ a
or-false true = refl
or-false false = refl

length_none : length no_propositions ≡ word_count
unfolding no_propositions
length_none = length_tabulate word_count 0 (λ i. 0)

-- Who is in the set with the propositions of a list: those of the list, and those that were.
member_all : (s : State) (vs : List ℕ) (q low : ℕ) → length s ≡ word_count → Ascends low (64 * word_count) vs
    → member (insert_all s vs) q ≡ has q vs || member s q
unfolding has
member_all s [] q low e a = refl
member_all s (v ∷ vs) q low e a =
    let below = a.1 in
    member_all (insert s v) vs q (v + 1) (length_insert s v ∙ e) a.2
    ∙ ap (λ (b : Bool). has q vs || b) (member_insert s v q (omega arith)) ∙ or_turn (has q vs) (eqb q v) (member s q)

has_below : (vs : List ℕ) (q low top : ℕ) → q < low → Ascends low top vs → has q vs ≡ false
unfolding has
has_below [] q low top h a = refl
has_below (v ∷ vs) q low top h a =
    let l = a.0 in ap₂ (λ (x y : Bool). x || y) (ne_eqb q v (λ e. omega arith)) (has_below vs q (v + 1) top (omega arith) a.2)

-- The test at p decides whether p comes back.
from_yes : (s : State) (n p : ℕ) → member s p ≡ true → propositions_from s (suc n) p ≡ p ∷ propositions_from s n (suc p)
from_yes s n p e = rw (e, propositions_from)

from_no : (s : State) (n p : ℕ) → member s p ≡ false → propositions_from s (suc n) p ≡ propositions_from s n (suc p)
from_no s n p e = rw (e, propositions_from)

propositions_are : (s : State) (n p : ℕ) (vs : List ℕ) → Ascends p (p + n) vs → ((q : ℕ) → p ≤ q → member s q ≡ has q vs) → propositions_from s n p ≡ vs
unfolding has
propositions_are s zero p [] a f = refl
propositions_are s zero p (v ∷ vs) a f = let l = a.0 in let u = a.1 in let z : ⊥ = omega arith in absurd z
propositions_are s (suc n) p [] a f = from_no s n p (f p (omega arith)) ∙ propositions_are s n (suc p) [] tt (λ q h. f q (omega arith))
propositions_are s (suc n) p (v ∷ vs) a f =
    go (ℕ_discrete p v) (λ x g. propositions_are s n (suc p) vs x g) (λ x g. propositions_are s n (suc p) (v ∷ vs) x g)
  where
    top : p + suc n ≡ suc p + n
    top = omega arith

    go : Dec (p ≡ v)
        → (Ascends (suc p) (suc p + n) vs → ((q : ℕ) → suc p ≤ q → member s q ≡ has q vs) → propositions_from s n (suc p) ≡ vs)
        → (Ascends (suc p) (suc p + n) (v ∷ vs) → ((q : ℕ) → suc p ≤ q → member s q ≡ has q (v ∷ vs)) → propositions_from s n (suc p) ≡ v ∷ vs)
        → propositions_from s (suc n) p ≡ v ∷ vs
    go (yes e) this later =
        let low : v + 1 ≡ suc p = omega arith in
        from_yes s n p (f p (omega arith) ∙ ap (λ (b : Bool). b || has p vs) (eq-eqb p v e))
        ∙ ap₂ (λ (x : ℕ) (l : List ℕ). x ∷ l) e
        (this (subst (λ (x : ℕ). Ascends x (suc p + n) vs) low (subst (λ (x : ℕ). Ascends (v + 1) x vs) top a.2))
        (λ q h. f q (omega arith) ∙ ap (λ (b : Bool). b || has q vs) (ne_eqb q v (λ d. omega arith))))
    go (no e) this later =
        let l = a.0 in
        let u = a.1 in
        let above : p < v = omega arith in
        let b : Ascends (suc p) (suc p + n) (v ∷ vs) = (omega arith, omega arith, subst (λ (x : ℕ). Ascends (v + 1) x vs) top a.2) in
        from_no s n p (f p (omega arith) ∙ has_below (v ∷ vs) p (suc p) (suc p + n) (omega arith) b) ∙ later b (λ q h. f q (omega arith))

-- Of an ascending list the set's propositions are that list.
pub members_back : (vs : List ℕ) → Ascends 0 (64 * word_count) vs → propositions_of (insert_all no_propositions vs) ≡ vs
unfolding propositions_of
members_back vs a =
    let top : 64 * word_count ≡ 0 + 64 * word_count = omega arith in
    propositions_are (insert_all no_propositions vs) (64 * word_count) 0 vs (subst (λ (x : ℕ). Ascends 0 x vs) top a)
    (λ q h. member_all no_propositions vs q 0 length_none a ∙ ap (λ (b : Bool). has q vs || b) (member_empty q) ∙ or-false (has q vs))

-- So the set of an ascending list is made of its own propositions.
pub set_back : (vs : List ℕ) → Ascends 0 (64 * word_count) vs
    → insert_all no_propositions (propositions_of (insert_all no_propositions vs)) ≡ insert_all no_propositions vs
set_back vs a = ap (insert_all no_propositions) (members_back vs a)

-- The tests of the ranges, as the code makes them: the two bounds that are known before a line, and what two kinds ask for besides.
-- Assumes nothing.
use mathlib.Core.Path.{◌≡◌, refl, sym, ap, ap₂, subst, ◌∙◌}
use mathlib.Core.Bool.{Bool, true, false, ◌&&◌, not, and-true, and-false, and_comm}
use mathlib.Core.List.{List, [], ◌∷◌}
use Prim.Native.Nat.{ℕ, zero, suc, ◌+◌, ◌-◌, ◌*◌, ◌^◌, ◌≤◌, ◌<◌}
use native.Mathlib.Nat.{one-le-pow}
use native.Mathlib.Omega.{arith}
use borrow.Author.Tests.{le-leb, lt-leb, lt-ltb, leb-true, ltb-true}
use lib.Dec.{eqb, leb, ltb, leb-zero, lit<}
use lib.ListN.{length, get_or, drop}
use Rattle.rules.specs.declared.Header.{Header}
use Rattle.rules.specs.Table as T
use Rattle.rules.specs.Table.{Kind, is_compound, in_range}
use Rattle.rules.specs.Case.{header_in}
use Rattle.rules.proofs.Judgement.Each.{both_true}
use Rattle.lines.specs.declared.bounds.Bounds.{Bounds}
use Rattle.lines.specs.Shapes.{kinds, kind_of}
use Rattle.lines.specs.Ranges.{bounds, all_below, bounds_of, apart_from, in_turn, known_of, Known}
use Rattle.lines.specs.Reading.{in_kind}

-- Tests that hold together are equal.
same_tests : (a b : Bool) → (a ≡ true → b ≡ true) → (b ≡ true → a ≡ true) → a ≡ b
same_tests true b to back = sym (to refl)
same_tests false true to back = back refl
same_tests false false to back = refl

-- A test that holds between two bounds is the test of both.
by_bounds : (least v greatest : ℕ) (t : Bool) → (t ≡ true → (least ≤ v) × (v ≤ greatest)) → (least ≤ v → v ≤ greatest → t ≡ true)
    → t ≡ (leb least v && leb v greatest)
by_bounds least v greatest t to back =
    same_tests t (leb least v && leb v greatest)
    (λ e. ap₂ (λ (a b : Bool). a && b) (le-leb least v (to e).0) (le-leb v greatest (to e).1))
    (λ e. let b = both_true (leb least v) (leb v greatest) e in back (leb-true least v b.0) (leb-true v greatest b.1))

up_to_lem : (v most : ℕ) → leb v most ≡ (leb 0 v && leb v most)
up_to_lem v most = ap (λ (b : Bool). b && leb v most) (sym (leb-zero v))

below_top : (v n : ℕ) → ltb v n ≡ (leb (all_below n).0 v && leb v (all_below n).1)
below_top v zero = by_bounds 1 v 0 (ltb v 0) (λ e. absurd (let h = ltb-true v 0 e in omega arith)) (λ l g. absurd (omega arith))
below_top v (suc n) =
    by_bounds 0 v n (ltb v (suc n)) (λ e. let h = ltb-true v (suc n) e in (omega arith, omega arith)) (λ l g. lt-ltb v (suc n) (omega arith))

pub below_some : (n : ℕ) → (n ≡ 0 → ⊥) → bounds 0 (n - 1) ≡ all_below n
below_some zero h = absurd (h refl)
below_some (suc n) h = let e : suc n - 1 ≡ n = omega arith in ap (bounds 0) e

pub below_most : (n : ℕ) {b : Bounds} → b ≡ all_below n → (b.0 ≤ 1) × (b.1 ≤ n)
below_most n e = subst (λ (b : Bounds). (b.0 ≤ 1) × (b.1 ≤ n)) (sym e) (go n)
  where
    go : (n : ℕ) → ((all_below n).0 ≤ 1) × ((all_below n).1 ≤ n)
    go zero = (omega arith, omega arith)
    go (suc n) = (omega arith, omega arith)

compound_range : (a c v : ℕ) → is_compound a c v ≡ (leb (a + (all_below c).0) v && leb v (a + (all_below c).1))
unfolding is_compound
compound_range a zero v =
    by_bounds (a + 1) v (a + 0) (leb a v && ltb v (a + 0))
    (λ e. let b = both_true (leb a v) (ltb v (a + 0)) e in absurd (omega (arith, leb-true a v b.0, ltb-true v (a + 0) b.1))) (λ l g. absurd (omega arith))
compound_range a (suc c) v =
    by_bounds (a + 0) v (a + c) (leb a v && ltb v (a + suc c))
    (λ e.
    let b = both_true (leb a v) (ltb v (a + suc c)) e in
    let l = leb-true a v b.0 in
    let g = ltb-true v (a + suc c) b.1 in
    (omega arith, omega arith))
    (λ l g. ap₂ (λ (x y : Bool). x && y) (le-leb a v (omega arith)) (lt-ltb v (a + suc c) (omega arith)))

set_range : (v n : ℕ) → ltb v (2 ^ n) ≡ (leb 0 v && leb v (2 ^ n - 1))
set_range v n =
    let some = one-le-pow n 2 (lit< tt) in
    by_bounds 0 v (2 ^ n - 1) (ltb v (2 ^ n)) (λ e. let h = ltb-true v (2 ^ n) e in (omega arith, omega arith)) (λ l g. lt-ltb v (2 ^ n) (omega arith))

-- A number is in the range of its kind if it is between its bounds and has what the kind asks for besides.
range_law : (h : Header) (n : ℕ) (before : List ℕ) (k : Kind) (v : ℕ) → v ≤ 4294967295
    → in_range h n before k v ≡ (apart_from before k v && (leb (bounds_of h n k).0 v && leb v (bounds_of h n k).1))
unfolding in_range bounds_of apart_from
range_law h n before (T.up_to most) v small = up_to_lem v most
range_law h n before (T.one_up_to most) v small = refl
range_law h n before T.goal v small =
    let is = is_compound (get_or before 1 0) (get_or before 2 0) v in
    sym (ap (λ (b : Bool). is && b) (sym (up_to_lem v 4294967295) ∙ le-leb v 4294967295 small) ∙ and-true is)
range_law h n before T.compound v small = compound_range h.actions h.compounds v
range_law h n before T.task v small = below_top v (h.actions + h.compounds)
range_law h n before T.an_action v small = below_top v h.actions
range_law h n before T.aMethod v small = below_top v h.methods
range_law h n before T.proposition v small = below_top v h.propositions
range_law h n before T.memberCount v small = up_to_lem v h.propositions
range_law h n before T.subtask v small = below_top v n
range_law h n before T.otherSubtask v small =
    let other = not (eqb v (get_or before 0 0)) in and_comm (ltb v n) other ∙ ap (λ (b : Bool). other && b) (below_top v n)
range_law h n before T.subtaskSet v small = set_range v n
range_law h n before T.gap v small = up_to_lem v h.cues
range_law h n before T.position v small = refl

-- ---- The bounds, where they are listed

in_turn_lem : (range : Kind → Bounds) (ks : List Kind) (k : ℕ) (other : Kind) → k < length ks
    → (get_or (in_turn range ks) (2 * k) 0 ≡ (range (get_or ks k other)).0) × (get_or (in_turn range ks) (suc (2 * k)) 0 ≡ (range (get_or ks k other)).1)
in_turn_lem range [] k other h = absurd (omega arith)
in_turn_lem range (x ∷ ks) zero other h = (refl, refl)
in_turn_lem range (x ∷ ks) (suc k) other h =
    let e : 2 * suc k ≡ suc (suc (2 * k)) = omega arith in
    let i = in_turn_lem range ks k other (omega arith) in
    let list = (range x).0 ∷ (range x).1 ∷ in_turn range ks in
    (ap (λ (j : ℕ). get_or list j 0) e ∙ i.0, ap (λ (j : ℕ). get_or list (suc j) 0) e ∙ i.1)

module _ (x before : List ℕ) (kind v : ℕ) (few : kind < 20) (known : Known x) (small : v < 2 ^ 32) where
  abbrev limits : Bounds
  limits = bounds_of (header_in x) (get_or x 7 0) (kind_of kind)

  listed : (get_or x (8 + 2 * kind) 0 ≡ limits.0) × (get_or x (8 + 2 * kind + 1) 0 ≡ limits.1)
  unfolding known_of kind_of
  listed =
      let e : 8 + 2 * kind ≡ suc (suc (suc (suc (suc (suc (suc (suc (2 * kind)))))))) = omega arith in
      let f : 8 + 2 * kind + 1 ≡ suc (suc (suc (suc (suc (suc (suc (suc (suc (2 * kind))))))))) = omega arith in
      let i = in_turn_lem (bounds_of (header_in x) (get_or x 7 0)) kinds kind T.task few in
      (ap₂ (λ (l : List ℕ) (j : ℕ). get_or l j 0) known e ∙ i.0, ap₂ (λ (l : List ℕ) (j : ℕ). get_or l j 0) known f ∙ i.1)

  -- The test by the two numbers that the code looks up.
  tested : in_kind x before kind v ≡ (apart_from before (kind_of kind) v && (leb (get_or x (8 + 2 * kind) 0) v && leb v (get_or x (8 + 2 * kind + 1) 0)))
  tested =
      range_law (header_in x) (get_or x 7 0) before (kind_of kind) v (omega arith)
      ∙ ap₂ (λ (l g : ℕ). apart_from before (kind_of kind) v && (leb l v && leb v g)) (sym listed.0) (sym listed.1)

  pub too_low : v < get_or x (8 + 2 * kind) 0 → false ≡ in_kind x before kind v
  too_low h = rw (tested, lt-leb (get_or x (8 + 2 * kind) 0) v h, and-false)

  pub too_high : get_or x (8 + 2 * kind + 1) 0 < v → false ≡ in_kind x before kind v
  too_high h = rw (tested, lt-leb v (get_or x (8 + 2 * kind + 1) 0) h, and-false, and-false)

  pub between : get_or x (8 + 2 * kind) 0 ≤ v → v ≤ get_or x (8 + 2 * kind + 1) 0 → apart_from before (kind_of kind) v ≡ in_kind x before kind v
  between l g = rw (tested, le-leb (get_or x (8 + 2 * kind) 0) v l, le-leb v (get_or x (8 + 2 * kind + 1) 0) g, and-true)

-- What a header and a subtask count make known are their ranges.
pub made_known : (h : Header) (n : ℕ) {x : List ℕ} → x ≡ known_of h n → Known x
unfolding known_of
made_known h n e = subst Known (sym e) refl

-- ---- The kinds that ask for no more than their range

module _ (before : List ℕ) (v : ℕ) where
  abbrev Plain : List Kind → Type 0
  Plain [] = Unit {0}
  Plain (k ∷ ks) = (apart_from before k v ≡ true) × Plain ks

  plain_at : (ks : List Kind) (k : ℕ) → Plain ks → apart_from before (get_or ks k T.task) v ≡ true
  unfolding apart_from
  plain_at [] k p = refl
  plain_at (x ∷ ks) zero p = p.0
  plain_at (x ∷ ks) (suc k) p = plain_at ks k p.1

  -- From byte 3 on.
  pub plain : (kind : ℕ) → 3 ≤ kind → apart_from before (kind_of kind) v ≡ true
  unfolding apart_from kind_of
  plain kind h =
      let e : kind ≡ suc (suc (suc (kind - 3))) = omega arith in
      ap (λ (k : ℕ). apart_from before (get_or kinds k T.task) v) e ∙ plain_at (drop 3 kinds) (kind - 3)
      (refl, (refl, (refl, (refl, (refl, (refl, (refl, (refl, (refl, (refl, (refl, (refl, (refl, (refl, (refl, (refl, (refl, tt)))))))))))))))))

-- ---- A compound task

-- From the action count on, a compound task is told by what is left over it.
pub compound_above : (actions compounds t : ℕ) → actions ≤ t → ltb (t - actions) compounds ≡ is_compound actions compounds t
unfolding is_compound
compound_above actions compounds t h =
    rw (le-leb actions t h)
    (same_tests (ltb (t - actions) compounds) (ltb t (actions + compounds))
    (λ e. lt-ltb t (actions + compounds) (let l = ltb-true (t - actions) compounds e in omega arith))
    (λ e. lt-ltb (t - actions) compounds (let l = ltb-true t (actions + compounds) e in omega arith)))

pub compound_below : (actions compounds t : ℕ) → t < actions → false ≡ is_compound actions compounds t
unfolding is_compound
compound_below actions compounds t h = rw (lt-leb actions t h) refl

-- One link more is stored and counted; and the first line that fails, of one line more. Assumes nothing.
use mathlib.Core.Path.{◌≡◌, refl, sym, ap, ◌∙◌}
use mathlib.Core.Bool.{Bool, true, false, ◌||◌}
use mathlib.Core.List.{List, [], ◌∷◌, ◌++◌}
use mathlib.Core.Logic.{⊎_elim}
use Prim.Native.Nat.{ℕ, suc, ◌+◌, ◌≤◌, ◌<◌}
use native.Mathlib.Numerals.{add-one}
use native.Mathlib.Omega.{arith}
use borrow.Author.Tests.{eq-eqb, ne_eqb}
use lib.Dec.{eqb}
use lib.ListN.{length, get_or, set, take, length-set}
use lib.Seq.{get_or-set_same, get_or-set_other, take-suc-set, length-take-le}
use Rattle.rules.specs.Form.{times}
use Rattle.probing.proofs.First.{below}
use Rattle.links.specs.Steps.{Tallied, Stored, FirstOf}
use Rattle.links.proofs.Pairs.{same_or_not}

-- ---- Counting

times_by : (x y : ℕ) (ys : List ℕ) (b : Bool) → eqb y x ≡ b → times x (y ∷ ys) ≡ elim b [ true ↦ suc (times x ys) | false ↦ times x ys ]
times_by x y ys b q = ap (λ (z : Bool). elim z as (λ w. ℕ) [ true ↦ suc (times x ys) | false ↦ times x ys ]) q

times_snoc : (x : ℕ) (ys : List ℕ) (z : ℕ) → times x (ys ++ (z ∷ [])) ≡ times x ys + times x (z ∷ [])
times_snoc x [] z = omega arith
times_snoc x (y ∷ ys) z = go (times_snoc x ys z) (eqb y x) refl
  where
    go : times x (ys ++ (z ∷ [])) ≡ times x ys + times x (z ∷ []) → (b : Bool) → eqb y x ≡ b
        → times x (y ∷ (ys ++ (z ∷ []))) ≡ times x (y ∷ ys) + times x (z ∷ [])
    go rest true q = let a = times_by x y (ys ++ (z ∷ [])) true q in let b = times_by x y ys true q in omega arith
    go rest false q = let a = times_by x y (ys ++ (z ∷ [])) false q in let b = times_by x y ys false q in omega arith

times_most : (x : ℕ) (ys : List ℕ) → times x ys ≤ length ys
times_most x [] = omega arith
times_most x (y ∷ ys) = go (times_most x ys) (eqb y x) refl
  where
    go : times x ys ≤ length ys → (b : Bool) → eqb y x ≡ b → times x (y ∷ ys) ≤ suc (length ys)
    go rest true q = omega (arith, times_by x y ys true q)
    go rest false q = omega (arith, times_by x y ys false q)

-- ---- One link more

set_low : (l : List ℕ) (i v m : ℕ) → i < length l → ((u : ℕ) → get_or l u 0 ≤ m) → v ≤ m → (u : ℕ) → get_or (set l i v) u 0 ≤ m
set_low l i v m h low k u =
    ⊎_elim
    (λ s. let q : get_or (set l i v) u 0 ≡ v = ap (λ (y : ℕ). get_or (set l i v) y 0) s ∙ get_or-set_same l i v 0 h in omega arith)
    (λ s. omega (arith, get_or-set_other l i u v 0 s, low u))
    (same_or_not u i)

taken_more : (l : List ℕ) (n v : ℕ) → n < length l → take (n + 1) (set l n v) ≡ take n l ++ (v ∷ [])
taken_more l n v h = ap (λ (m : ℕ). take m (set l n v)) (add-one n) ∙ take-suc-set l n v h

module _ {count n : ℕ} {links used : List ℕ} (tallied : Tallied count n links used) where
  -- No line is linked to more often than there are links.
  pub tally_most : (d : ℕ) → get_or used d 0 ≤ n
  tally_most d =
      omega (arith, tallied.tally d, times_most (suc d) (take n links), length-take-le n links tallied.within)

  counted : (v x : ℕ) → n < length links
      → times (suc x) (take (n + 1) (set links n v)) ≡ get_or used x 0 + times (suc x) (v ∷ [])
  counted v x h =
      ap (times (suc x)) (taken_more links n v h)
      ∙ times_snoc (suc x) (take n links) v
      ∙ ap (λ (t : ℕ). t + times (suc x) (v ∷ [])) (sym (tallied.tally x))

  -- A link to the line d, which is counted there.
  pub tallied_line : (d v w : ℕ) → n < length links → d < length used → v ≡ suc d → v ≤ count → w ≡ suc (get_or used d 0)
      → Tallied count (n + 1) (set links n v) (set used d w)
  tallied_line d v w h inside e low k =
      record {
        within = omega (arith, length-set links n v);
        low = set_low links n v count h tallied.low low;
        tally = λ x. ⊎_elim (same x) (other x) (same_or_not x d);
      }
    where
      same : (x : ℕ) → x ≡ d → get_or (set used d w) x 0 ≡ times (suc x) (take (n + 1) (set links n v))
      same x s =
          let a : get_or (set used d w) x 0 ≡ w = ap (λ (y : ℕ). get_or (set used d w) y 0) s ∙ get_or-set_same used d w 0 inside in
          let b = times_by (suc x) v [] true (eq-eqb v (suc x) (omega arith)) in
          let g : get_or used x 0 ≡ get_or used d 0 = ap (λ (y : ℕ). get_or used y 0) s in
          omega (arith, counted v x h)

      other : (x : ℕ) → (x ≡ d → ⊥) → get_or (set used d w) x 0 ≡ times (suc x) (take (n + 1) (set links n v))
      other x s =
          let a = get_or-set_other used d x w 0 s in
          let b = times_by (suc x) v [] false (ne_eqb v (suc x) (λ q. s (omega arith))) in
          omega (arith, counted v x h)

  -- A link to none.
  pub tallied_none : n < length links → Tallied count (n + 1) (set links n 0) used
  tallied_none h =
      record {
        within = omega (arith, length-set links n 0);
        low = set_low links n 0 count h tallied.low (omega arith);
        tally = λ x. let b = times_by (suc x) 0 [] false (ne_eqb 0 (suc x) (λ q. omega arith)) in omega (arith, counted 0 x h);
      }

-- ---- Links of ids

or-true : (b : Bool) → (b || true) ≡ true
or-true true = refl
or-true false = refl

or-false : (b : Bool) → (b || false) ≡ b
or-false true = refl
or-false false = refl

-- A flag that is raised where the test holds, and stays where it does not.
pub flag_raised : {test flag : Bool} (b : Bool) → test ≡ true → flag ≡ true → flag ≡ (b || test)
flag_raised b t e = e ∙ sym (ap (λ (x : Bool). b || x) t ∙ or-true b)

pub flag_stays : {test flag : Bool} (b : Bool) → test ≡ false → flag ≡ b → flag ≡ (b || test)
flag_stays b t e = e ∙ sym (ap (λ (x : Bool). b || x) t ∙ or-false b)

pub stored_one : (link_of : ℕ → ℕ) (id n v : ℕ) (links : List ℕ) (r : Bool) → n < length links → v ≡ link_of id → r ≡ eqb v 0
    → Stored link_of (id ∷ []) n links (n + 1) r (set links n v)
stored_one link_of id n v links r h e q =
    record {
      ends = refl;
      taken = taken_more links n v h ∙ ap (λ (y : ℕ). take n links ++ (y ∷ [])) e;
      none = q ∙ ap (λ (y : ℕ). eqb y 0) e ∙ sym (or-false (eqb (link_of id) 0));
    }

-- ---- The first line that fails

module _ {fails : ℕ → Bool} {count n w : ℕ} (so_far : FirstOf fails count n w) where
  pub wrong_stays : w < count → FirstOf fails count (suc n) w
  wrong_stays h =
      let f = so_far.failed h in
      record { most = so_far.most; passed = λ d k l. so_far.passed d (omega arith) l; failed = λ k. (omega arith, f.1) }

  pub wrong_here : count ≤ w → n < count → fails n ≡ true → FirstOf fails count (suc n) n
  wrong_here h k e = record { most = omega arith; passed = λ d l m. so_far.passed d m (omega arith); failed = λ l. (omega arith, e) }

  pub wrong_none : count ≤ w → fails n ≡ false → FirstOf fails count (suc n) count
  wrong_none h e =
      record {
        most = omega arith;
        passed = λ d l m. ⊎_elim (λ k. so_far.passed d k (omega arith)) (λ k. let s : d ≡ n = omega arith in ap fails s ∙ e) (below d n);
        failed = λ l. absurd (omega arith);
      }

-- What keeps a table right, whatever the keys and the hash: a cleared one has no entries; an entry is added where its walk met a free slot,
-- and not where an earlier one has its key; entries that are not in the table yet may change. Assumes nothing.
use mathlib.Core.Path.{◌≡◌, refl, sym, ap, ◌∙◌, subst}
use mathlib.Core.Bool.{Bool, true, false}
use mathlib.Core.List.{List, [], ◌∷◌}
use mathlib.Core.Logic.{⊎_elim}
use Prim.Native.Nat.{ℕ, zero, suc, ◌+◌, ◌-◌, ◌≤◌, ◌<◌}
use native.Mathlib.Omega.{arith}
use lib.ListN.{length, get_or, set, length-set, get_or-eq_default}
use lib.Seq.{get_or-set_same, get_or-set_other}
use Rattle.std.specs.Prelude.{Option, None, Some}
use Rattle.probing.specs.declared.Look.{Look}
use Rattle.probing.specs.declared.Walk.{Walk}
use Rattle.probing.specs.declared.Walk.TheVariants.{Hit, Free, Full}
use Rattle.probing.specs.Probing.{earlier, first, spot_of, looked, look_of, turn, walk_from, walk, answer, with_entry, used, Kept}
use Rattle.probing.proofs.First.{below, nothing_not_at, first_none, first_agree}
use Rattle.probing.proofs.Walks.{spot_on, spot_over, free_zero, keeps_hit, stored_hit, never, full_none, free_in}

-- ---- The slots as a list

set_low : (l : List ℕ) (q v m : ℕ) → ((i : ℕ) → get_or l i 0 ≤ m) → v ≤ m → (i : ℕ) → get_or (set l q v) i 0 ≤ m
set_low [] q v m low h i = low i
set_low (x ∷ l) zero v m low h zero = h
set_low (x ∷ l) zero v m low h (suc i) = low (suc i)
set_low (x ∷ l) (suc q) v m low h zero = low 0
set_low (x ∷ l) (suc q) v m low h (suc i) = set_low l q v m (λ j. low (suc j)) h i

used_set : (l : List ℕ) (q v : ℕ) → used (set l q v) ≤ suc (used l)
used_set [] q v = omega arith
used_set (zero ∷ l) zero zero = omega arith
used_set (zero ∷ l) zero (suc v) = omega arith
used_set (suc x ∷ l) zero zero = omega arith
used_set (suc x ∷ l) zero (suc v) = omega arith
used_set (zero ∷ l) (suc q) v = used_set l q v
used_set (suc x ∷ l) (suc q) v = omega (arith, used_set l q v)

used_all : (l : List ℕ) → ((i : ℕ) → i < length l → get_or l i 0 ≡ 0 → ⊥) → used l ≡ length l
used_all [] none = refl
used_all (zero ∷ l) none = absurd (none 0 (omega arith) refl)
used_all (suc x ∷ l) none = ap suc (used_all l (λ i h. none (suc i) (omega arith)))

-- ---- An entry more

set_walk : (t : ℕ → Bool) (slots : List ℕ) (h q v : ℕ) → walk t (set slots q v) h ≡ walk_from t (set slots q v) (length slots) h (length slots) 0
set_walk t slots h q v = ap (λ (m : ℕ). walk_from t (set slots q v) m h m 0) (length-set slots q v)

answer_at : (w : Walk) (e : ℕ) → answer w ≡ Some e → w ≡ Hit e
answer_at (Hit x) e p = cc
answer_at (Free q) e p = nothing_not_at e p
answer_at Full e p = nothing_not_at e p

module _ {K : Type 0} (same : K → ℕ → Bool) (hash : K → ℕ) (slots : List ℕ) (n : ℕ) (kept : Kept same hash slots n) (k₀ : K) where
  -- A table with fewer entries than slots is never full.
  never_full : hash k₀ < length slots → n < length slots → walk (same k₀) slots (hash k₀) ≡ Full → ⊥
  never_full h l w = omega (arith, kept.room, used_all slots none)
    where
      none : (i : ℕ) → i < length slots → get_or slots i 0 ≡ 0 → ⊥
      none i k z =
          ⊎_elim
          (λ o. let s : spot_of (length slots) (hash k₀) (length slots - hash k₀ + i) ≡ i =
          spot_over (length slots) (hash k₀) (length slots - hash k₀ + i) (omega arith) ∙ omega arith in
          full_none (same k₀) slots (length slots) (hash k₀) (length slots) 0 w (length slots - hash k₀ + i) (omega arith) (omega arith) (ap (λ (j : ℕ). get_or slots j 0) s ∙ z))
          (λ o. let s : spot_of (length slots) (hash k₀) (i - hash k₀) ≡ i = spot_on (length slots) (hash k₀) (i - hash k₀) (omega arith) ∙ omega arith in
          full_none (same k₀) slots (length slots) (hash k₀) (length slots) 0 w (i - hash k₀) (omega arith) (omega arith) (ap (λ (j : ℕ). get_or slots j 0) s ∙ z))
          (below i (hash k₀))

  -- The free slot that a walk ends at is one of the table's.
  free_spot : hash k₀ < length slots → (q : ℕ) → walk (same k₀) slots (hash k₀) ≡ Free q → q < length slots
  free_spot h q w = free_in (same k₀) slots (length slots) (hash k₀) (omega arith) h (length slots) 0 q (omega arith) w

  module _ (only : (k : K) → same k n ≡ true → k ≡ k₀) where
    -- An earlier entry has the key: the table stays.
    known : (e : ℕ) → walk (same k₀) slots (hash k₀) ≡ Hit e → Kept same hash slots (suc n)
    known e w = record { finds = λ k. kept.finds k ∙ go k (first (same k) n) refl (same k n) refl; low = λ i. omega (arith, kept.low i); room = omega (arith, kept.room) }
      where
        go : (k : K) (r : Option ℕ) → first (same k) n ≡ r → (b : Bool) → same k n ≡ b → first (same k) n ≡ earlier (first (same k) n) (same k n) n
        go k (Some x) p b s = p ∙ ap (λ (y : Option ℕ). earlier y (same k n) n) (sym p)
        go k None p false s = p ∙ ap (λ (y : Bool). earlier None y n) (sym s) ∙ ap (λ (y : Option ℕ). earlier y (same k n) n) (sym p)
        go k None p true s =
            nothing_not_at e (sym p ∙ ap (λ (y : K). first (same y) n) (only k s) ∙ sym (kept.finds k₀) ∙ ap answer w)

    -- A new key: its entry goes to the free slot that the walk met.
    added : (q : ℕ) → walk (same k₀) slots (hash k₀) ≡ Free q → same k₀ n ≡ true → hash k₀ < length slots → Kept same hash (set slots q (suc n)) (suc n)
    added q w b h =
        record {
          finds = λ k. go k (same k n) refl (first (same k) n) refl;
          low = low;
          room = omega (arith, kept.room, used_set slots q (suc n));
        }
      where
        low : (i : ℕ) → get_or (set slots q (suc n)) i 0 ≤ suc n
        low i = set_low slots q (suc n) (suc n) (λ j. omega (arith, kept.low j)) (omega arith) i

        zeroed : get_or slots q 0 ≡ 0
        zeroed = free_zero (same k₀) slots (length slots) (hash k₀) (length slots) 0 q w

        new : answer (walk (same k₀) (set slots q (suc n)) (hash k₀)) ≡ earlier (first (same k₀) n) (same k₀ n) n
        new =
            ap answer (set_walk (same k₀) slots (hash k₀) q (suc n) ∙ stored_hit (same k₀) slots (length slots) (hash k₀) q n zeroed (free_spot h q w) b (length slots) 0 w)
            ∙ sym (ap (λ (y : Option ℕ). earlier y (same k₀ n) n) (sym (kept.finds k₀) ∙ ap answer w) ∙ ap (λ (y : Bool). earlier None y n) b)

        go : (k : K) (c : Bool) → same k n ≡ c → (r : Option ℕ) → first (same k) n ≡ r
            → answer (walk (same k) (set slots q (suc n)) (hash k)) ≡ earlier (first (same k) n) (same k n) n
        go k true s r p = subst (λ (y : K). answer (walk (same y) (set slots q (suc n)) (hash y)) ≡ earlier (first (same y) n) (same y n) n) (sym (only k s)) new
        go k false s (Some e) p =
            ap answer (set_walk (same k) slots (hash k) q (suc n)
            ∙ keeps_hit (same k) slots (length slots) (hash k) q (suc n) zeroed (length slots) 0 e (answer_at _ e (kept.finds k ∙ p)))
            ∙ ap (λ (y : Option ℕ). earlier y (same k n) n) (sym p)
        go k false s None p =
            ap answer (set_walk (same k) slots (hash k) q (suc n))
            ∙ never (same k) (set slots q (suc n)) (length slots) (hash k) (suc n) low
            (λ e l. ⊎_elim (first_none (same k) n p e) (λ g. let i : e ≡ n = omega arith in ap (same k) i ∙ s) (below e n)) (length slots) 0
            ∙ sym (ap (λ (y : Option ℕ). earlier y (same k n) n) p ∙ ap (λ (y : Bool). earlier None y n) s)

-- ---- A table with no entries

used_none : (l : List ℕ) → ((i : ℕ) → get_or l i 0 ≤ 0) → used l ≤ 0
used_none [] z = omega arith
used_none (zero ∷ l) z = used_none l (λ i. z (suc i))
used_none (suc x ∷ l) z = absurd (omega (arith, z 0))

-- Slots that all hold 0 are a table with no entries.
pub empty : {K : Type 0} (same : K → ℕ → Bool) (hash : K → ℕ) (slots : List ℕ) → ((i : ℕ) → get_or slots i 0 ≡ 0) → Kept same hash slots 0
empty same hash slots z =
    record {
      finds = λ k. never (same k) slots (length slots) (hash k) 0 (λ i. omega (arith, z i)) (λ e h. absurd (omega arith)) (length slots) 0;
      low = λ i. omega (arith, z i);
      room = used_none slots (λ i. omega (arith, z i));
    }

-- ---- An insertion

-- What the end of the walk of the key k₀ means for the table with the entry n, which has that key.
pub record Puts {K : Type 0} (same : K → ℕ → Bool) (hash : K → ℕ) (slots : List ℕ) (n : ℕ) (k₀ : K) (end : Walk) : Type 0 where
  pub spot : (q : ℕ) → end ≡ Free q → q < length slots
  pub told : answer end ≡ first (same k₀) n
  pub kept : n < length slots → Kept same hash (with_entry end n slots) (suc n)

-- So it is wherever the entry n has the key k₀ and no other.
pub puts : {K : Type 0} (same : K → ℕ → Bool) (hash : K → ℕ) (slots : List ℕ) (n : ℕ) (k₀ : K) → Kept same hash slots n
    → ((k : K) → same k n ≡ true → k ≡ k₀) → same k₀ n ≡ true → hash k₀ < length slots
    → (end : Walk) → end ≡ walk (same k₀) slots (hash k₀) → Puts same hash slots n k₀ end
puts same hash slots n k₀ kept only itself within end w =
    record {
      spot = λ q e. free_spot same hash slots n kept k₀ within q (sym w ∙ e);
      told = ap answer w ∙ kept.finds k₀;
      kept = λ l. go l end w;
    }
  where
    go : n < length slots → (v : Walk) → v ≡ walk (same k₀) slots (hash k₀) → Kept same hash (with_entry v n slots) (suc n)
    go l (Hit e) w = known same hash slots n kept k₀ only e (sym w)
    go l (Free q) w = added same hash slots n kept k₀ only q (sym w) itself within
    go l Full w = absurd (never_full same hash slots n kept k₀ within l (sym w))

-- Each end by itself: an earlier entry that has the key, or a free slot, however many entries there are; and neither, which is not where
-- there are fewer entries than slots.
module _ {K : Type 0} (same : K → ℕ → Bool) (hash : K → ℕ) (slots : List ℕ) (n : ℕ) (k₀ : K) (kept : Kept same hash slots n)
    (only : (k : K) → same k n ≡ true → k ≡ k₀) (itself : same k₀ n ≡ true) (within : hash k₀ < length slots) where
  pub puts_hit : (e : ℕ) → Hit e ≡ walk (same k₀) slots (hash k₀) → (Some e ≡ first (same k₀) n) × Kept same hash slots (suc n)
  puts_hit e w = (ap answer w ∙ kept.finds k₀, known same hash slots n kept k₀ only e (sym w))

  pub puts_free : (q v : ℕ) → Free q ≡ walk (same k₀) slots (hash k₀) → v ≡ suc n
      → (None ≡ first (same k₀) n) × Kept same hash (set slots q v) (suc n)
  puts_free q v w e = (
    ap answer w ∙ kept.finds k₀,
    subst (λ (x : ℕ). Kept same hash (set slots q x) (suc n)) (sym e) (added same hash slots n kept k₀ only q (sym w) itself within),
  )

  pub puts_full : n < length slots → Full ≡ walk (same k₀) slots (hash k₀) → ⊥
  puts_full l w = never_full same hash slots n kept k₀ within l (sym w)

-- ---- Entries from n on may change

module _ (t u : ℕ → Bool) (n : ℕ) (agree : (e : ℕ) → e < n → t e ≡ u e) where
  look_agree : (x : ℕ) → x ≤ n → look_of t x ≡ look_of u x
  look_agree zero h = refl
  look_agree (suc x) h = ap (λ (b : Bool). looked b x) (agree x h)

  walk_agree : (slots : List ℕ) → ((i : ℕ) → get_or slots i 0 ≤ n) → (size h f d : ℕ) → walk_from t slots size h f d ≡ walk_from u slots size h f d
  walk_agree slots low size h zero d = refl
  walk_agree slots low size h (suc f) d =
      ap (λ (y : Look). turn y (spot_of size h d) (walk_from t slots size h f (d + 1))) (look_agree (get_or slots (spot_of size h d) 0) (low (spot_of size h d)))
      ∙ ap (turn (look_of u (get_or slots (spot_of size h d) 0)) (spot_of size h d)) (walk_agree slots low size h f (d + 1))

-- What `same` says of an entry that is not in the table yet does not count.
pub kept_agree : {K : Type 0} (same other : K → ℕ → Bool) (hash : K → ℕ) (slots : List ℕ) (n : ℕ) → ((k : K) (e : ℕ) → e < n → same k e ≡ other k e)
    → Kept same hash slots n → Kept other hash slots n
kept_agree same other hash slots n a kept =
    record {
      finds =
          λ k. ap answer (sym (walk_agree (same k) (other k) n (a k) slots kept.low (length slots) (hash k) (length slots) 0))
          ∙ kept.finds k ∙ first_agree (same k) (other k) n (a k);
      low = kept.low;
      room = kept.room;
    }

-- ---- Clearing

pub cleared_next : (l : List ℕ) (i : ℕ) → i < length l → ((j : ℕ) → j < i → get_or l j 0 ≡ 0) → (j : ℕ) → j < i + 1 → get_or (set l i 0) j 0 ≡ 0
cleared_next l i h z j k =
    ⊎_elim
    (λ o. get_or-set_other l i j 0 0 (λ s. omega arith) ∙ z j o)
    (λ o. let s : j ≡ i = omega arith in ap (λ (m : ℕ). get_or (set l i 0) m 0) s ∙ get_or-set_same l i 0 0 h)
    (below j i)

pub cleared_all : (l : List ℕ) (i : ℕ) → length l ≤ i → ((j : ℕ) → j < i → get_or l j 0 ≡ 0) → (j : ℕ) → get_or l j 0 ≡ 0
cleared_all l i h z j = ⊎_elim (z j) (λ o. get_or-eq_default l 0 {n = j} (omega arith)) (below j i)

-- Walks from slot to slot: a store to a free slot keeps what a walk hits, and the walk that met that slot then hits what was stored there.
-- Each by recursion on the number of slots left. Assumes nothing.
use mathlib.Core.Path.{◌≡◌, refl, sym, ap, ◌∙◌, subst}
use mathlib.Core.Bool.{Bool, true, false}
use mathlib.Core.List.{List}
use mathlib.Core.Logic.{⊎_elim}
use Prim.Native.Nat.{ℕ, zero, suc, ◌+◌, ◌-◌, ◌≤◌, ◌<◌}
use native.Mathlib.Nat.{eq-or-lt_of_le}
use native.Mathlib.Omega.{arith}
use borrow.Author.Tests.{lt-ltb, le-ltb}
use lib.ListN.{length, get_or, set}
use lib.Seq.{get_or-set_same, get_or-set_other}
use Rattle.std.specs.Prelude.{None}
use Rattle.probing.specs.declared.Look.{Look}
use Rattle.probing.specs.declared.Look.TheVariants.{Empty, Other}
use Rattle.probing.specs.declared.Walk.{Walk}
use Rattle.probing.specs.declared.Walk.TheVariants.{Hit, Free, Full}
use Rattle.probing.specs.Probing.{spot_of, looked, look_of, turn, walk_from, walk, answer}
use Rattle.probing.proofs.First.{below}

-- ---- Ends of walks apart

free_not_hit : {A : Type 0} (p e : ℕ) → Free p ≡ Hit e → A
free_not_hit p e h = let z : ◌≡◌ {A = ℕ} 0 1 = cc in absurd (omega arith)

full_not_free : {A : Type 0} (p : ℕ) → Full ≡ Free p → A
full_not_free p h = let z : ◌≡◌ {A = ℕ} 0 1 = cc in absurd (omega arith)

hit_not_free : {A : Type 0} (e p : ℕ) → Hit e ≡ Free p → A
hit_not_free e p h = let z : ◌≡◌ {A = ℕ} 0 1 = cc in absurd (omega arith)

hit_not_full : {A : Type 0} (e : ℕ) → Hit e ≡ Full → A
hit_not_full e h = let z : ◌≡◌ {A = ℕ} 0 1 = cc in absurd (omega arith)

free_not_full : {A : Type 0} (p : ℕ) → Free p ≡ Full → A
free_not_full p h = let z : ◌≡◌ {A = ℕ} 0 1 = cc in absurd (omega arith)

free_inj : (p q : ℕ) → Free p ≡ Free q → p ≡ q
free_inj p q h = cc

-- ---- One step of a walk, from a slot that is taken

turn_hit : (b : Bool) (x p e : ℕ) (w v : Walk) → turn (looked b x) p w ≡ Hit e → (w ≡ Hit e → v ≡ Hit e) → turn (looked b x) p v ≡ Hit e
turn_hit true x p e w v h k = h
turn_hit false x p e w v h k = k h

turn_on : (A : Walk → Type 0) (b : Bool) (x p : ℕ) (w : Walk) → A (turn (looked b x) p w) → ((e : ℕ) → A (Hit e) → b ≡ true → A w) → A w
turn_on A true x p w a k = k x a refl
turn_on A false x p w a k = a

-- ---- The slot that is d further

pub spot_on : (size h d : ℕ) → h + d < size → spot_of size h d ≡ h + d
unfolding spot_of
spot_on size h d k = rw (lt-ltb (h + d) size k)

pub spot_over : (size h d : ℕ) → size ≤ h + d → spot_of size h d ≡ h + d - size
unfolding spot_of
spot_over size h d k = rw (le-ltb (h + d) size k)

pub spot_in : (size h d : ℕ) → h < size → d < size → spot_of size h d < size
spot_in size h d k l = ⊎_elim (λ o. rw (spot_on size h d o) o) (λ o. rw (spot_over size h d o) (omega arith)) (below (h + d) size)

-- ---- What one slot tells

pub look_empty : (t : ℕ → Bool) (v : ℕ) → v ≡ 0 → Empty ≡ look_of t v
look_empty t v e = ap (look_of t) (sym e)

pub look_taken : (t : ℕ → Bool) (v : ℕ) (b : Bool) → (v ≡ 0 → ⊥) → t (v - 1) ≡ b → looked b (v - 1) ≡ look_of t v
look_taken t v b z e =
    let s : v ≡ suc (v - 1) = omega arith in
    ap (λ (x : Bool). looked x (v - 1)) (sym e) ∙ ap (look_of t) (sym s)

-- ---- Walks

module _ (t : ℕ → Bool) (slots : List ℕ) (size h : ℕ) where
  -- A walk that ends at a free slot ends at one that holds 0.
  pub free_zero : (f d q : ℕ) → walk_from t slots size h f d ≡ Free q → get_or slots q 0 ≡ 0
  free_zero zero d q e = full_not_free q e
  free_zero (suc f) d q e = go (free_zero f (d + 1) q) (get_or slots (spot_of size h d) 0) refl e
    where
      go : (walk_from t slots size h f (d + 1) ≡ Free q → get_or slots q 0 ≡ 0) → (x : ℕ) → get_or slots (spot_of size h d) 0 ≡ x
          → turn (look_of t x) (spot_of size h d) (walk_from t slots size h f (d + 1)) ≡ Free q → get_or slots q 0 ≡ 0
      go on zero g w = ap (λ (i : ℕ). get_or slots i 0) (sym (free_inj _ _ w)) ∙ g
      go on (suc x) g w =
          on (turn_on (λ (y : Walk). y ≡ Free q) (t x) x (spot_of size h d) (walk_from t slots size h f (d + 1)) w (λ e b c. hit_not_free e q b))

  -- A store to a free slot keeps what a walk hits.
  pub keeps_hit : (q v : ℕ) → get_or slots q 0 ≡ 0 → (f d e : ℕ) → walk_from t slots size h f d ≡ Hit e → walk_from t (set slots q v) size h f d ≡ Hit e
  keeps_hit q v z zero d e w = w
  keeps_hit q v z (suc f) d e w = go (keeps_hit q v z f (d + 1) e) (get_or slots (spot_of size h d) 0) refl w
    where
      go : (walk_from t slots size h f (d + 1) ≡ Hit e → walk_from t (set slots q v) size h f (d + 1) ≡ Hit e) → (x : ℕ) → get_or slots (spot_of size h d) 0 ≡ x
          → turn (look_of t x) (spot_of size h d) (walk_from t slots size h f (d + 1)) ≡ Hit e
          → turn (look_of t (get_or (set slots q v) (spot_of size h d) 0)) (spot_of size h d) (walk_from t (set slots q v) size h f (d + 1)) ≡ Hit e
      go on zero g w = free_not_hit _ e w
      go on (suc x) g w =
          let other : get_or (set slots q v) (spot_of size h d) 0 ≡ suc x =
          get_or-set_other slots q (spot_of size h d) v 0 (λ s. let y : suc x ≡ 0 = sym g ∙ ap (λ (i : ℕ). get_or slots i 0) s ∙ z in omega arith) ∙ g in
          ap (λ (y : ℕ). turn (look_of t y) (spot_of size h d) (walk_from t (set slots q v) size h f (d + 1))) other
          ∙ turn_hit (t x) x (spot_of size h d) e (walk_from t slots size h f (d + 1)) (walk_from t (set slots q v) size h f (d + 1)) w on

  -- An entry with the key, stored to the free slot that its walk met, is hit.
  pub stored_hit : (q n : ℕ) → get_or slots q 0 ≡ 0 → q < length slots → t n ≡ true → (f d : ℕ) → walk_from t slots size h f d ≡ Free q
      → walk_from t (set slots q (suc n)) size h f d ≡ Hit n
  stored_hit q n z k b zero d w = full_not_free q w
  stored_hit q n z k b (suc f) d w = go (stored_hit q n z k b f (d + 1)) (get_or slots (spot_of size h d) 0) refl w
    where
      past : (walk_from t slots size h f (d + 1) ≡ Free q → walk_from t (set slots q (suc n)) size h f (d + 1) ≡ Hit n) → (y : Bool) (x : ℕ)
          → turn (looked y x) (spot_of size h d) (walk_from t slots size h f (d + 1)) ≡ Free q
          → turn (looked y x) (spot_of size h d) (walk_from t (set slots q (suc n)) size h f (d + 1)) ≡ Hit n
      past on true x u = hit_not_free x q u
      past on false x u = on u

      go : (walk_from t slots size h f (d + 1) ≡ Free q → walk_from t (set slots q (suc n)) size h f (d + 1) ≡ Hit n) → (x : ℕ) → get_or slots (spot_of size h d) 0 ≡ x
          → turn (look_of t x) (spot_of size h d) (walk_from t slots size h f (d + 1)) ≡ Free q
          → turn (look_of t (get_or (set slots q (suc n)) (spot_of size h d) 0)) (spot_of size h d) (walk_from t (set slots q (suc n)) size h f (d + 1)) ≡ Hit n
      go on zero g w =
          let here : get_or (set slots q (suc n)) (spot_of size h d) 0 ≡ suc n =
          ap (λ (i : ℕ). get_or (set slots q (suc n)) i 0) (free_inj _ _ w) ∙ get_or-set_same slots q (suc n) 0 k in
          ap (λ (y : ℕ). turn (look_of t y) (spot_of size h d) (walk_from t (set slots q (suc n)) size h f (d + 1))) here
          ∙ ap (λ (y : Bool). turn (looked y n) (spot_of size h d) (walk_from t (set slots q (suc n)) size h f (d + 1))) b
      go on (suc x) g w =
          let other : get_or (set slots q (suc n)) (spot_of size h d) 0 ≡ suc x =
          get_or-set_other slots q (spot_of size h d) (suc n) 0 (λ s. let y : suc x ≡ 0 = sym g ∙ ap (λ (i : ℕ). get_or slots i 0) s ∙ z in omega arith) ∙ g in
          ap (λ (y : ℕ). turn (look_of t y) (spot_of size h d) (walk_from t (set slots q (suc n)) size h f (d + 1))) other ∙ past on (t x) x w

  -- Where no entry has the key, nothing is found, wherever the walk leads.
  pub never : (n : ℕ) → ((i : ℕ) → get_or slots i 0 ≤ n) → ((e : ℕ) → e < n → t e ≡ false) → (f d : ℕ) → answer (walk_from t slots size h f d) ≡ None
  never n low none zero d = refl
  never n low none (suc f) d = go (never n low none f (d + 1)) (get_or slots (spot_of size h d) 0) (low (spot_of size h d))
    where
      go : answer (walk_from t slots size h f (d + 1)) ≡ None → (x : ℕ) → x ≤ n → answer (turn (look_of t x) (spot_of size h d) (walk_from t slots size h f (d + 1))) ≡ None
      go on zero l = refl
      go on (suc x) l =
          ap (λ (y : Bool). answer (turn (looked y x) (spot_of size h d) (walk_from t slots size h f (d + 1)))) (none x (omega arith))
          ∙ on

  -- A walk that met neither has seen no free slot.
  pub full_none : (f d : ℕ) → walk_from t slots size h f d ≡ Full → (j : ℕ) → d ≤ j → j < d + f → get_or slots (spot_of size h j) 0 ≡ 0 → ⊥
  full_none zero d w j a b z = omega arith
  full_none (suc f) d w j a b z = go (λ u s. full_none f (d + 1) u j s (omega arith) z) (get_or slots (spot_of size h d) 0) refl w
    where
      go : (walk_from t slots size h f (d + 1) ≡ Full → d + 1 ≤ j → ⊥) → (x : ℕ) → get_or slots (spot_of size h d) 0 ≡ x
          → turn (look_of t x) (spot_of size h d) (walk_from t slots size h f (d + 1)) ≡ Full → ⊥
      go on zero g w = free_not_full _ w
      go on (suc x) g w =
          ⊎_elim
          (λ s. let y : suc x ≡ 0 = sym g ∙ ap (λ (i : ℕ). get_or slots (spot_of size h i) 0) s ∙ z in omega arith)
          (λ s. on (turn_on (λ (y : Walk). y ≡ Full) (t x) x (spot_of size h d) (walk_from t slots size h f (d + 1)) w (λ e b c. hit_not_full e b)) (omega arith))
          (eq-or-lt_of_le a)

  -- The free slot that a walk meets is one of the table's.
  pub free_in : 0 < size → h < size → (f d q : ℕ) → d + f ≤ size → walk_from t slots size h f d ≡ Free q → q < size
  free_in o k zero d q l w = full_not_free q w
  free_in o k (suc f) d q l w = go (free_in o k f (d + 1) q (omega arith)) (get_or slots (spot_of size h d) 0) w
    where
      go : (walk_from t slots size h f (d + 1) ≡ Free q → q < size) → (x : ℕ) → turn (look_of t x) (spot_of size h d) (walk_from t slots size h f (d + 1)) ≡ Free q → q < size
      go on zero w = subst (λ (i : ℕ). i < size) (free_inj _ _ w) (spot_in size h d k (omega arith))
      go on (suc x) w = on (turn_on (λ (y : Walk). y ≡ Free q) (t x) x (spot_of size h d) (walk_from t slots size h f (d + 1)) w (λ e b c. hit_not_free e q b))

-- ---- A walk by a loop, slot by slot

-- After d slots that hold other entries the walk from slot h₀ is what is left of the walk from h.
pub record Walking (t : ℕ → Bool) (slots : List ℕ) (h₀ h d : ℕ) : Type 0 where
  pub within : d ≤ length slots
  pub left : walk t slots h₀ ≡ walk_from t slots (length slots) h (length slots - d) d

pub walk_starts : (t : ℕ → Bool) (slots : List ℕ) (h₀ h : ℕ) → h ≡ h₀ → Walking t slots h₀ h 0
walk_starts t slots h₀ h e =
    let all : length slots ≡ length slots - 0 = omega arith in
    record {
      within = omega arith;
      left = ap (walk t slots) (sym e) ∙ ap (λ (n : ℕ). walk_from t slots (length slots) h n 0) all;
    }

module _ {t : ℕ → Bool} {slots : List ℕ} {h₀ h d : ℕ} (walking : Walking t slots h₀ h d) where
  -- The step from the slot p that is d further, by what it tells.
  pub walk_step : (o : Look) (p : ℕ) → p ≡ spot_of (length slots) h d → o ≡ look_of t (get_or slots p 0) → d < length slots
      → walk t slots h₀ ≡ turn o p (walk_from t slots (length slots) h (length slots - (d + 1)) (d + 1))
  walk_step o p a b k =
      let more : length slots - d ≡ suc (length slots - (d + 1)) = omega arith in
      walking.left
      ∙ ap (λ (n : ℕ). walk_from t slots (length slots) h n d) more
      ∙ ap (λ (i : ℕ). turn (look_of t (get_or slots i 0)) i (walk_from t slots (length slots) h (length slots - (d + 1)) (d + 1))) (sym a)
      ∙ ap (λ (l : Look). turn l p (walk_from t slots (length slots) h (length slots - (d + 1)) (d + 1))) (sym b)

  pub walk_goes_on : (p : ℕ) → p ≡ spot_of (length slots) h d → Other ≡ look_of t (get_or slots p 0) → d < length slots → Walking t slots h₀ h (d + 1)
  walk_goes_on p a b k = record { within = omega arith; left = walk_step Other p a b k }

  pub walk_over : length slots ≤ d → Full ≡ walk t slots h₀
  walk_over k =
      let none : length slots - d ≡ 0 = omega arith in
      sym (walking.left ∙ ap (λ (n : ℕ). walk_from t slots (length slots) h n d) none)

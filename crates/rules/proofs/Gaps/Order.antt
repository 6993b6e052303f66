-- The choices are all lists of so many gaps within the range, in dictionary order: none is less than one that stands ahead of it.
-- Assumes nothing.
use mathlib.Core.Path.{◌≡◌, refl, sym, ap, subst}
use mathlib.Core.Bool.{Bool, true, false, ◌&&◌, ◌||◌, false≢true}
use mathlib.Core.List.{List, [], ◌∷◌, ◌++◌}
use mathlib.Core.List.Memᴰ.{append_cases as in_either}
use mathlib.Core.List.Memᴰ.{append_left as in_left}
use mathlib.Core.List.Memᴰ.{append_right as in_right}
use mathlib.Core.List.Memᴰ.{eq_of_singleton as only_one}
use mathlib.Core.List.Memᴰ.{head as here}
use mathlib.Core.List.Memᴰ.{not-nil}
use mathlib.Core.List.Memᴰ.{tail as there}
use mathlib.Core.List.{Memᴰ as Mem}
use mathlib.Core.Logic.{⊎_elim}
use Prim.Native.Nat.{ℕ, zero, suc, ◌+◌, ◌≤◌, ◌<◌}
use native.Mathlib.Decide.{ℕ_discrete}
use native.Mathlib.Omega.{arith}
use lib.Dec.{eqb, ltb}
use borrow.Author.Tests.{ltb-true, eqb-true}
use Rattle.rules.specs.Refusals.{Each}
use Rattle.rules.specs.Writing.{is_less}
use Rattle.rules.specs.Gaps.{led, led_from, choices, Choice}
use Rattle.rules.proofs.Tables.{and_left, and_right}

-- ---- Which lists they are

from_led : (g : ℕ) (cs : List (List ℕ)) (gs : List ℕ) → Mem gs (led g cs) → (c : List ℕ) × (gs ≡ g ∷ c) × Mem c cs
from_led g [] gs m = absurd (not-nil m)
from_led g (c ∷ cs) gs (here e) = (c, e, here refl)
from_led g (c ∷ cs) gs (there m) = let (d, e, i) = from_led g cs gs m in (d, e, there i)

in_led : (g : ℕ) (cs : List (List ℕ)) (c : List ℕ) → Mem c cs → Mem (g ∷ c) (led g cs)
in_led g [] c m = absurd (not-nil m)
in_led g (d ∷ cs) c (here e) = here (ap (λ (l : List ℕ). g ∷ l) e)
in_led g (d ∷ cs) c (there m) = there (in_led g cs c m)

-- One of the n gaps from g on, and one of the choices after it.
abbrev LedBy : ℕ → ℕ → List (List ℕ) → List ℕ → Type 0
LedBy n g cs gs = (h : ℕ) × (c : List ℕ) × (gs ≡ h ∷ c) × (g ≤ h) × (h < g + n) × Mem c cs

from_range : (n g : ℕ) (cs : List (List ℕ)) (gs : List ℕ) → Mem gs (led_from n g cs) → LedBy n g cs gs
from_range zero g cs gs m = absurd (not-nil m)
from_range (suc n) g cs gs m = ⊎_elim first (λ i. later (from_range n (suc g) cs gs i)) (in_either (led g cs) m)
  where
    first : Mem gs (led g cs) → LedBy (suc n) g cs gs
    first i = let (c, e, j) = from_led g cs gs i in (g, c, e, omega arith, omega arith, j)

    later : LedBy n (suc g) cs gs → LedBy (suc n) g cs gs
    later (h, c, e, lo, hi, j) = (h, c, e, omega arith, omega arith, j)

in_range_lem : (n g h : ℕ) (cs : List (List ℕ)) (c : List ℕ) → g ≤ h → h < g + n → Mem c cs → Mem (h ∷ c) (led_from n g cs)
in_range_lem zero g h cs c lo hi m = absurd (omega arith)
in_range_lem (suc n) g h cs c lo hi m = go (ℕ_discrete g h) (λ l u. in_range_lem n (suc g) h cs c l u m)
  where
    go : Dec (g ≡ h) → (suc g ≤ h → h < suc g + n → Mem (h ∷ c) (led_from n (suc g) cs)) → Mem (h ∷ c) (led g cs ++ led_from n (suc g) cs)
    go (yes e) later = in_left (led_from n (suc g) cs) (subst (λ (x : ℕ). Mem (x ∷ c) (led g cs)) e (in_led g cs c m))
    go (no e) later = in_right (led g cs) (later (omega arith) (omega arith))

pub choices_are : (k e : ℕ) (gs : List ℕ) → Mem gs (choices k e) → Choice k e gs
choices_are k zero gs m = subst (λ (l : List ℕ). Choice k zero l) (sym (only_one m)) (refl, tt)
choices_are k (suc e) gs m =
    let (h, c, q, lo, hi, i) = from_range (suc k) 0 (choices k e) gs m in
    let r = choices_are k e c i in
    subst (λ (l : List ℕ). Choice k (suc e) l) (sym q) (ap suc r.0, (omega arith, r.1))

pub choices_all : (k e : ℕ) (gs : List ℕ) → Choice k e gs → Mem gs (choices k e)
choices_all k zero [] w = here refl
choices_all k zero (g ∷ gs) (n, w) = absurd (omega arith)
choices_all k (suc e) [] (n, w) = absurd (omega arith)
choices_all k (suc e) (g ∷ gs) (n, (h, w)) = in_range_lem (suc k) 0 g (choices k e) gs (omega arith) (omega arith) (choices_all k e gs (omega arith, w))

-- ---- Their order

-- What a list that is less shows of the first numbers.
less_first : (x y : ℕ) (b : Bool) → (ltb x y || (eqb x y && b)) ≡ true → (x ≤ y) × (x ≡ y → b ≡ true)
less_first x y b e = go (ltb x y) refl e
  where
    go : (t : Bool) → ltb x y ≡ t → (t || (eqb x y && b)) ≡ true → (x ≤ y) × (x ≡ y → b ≡ true)
    go true q e = let h = ltb-true x y q in (omega arith, λ s. absurd (omega arith))
    go false q e = let s = eqb-true x y (and_left (eqb x y) b e) in (omega arith, λ r. and_right (eqb x y) b e)

-- No list is less than itself or than one ahead of it.
abbrev Rising : List (List ℕ) → Type 0
Rising [] = Unit {0}
Rising (c ∷ cs) = Each (λ d. is_less d c ≡ true → ⊥) (c ∷ cs) × Rising cs

rising_led : (g : ℕ) (cs : List (List ℕ)) → Rising cs → Rising (led g cs)
rising_led g [] r = tt
rising_led g (c ∷ cs) (f, r) = (this, rising_led g cs r)
  where
    this : Each (λ d. is_less d (g ∷ c) ≡ true → ⊥) (led g (c ∷ cs))
    this d m l =
        let (x, q, i) = from_led g (c ∷ cs) d m in
        let s : is_less (g ∷ x) (g ∷ c) ≡ true = subst (λ (y : List ℕ). is_less y (g ∷ c) ≡ true) q l in
        f x i ((less_first g g (is_less x c) s).1 refl)

rising_append : (xs ys : List (List ℕ)) → Rising xs → Rising ys → ((x y : List ℕ) → Mem x xs → Mem y ys → is_less y x ≡ true → ⊥) → Rising (xs ++ ys)
rising_append [] ys r s apart = s
rising_append (x ∷ xs) ys (f, r) s apart = (
  λ d m. ⊎_elim (λ i. f d i) (λ i. apart x d (here refl) i) (in_either (x ∷ xs) m),
  rising_append xs ys r s (λ y z i j. apart y z (there i) j),
)

rising_right : (xs ys : List (List ℕ)) → Rising (xs ++ ys) → Rising ys
rising_right [] ys r = r
rising_right (x ∷ xs) ys r = rising_right xs ys r.1

rising_range : (n g : ℕ) (cs : List (List ℕ)) → Rising cs → Rising (led_from n g cs)
rising_range zero g cs r = tt
rising_range (suc n) g cs r = rising_append (led g cs) (led_from n (suc g) cs) (rising_led g cs r) (rising_range n (suc g) cs r) apart
  where
    apart : (x y : List ℕ) → Mem x (led g cs) → Mem y (led_from n (suc g) cs) → is_less y x ≡ true → ⊥
    apart x y i j l =
        let (c, p, i') = from_led g cs x i in
        let (h, d, q, lo, hi, j') = from_range n (suc g) cs y j in
        let s : is_less (h ∷ d) (g ∷ c) ≡ true = subst (λ (z : List ℕ). is_less z (g ∷ c) ≡ true) q (subst (λ (z : List ℕ). is_less y z ≡ true) p l) in
        let b = (less_first h g (is_less d c) s).0 in
        omega arith

choices_rise : (k e : ℕ) → Rising (choices k e)
choices_rise k zero = (λ d m l. false≢true (subst (λ (z : List ℕ). is_less z [] ≡ true) (only_one m) l), tt)
choices_rise k (suc e) = rising_range (suc k) 0 (choices k e) (choices_rise k e)

-- A choice that is less than another stands ahead of it.
pub choices_ordered : (k e : ℕ) (before : List (List ℕ)) (gs : List ℕ) (later : List (List ℕ)) → choices k e ≡ before ++ gs ∷ later
    → (ds : List ℕ) → Choice k e ds → is_less ds gs ≡ true → Mem ds before
choices_ordered k e before gs later q ds w l =
    let m : Mem ds (before ++ gs ∷ later) = subst (λ (cs : List (List ℕ)). Mem ds cs) q (choices_all k e ds w) in
    let r : Rising (gs ∷ later) = rising_right before (gs ∷ later) (subst (λ (cs : List (List ℕ)). Rising cs) q (choices_rise k e)) in
    ⊎_elim (λ i. i) (λ i. absurd (r.0 ds i l)) (in_either before m)

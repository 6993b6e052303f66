-- What each of the choices from c on is: a choice of as many gaps; and those ahead of the next choice agree with c on the first b gaps.
-- Assumes nothing.
use mathlib.Core.Path.{◌≡◌, refl, sym, ap, subst}
use mathlib.Core.Bool.{Bool, false}
use mathlib.Core.List.Memᴰ
use mathlib.Core.List.{List, [], ◌∷◌, ◌++◌}
use Prim.Native.Nat.{ℕ, zero, suc, ◌+◌, ◌-◌, ◌≤◌}
use native.Mathlib.Omega.{arith}
use lib.ListN.{length, take}
use Rattle.rules.specs.Gaps.{led, led_from, choices, Within, Choice}
use Rattle.rules.specs.Refusals.{Each}
use Rattle.choices.specs.Searching.{on_from, Blames, AllFail}
use Rattle.choices.proofs.Order.{same}

-- A property of each choice of a list, by recursion.
abbrev AllAre : (List ℕ → Type 0) → List (List ℕ) → Type 0
AllAre P [] = Unit {0}
AllAre P (c ∷ cs) = P c × AllAre P cs

all_map : {P Q : List ℕ → Type 0} (cs : List (List ℕ)) → ((c : List ℕ) → P c → Q c) → AllAre P cs → AllAre Q cs
all_map [] f h = tt
all_map (c ∷ cs) f h = (f c h.0, all_map cs f h.1)

all_append : (P : List ℕ → Type 0) (xs ys : List (List ℕ)) → AllAre P xs → AllAre P ys → AllAre P (xs ++ ys)
all_append P [] ys h l = l
all_append P (x ∷ xs) ys h l = (h.0, all_append P xs ys h.1 l)

all_led : (P : List ℕ → Type 0) (g : ℕ) (cs : List (List ℕ)) → AllAre (λ d. P (g ∷ d)) cs → AllAre P (led g cs)
all_led P g [] h = tt
all_led P g (c ∷ cs) h = (h.0, all_led P g cs h.1)

all_each : (P : List ℕ → Type 0) (cs : List (List ℕ)) → AllAre P cs → Each P cs
all_each P [] h x w = elim w [ ]
all_each P (c ∷ cs) h x (Memᴰ.head e) = subst P (sym e) h.0
all_each P (c ∷ cs) h x (Memᴰ.tail m) = all_each P cs h.1 x m

-- ---- All are choices

led_choice : (k e g : ℕ) (cs : List (List ℕ)) → g ≤ k → AllAre (Choice k e) cs → AllAre (Choice k (suc e)) (led g cs)
led_choice k e g cs h all =
    all_led (Choice k (suc e)) g cs (all_map {P = Choice k e} {Q = λ d. Choice k (suc e) (g ∷ d)} cs (λ d x. (ap suc x.0, (h, x.1))) all)

led_from_choice : (k e n g : ℕ) (cs : List (List ℕ)) → g + n ≤ suc k → AllAre (Choice k e) cs → AllAre (Choice k (suc e)) (led_from n g cs)
led_from_choice k e zero g cs h all = tt
led_from_choice k e (suc n) g cs h all =
    all_append (Choice k (suc e)) (led g cs) (led_from n (suc g) cs) (led_choice k e g cs (omega arith) all)
    (led_from_choice k e n (suc g) cs (omega arith) all)

all_choices : (k e : ℕ) → AllAre (Choice k e) (choices k e)
all_choices k zero = ((refl, tt), tt)
all_choices k (suc e) = led_from_choice k e (suc k) 0 (choices k e) (omega arith) (all_choices k e)

all_from : (k : ℕ) (c : List ℕ) → Within k c → AllAre (Choice k (length c)) (on_from k c)
all_from k [] w = ((refl, tt), tt)
all_from k (g ∷ gs) w =
    let n = length gs in
    all_append (Choice k (suc n)) (led g (on_from k gs)) (led_from (k - g) (suc g) (choices k n))
    (led_choice k n g (on_from k gs) w.0 (all_from k gs w.1))
    (led_from_choice k n (k - g) (suc g) (choices k n) (omega (arith, w.0)) (all_choices k n))

pub from_are : (k : ℕ) (c : List ℕ) → Within k c → Each (Choice k (length c)) (on_from k c)
from_are k c w = all_each (Choice k (length c)) (on_from k c) (all_from k c w)

-- ---- Those ahead of the next choice

abbrev Agrees : ℕ → ℕ → List ℕ → List ℕ → Type 0
Agrees k b c d = Choice k (length c) d × (take b d ≡ take b c)

same_agree : (k b : ℕ) (c : List ℕ) → Within k c → AllAre (Agrees k b c) (same k b c)
same_agree k zero c w = all_map {P = Choice k (length c)} {Q = Agrees k zero c} (on_from k c) (λ d x. (x, refl)) (all_from k c w)
same_agree k (suc b) [] w = (((refl, tt), refl), tt)
same_agree k (suc b) (g ∷ gs) w =
    all_led (Agrees k (suc b) (g ∷ gs)) g (same k b gs)
    (all_map {P = Agrees k b gs} {Q = λ d. Agrees k (suc b) (g ∷ gs) (g ∷ d)} (same k b gs)
    (λ d x. ((ap suc x.0.0, (w.0, x.0.1)), ap {B = List ℕ} (λ r. g ∷ r) x.1)) (same_agree k b gs w.1))

module _ (passing : List ℕ → Bool) where
  all_fail : (P : List ℕ → Type 0) (cs : List (List ℕ)) → ((d : List ℕ) → P d → passing d ≡ false) → AllAre P cs → AllFail passing cs
  all_fail P [] f h = tt
  all_fail P (c ∷ cs) f h = (f c h.0, all_fail P cs f h.1)

  -- If the first b gaps are to blame, they fail.
  pub blamed : (k b : ℕ) (c : List ℕ) → Within k c → Blames passing k c b → AllFail passing (same k b c)
  blamed k b c w t = all_fail (Agrees k b c) (same k b c) (λ d x. t.1 d x.0 x.1) (same_agree k b c w)

  pub fails_append : (xs ys : List (List ℕ)) → AllFail passing xs → AllFail passing ys → AllFail passing (xs ++ ys)
  fails_append [] ys h l = l
  fails_append (x ∷ xs) ys h l = (h.0, fails_append xs ys h.1 l)

  pub each_fails : (cs : List (List ℕ)) → AllFail passing cs → Each (λ d. passing d ≡ false) cs
  each_fails [] h x w = elim w [ ]
  each_fails (c ∷ cs) h x (Memᴰ.head e) = subst (λ (d : List ℕ). passing d ≡ false) (sym e) h.0
  each_fails (c ∷ cs) h x (Memᴰ.tail m) = each_fails cs h.1 x m

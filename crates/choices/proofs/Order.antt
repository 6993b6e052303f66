-- The choices from c on, in dictionary order, and how they part: those that agree with c on the first b gaps, and then those from the next
-- choice on. By recursion on the choice, with no arithmetic. Assumes nothing.
use mathlib.Core.Path.{◌≡◌, refl, sym, ap, ◌∙◌}
use mathlib.Core.Bool.{Bool, true, false}
use mathlib.Core.List.{List, [], ◌∷◌, ◌++◌, append-nil, append_assoc}
use Prim.Native.Nat.{ℕ, zero, suc, ◌-◌, ◌≤◌, ◌<◌}
use native.Mathlib.Omega.{arith}
use native.Mathlib.Nat.{sub-zero}
use borrow.Author.Tests.{ltb-true, ltb-false}
use lib.Dec.{ltb}
use lib.ListN.{length, replicate, length-replicate}
use Rattle.rules.specs.Gaps.{led, led_from, choices, Within}
use Rattle.choices.specs.Searching.{Next, next, over, bumped, carried, next_of, on_from}

-- Those from c on that agree with c on the first b gaps.
abbrev pub same : ℕ → ℕ → List ℕ → List (List ℕ)
same k zero c = on_from k c
same k (suc b) [] = [] ∷ []
same k (suc b) (g ∷ gs) = led g (same k b gs)

abbrev pub on_next : ℕ → Next → List (List ℕ)
on_next k over = []
on_next k (next d) = on_from k d

pub led_append : (g : ℕ) (xs ys : List (List ℕ)) → led g (xs ++ ys) ≡ led g xs ++ led g ys
led_append g [] ys = refl
led_append g (x ∷ xs) ys = ap {B = List (List ℕ)} (λ r. (g ∷ x) ∷ r) (led_append g xs ys)

-- All choices are those from 0 .. 0 on.
pub starts : (k e : ℕ) → on_from k (replicate e 0) ≡ choices k e
starts k zero = refl
starts k (suc e) = rw (starts k e, length-replicate {A = ℕ} e 0, sub-zero k)

pub zeros_within : (k e : ℕ) → Within k (replicate e 0)
zeros_within k zero = tt
zeros_within k (suc e) = (omega arith, zeros_within k e)

-- Those from c on begin with c.
abbrev pub later : ℕ → List ℕ → List (List ℕ)
later k [] = []
later k (g ∷ gs) = led g (later k gs) ++ led_from (k - g) (suc g) (choices k (length gs))

pub from_head : (k : ℕ) (c : List ℕ) → on_from k c ≡ c ∷ later k c
from_head k [] = refl
from_head k (g ∷ gs) = rw (from_head k gs)

-- ---- What a next choice is: of as many gaps, each at most k

abbrev pub Sized : ℕ → Next → Type 0
Sized n (next d) = length d ≡ n
Sized n over = Unit {0}

bumped_sized : (t : Bool) (g n : ℕ) → Sized (suc n) (bumped t g n)
bumped_sized true g n = ap suc (length-replicate {A = ℕ} n 0)
bumped_sized false g n = tt

carried_sized : (k g n : ℕ) (x : Next) → Sized n x → Sized (suc n) (carried k g n x)
carried_sized k g n (next d) h = ap suc h
carried_sized k g n over h = bumped_sized (ltb g k) g n

pub sized : (k b : ℕ) (c : List ℕ) → Sized (length c) (next_of k b c)
sized k zero c = tt
sized k (suc b) [] = tt
sized k (suc b) (g ∷ gs) = carried_sized k g (length gs) (next_of k b gs) (sized k b gs)

abbrev pub Kept : ℕ → Next → Type 0
Kept k (next d) = Within k d
Kept k over = Unit {0}

bumped_kept : (k g n : ℕ) (t : Bool) → ltb g k ≡ t → Kept k (bumped t g n)
bumped_kept k g n true e = (ltb-true g k e, zeros_within k n)
bumped_kept k g n false e = tt

carried_kept : (k g n : ℕ) (x : Next) → g ≤ k → Kept k x → Kept k (carried k g n x)
carried_kept k g n (next d) h w = (h, w)
carried_kept k g n over h w = bumped_kept k g n (ltb g k) refl

pub kept : (k b : ℕ) (c : List ℕ) → Within k c → Kept k (next_of k b c)
kept k zero c w = tt
kept k (suc b) [] w = tt
kept k (suc b) (g ∷ gs) w = carried_kept k g (length gs) (next_of k b gs) w.0 (kept k b gs w.1)

-- ---- How the choices from c on part

-- The choices with a number above g in front, by the next choice.
bump : (k g n : ℕ) (t : Bool) → ltb g k ≡ t → led_from (k - g) (suc g) (choices k n) ≡ on_next k (bumped t g n)
bump k g n true e =
    let h : g < k = ltb-true g k e in
    let s : k - g ≡ suc (k - suc g) = omega arith in
    rw (s, starts k n, length-replicate {A = ℕ} n 0)
bump k g n false e =
    let h : k ≤ g = ltb-false g k e in
    let s : k - g ≡ 0 = omega arith in
    rw s

carry : (k g n : ℕ) (x : Next) → Sized n x → led g (on_next k x) ++ led_from (k - g) (suc g) (choices k n) ≡ on_next k (carried k g n x)
carry k g n (next d) h = rw h
carry k g n over h = bump k g n (ltb g k) refl

-- They are those that agree with c on the first b gaps, and then those from the next choice on.
pub parts : (k b : ℕ) (c : List ℕ) → on_from k c ≡ same k b c ++ on_next k (next_of k b c)
parts k zero c = sym (append-nil (on_from k c))
parts k (suc b) [] = refl
parts k (suc b) (g ∷ gs) =
    let rest = led_from (k - g) (suc g) (choices k (length gs)) in
    ap (λ (l : List (List ℕ)). led g l ++ rest) (parts k b gs)
    ∙ ap (λ (l : List (List ℕ)). l ++ rest) (led_append g (same k b gs) (on_next k (next_of k b gs)))
    ∙ append_assoc (led g (same k b gs)) (led g (on_next k (next_of k b gs))) rest
    ∙ ap (λ (l : List (List ℕ)). led g (same k b gs) ++ l) (carry k g (length gs) (next_of k b gs) (sized k b gs))

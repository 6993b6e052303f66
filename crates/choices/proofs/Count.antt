-- How many choices there are, and the place of a choice among them, by arithmetic. Assumes nothing.
use mathlib.Core.Path.{◌≡◌, refl, sym, ap, ap₂, ◌∙◌}
use mathlib.Core.List.{List, [], ◌∷◌, ◌++◌, append_assoc}
use Prim.Native.Nat.{ℕ, zero, suc, ◌+◌, ◌*◌, ◌^◌, ◌-◌, ◌≤◌, ◌<◌}
use native.Mathlib.Omega.{arith}
use native.Mathlib.Nat.{pow-zero, pow-succ', suc-mul, zero-mul, add-mul}
use lib.ListN.{length, replicate, length-append}
use Rattle.rules.specs.Gaps.{led, led_from, choices, power, Within, Choice}
use Rattle.choices.specs.Searching.{place, on_from}
use Rattle.choices.proofs.Order.{same, later, led_append, from_head}

pub power_zero : (k : ℕ) → power k 0 ≡ 1
unfolding power
power_zero k = pow-zero (suc k)

power_suc : (k e : ℕ) → power k (suc e) ≡ k * power k e + power k e
unfolding power
power_suc k e = pow-succ' (suc k) e ∙ suc-mul k (suc k ^ e)

length_led : (g : ℕ) (cs : List (List ℕ)) → length (led g cs) ≡ length cs
length_led g [] = refl
length_led g (c ∷ cs) = ap suc (length_led g cs)

length_led_from : (n g : ℕ) (cs : List (List ℕ)) → length (led_from n g cs) ≡ n * length cs
length_led_from zero g cs = sym (zero-mul (length cs))
length_led_from (suc n) g cs =
    omega (arith, length-append (led g cs) (led_from n (suc g) cs), length_led g cs, length_led_from n (suc g) cs, suc-mul n (length cs))

-- There are (k + 1) to the power e choices.
pub length_choices : (k e : ℕ) → length (choices k e) ≡ power k e
length_choices k zero = sym (power_zero k)
length_choices k (suc e) =
    length_led_from (suc k) 0 (choices k e)
    ∙ ap (λ (n : ℕ). suc k * n) (length_choices k e)
    ∙ suc-mul k (power k e)
    ∙ sym (power_suc k e)

total : (l p q x y z w : ℕ) → l + p ≡ q → x + y ≡ z → w ≡ z + q → (l + x) + (y + p) ≡ w
total l p q x y z w a b c = omega arith

-- The choices from c on, and as many as its place, are all.
pub from_count_lem : (k : ℕ) (c : List ℕ) → Within k c → length (on_from k c) + place k c ≡ power k (length c)
from_count_lem k [] w = sym (power_zero k)
from_count_lem k (g ∷ gs) w =
    let q = power k (length gs) in
    let both : (k - g) + g ≡ k = omega (arith, w.0) in
    let a : length (on_from k (g ∷ gs)) ≡ length (on_from k gs) + (k - g) * q =
    length-append (led g (on_from k gs)) (led_from (k - g) (suc g) (choices k (length gs)))
    ∙ ap₂ (λ (m n : ℕ). m + n) (length_led g (on_from k gs))
    (length_led_from (k - g) (suc g) (choices k (length gs)) ∙ ap (λ (n : ℕ). (k - g) * n) (length_choices k (length gs))) in
    ap (λ (n : ℕ). n + place k (g ∷ gs)) a
    ∙ total (length (on_from k gs)) (place k gs) q ((k - g) * q) (g * q) (k * q) (power k (suc (length gs))) (from_count_lem k gs w.1)
    (sym (add-mul (k - g) g q) ∙ ap (λ (n : ℕ). n * q) both) (power_suc k (length gs))

pub place_zeros : (k e : ℕ) → place k (replicate e 0) ≡ 0
place_zeros k zero = refl
place_zeros k (suc e) = ap₂ (λ (x y : ℕ). x + y) (zero-mul (power k (length (replicate {A = ℕ} e 0)))) (place_zeros k e)

-- Every place is below the power.
pub place_below : (k : ℕ) (c : List ℕ) → Within k c → place k c < power k (length c)
place_below k c w =
    let h : 1 ≤ length (on_from k c) = rw (from_head k c) (omega arith) in
    omega (arith, from_count_lem k c w)

-- Of those that agree with c there is one: c itself.
pub same_some : (k b : ℕ) (c : List ℕ) → 1 ≤ length (same k b c)
same_some k zero c = rw (from_head k c) (omega arith)
same_some k (suc b) [] = omega arith
same_some k (suc b) (g ∷ gs) = omega (arith, length_led g (same k b gs), same_some k b gs)

-- ---- The choices ahead of c

abbrev pub ahead : ℕ → List ℕ → List (List ℕ)
ahead k [] = []
ahead k (g ∷ gs) = led_from g 0 (choices k (length gs)) ++ led g (ahead k gs)

led_from_split : (m n g : ℕ) (cs : List (List ℕ)) → led_from (m + n) g cs ≡ led_from m g cs ++ led_from n (g + m) cs
led_from_split zero n g cs =
    let a : zero + n ≡ n = omega arith in
    let b : g + zero ≡ g = omega arith in
    rw (a, b)
led_from_split (suc m) n g cs =
    let a : suc m + n ≡ suc (m + n) = omega arith in
    let b : g + suc m ≡ suc g + m = omega arith in
    rw (a, b)
    (ap (λ (l : List (List ℕ)). led g cs ++ l) (led_from_split m n (suc g) cs)
    ∙ sym (append_assoc (led g cs) (led_from m (suc g) cs) (led_from n (suc g + m) cs)))

-- All choices are those ahead of c and those from c on.
pub ahead_on : (k : ℕ) (c : List ℕ) → Within k c → choices k (length c) ≡ ahead k c ++ on_from k c
ahead_on k [] w = refl
ahead_on k (g ∷ gs) w =
    let n = choices k (length gs) in
    let s : suc k ≡ g + suc (k - g) = omega (arith, w.0) in
    let z : 0 + g ≡ g = omega arith in
    let x = led_from g 0 n in
    let r = led_from (k - g) (suc g) n in
    ap (λ (m : ℕ). led_from m 0 n) s
    ∙ led_from_split g (suc (k - g)) 0 n
    ∙ ap (λ (m : ℕ). x ++ led_from (suc (k - g)) m n) z
    ∙ ap (λ (l : List (List ℕ)). x ++ (led g l ++ r)) (ahead_on k gs w.1)
    ∙ ap (λ (l : List (List ℕ)). x ++ (l ++ r)) (led_append g (ahead k gs) (on_from k gs))
    ∙ ap (λ (l : List (List ℕ)). x ++ l) (append_assoc (led g (ahead k gs)) (led g (on_from k gs)) r)
    ∙ sym (append_assoc x (led g (ahead k gs)) (led g (on_from k gs) ++ r))

ahead_count : (k : ℕ) (c : List ℕ) → length (ahead k c) ≡ place k c
ahead_count k [] = refl
ahead_count k (g ∷ gs) =
    length-append (led_from g 0 (choices k (length gs))) (led g (ahead k gs))
    ∙ ap₂ (λ (m n : ℕ). m + n)
    (length_led_from g 0 (choices k (length gs)) ∙ ap (λ (m : ℕ). g * m) (length_choices k (length gs)))
    (length_led g (ahead k gs) ∙ ahead_count k gs)

-- The place of a choice is how many are ahead of it.
pub place_ahead : (k e : ℕ) (c : List ℕ) → Choice k e c → (choices k e ≡ ahead k c ++ c ∷ later k c) × (length (ahead k c) ≡ place k c)
place_ahead k e c h = (
  ap (choices k) (sym h.0) ∙ ahead_on k c h.1 ∙ ap (λ (l : List (List ℕ)). ahead k c ++ l) (from_head k c),
  ahead_count k c,
)

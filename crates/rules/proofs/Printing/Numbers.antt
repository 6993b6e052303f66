-- A plain number has one spelling: its decimal digits read as it, and digits that read as it are those. Assumes nothing.
use mathlib.Core.Path.{◌≡◌, refl, sym, ap, ap₂, ◌∙◌}
use mathlib.Core.Bool.{true, ◌&&◌, not, false≢true}
use mathlib.Core.List.{List, [], ◌∷◌, ◌++◌, append-nil}
use Prim.Native.Nat.{ℕ, zero, suc, ◌+◌, ◌-◌, ◌*◌, ◌/◌, ◌%◌, ◌^◌, ◌≤◌, ◌<◌}
use Prim.Native.Char.{code}
use native.Mathlib.Nat.{pow-suc, pow-le-pow_right, mul-le-mul_right}
use native.Mathlib.Decide.{dec_lt, ℕ_discrete}
use native.Mathlib.Omega.{arith}
use lib.Dec.{eqb, leb}
use lib.ListN.{length}
use borrow.Author.Tests.{leb-true, le-leb, lt-ltb, le-ltb, eqb-false, ne_eqb, not-true}
use Rattle.rules.specs.Text.{is_digit, all_digits, digits_only, value_of, is_plain, decimal_in, decimal}
use Rattle.rules.proofs.Judgement.Each.{both_true}
use Rattle.rules.proofs.Tables.{and_both}

-- As large as a plain number may be.
abbrev pub Plain : ℕ → Type 0
Plain n = n ≤ 4294967295

-- ---- Digits

pub digit_in : (b : ℕ) → is_digit b ≡ true → (code "0" ≤ b) × (b ≤ code "9")
unfolding is_digit
digit_in b e = let p = both_true (leb (code "0") b) (leb b (code "9")) e in (leb-true (code "0") b p.0, leb-true b (code "9") p.1)

in_digit : (b : ℕ) → code "0" ≤ b → b ≤ code "9" → is_digit b ≡ true
unfolding is_digit
in_digit b l u = and_both (le-leb (code "0") b l) (le-leb b (code "9") u)

-- ---- One step of printing

last_step : (d n : ℕ) (rest : List ℕ) → n < 10 → decimal_in (suc d) n rest ≡ (code "0" + n) ∷ rest
last_step d n rest h = rw (lt-ltb n 10 h, decimal_in)

more_step : (d n : ℕ) (rest : List ℕ) → 10 ≤ n → decimal_in (suc d) n rest ≡ decimal_in d (n / 10) ((code "0" + n % 10) ∷ rest)
more_step d n rest h = rw (le-ltb n 10 h, decimal_in)

-- ---- The digits of a number read as it

digits_value : (d n : ℕ) (rest : List ℕ) → n < 10 ^ d → value_of 0 (decimal_in d n rest) ≡ value_of n rest
digits_value zero n rest h = let z : n ≡ 0 = omega arith in ap (λ (m : ℕ). value_of m rest) (sym z)
digits_value (suc d) n rest h = go (dec_lt n 10) (digits_value d (n / 10) ((code "0" + n % 10) ∷ rest))
  where
    more : List ℕ
    more = (code "0" + n % 10) ∷ rest

    go : Dec (n < 10) → (n / 10 < 10 ^ d → value_of 0 (decimal_in d (n / 10) more) ≡ value_of (n / 10) more)
        → value_of 0 (decimal_in (suc d) n rest) ≡ value_of n rest
    go (yes l) ih = let e : 0 * 10 + (code "0" + n - code "0") ≡ n = omega arith in rw (last_step d n rest l) (ap (λ (m : ℕ). value_of m rest) e)
    go (no l) ih =
        let e : n / 10 * 10 + (code "0" + n % 10 - code "0") ≡ n = omega arith in
        let b : n / 10 < 10 ^ d = omega (arith, pow-suc 10 d) in
        rw (more_step d n rest (omega arith)) (ih b ∙ ap (λ (m : ℕ). value_of m rest) e)

led : (b : ℕ) (rest : List ℕ) → is_digit b ≡ true → (b ≡ code "0" → ⊥) → all_digits rest ≡ true → digits_only (b ∷ rest) ≡ true
led b [] d z r = d
led b (c ∷ rest) d z r = and_both d (and_both (ap not (ne_eqb b (code "0") z)) r)

digits_only_lem : (d n : ℕ) (rest : List ℕ) → n < 10 ^ d → (n ≡ 0 → ⊥) → all_digits rest ≡ true → digits_only (decimal_in d n rest) ≡ true
digits_only_lem zero n rest h z r = absurd (z (omega arith))
digits_only_lem (suc d) n rest h z r = go (dec_lt n 10) (digits_only_lem d (n / 10) ((code "0" + n % 10) ∷ rest))
  where
    more : List ℕ
    more = (code "0" + n % 10) ∷ rest

    go : Dec (n < 10) → (n / 10 < 10 ^ d → (n / 10 ≡ 0 → ⊥) → all_digits more ≡ true → digits_only (decimal_in d (n / 10) more) ≡ true)
        → digits_only (decimal_in (suc d) n rest) ≡ true
    go (yes l) ih = rw (last_step d n rest l) (led (code "0" + n) rest (in_digit (code "0" + n) (omega arith) (omega arith)) (λ e. z (omega arith)) r)
    go (no l) ih =
        let b : n / 10 < 10 ^ d = omega (arith, pow-suc 10 d) in
        rw (more_step d n rest (omega arith))
        (ih b (λ e. omega arith) (and_both (in_digit (code "0" + n % 10) (omega arith) (omega arith)) r))

pub decimal_value : (n : ℕ) → Plain n → value_of 0 (decimal n) ≡ n
unfolding decimal
decimal_value n h = digits_value 10 n [] (omega arith)

pub decimal_digits : (n : ℕ) → Plain n → digits_only (decimal n) ≡ true
unfolding decimal is_digit
decimal_digits n h = go (ℕ_discrete n 0)
  where
    go : Dec (n ≡ 0) → digits_only (decimal n) ≡ true
    go (yes e) = ap (λ (m : ℕ). digits_only (decimal_in 10 m [])) e
    go (no z) = digits_only_lem 10 n [] (omega arith) z refl

pub decimal_plain : (n : ℕ) → Plain n → is_plain (decimal n) ≡ true
unfolding is_plain
decimal_plain n h = and_both (decimal_digits n h) (le-leb (value_of 0 (decimal n)) 4294967295 (omega (arith, decimal_value n h)))

-- ---- Digits that read as a number are its digits

-- Digits after a value that is not 0 are what printing puts after that value's own.
after_value : (bs : List ℕ) (d v : ℕ) (rest : List ℕ) → all_digits bs ≡ true → 1 ≤ v
    → decimal_in (length bs + d) (value_of v bs) rest ≡ decimal_in d v (bs ++ rest)
after_value [] d v rest a h = let e : 0 + d ≡ d = omega arith in ap (λ (m : ℕ). decimal_in m v rest) e
after_value (b ∷ bs) d v rest a h =
    let p = both_true (is_digit b) (all_digits bs) a in
    let q = digit_in b p.0 in
    let w : ℕ = v * 10 + (b - code "0") in
    let f : suc (length bs) + d ≡ length bs + suc d = omega arith in
    let e₁ : w / 10 ≡ v = omega (arith, q) in
    let e₂ : code "0" + w % 10 ≡ b = omega (arith, q) in
    ap (λ (m : ℕ). decimal_in m (value_of w bs) rest) f ∙ after_value bs (suc d) w rest p.1 (omega arith)
    ∙ more_step d w (bs ++ rest) (omega arith) ∙ ap₂ (λ (x y : ℕ). decimal_in d x (y ∷ (bs ++ rest))) e₁ e₂

-- Each further digit makes the value ten times as large.
value_grows : (bs : List ℕ) (v : ℕ) → v * 10 ^ length bs ≤ value_of v bs
value_grows [] v = omega arith
value_grows (b ∷ bs) v =
    let g : (v * 10 + (b - code "0")) * 10 ^ length bs ≤ value_of (v * 10 + (b - code "0")) bs = value_grows bs (v * 10 + (b - code "0")) in
    let m : v * 10 * 10 ^ length bs ≤ (v * 10 + (b - code "0")) * 10 ^ length bs = mul-le-mul_right (10 ^ length bs) (omega arith) in
    let e : v * 10 ^ suc (length bs) ≡ v * 10 * 10 ^ length bs = omega (arith, ap (λ (x : ℕ). v * x) (pow-suc 10 (length bs))) in
    omega arith

few_digits : (bs : List ℕ) (v : ℕ) → 1 ≤ v → value_of v bs ≤ 4294967295 → length bs < 10
few_digits bs v h u = go (dec_lt (length bs) 10)
  where
    go : Dec (length bs < 10) → length bs < 10
    go (yes l) = l
    go (no l) =
        let m : 1 * 10 ^ length bs ≤ v * 10 ^ length bs = mul-le-mul_right (10 ^ length bs) h in
        let p : 10 ^ 10 ≤ 10 ^ length bs = pow-le-pow_right {n = 10} (omega arith) {i = 10} {j = length bs} (omega arith) in
        omega (arith, value_grows bs v)

alone : (d b : ℕ) (rest : List ℕ) → is_digit b ≡ true → decimal_in (suc d) (0 * 10 + (b - code "0")) rest ≡ b ∷ rest
alone d b rest e =
    let q = digit_in b e in
    let f : code "0" + (0 * 10 + (b - code "0")) ≡ b = omega (arith, q) in
    last_step d (0 * 10 + (b - code "0")) rest (omega (arith, q)) ∙ ap (λ (x : ℕ). x ∷ rest) f

pub one_spelling : (f : List ℕ) → is_plain f ≡ true → f ≡ decimal (value_of 0 f)
unfolding is_plain decimal
one_spelling [] e = absurd (false≢true e)
one_spelling (b ∷ []) e = let p = both_true (is_digit b) (leb (0 * 10 + (b - code "0")) 4294967295) e in sym (alone 9 b [] p.0)
one_spelling (b ∷ c ∷ bs) e =
    let f = c ∷ bs in
    let v : ℕ = 0 * 10 + (b - code "0") in
    let p = both_true (is_digit b && (not (eqb b (code "0")) && all_digits f)) (leb (value_of v f) 4294967295) e in
    let q = both_true (is_digit b) (not (eqb b (code "0")) && all_digits f) p.0 in
    let r = both_true (not (eqb b (code "0"))) (all_digits f) q.1 in
    let z : b ≡ code "0" → ⊥ = eqb-false b (code "0") (not-true (eqb b (code "0")) r.0) in
    let i = digit_in b q.0 in
    let pos : 1 ≤ v = omega (arith, i) in
    let few : length f < 10 = few_digits f v pos (leb-true (value_of v f) 4294967295 p.1) in
    let fuel : length f + suc (9 - length f) ≡ 10 = omega arith in
    sym (ap (λ (m : ℕ). decimal_in m (value_of v f) []) (sym fuel) ∙ after_value f (suc (9 - length f)) v [] r.1 pos
    ∙ alone (9 - length f) b (f ++ []) q.0 ∙ ap (λ (l : List ℕ). b ∷ l) (append-nil f))

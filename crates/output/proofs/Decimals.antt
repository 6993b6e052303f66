-- How many digits a number has, and its digits put from the last. Assumes nothing.
use mathlib.Core.Path.{◌≡◌, refl, sym, ap, ◌∙◌}
use mathlib.Core.Bool.{Bool, true, false}
use mathlib.Core.List.{List, [], ◌∷◌}
use Prim.Native.Nat.{ℕ, zero, suc, ◌+◌, ◌-◌, ◌/◌, ◌%◌, ◌^◌, ◌≤◌, ◌<◌}
use native.Mathlib.Nat.{div-lt_iff_lt-mul, pow-suc}
use native.Mathlib.Numerals.{add-one}
use native.Mathlib.Omega.{arith}
use borrow.Author.Tests.{lt-ltb, le-ltb}
use lib.Dec.{ltb}
use lib.ListN.{length, set}
use lib.Seq.{sets, length-sets, set_comm}
use Rattle.rules.specs.Text.{decimal_in, decimal}

-- ---- One step of the definition

last_digit : (more n : ℕ) (tail : List ℕ) → n < 10 → decimal_in (suc more) n tail ≡ (48 + n) ∷ tail
last_digit more n tail h =
    ap (λ (t : Bool). elim t as (λ x. List ℕ) [ true ↦ (48 + n) ∷ tail | false ↦ decimal_in more (n / 10) ((48 + n % 10) ∷ tail) ]) (lt-ltb n 10 h)

more_digits : (more n : ℕ) (tail : List ℕ) → 10 ≤ n → decimal_in (suc more) n tail ≡ decimal_in more (n / 10) ((48 + n % 10) ∷ tail)
more_digits more n tail h =
    ap (λ (t : Bool). elim t as (λ x. List ℕ) [ true ↦ (48 + n) ∷ tail | false ↦ decimal_in more (n / 10) ((48 + n % 10) ∷ tail) ]) (le-ltb n 10 h)

-- ---- How many there are

-- At least j digits besides the last.
abbrev AtLeast : ℕ → ℕ → Type 0
AtLeast zero n = Unit {0}
AtLeast (suc j) n = 10 ^ suc j ≤ n

-- A tenth has one digit fewer.
tenth : (j n : ℕ) → AtLeast (suc j) n → AtLeast j (n / 10)
tenth zero n low = tt
tenth (suc j) n low = let p = pow-suc 10 (suc j) in omega arith

size_in : (j more n : ℕ) (tail : List ℕ) → j < more → AtLeast j n → n < 10 ^ suc j → length (decimal_in more n tail) ≡ suc j + length tail
size_in j zero n tail h low high = absurd (omega arith)
size_in zero (suc more) n tail h low high = ap length (last_digit more n tail (omega arith)) ∙ omega arith
size_in (suc j) (suc more) n tail h low high =
    let ten : 10 ≤ n = many j n low in
    let less = (div-lt_iff_lt-mul {k = 10} {x = n} {y = 10 ^ suc j} (omega arith)).1 (rw pow-suc at high) in
    let e = size_in j more (n / 10) ((48 + n % 10) ∷ tail) (omega arith) (tenth j n low) less in
    ap length (more_digits more n tail ten) ∙ omega arith
  where
    many : (j n : ℕ) → AtLeast (suc j) n → 10 ≤ n
    many zero n low = low
    many (suc j) n low = let p = pow-suc 10 (suc j) in let q = many j (n / 10) (tenth (suc j) n low) in omega arith

pub size_one : (n : ℕ) → n < 10 → 1 ≡ length (decimal n)
unfolding decimal
size_one n h = sym (size_in 0 10 n [] (omega arith) tt h)

-- So many digits besides the last, by the bounds that the code compares with.
pub size_more : (j n : ℕ) → j < 9 → 10 ^ suc j ≤ n → n < 10 ^ suc (suc j) → suc (suc j) ≡ length (decimal n)
unfolding decimal
size_more j n few low high = let e = size_in (suc j) 10 n [] (omega arith) low high in omega arith

-- At least one, and at most as many as are asked for.
pub size_least : (more n : ℕ) (tail : List ℕ) → suc (length tail) ≤ length (decimal_in (suc more) n tail)
size_least zero n tail = go (ltb n 10)
  where
    go : (t : Bool) → suc (length tail) ≤ length {A = ℕ} (elim t as (λ x. List ℕ) [ true ↦ (48 + n) ∷ tail | false ↦ (48 + n % 10) ∷ tail ])
    go true = omega arith
    go false = omega arith
size_least (suc more) n tail = go (ltb n 10) (size_least more (n / 10) ((48 + n % 10) ∷ tail))
  where
    go : (t : Bool) → suc (suc (length tail)) ≤ length (decimal_in (suc more) (n / 10) ((48 + n % 10) ∷ tail))
        → suc (length tail) ≤ length {A = ℕ} (elim t as (λ x. List ℕ) [ true ↦ (48 + n) ∷ tail | false ↦ decimal_in (suc more) (n / 10) ((48 + n % 10) ∷ tail) ])
    go true e = omega arith
    go false e = omega arith

size_most : (more n : ℕ) (tail : List ℕ) → length (decimal_in more n tail) ≤ more + length tail
size_most zero n tail = omega arith
size_most (suc more) n tail = go (ltb n 10) (size_most more (n / 10) ((48 + n % 10) ∷ tail))
  where
    go : (t : Bool) → length (decimal_in more (n / 10) ((48 + n % 10) ∷ tail)) ≤ more + suc (length tail)
        → length {A = ℕ} (elim t as (λ x. List ℕ) [ true ↦ (48 + n) ∷ tail | false ↦ decimal_in more (n / 10) ((48 + n % 10) ∷ tail) ]) ≤ suc more + length tail
    go true e = omega arith
    go false e = omega arith

pub decimal_most : (n : ℕ) → length (decimal n) ≤ 10
unfolding decimal
decimal_most n = let m = size_most 10 n [] in omega arith

-- ---- Short numbers

decimal_one : (n : ℕ) → n < 10 → decimal n ≡ (48 + n) ∷ []
unfolding decimal
decimal_one n h = last_digit 9 n [] h

decimal_two : (n : ℕ) → 10 ≤ n → n < 100 → decimal n ≡ (48 + n / 10) ∷ (48 + n % 10) ∷ []
unfolding decimal
decimal_two n low high = more_digits 9 n [] low ∙ last_digit 8 (n / 10) ((48 + n % 10) ∷ []) (omega arith)

decimal_three : (n : ℕ) → 100 ≤ n → n < 1000 → decimal n ≡ (48 + n / 10 / 10) ∷ (48 + n / 10 % 10) ∷ (48 + n % 10) ∷ []
unfolding decimal
decimal_three n low high =
    more_digits 9 n [] (omega arith)
    ∙ more_digits 8 (n / 10) ((48 + n % 10) ∷ []) (omega arith)
    ∙ last_digit 7 (n / 10 / 10) ((48 + n / 10 % 10) ∷ (48 + n % 10) ∷ []) (omega arith)

pub put_one : (n at : ℕ) (l : List ℕ) → n < 10 → (set l at (48 + n) ≡ sets l at (decimal n)) × (at + 1 ≡ at + length (decimal n))
put_one n at l h = let e = decimal_one n h in let z = ap length e in (ap (sets l at) (sym e), omega arith)

pub put_two : (n at : ℕ) (l : List ℕ) → 10 ≤ n → n < 100
    → (set (set l at (48 + n / 10)) (at + 1) (48 + n % 10) ≡ sets l at (decimal n)) × (at + 2 ≡ at + length (decimal n))
put_two n at l low high =
    let e = decimal_two n low high in
    let z = ap length e in
    (ap (λ (k : ℕ). set (set l at (48 + n / 10)) k (48 + n % 10)) (add-one at) ∙ ap (sets l at) (sym e), omega arith)

pub put_three : (n at : ℕ) (l : List ℕ) → 100 ≤ n → n < 1000
    → (set (set (set l at (48 + n / 10 / 10)) (at + 1) (48 + n / 10 % 10)) (at + 2) (48 + n % 10) ≡ sets l at (decimal n)) × (at + 3 ≡ at + length (decimal n))
put_three n at l low high =
    let e = decimal_three n low high in
    let z = ap length e in
    let second : at + 1 ≡ suc at = add-one at in
    let third : at + 2 ≡ suc (suc at) = omega arith in
    ((λ j. set (set (set l at (48 + n / 10 / 10)) (second j) (48 + n / 10 % 10)) (third j) (48 + n % 10)) ∙ ap (sets l at) (sym e), omega arith)

-- ---- Digits put from the last

-- A store before a run of stores.
set_sets : (vs l : List ℕ) (i j v : ℕ) → j < i → set (sets l i vs) j v ≡ sets (set l j v) i vs
set_sets [] l i j v h = refl
set_sets (w ∷ vs) l i j v h = set_sets vs (set l i w) (suc i) j v (omega arith) ∙ ap (λ (x : List ℕ). sets x (suc i) vs) (set_comm l i j w v (λ e. omega arith))

-- Before each turn: the last digits of n stand from place i on, and `rest`, what is left of n, has at most `more` digits besides its last.
pub record Digits (n at : ℕ) (before : List ℕ) (rest i : ℕ) (now : List ℕ) : Type 0 where
  pub more : ℕ
  pub fits : rest < 10 ^ suc more
  pub tail : List ℕ
  pub is : now ≡ sets before i tail
  pub all : decimal_in (suc more) rest tail ≡ decimal n
  pub place : i + length tail ≡ at + length (decimal n)

pub none_put : (n at : ℕ) (before : List ℕ) (end : ℕ) → n ≤ 4294967295 → end ≡ at + length (decimal n) → Digits n at before n end before
unfolding decimal
none_put n at before end h e = record { more = 9; fits = omega arith; tail = []; is = refl; all = refl; place = omega arith }

module _ (n at : ℕ) (before : List ℕ) (rest i : ℕ) (now : List ℕ) (d : Digits n at before rest i now) where
  -- There is room before what is put, and the list is as long as it was.
  pub digits_room : (suc at ≤ i) × (i ≤ at + length (decimal n)) × (length now ≡ length before)
  digits_room =
      let least = size_least d.more rest d.tail in
      let e = ap length d.all in
      let p = d.place in
      (omega arith, omega arith, ap length d.is ∙ length-sets before i d.tail)

  -- One more, and `rest` has others.
  pub digit_put : 10 ≤ rest → Digits n at before (rest / 10) (i - 1) (set now (i - 1) (48 + rest % 10))
  digit_put h = go d.more d.fits d.all
    where
      go : (more : ℕ) → rest < 10 ^ suc more → decimal_in (suc more) rest d.tail ≡ decimal n
          → Digits n at before (rest / 10) (i - 1) (set now (i - 1) (48 + rest % 10))
      go zero fits all = absurd (omega arith)
      go (suc more) fits all =
          let room = digits_room in
          let p = d.place in
          let next : suc (i - 1) ≡ i = omega arith in
          record {
            more = more;
            fits = (div-lt_iff_lt-mul {k = 10} {x = rest} {y = 10 ^ suc more} (omega arith)).1 (rw pow-suc at fits);
            tail = (48 + rest % 10) ∷ d.tail;
            is = ap (λ (l : List ℕ). set l (i - 1) (48 + rest % 10)) d.is
                ∙ set_sets d.tail before i (i - 1) (48 + rest % 10) (omega arith)
                ∙ ap (λ (k : ℕ). sets (set before (i - 1) (48 + rest % 10)) k d.tail) (sym next);
            all = sym (more_digits (suc more) rest d.tail h) ∙ all;
            place = omega arith;
          }

  -- The first digit, and with it all.
  pub digits_put : rest < 10 → set now at (48 + rest) ≡ sets before at (decimal n)
  digits_put h =
      let all : (48 + rest) ∷ d.tail ≡ decimal n = sym (last_digit d.more rest d.tail h) ∙ d.all in
      let size = ap length all in
      let p = d.place in
      let next : i ≡ suc at = omega arith in
      ap (λ (l : List ℕ). set l at (48 + rest)) d.is
      ∙ set_sets d.tail before i at (48 + rest) (omega arith)
      ∙ ap (λ (k : ℕ). sets (set before at (48 + rest)) k d.tail) next
      ∙ ap (sets before at) all

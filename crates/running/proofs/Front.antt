-- The first numbers of a list, lent on, and the list when they have come back. Assumes nothing.
use mathlib.Core.Path.{◌≡◌, sym, ap, ◌∙◌}
use mathlib.Core.List.{List, ◌++◌}
use Prim.Native.Nat.{ℕ, ◌+◌, ◌-◌, ◌≤◌}
use native.Mathlib.Nat.{sub-zero}
use native.Mathlib.Omega.{arith}
use lib.ListN.{length, take, drop, replicate, length-append, length-replicate, replicate-append-replicate, take-append-drop}
use lib.Seq.{take_at, length-take-le}

abbrev pub lent : ℕ → List ℕ → List ℕ
lent n s = take (n - 0) (drop 0 s)

abbrev pub back : ℕ → List ℕ → List ℕ → List ℕ
back n s t = take 0 s ++ (t ++ drop (n - 0) (drop 0 s))

-- What is lent and what is not are the whole.
pub lent_whole : (n : ℕ) (s : List ℕ) → lent n s ++ drop (n - 0) (drop 0 s) ≡ s
lent_whole n s = take-append-drop (n - 0) s

pub lent_long : (n : ℕ) (s : List ℕ) → n ≤ length s → length (lent n s) ≡ n
lent_long n s few = ap (λ (m : ℕ). length (take m s)) (sub-zero n) ∙ length-take-le n s few

-- Lent from the front of zeros; and those that came back, lent again.
pub lent_none : (n m : ℕ) → n ≤ m → lent n (replicate m 0) ≡ replicate n 0
lent_none n m few =
    let split : m ≡ n + (m - n) = omega arith in
    ap (λ (k : ℕ). take k (replicate {A = ℕ} m 0)) (sub-zero n) ∙ ap (λ (k : ℕ). take n (replicate {A = ℕ} k 0)) split
    ∙ ap (take n) (sym (replicate-append-replicate n (m - n) 0)) ∙ take_at (replicate n 0) (replicate (m - n) 0) n (length-replicate {A = ℕ} n 0)

pub lent_back : (n : ℕ) (s t : List ℕ) → length t ≡ n → lent n (back n s t) ≡ t
lent_back n s t size = ap (λ (m : ℕ). take m (t ++ drop (n - 0) s)) (sub-zero n) ∙ take_at t (drop (n - 0) s) n size

pub back_long : (n : ℕ) (s t : List ℕ) → length t ≡ length (lent n s) → length (back n s t) ≡ length s
back_long n s t kept =
    let whole : length (take (n - 0) s ++ drop (n - 0) s) ≡ length s = ap length (take-append-drop (n - 0) s) in
    omega (arith, length-append t (drop (n - 0) s), length-append (take (n - 0) s) (drop (n - 0) s))

-- Over any length, so that nothing computes with a long list.
pub all_zero : (n : ℕ) → replicate {A = ℕ} n 0 ≡ replicate (length (replicate {A = ℕ} n 0)) 0
all_zero n = sym (ap (λ (m : ℕ). replicate {A = ℕ} m 0) (length-replicate {A = ℕ} n 0))

-- Bytes put before a place, one after the other. Assumes nothing.
use mathlib.Core.Path.{◌≡◌, sym, ap, ◌∙◌}
use mathlib.Core.List.{List, [], ◌∷◌, ◌++◌, append_assoc, append-nil}
use Prim.Native.Nat.{ℕ, suc, ◌+◌, ◌-◌, ◌≤◌, ◌<◌}
use native.Mathlib.Omega.{arith}
use lib.ListN.{length, set, drop, length-set}
use lib.Seq.{drop-length, drop-cons, get_or-set_same, drop-set-lt}
use Rattle.report.specs.Put.{Put}

-- One byte, stored.
pub put_byte : (l : List ℕ) (at b : ℕ) → 0 < at → at ≤ length l → Put (b ∷ []) 1 at l (at - 1) (set l (at - 1) b)
put_byte l at b h m =
    let i = at - 1 in
    let next : suc i ≡ at = omega arith in
    let within : i < length (set l i b) = omega (arith, length-set l i b) in
    record {
      is =
          drop-cons (set l i b) i 0 within
          ∙ ap (λ (x : ℕ). x ∷ drop (suc i) (set l i b)) (get_or-set_same l i b 0 (omega arith))
          ∙ ap (λ (x : List ℕ). b ∷ x) (drop-set-lt (suc i) l i b (omega arith) ∙ ap (λ (n : ℕ). drop n l) next);
      low = omega arith;
      high = omega arith;
    }

-- Bytes, and then others before them.
pub put_put : {a b : List ℕ} {m n at r s : ℕ} {before between after : List ℕ} → Put a m at before r between → Put b n r between s after
    → Put (b ++ a) (m + n) at before s after
put_put {a} {b} {at = at} {before = before} p q =
    record {
      is = q.is ∙ ap (λ (x : List ℕ). b ++ x) p.is ∙ sym (append_assoc b a (drop at before));
      low = omega arith;
      high = omega arith;
    }

-- What is put before the end of a list is all that stands there.
pub put_all : {bytes before after : List ℕ} {most at r : ℕ} → Put bytes most at before r after → at ≡ length before → drop r after ≡ bytes
put_all {bytes} {before} p e = p.is ∙ ap (λ (x : List ℕ). bytes ++ x) (ap (λ (n : ℕ). drop n before) e ∙ drop-length before) ∙ append-nil bytes

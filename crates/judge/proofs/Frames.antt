-- The marks of the work space, cleared, with the directory as it was. Assumes nothing.
use mathlib.Core.Path.{◌≡◌, refl, ap, ◌∙◌}
use mathlib.Core.Bool.{cond}
use mathlib.Core.List.{List, [], ◌∷◌, ◌++◌}
use Prim.Native.Nat.{ℕ, zero, suc, ◌+◌, ◌≤◌}
use native.Mathlib.Omega.{arith}
use lib.ListN.{length, take, drop, replicate, length-append, length-drop, length-replicate}
use lib.Seq.{take_at, drop_at, take-append-le, length-take-le}
use Rattle.rules.specs.State.{tabulate}
use Rattle.rules.specs.Tree.{is_in}
use Rattle.rules.specs.Verdict.{work_need}
use Rattle.tree.specs.Layout.{marks_from, directory_of, marks_in, marks_of}
use Rattle.tree.proofs.Stores.{drop_take}

-- ---- The marks, cleared

-- The directory is as it was, and no position of the first so many is marked.
pub record Unmarked (cues : ℕ) (before after : List ℕ) : Type 0 where
  pub size : length after ≡ length before
  pub directory : directory_of after ≡ directory_of before
  pub unmarked : marks_in cues after ≡ marks_of cues []

zeros_tabulated : (n i m : ℕ) → n ≤ m → take n (replicate m 0) ≡ tabulate n i (λ j. cond (is_in j []) 1 0)
unfolding is_in
zeros_tabulated zero i m h = refl
zeros_tabulated (suc n) i zero h = absurd (omega arith)
zeros_tabulated (suc n) i (suc m) h = ap (λ (l : List ℕ). 0 ∷ l) (zeros_tabulated n (suc i) m (omega arith))

-- A middle part that is cleared: what stood before it stands there, and the part is zero.
module _ (w part : List ℕ) (f n : ℕ) (room : f + n ≤ length w) (zeros : part ≡ replicate (length (take n (drop f w))) 0) where
  abbrev cleared : List ℕ
  cleared = take f w ++ (part ++ drop n (drop f w))

  part_size : length part ≡ n
  part_size = ap length zeros ∙ length-replicate (length (take n (drop f w))) 0 ∙ length-take-le n (drop f w) (omega (arith, length-drop f w))

  front_size : length (take f w) ≡ f
  front_size = length-take-le f w (omega arith)

  cleared_size : length cleared ≡ length w
  cleared_size =
      omega (arith, length-append (take f w) (part ++ drop n (drop f w)), length-append part (drop n (drop f w)), length-drop n (drop f w), length-drop f w, part_size, front_size)

  cleared_front : take f cleared ≡ take f w
  cleared_front = take_at (take f w) (part ++ drop n (drop f w)) f front_size

  cleared_part : (k : ℕ) → k ≤ n → drop f (take (f + k) cleared) ≡ tabulate k 1 (λ j. cond (is_in j []) 1 0)
  cleared_part k few =
      drop_take f k cleared
      ∙ ap (take k) (drop_at (take f w) (part ++ drop n (drop f w)) f front_size)
      ∙ take-append-le k part (drop n (drop f w)) (omega (arith, part_size))
      ∙ ap (take k) zeros
      ∙ zeros_tabulated k 1 (length (take n (drop f w))) (omega (arith, length-take-le n (drop f w) (omega (arith, length-drop f w))))

pub marks_cleared : (cues : ℕ) (w part : List ℕ) → cues ≤ 1000 → work_need ≤ length w → part ≡ replicate (length (take 1000 (drop 3072 w))) 0
    → Unmarked cues w (take 3072 w ++ (part ++ drop 1000 (drop 3072 w)))
unfolding marks_from marks_of work_need
marks_cleared cues w part few room zeros = record {
  size = cleared_size w part 3072 1000 (omega arith) zeros;
  directory = cleared_front w part 3072 1000 (omega arith) zeros;
  unmarked = cleared_part w part 3072 1000 (omega arith) zeros cues few;
}

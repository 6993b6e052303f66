-- A list after a stretch of it is written: that stretch is what was written, the others are as they were; and states written in turn to a
-- list of zeros fill it as 01 says. Assumes nothing.
use mathlib.Core.Path.{◌≡◌, refl, sym, ap, ap₂, ◌∙◌}
use mathlib.Core.Logic.{◌≢◌}
use mathlib.Core.List.{List, [], ◌∷◌, ◌++◌, append_assoc, flatten}
use mathlib.Core.List.Memᴰ.{head as here}
use Prim.Native.Nat.{ℕ, zero, suc, ◌+◌, ◌-◌, ◌*◌, ◌≤◌, ◌<◌}
use native.Mathlib.Nat.{mul-le-mul_left, mul-add, mul-one, not-suc-le-zero}
use native.Mathlib.Decide.{dec_lt}
use native.Mathlib.Omega.{arith}
use lib.ListN.{length, take, drop, set, replicate, length-append, length-drop, length-set, take-append-drop}
use lib.Seq.{take_at, drop_at, drop-drop, take-append-le, drop-append-le, drop-append-add, length-take-le, get_or-take, get_or-drop, ext_get_or}
use Rattle.rules.specs.State.{State, word_count, word}
use Rattle.rules.specs.Verdict.{filled}
use Rattle.rules.proofs.Tables.{store_next}
use Rattle.rules.proofs.Worded.{Worded}
use Rattle.rules.specs.Refusals.{Each}
use Rattle.rules.proofs.Judgement.Each.{each_tail}
use Rattle.rows.specs.Rows.{stretch_at, put_stretch, put_row, put_rows}

-- ---- The words of a state, copied one by one: the first i of ws are in l

pub record Copied (ws l : List ℕ) (i : ℕ) : Type 0 where
  pub most : i ≤ word_count
  pub size : length l ≡ word_count
  pub same : (k : ℕ) → k < i → word l k ≡ word ws k

module _ {ws l : List ℕ} where
  pub copied_none : length l ≡ word_count → Copied ws l 0
  copied_none e = record { most = omega arith; size = e; same = λ k h. absurd (not-suc-le-zero h) }

  pub copied_next : {i v : ℕ} → Copied ws l i → i < word_count → v ≡ word ws i → Copied ws (set l i v) (i + 1)
  copied_next {i} {v} p more e = record {
    most = omega arith;
    size = length-set l i v ∙ p.size;
    same = store_next (word ws) l i v (omega (arith, p.size)) e p.same;
  }

  pub copied_all : {i : ℕ} → Copied ws l i → word_count ≤ i → length ws ≡ word_count → l ≡ ws
  copied_all p over w = ext_get_or 0 l ws (p.size ∙ sym w) (λ k h. p.same k (omega (arith, p.size)))

-- ---- One stretch, of any number of numbers

-- An earlier stretch ends before a later one starts.
pub stretch_ends : (n i j : ℕ) → i < j → n * i + n ≤ n * j
stretch_ends n i j h =
    let m : n * (i + 1) ≤ n * j = mul-le-mul_left n (omega arith) in
    let e : n * (i + 1) ≡ n * i + n * 1 = mul-add n i 1 in
    let o : n * 1 ≡ n = mul-one n in
    omega arith

pub length_stretch : (n : ℕ) (l : List ℕ) (i : ℕ) → n * i + n ≤ length l → length (stretch_at n l i) ≡ n
unfolding stretch_at
length_stretch n l i h = length-take-le n (drop (n * i) l) (omega (arith, length-drop (n * i) l))

-- Word i of stretch j.
pub word_stretch : (n : ℕ) (l : List ℕ) (j i : ℕ) → i < n → word (stretch_at n l j) i ≡ word l (n * j + i)
unfolding stretch_at
word_stretch n l j i h = get_or-take n (drop (n * j) l) i 0 h ∙ get_or-drop (n * j) l i 0

-- The middle part from the start of stretch i on: what stands there, and the list with other numbers put there.
module _ (n : ℕ) (l : List ℕ) (i from : ℕ) (e : from ≡ n * i) where
  pub part_at : take (from + n - from) (drop from l) ≡ stretch_at n l i
  unfolding stretch_at
  part_at =
      let k : from + n - from ≡ n = omega arith in
      ap (λ (m : ℕ). take m (drop from l)) k ∙ ap (λ (m : ℕ). take n (drop m l)) e

  pub part_put : (s part : List ℕ) → part ≡ s → take from l ++ (part ++ drop (from + n - from) (drop from l)) ≡ put_stretch n l i s
  unfolding put_stretch
  part_put s part same =
      let k : from + n - from ≡ n = omega arith in
      ap (λ (m : ℕ). take from l ++ (part ++ drop m (drop from l))) k
      ∙ ap (λ (x : List ℕ). take from l ++ (part ++ x)) (drop-drop n from l)
      ∙ ap₂ (λ (m : ℕ) (x : List ℕ). take m l ++ (x ++ drop (m + n) l)) e same

-- A stretch within the first of two lists.
in_front : (n : ℕ) (a b : List ℕ) (j : ℕ) → n * j + n ≤ length a → stretch_at n (a ++ b) j ≡ stretch_at n a j
unfolding stretch_at
in_front n a b j h =
    let m : n ≤ length (drop (n * j) a) = omega (arith, length-drop (n * j) a) in
    ap (take n) (drop-append-le (n * j) a b (omega arith)) ∙ take-append-le n (drop (n * j) a) b m

module _ (n : ℕ) (l : List ℕ) (i : ℕ) (s : List ℕ) (h : n * i + n ≤ length l) (w : length s ≡ n) where
  front : length (take (n * i) l) ≡ n * i
  front = length-take-le (n * i) l (omega arith)

  -- Stretch i is what was written.
  pub at_put : stretch_at n (put_stretch n l i s) i ≡ s
  unfolding put_stretch stretch_at
  at_put = ap (take n) (drop_at (take (n * i) l) (s ++ drop (n * i + n) l) (n * i) front) ∙ take_at s (drop (n * i + n) l) n w

  pub length_put : length (put_stretch n l i s) ≡ length l
  unfolding put_stretch
  length_put = simp (length-append, length-drop) (omega (arith, front))

  before : (j : ℕ) → j < i → stretch_at n (put_stretch n l i s) j ≡ stretch_at n l j
  unfolding put_stretch
  before j g =
      in_front n (take (n * i) l) (s ++ drop (n * i + n) l) j (omega (arith, front, stretch_ends n j i g))
      ∙ sym (in_front n (take (n * i) l) (drop (n * i) l) j (omega (arith, front, stretch_ends n j i g)))
      ∙ ap (λ (x : List ℕ). stretch_at n x j) (take-append-drop (n * i) l)

  after : (j : ℕ) → i < j → stretch_at n (put_stretch n l i s) j ≡ stretch_at n l j
  unfolding put_stretch stretch_at
  after j g =
      let r : n * i + n ≤ n * j = stretch_ends n i j g in
      let a : n * j ≡ length (take (n * i) l) + (n * j - n * i) = omega (arith, front) in
      let b : n * j - n * i ≡ length s + (n * j - n * i - n) = omega arith in
      let c : n * i + n + (n * j - n * i - n) ≡ n * j = omega arith in
      ap (take n)
      (ap (λ (m : ℕ). drop m (put_stretch n l i s)) a
      ∙ drop-append-add (take (n * i) l) (s ++ drop (n * i + n) l) (n * j - n * i)
      ∙ ap (λ (m : ℕ). drop m (s ++ drop (n * i + n) l)) b
      ∙ drop-append-add s (drop (n * i + n) l) (n * j - n * i - n)
      ∙ drop-drop (n * j - n * i - n) (n * i + n) l ∙ ap (λ (m : ℕ). drop m l) c)

  -- Any other stretch is as it was.
  pub other_put : (j : ℕ) → j ≢ i → stretch_at n (put_stretch n l i s) j ≡ stretch_at n l j
  other_put j d = go (dec_lt j i) (dec_lt i j)
    where
      go : Dec (j < i) → Dec (i < j) → stretch_at n (put_stretch n l i s) j ≡ stretch_at n l j
      go (yes g) _ = before j g
      go (no _) (yes g) = after j g
      go (no g) (no k) = let z : j ≡ i = omega arith in absurd (d z)

-- ---- States in turn

-- A row that is written right after the first rows.
put_after : (p rest : List ℕ) (i : ℕ) (s : State) → length p ≡ word_count * i → put_row (p ++ rest) i s ≡ (p ++ s) ++ drop word_count rest
unfolding put_row put_stretch
put_after p rest i s e =
    let n : word_count * i + word_count ≡ length p + word_count = omega arith in
    ap₂ (λ (x y : List ℕ). x ++ (s ++ y)) (take_at p rest (word_count * i) e)
    (ap (λ (m : ℕ). drop m (p ++ rest)) n ∙ drop-append-add p rest word_count)
    ∙ sym (append_assoc p s (drop word_count rest))

-- One state more: the first of those that are left, after those written.
pub put_next : (ss : List State) (i : ℕ) (s : State) (rest : List State) (l : List ℕ) (j : ℕ) → drop i ss ≡ s ∷ rest
    → put_row (put_rows l j (take i ss)) (j + i) s ≡ put_rows l j (take (suc i) ss)
put_next ss zero s rest l j e =
    let all : j + zero ≡ j = omega arith in
    ap (λ (n : ℕ). put_row l n s) all ∙ sym (ap (λ (x : List State). put_rows l j (take 1 x)) e)
put_next [] (suc i) s rest l j e = let z : ◌≡◌ {A = ℕ} 0 1 = cc in absurd (omega arith)
put_next (x ∷ ss) (suc i) s rest l j e =
    let more : j + suc i ≡ j + 1 + i = omega arith in
    ap (λ (n : ℕ). put_row (put_rows (put_row l j x) (j + 1) (take i ss)) n s) more ∙ put_next ss i s rest (put_row l j x) (j + 1) e

-- The states after the first rows p, and then what stood there.
rows_after : (ss : List State) (p rest : List ℕ) (i : ℕ) → Each Worded ss → length p ≡ word_count * i
    → put_rows (p ++ rest) i ss ≡ p ++ (flatten ss ++ drop (word_count * length ss) rest)
unfolding flatten word_count
rows_after [] p rest i f e = refl
rows_after (s ∷ ss) p rest i f e =
    let w : length s ≡ word_count = f s (here refl) in
    let long : length (p ++ s) ≡ word_count * (i + 1) = omega (arith, length-append p s) in
    let n : word_count + word_count * length ss ≡ word_count * suc (length ss) = omega arith in
    ap (λ (l : List ℕ). put_rows l (i + 1) ss) (put_after p rest i s e)
    ∙ rows_after ss (p ++ s) (drop word_count rest) (i + 1) (each_tail Worded s ss f) long
    ∙ append_assoc p s (flatten ss ++ drop (word_count * length ss) (drop word_count rest))
    ∙ ap (λ (x : List ℕ). p ++ x)
    (sym (append_assoc s (flatten ss) (drop (word_count * length ss) (drop word_count rest)))
    ∙ ap (λ (x : List ℕ). (s ++ flatten ss) ++ x) (drop-drop (word_count * length ss) word_count rest ∙ ap (λ (m : ℕ). drop m rest) n))

flatten_length : (ss : List State) → Each Worded ss → length (flatten ss) ≡ word_count * length ss
unfolding flatten word_count
flatten_length [] f = refl
flatten_length (s ∷ ss) f =
    let w : length s ≡ word_count = f s (here refl) in
    let e = flatten_length ss (each_tail Worded s ss f) in
    length-append s (flatten ss) ∙ omega arith

pub drop_zeros : (n size : ℕ) → drop {A = ℕ} n (replicate size 0) ≡ replicate (size - n) 0
drop_zeros zero size = let all : size ≡ size - 0 = omega arith in ap (λ (m : ℕ). replicate m 0) all
drop_zeros (suc n) zero = let none : 0 ≡ 0 - suc n = omega arith in ap (λ (m : ℕ). replicate m 0) none
drop_zeros (suc n) (suc size) = let less : size - n ≡ suc size - suc n = omega arith in drop_zeros n size ∙ ap (λ (m : ℕ). replicate m 0) less

-- "the state list holds states 0 to k, each written to its own stretch [..] the rest is zero"
pub rows_fill : (size : ℕ) (ss : List State) → Each Worded ss → put_rows (replicate size 0) 0 ss ≡ filled size 0 (flatten ss)
unfolding filled
rows_fill size ss f =
    let none : 0 ≡ word_count * 0 = omega arith in
    rows_after ss [] (replicate size 0) 0 f none
    ∙ ap (λ (x : List ℕ). flatten ss ++ x)
    (drop_zeros (word_count * length ss) size ∙ ap (λ (n : ℕ). replicate (size - n) 0) (sym (flatten_length ss f)))

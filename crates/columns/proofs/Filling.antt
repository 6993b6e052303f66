-- Tests pushed in at the bottom of a word, the last first: bit i is test i. So a column's words are filled, and those that sum them up. Assumes
-- nothing.
use mathlib.Core.Path.{◌≡◌, sym, ap, ap₂, ◌∙◌}
use mathlib.Core.Bool.{Bool, false, ◌||◌, not, or-false, not-not}
use mathlib.Core.List.{List}
use Prim.Native.Nat.{ℕ, zero, suc, ◌+◌, ◌-◌, ◌*◌, ◌/◌, ◌%◌, ◌^◌, ◌≤◌, ◌<◌}
use native.Mathlib.Decide.{ℕ_discrete}
use native.Mathlib.Omega.{arith}
use lib.Dec.{eqb}
use lib.ListN.{length, length-set, set}
use lib.Seq.{get_or-set_same, get_or-set_other}
use lib.Pow.{field, mod-mod-pow, shl-shr}
use lib.Bits.{bit_or, bit_xor}
use borrow.Author.Tests.{ne_eqb}
use Rattle.rules.specs.declared.Sign.{Sign}
use Rattle.rules.specs.declared.Sign.TheVariants.{Positive, Negative}
use Rattle.rules.specs.State.{word, bit, member, every}
use Rattle.rules.specs.Constraint.{signed}
use Rattle.rules.proofs.Bits.{bit_or_lem, bit_zero, bit_half, bit_pow}
use Rattle.rules.proofs.Members.{member_at}
use Rattle.rules.proofs.Tables.{every_same}
use Rattle.rows.specs.Rows.{in_row}
use Rattle.columns.specs.Columns.{state_words, sum_at, column_words, clear, asked, Summed, Column}
use Rattle.columns.proofs.Masks.{bit_over, none_set, Turned, in_turned}

-- A number cut to k bits has its first k.
bit_mod : (n k i : ℕ) → i < k → bit (n % 2 ^ k) i ≡ bit n i
unfolding bit
bit_mod n k i h =
    let whole : k ≡ k - i - 1 + 1 + i = omega arith in
    ap (λ (x : ℕ). eqb (x % 2) 1) (ap (λ (m : ℕ). n % 2 ^ m / 2 ^ i) whole ∙ field n (k - i - 1 + 1) i)
    ∙ ap (λ (x : ℕ). eqb x 1) (mod-mod-pow (n / 2 ^ i) (k - i - 1) 1)

-- A digit in the place of bit 0, and no other bit.
digit_first : (d : ℕ) → d < 2 → bit d 0 ≡ eqb d 1
digit_first zero h = bit_zero 0
digit_first (suc zero) h = bit_pow 0 0
digit_first (suc (suc d)) h = absurd (omega arith)

digit_later : (d i : ℕ) → d < 2 → bit d (suc i) ≡ false
digit_later zero i h = bit_zero (suc i)
digit_later (suc zero) i h = bit_pow 0 (suc i) ∙ ne_eqb 0 (suc i) (λ q. omega arith)
digit_later (suc (suc d)) i h = absurd (omega arith)

-- The word w moved up, with the digit d below it.
abbrev pub pushed : ℕ → ℕ → ℕ
pushed w d = bit_or (w * 2 % 2 ^ 64) d

even : (w : ℕ) → bit (w * 2) 0 ≡ false
unfolding bit
even w = let e : w * 2 / 2 ^ 0 % 2 ≡ 0 = omega arith in ap (λ (x : ℕ). eqb x 1) e

pub pushed_first : (w d : ℕ) → d < 2 → bit (pushed w d) 0 ≡ eqb d 1
pushed_first w d h =
    bit_or_lem (w * 2 % 2 ^ 64) d 0
    ∙ ap₂ (λ (x y : Bool). x || y) (bit_mod (w * 2) 64 0 (omega arith) ∙ even w) (digit_first d h)

pub pushed_later : (w d i : ℕ) → d < 2 → suc i < 64 → bit (pushed w d) (suc i) ≡ bit w i
pushed_later w d i h k =
    bit_or_lem (w * 2 % 2 ^ 64) d (suc i)
    ∙ ap₂ (λ (x y : Bool). x || y) (bit_mod (w * 2) 64 (suc i) k ∙ sym (bit_half (w * 2) i) ∙ ap (λ (x : ℕ). bit x i) (shl-shr w 1)) (digit_later d i h)
    ∙ or-false (bit w i)

-- The tests from l on, below `to`, in a word: one more of them.
abbrev pub Tests : (ℕ → Bool) → ℕ → ℕ → ℕ → Type 0
Tests f l to w = (i : ℕ) → l + i < to → bit w i ≡ f (l + i)

pub tests_more : (f : ℕ → Bool) (l to w d : ℕ) → to ≤ l + 64 → d < 2 → eqb d 1 ≡ f l → Tests f (l + 1) to w → Tests f l to (pushed w d)
tests_more f l to w d few h e all zero b = let here : l ≡ l + 0 = omega arith in pushed_first w d h ∙ e ∙ ap f here
tests_more f l to w d few h e all (suc i) b =
    let there : l + 1 + i ≡ l + suc i = omega arith in
    pushed_later w d i h (omega arith) ∙ all i (omega arith) ∙ ap f there

-- ---- the words of a column

-- A store to another word leaves a bit as it is.
clear_other : (s : List ℕ) (i x l : ℕ) → (l / 64 ≡ i → ⊥) → clear (set s i x) l ≡ clear s l
unfolding member
clear_other s i x l d = ap (λ (y : ℕ). not (bit y (l % 64))) (get_or-set_other s i (l / 64) x 0 d)

-- The words before w are right for the first n tests; so is word w, once it is stored.
abbrev pub Right : (ℕ → Bool) → ℕ → List ℕ → ℕ → Type 0
Right f n s w = (l : ℕ) → l < n → l < w * 64 → clear s l ≡ f l

pub right_more : (f : ℕ → Bool) (n : ℕ) (s : List ℕ) (w to x : ℕ) → w < length s → Tests f (64 * w) to x
    → ((l : ℕ) → l < n → l < 64 * w + 64 → l < to) → Right f n s w → Right f n (set s w (bit_xor x (2 ^ 64 - 1))) (w + 1)
unfolding member
right_more f n s w to x h tests end all l b c = go (ℕ_discrete (l / 64) w)
  where
    go : Dec (l / 64 ≡ w) → clear (set s w (bit_xor x (2 ^ 64 - 1))) l ≡ f l
    go (yes q) =
        let place : 64 * w + l % 64 ≡ l = omega arith in
        ap (λ (y : ℕ). not (bit y (l % 64)))
        (ap (word (set s w (bit_xor x (2 ^ 64 - 1)))) q ∙ get_or-set_same s w (bit_xor x (2 ^ 64 - 1)) 0 h)
        ∙ ap not (bit_over x (l % 64) (omega arith)) ∙ not-not (bit x (l % 64))
        ∙ tests (l % 64) (let m = end l b (omega arith) in omega arith) ∙ ap f place
    go (no d) = clear_other s w (bit_xor x (2 ^ 64 - 1)) l d ∙ all l b (omega arith)

-- ---- the words that sum up

-- Word w of a column is not as a sign asks: the word turned has a bit.
abbrev pub amiss : Sign → List ℕ → ℕ → Bool
amiss g s w = not (every 64 (w * 64) (asked g s))

pub turned_amiss : (g : Sign) (s : List ℕ) (w x : ℕ) → x < 2 ^ 64 → Turned g (word s w) x → not (eqb x 0) ≡ amiss g s w
turned_amiss g s w x h t =
    let here : w * 64 + 0 ≡ w * 64 = omega arith in
    ap not (none_set x h ∙ in_turned g s w x 0 64 t (omega arith) ∙ ap (λ (m : ℕ). every 64 m (asked g s)) here)

-- A word sums up a column's first words for a sign.
abbrev pub Sums : Sign → List ℕ → ℕ → ℕ → Type 0
Sums g s words sum = (w : ℕ) → w < words → not (bit sum w) ≡ every 64 (w * 64) (asked g s)

pub tests_sum : (g : Sign) (s : List ℕ) (words sum : ℕ) → Tests (amiss g s) 0 words sum → Sums g s words sum
tests_sum g s words sum tests w h =
    let here : 0 + w ≡ w = omega arith in
    ap not (tests w (omega arith) ∙ ap (amiss g s) here) ∙ not-not (every 64 (w * 64) (asked g s))

-- A column with the same words of states, and that word in its place, is summed up for the sign.
abbrev SameStates : List ℕ → List ℕ → Type 0
SameStates s t = (l : ℕ) → l < 64 * state_words → clear s l ≡ clear t l

sum_there : (g : Sign) (s t : List ℕ) (words sum w : ℕ) → w < words → w < state_words → SameStates s t → word t (sum_at g) ≡ sum → Sums g s words sum
    → clear t (sum_at g * 64 + w) ≡ every 64 (w * 64) (asked g t)
unfolding state_words
sum_there g s t words sum w h few same e sums =
    ap not (member_at t (sum_at g) w (omega arith) ∙ ap (λ (y : ℕ). bit y w) e) ∙ sums w h
    ∙ every_same 64 (w * 64) (asked g s) (asked g t) (λ l a b. ap (signed g) (same l (omega arith)))

past_states : (s : List ℕ) (i x : ℕ) → state_words ≤ i → SameStates s (set s i x)
unfolding state_words
past_states s i x h l b = sym (clear_other s i x l (λ q. omega arith))

-- Once the two last words are stored, the column is right.
module _ (s : List ℕ) (x y : ℕ) (room : length s ≡ column_words) where
  abbrev once : List ℕ
  once = set s state_words x

  abbrev twice : List ℕ
  twice = set once (state_words + 1) y

  kept : SameStates s twice
  kept l h = past_states s state_words x (omega arith) l h ∙ past_states once (state_words + 1) y (omega arith) l h

  both_summed : (n words : ℕ) → n ≤ 64 * state_words → n ≤ 64 * words → Sums Positive s words x → Sums Negative once words y → Summed twice n
  unfolding state_words sum_at column_words
  both_summed n words fits end p q Positive w h =
      sum_there Positive s twice words x w (omega arith) (omega arith) kept
      (get_or-set_other once (state_words + 1) state_words y 0 (λ e. omega arith) ∙ get_or-set_same s state_words x 0 (omega arith)) p
  both_summed n words fits end p q Negative w h =
      sum_there Negative once twice words y w (omega arith) (omega arith) (past_states once (state_words + 1) y (omega arith))
      (get_or-set_same once (state_words + 1) y 0 (omega (arith, length-set s state_words x))) q

  pub column_done : (states : List ℕ) (p n w : ℕ) → n ≤ 64 * state_words → n ≤ 64 * w → Right (in_row states Positive p) n s w
      → Sums Positive s w x → Sums Negative once w y → Column states p n twice
  unfolding in_row signed
  column_done states p n w fits end all positive negative =
      record {
        at = λ g l b. ap (signed g) (sym (kept l (omega arith)) ∙ all l b (omega arith));
        summed = both_summed n w fits end positive negative;
      }

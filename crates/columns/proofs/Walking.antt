-- The bits from a on, below b, of a column as a sign asks: those of one word, or those of the first word, of the words between, which the
-- sign's last word of the column sums up, and of the last. Assumes nothing.
use mathlib.Core.Path.{◌≡◌, sym, ap, ap₂, ◌∙◌}
use mathlib.Core.Bool.{Bool, true, false, ◌&&◌, not}
use mathlib.Core.List.{List}
use Prim.Native.Nat.{ℕ, zero, suc, ◌+◌, ◌-◌, ◌*◌, ◌/◌, ◌%◌, ◌≤◌, ◌<◌}
use native.Mathlib.Omega.{arith}
use Rattle.rules.specs.declared.Sign.{Sign}
use Rattle.rules.specs.declared.Sign.TheVariants.{Positive, Negative}
use Rattle.rules.specs.State.{word, bit, every}
use Rattle.rules.proofs.Tables.{every_split}
use Rattle.columns.specs.Columns.{state_words, sum_at, column_words, clear, asked, Summed}
use Rattle.columns.proofs.Masks.{in_word, Turned, in_turned}

-- The word that sums up for a sign is in the column.
pub sum_in_column : (g : Sign) {i : ℕ} → i ≡ sum_at g → i < column_words
unfolding sum_at column_words
sum_in_column Positive e = omega arith
sum_in_column Negative e = omega arith

-- The bits of a word from x on, below y, are clear.
abbrev pub clear_in : ℕ → ℕ → ℕ → Bool
clear_in w x y = every (y - x) x (λ k. not (bit w k))

-- The bits of a column from a on, below b, are as a sign asks.
abbrev pub asked_in : Sign → List ℕ → ℕ → ℕ → Bool
asked_in g s a b = every (b - a) a (asked g s)

module _ (g : Sign) (s : List ℕ) where
  -- In one word, by the clear bits of the word turned.
  asked_word : (i x y w : ℕ) → x ≤ y → y ≤ 64 → Turned g (word s i) w → clear_in w x y ≡ asked_in g s (i * 64 + x) (i * 64 + y)
  asked_word i x y w h k t =
      let many : y - x ≡ i * 64 + y - (i * 64 + x) = omega arith in
      in_turned g s i w x (y - x) t (omega arith) ∙ ap (λ (n : ℕ). every n (i * 64 + x) (asked g s)) many

  -- In k words from w on, by the bits that sum them up.
  summed_words : (k w : ℕ) → ((v : ℕ) → w ≤ v → v < w + k → clear s (sum_at g * 64 + v) ≡ every 64 (v * 64) (asked g s))
      → every k (sum_at g * 64 + w) (clear s) ≡ every (k * 64) (w * 64) (asked g s)
  summed_words zero w h = let none : 0 ≡ zero * 64 = omega arith in ap (λ (m : ℕ). every m (w * 64) (asked g s)) none
  summed_words (suc k) w h =
      let more : 64 + k * 64 ≡ suc k * 64 = omega arith in
      let next : suc (sum_at g * 64 + w) ≡ sum_at g * 64 + suc w = omega arith in
      let there : suc w * 64 ≡ w * 64 + 64 = omega arith in
      ap₂ (λ (x y : Bool). x && y) (h w (omega arith) (omega arith))
      (ap (λ (m : ℕ). every k m (clear s)) next ∙ summed_words k (suc w) (λ v a b. h v (omega arith) (omega arith))
      ∙ ap (λ (m : ℕ). every (k * 64) m (asked g s)) there)
      ∙ sym (every_split 64 (k * 64) (w * 64) (asked g s)) ∙ ap (λ (m : ℕ). every m (w * 64) (asked g s)) more

  -- In two parts.
  asked_split : (a m b : ℕ) → a ≤ m → m ≤ b → asked_in g s a b ≡ (asked_in g s a m && asked_in g s m b)
  asked_split a m b h k =
      let whole : b - a ≡ m - a + (b - m) = omega arith in
      let there : a + (m - a) ≡ m = omega arith in
      ap (λ (n : ℕ). every n a (asked g s)) whole ∙ every_split (m - a) (b - m) a (asked g s)
      ∙ ap (λ (l : ℕ). asked_in g s a m && every (b - m) l (asked g s)) there

  module _ (a b : ℕ) where
    -- All in one word.
    pub one_word : a < b → a / 64 ≡ (b - 1) / 64 → (w : ℕ) → Turned g (word s (a / 64)) w
        → clear_in w (a % 64) ((b - 1) % 64 + 1) ≡ asked_in g s a b
    one_word some e w t =
        let here : a / 64 * 64 + a % 64 ≡ a = omega arith in
        let end : a / 64 * 64 + ((b - 1) % 64 + 1) ≡ b = omega arith in
        asked_word (a / 64) (a % 64) ((b - 1) % 64 + 1) w (omega arith) (omega arith) t ∙ ap₂ (asked_in g s) here end

    -- In more than one: the first, those between, the last.
    module _ (h : a / 64 < (b - 1) / 64) where
      pub first_word : (w : ℕ) → Turned g (word s (a / 64)) w → clear_in w (a % 64) 64 ≡ asked_in g s a ((a / 64 + 1) * 64)
      first_word w t =
          let here : a / 64 * 64 + a % 64 ≡ a = omega arith in
          let end : a / 64 * 64 + 64 ≡ (a / 64 + 1) * 64 = omega arith in
          asked_word (a / 64) (a % 64) 64 w (omega arith) (omega arith) t ∙ ap₂ (asked_in g s) here end

      pub words_between : b ≤ 64 * state_words → Summed s b → (i : ℕ) → i ≡ sum_at g
          → clear_in (word s i) (a / 64 + 1) ((b - 1) / 64) ≡ asked_in g s ((a / 64 + 1) * 64) ((b - 1) / 64 * 64)
      unfolding state_words
      words_between few sum i e =
          let k = (b - 1) / 64 - (a / 64 + 1) in
          let many : k * 64 ≡ (b - 1) / 64 * 64 - (a / 64 + 1) * 64 = omega arith in
          ap (λ (m : ℕ). clear_in (word s m) (a / 64 + 1) ((b - 1) / 64)) e ∙ in_word not s (sum_at g) (a / 64 + 1) k (omega arith)
          ∙ summed_words k (a / 64 + 1) (λ v l r. sum g v (omega arith))
          ∙ ap (λ (n : ℕ). every n ((a / 64 + 1) * 64) (asked g s)) many

      pub last_word : (w : ℕ) → Turned g (word s ((b - 1) / 64)) w → clear_in w 0 ((b - 1) % 64 + 1) ≡ asked_in g s ((b - 1) / 64 * 64) b
      last_word w t =
          let here : (b - 1) / 64 * 64 + 0 ≡ (b - 1) / 64 * 64 = omega arith in
          let end : (b - 1) / 64 * 64 + ((b - 1) % 64 + 1) ≡ b = omega arith in
          asked_word ((b - 1) / 64) 0 ((b - 1) % 64 + 1) w (omega arith) (omega arith) t ∙ ap₂ (asked_in g s) here end

      -- One after the other, as code goes.
      module _ {first : Bool} (is : first ≡ asked_in g s a ((a / 64 + 1) * 64)) where
        past_first : (x : Bool) → first ≡ x → asked_in g s a b ≡ (x && asked_in g s ((a / 64 + 1) * 64) b)
        past_first x e =
            asked_split a ((a / 64 + 1) * 64) b (omega arith) (omega arith)
            ∙ ap (λ (y : Bool). y && asked_in g s ((a / 64 + 1) * 64) b) (sym is ∙ e)

        pub first_fails : first ≡ false → false ≡ asked_in g s a b
        first_fails e = sym (past_first false e)

        module _ (held : first ≡ true) {middle : Bool} (was : middle ≡ asked_in g s ((a / 64 + 1) * 64) ((b - 1) / 64 * 64)) where
          after_middle : (x : Bool) → middle ≡ x → asked_in g s a b ≡ (x && asked_in g s ((b - 1) / 64 * 64) b)
          after_middle x e =
              past_first true held ∙ asked_split ((a / 64 + 1) * 64) ((b - 1) / 64 * 64) b (omega arith) (omega arith)
              ∙ ap (λ (y : Bool). y && asked_in g s ((b - 1) / 64 * 64) b) (sym was ∙ e)

          pub middle_fails : middle ≡ false → false ≡ asked_in g s a b
          middle_fails e = sym (after_middle false e)

          pub last_decides : middle ≡ true → {last : Bool} → last ≡ asked_in g s ((b - 1) / 64 * 64) b → last ≡ asked_in g s a b
          last_decides e same = same ∙ sym (after_middle true e)

-- A step in the first words of sets is the step of the sets. Assumes nothing.
use mathlib.Core.Path.{◌≡◌, refl, sym, ap, subst, ◌∙◌}
use mathlib.Core.Bool.{Bool, true, ◌&&◌, and-true}
use mathlib.Core.List.Memᴰ.{head as here}
use mathlib.Core.List.{List, [], ◌∷◌, ◌++◌, append-nil}
use Prim.Native.Nat.{ℕ, ◌+◌, ◌-◌, ◌*◌, ◌/◌, ◌%◌, ◌^◌, ◌≤◌, ◌<◌}
use native.Mathlib.Decide.{dec_lt}
use native.Mathlib.Omega.{arith}
use lib.Bits.{bit_and, bit_or, bit_xor, and_zero_r, or_zero_r, xor_zero_r}
use lib.ListN.{length, get_or, set, replicate, length-append, length-replicate, get_or-replicate, replicate-append-replicate, get_or-append, get_or-eq_default}
use lib.Seq.{get_or-append-add, set-append_left}
use Rattle.rules.specs.State.{word_count, word, without, applies_word, applies, next_word, next, every, tabulate, step, no_propositions, insert, insert_all}
use Rattle.rules.proofs.Tables.{length_tabulate, get_D_tabulate_zero, tabulate_of, every_same, every_of, every_split}
use Rattle.rules.proofs.Members.{length_insert}
use Rattle.rules.proofs.Worded.{insert_all_lem}
use Rattle.rules.proofs.Judgement.Each.{Each, each_tail}
use Rattle.state.specs.Words.{widened, widened_action, Steps}

-- As many words as a state has are the state.
widened_full : (ws : List ℕ) → length ws ≡ word_count → widened ws ≡ ws
unfolding widened
widened_full ws e =
    let none : word_count - length ws ≡ 0 = omega arith in
    ap (λ (n : ℕ). ws ++ replicate n 0) none ∙ append-nil ws

past_zero : (ws : List ℕ) (k : ℕ) → length ws ≤ k → word ws k ≡ 0
past_zero ws k h = get_or-eq_default ws 0 h

zeros_past : (n i : ℕ) → word (replicate n 0) i ≡ 0
zeros_past n i = go (dec_lt i n)
  where
    go : Dec (i < n) → word (replicate n 0) i ≡ 0
    go (yes h) = get_or-replicate n i 0 0 h
    go (no h) = past_zero (replicate n 0) i (omega (arith, length-replicate {A = ℕ} n 0))

-- Each word is the one lent, and past those 0.
pub word_widened : (ws : List ℕ) (i : ℕ) → word (widened ws) i ≡ word ws i
unfolding widened
word_widened ws i = go (dec_lt i (length ws))
  where
    rest : List ℕ
    rest = replicate (word_count - length ws) 0

    go : Dec (i < length ws) → get_or (ws ++ rest) i 0 ≡ get_or ws i 0
    go (yes h) = get_or-append ws rest 0 i h
    go (no h) =
        let at : i ≡ length ws + (i - length ws) = omega arith in
        ap (λ (k : ℕ). get_or (ws ++ rest) k 0) at ∙ get_or-append-add ws rest (i - length ws) 0 ∙ zeros_past (word_count - length ws) (i - length ws)
        ∙ sym (past_zero ws i (omega arith))

-- Words past those lent ask for nothing.
applies_widened : (s needed forbidden added deleted : List ℕ) → length needed ≤ word_count → length forbidden ≡ length needed
    → applies s (widened_action needed forbidden added deleted) ≡ every (length needed) 0 (λ i. applies_word (word s i) (word needed i) (word forbidden i))
unfolding applies applies_word without
applies_widened s needed forbidden added deleted few f =
    every_same word_count 0 wide part (λ k _ _. λ j. applies_word (word s k) (word_widened needed k j) (word_widened forbidden k j))
    ∙ ap (λ (m : ℕ). every m 0 part) split ∙ every_split (length needed) (word_count - length needed) 0 part
    ∙ ap (λ (b : Bool). every (length needed) 0 part && b) (every_of (word_count - length needed) (0 + length needed) part (λ k l _. past k (omega arith)))
    ∙ and-true (every (length needed) 0 part)
  where
    part : ℕ → Bool
    part i = applies_word (word s i) (word needed i) (word forbidden i)

    wide : ℕ → Bool
    wide i = applies_word (word s i) (word (widened needed) i) (word (widened forbidden) i)

    split : word_count ≡ length needed + (word_count - length needed)
    split = omega arith

    past : (k : ℕ) → length needed ≤ k → part k ≡ true
    past k l = λ j. applies_word (word s k) (past_zero needed k l j) (past_zero forbidden k (omega arith) j)

-- And change nothing.
next_past : (w k : ℕ) (added deleted : List ℕ) → length added ≤ k → length deleted ≡ length added → w ≡ next_word w (word added k) (word deleted k)
unfolding next_word without
next_past w k added deleted l d =
    sym (or_zero_r (bit_xor w (bit_and w 0)) ∙ ap (bit_xor w) (and_zero_r w) ∙ xor_zero_r w)
    ∙ λ j. next_word w (sym (past_zero added k l) j) (sym (past_zero deleted k (omega arith)) j)

next_widened : (s needed forbidden added deleted t : List ℕ)
    → t ≡ tabulate word_count 0 (λ i. next_word (word s i) (word added i) (word deleted i)) → t ≡ next s (widened_action needed forbidden added deleted)
unfolding next
next_widened s needed forbidden added deleted t e =
    tabulate_of word_count wide t (ap length e ∙ length_tabulate word_count 0 part)
    (λ k h. ap (λ (l : List ℕ). word l k) e ∙ get_D_tabulate_zero word_count part k 0 h ∙ same k)
  where
    part : ℕ → ℕ
    part i = next_word (word s i) (word added i) (word deleted i)

    wide : ℕ → ℕ
    wide i = next_word (word s i) (word (widened added) i) (word (widened deleted) i)

    same : (k : ℕ) → part k ≡ wide k
    same k = λ j. next_word (word s k) (sym (word_widened added k) j) (sym (word_widened deleted k) j)

-- ---- A step in the first words of a state

module _ (s rest needed forbidden added deleted : List ℕ) (whole : length s + length rest ≡ word_count) where
  front_word : (k : ℕ) → k < length s → word (s ++ rest) k ≡ word s k
  front_word k h = get_or-append s rest 0 k h

  pub applies_front : length needed ≡ length s → length forbidden ≡ length s
      → applies (s ++ rest) (widened_action needed forbidden added deleted) ≡ every (length s) 0 (λ i. applies_word (word s i) (word needed i) (word forbidden i))
  applies_front n f =
      applies_widened (s ++ rest) needed forbidden added deleted (omega arith) (f ∙ sym n)
      ∙ ap (λ (m : ℕ). every m 0 (λ i. applies_word (word (s ++ rest) i) (word needed i) (word forbidden i))) n
      ∙ every_same (length s) 0 (λ i. applies_word (word (s ++ rest) i) (word needed i) (word forbidden i)) (λ i. applies_word (word s i) (word needed i) (word forbidden i))
      (λ k _ h. ap (λ (w : ℕ). applies_word w (word needed k) (word forbidden k)) (front_word k (omega arith)))

  pub next_front : length added ≡ length s → length deleted ≡ length s → (t : List ℕ)
      → t ≡ tabulate (length s) 0 (λ i. next_word (word s i) (word added i) (word deleted i))
      → t ++ rest ≡ next (s ++ rest) (widened_action needed forbidden added deleted)
  next_front a d t e =
      next_widened (s ++ rest) needed forbidden added deleted (t ++ rest)
      (tabulate_of word_count part (t ++ rest) (length-append t rest ∙ ap (λ (m : ℕ). m + length rest) size ∙ whole) (λ k h. go k (dec_lt k (length s))))
    where
      part : ℕ → ℕ
      part i = next_word (word (s ++ rest) i) (word added i) (word deleted i)

      own : ℕ → ℕ
      own i = next_word (word s i) (word added i) (word deleted i)

      size : length t ≡ length s
      size = ap length e ∙ length_tabulate (length s) 0 own

      go : (k : ℕ) → Dec (k < length s) → word (t ++ rest) k ≡ part k
      go k (yes h) =
          get_or-append t rest 0 k (omega (arith, size)) ∙ ap (λ (l : List ℕ). word l k) e ∙ get_D_tabulate_zero (length s) own k 0 h
          ∙ ap (λ (w : ℕ). next_word w (word added k) (word deleted k)) (sym (front_word k h))
      go k (no h) =
          let here : k ≡ length t + (k - length s) = omega (arith, size) in
          let there : k ≡ length s + (k - length s) = omega arith in
          ap (λ (m : ℕ). word (t ++ rest) m) here ∙ get_or-append-add t rest (k - length s) 0
          ∙ sym (ap (λ (m : ℕ). word (s ++ rest) m) there ∙ get_or-append-add s rest (k - length s) 0)
          ∙ next_past (word (s ++ rest) k) k added deleted (omega arith) (d ∙ sym a)

-- In as many words as a state has it is the step.
pub steps_full : (s needed forbidden added deleted : List ℕ) (ok : Bool) (t : List ℕ) → length s ≡ word_count → length needed ≡ word_count
    → length forbidden ≡ word_count → length added ≡ word_count → length deleted ≡ word_count → Steps s (widened_action needed forbidden added deleted) ok t
    → (ok, t) ≡ step s (record { needed = needed; forbidden = forbidden; added = added; deleted = deleted })
steps_full s needed forbidden added deleted ok t es en ef ea ed steps =
    ap (λ (l : List ℕ). (ok, l)) (sym (append-nil t)) ∙ steps [] (omega arith)
    ∙ λ j. step (append-nil s j) (record {
      needed = widened_full needed en j;
      forbidden = widened_full forbidden ef j;
      added = widened_full added ea j;
      deleted = widened_full deleted ed j;
    })

-- ---- Propositions in the first words

insert_front : (s t : List ℕ) (p : ℕ) → p / 64 < length s → insert (s ++ t) p ≡ insert s p ++ t
unfolding insert
insert_front s t p h =
    ap (λ (w : ℕ). set (s ++ t) (p / 64) (bit_or w (2 ^ (p % 64)))) (get_or-append s t 0 (p / 64) h)
    ∙ set-append_left s t (p / 64) (bit_or (word s (p / 64)) (2 ^ (p % 64))) h

all_front : (s t ps : List ℕ) → Each (λ p. p < 64 * length s) ps → insert_all (s ++ t) ps ≡ insert_all s ps ++ t
all_front s t [] f = refl
all_front s t (p ∷ ps) f =
    let small : p < 64 * length s = f p (here refl) in
    let rest = each_tail (λ q. q < 64 * length s) p ps f in
    ap (λ (x : List ℕ). insert_all x ps) (insert_front s t p (omega arith))
    ∙ all_front (insert s p) t ps (subst (λ (n : ℕ). Each (λ q. q < 64 * n) ps) (sym (length_insert s p)) rest)

no_words : no_propositions ≡ replicate word_count 0
unfolding no_propositions
no_words = sym (tabulate_of word_count (λ i. 0) (replicate word_count 0) (length-replicate {A = ℕ} word_count 0) (λ k h. get_or-replicate word_count k 0 0 h))

-- A set of propositions that lie in n words, put into n words.
pub widened_all : (n : ℕ) (ps : List ℕ) → n ≤ word_count → Each (λ p. p < 64 * n) ps → widened (insert_all (replicate n 0) ps) ≡ insert_all no_propositions ps
unfolding widened
widened_all n ps few f =
    let size : length (insert_all (replicate n 0) ps) ≡ n = insert_all_lem (replicate n 0) ps ∙ length-replicate {A = ℕ} n 0 in
    let split : n + (word_count - n) ≡ word_count = omega arith in
    ap (λ (m : ℕ). insert_all (replicate n 0) ps ++ replicate (word_count - m) 0) size
    ∙ sym (all_front (replicate n 0) (replicate (word_count - n) 0) ps (subst (λ (m : ℕ). Each (λ p. p < 64 * m) ps) (sym (length-replicate {A = ℕ} n 0)) f))
    ∙ ap (λ (s : List ℕ). insert_all s ps)
    (replicate-append-replicate n (word_count - n) 0 ∙ ap (λ (m : ℕ). replicate {A = ℕ} m 0) split ∙ sym no_words)

-- The members of a set, lowest first: they are the set's bits; trailing zeros count up to the lowest, and the set without that bit has
-- the rest. Assumes nothing.
use mathlib.Core.Path.{◌≡◌, refl, sym, ap, ap₂, ◌∙◌, subst}
use mathlib.Core.Logic.{◌≢◌, ◌↔◌}
use mathlib.Core.Bool.{Bool, true, false, xor, true≢false}
use mathlib.Core.List.Memᴰ
use mathlib.Core.List.{List, [], ◌∷◌, map, head_d, tail, Memᴰ}
use Prim.Native.Nat.{ℕ, suc, ◌+◌, ◌/◌, ◌%◌, ◌^◌, ◌≤◌, ◌<◌}
use native.Mathlib.Nat.{div-one, lt_of_lt_of_le, zero-add}
use native.Mathlib.Numerals.{add-one}
use native.Mathlib.Decide.{dec_lt}
use native.Mathlib.Omega.{arith}
use lib.Arith.{lt-one}
use lib.Bits.{bit_xor}
use lib.Count.{ones, ones_step, count_trailing_zeros, under}
use lib.ListN.{length, get_or}
use lib.Pow.{pow_mono, shr-shr, shr_lt}
use borrow.Author.Tests.{eq-eqb, ne_eqb, eqb-true, eqb-false}
use Rattle.rules.specs.State.{bit}
use Rattle.rules.specs.Index.{Span, pick}
use Rattle.rules.proofs.Bits.{bit_xor_lem, bit_above, bit_zero, bit_pow, no_bits}
use Rattle.subsets.specs.Members.{chosen, members_of}
use Rattle.subsets.proofs.Chosen.{chosen_ind, chosen_has, has_chosen, chosen_none, chosen_longer, chosen_rest, head_tail, pick_chosen}

-- ---- which they are

-- A set bit is below any bound of the number.
bit_below : (u n j : ℕ) → u < 2 ^ n → bit u j ≡ true → j < n
bit_below u n j h b = go (dec_lt j n)
  where
    go : Dec (j < n) → j < n
    go (yes l) = l
    go (no l) = absurd (true≢false (sym b ∙ bit_above u j (lt_of_lt_of_le h (pow_mono (omega arith)))))

-- j is a member exactly if bit j is set.
pub members_are : (u j : ℕ) → u < 2 ^ 32 → Memᴰ j (members_of u) ↔ (bit u j ≡ true)
unfolding members_of
members_are u j h =
    (λ m. (chosen_has (bit u) 32 0 j m).2, λ b. has_chosen (bit u) 32 0 j (omega arith, let l = bit_below u 32 j h b in omega arith, b))

-- Every member of a set of n subtasks is one of them.
pub members_below : (u n j : ℕ) → u < 2 ^ n → Memᴰ j (members_of u) → j < n
unfolding members_of
members_below u n j h m = bit_below u n j h (chosen_has (bit u) 32 0 j m).2

pub members_zero : members_of 0 ≡ []
unfolding members_of
members_zero = chosen_none (bit 0) 32 0 (λ k l. bit_zero k)

-- A set with no member is 0.
pub no_members : (u : ℕ) → u < 2 ^ 32 → members_of u ≡ [] → u ≡ 0
no_members u h e = no_bits 32 u h (λ i l. off (bit u i) (λ b. (members_are u i h).1 b))
  where
    off : {i : ℕ} (b : Bool) → (b ≡ true → Memᴰ i (members_of u)) → b ≡ false
    off {i} true m = absurd (Memᴰ.not-nil (subst (λ (l : List ℕ). Memᴰ i l) e (m refl)))
    off false m = refl

-- ---- the lowest member, and the others

half_power : (u j : ℕ) → u / 2 ^ j / 2 ≡ u / 2 ^ suc j
half_power u j = shr-shr u j 1 ∙ ap (λ (n : ℕ). u / 2 ^ n) (add-one j)

digit_set : (u j : ℕ) → bit u j ≡ true → u / 2 ^ j % 2 ≡ 1
unfolding bit
digit_set u j b = eqb-true (u / 2 ^ j % 2) 1 b

digit_clear : (u j : ℕ) → bit u j ≡ false → u / 2 ^ j % 2 ≡ 0
unfolding bit
digit_clear u j b = let n : u / 2 ^ j % 2 ≡ 1 → ⊥ = eqb-false (u / 2 ^ j % 2) 1 b in omega arith

zeros_set : (k w : ℕ) → w % 2 ≡ 1 → count_trailing_zeros (suc k) w ≡ 0
unfolding count_trailing_zeros
zeros_set k w e = ap (λ (d : ℕ). under d (count_trailing_zeros k (w / 2))) e

zeros_clear : (k w : ℕ) → w % 2 ≡ 0 → count_trailing_zeros (suc k) w ≡ suc (count_trailing_zeros k (w / 2))
unfolding count_trailing_zeros
zeros_clear k w e = ap (λ (d : ℕ). under d (count_trailing_zeros k (w / 2))) e

lowest_from : (u n j d : ℕ) → d ≡ j + n → head_d (chosen (bit u) n j) d ≡ j + count_trailing_zeros n (u / 2 ^ j)
unfolding head_d count_trailing_zeros
lowest_from u n j d =
    chosen_ind (bit u) (λ n j l. d ≡ j + n → head_d l d ≡ j + count_trailing_zeros n (u / 2 ^ j)) (λ j e. e)
    (λ n j b on e. omega (arith, zeros_set n (u / 2 ^ j) (digit_set u j b)))
    (λ n j b on e.
    omega (arith, on (omega arith), zeros_clear n (u / 2 ^ j) (digit_clear u j b), ap (count_trailing_zeros n) (half_power u j)))
    n j

-- The lowest member: 32 if there is none.
pub lowest_is : (u : ℕ) → head_d (members_of u) 32 ≡ count_trailing_zeros 32 u
unfolding members_of
lowest_is u = lowest_from u 32 0 32 refl ∙ zero-add (count_trailing_zeros 32 (u / 1)) ∙ ap (count_trailing_zeros 32) (div-one u)

-- A set that is not 0 is its lowest member and the others.
pub members_cons : (u : ℕ) → u ≢ 0 → u < 2 ^ 32 → members_of u ≡ head_d (members_of u) 32 ∷ tail (members_of u)
members_cons u n h = head_tail (members_of u) 32 (λ e. n (no_members u h e))

pub lowest_in : (u : ℕ) → u ≢ 0 → u < 2 ^ 32 → Memᴰ (head_d (members_of u) 32) (members_of u)
lowest_in u n h =
    subst (λ (l : List ℕ). Memᴰ (head_d (members_of u) 32) l) (sym (members_cons u n h)) (Memᴰ.head refl)

-- The lowest member of a set of n subtasks is one of them.
pub lowest_below : (u n : ℕ) → u ≢ 0 → u < 2 ^ n → n ≤ 32 → head_d (members_of u) 32 < n
lowest_below u n e h l = members_below u n (head_d (members_of u) 32) h (lowest_in u e (lt_of_lt_of_le h (pow_mono l)))

xor_false : (b : Bool) → xor b false ≡ b
unfolding xor
xor_false true = refl
xor_false false = refl

xor_true : xor true true ≡ false
unfolding xor
xor_true = refl

-- A set without the bit of its lowest member has the others.
pub members_others : (u : ℕ) → u ≢ 0 → u < 2 ^ 32 → members_of (bit_xor u (2 ^ head_d (members_of u) 32)) ≡ tail (members_of u)
unfolding members_of
members_others u n h =
    let t : ℕ = head_d (members_of u) 32 in
    chosen_rest (bit u) (bit (bit_xor u (2 ^ t))) 32 32 0
    (λ k q. sym (bit_xor_lem u (2 ^ t) k ∙ ap (xor (bit u k)) (bit_pow t k ∙ ne_eqb t k (λ r. q (sym r))) ∙ xor_false (bit u k)))
    (bit_xor_lem u (2 ^ t) t ∙ ap₂ xor ((members_are u t h).0 (lowest_in u n h)) (bit_pow t t ∙ eq-eqb t t refl) ∙ xor_true)

-- ---- how many there are

size_from : (u n j : ℕ) → u / 2 ^ j < 2 ^ n → length (chosen (bit u) n j) ≡ ones (u / 2 ^ j)
unfolding ones
size_from u =
    chosen_ind (bit u) (λ n j l. u / 2 ^ j < 2 ^ n → length l ≡ ones (u / 2 ^ j)) (λ j h. sym (ap ones (lt-one h)))
    (λ n j b on h. omega (arith, on (next n j h), digit_set u j b, ones_step (u / 2 ^ j), ap ones (half_power u j)))
    (λ n j b on h. omega (arith, on (next n j h), digit_clear u j b, ones_step (u / 2 ^ j), ap ones (half_power u j)))
  where
    next : (n j : ℕ) → u / 2 ^ j < 2 ^ suc n → u / 2 ^ suc j < 2 ^ n
    next n j h =
        subst (λ (x : ℕ). x < 2 ^ n) (half_power u j) (shr_lt n 1 (subst (λ (k : ℕ). u / 2 ^ j < 2 ^ k) (sym (add-one n)) h))

pub size_is : (u : ℕ) → u < 2 ^ 32 → length (members_of u) ≡ ones u
unfolding members_of
size_is u h = size_from u 32 0 (subst (λ (x : ℕ). x < 2 ^ 32) (sym (div-one u)) h) ∙ ap ones (div-one u)

-- ---- the spans of a set

-- Of a task's subtasks, `pick` takes those at the members.
pub pick_members : (u : ℕ) (subs : List Span) (d : Span) → u < 2 ^ length subs → length subs ≤ 32
    → pick (bit u) 0 subs ≡ map (λ j. get_or subs j d) (members_of u)
unfolding members_of
pick_members u subs d h l =
    pick_chosen (bit u) (λ j. get_or subs j d) d 0 subs (λ i b. ap (λ (k : ℕ). get_or subs k d) (zero-add i))
    ∙ ap (map (λ (j : ℕ). get_or subs j d)) (chosen_longer (bit u) (length subs) 32 0 l (λ k b.
    bit_above u k (lt_of_lt_of_le h (pow_mono (omega arith)))))

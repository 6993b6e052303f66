-- What the table asks of ids as keys, and that ids which are not in it yet may change. Assumes nothing.
use mathlib.Core.Path.{◌≡◌, refl, sym, ap}
use mathlib.Core.List.{List}
use Prim.Native.Nat.{ℕ, ◌≤◌, ◌<◌}
use native.Mathlib.Omega.{arith}
use borrow.Author.Tests.{eq-eqb, eqb-true}
use lib.Dec.{eqb}
use lib.ListN.{length, get_or, set}
use lib.Seq.{get_or-set_other}
use Rattle.probing.specs.declared.Walk.{Walk}
use Rattle.probing.specs.Probing.{walk, Kept}
use Rattle.probing.proofs.Tables.{Puts, puts, kept_agree}
use Rattle.ids.specs.Ids.{same_id, hash_id}

hash_within : (k m : ℕ) → m ≡ 8192 → hash_id k < m
unfolding hash_id
hash_within k m e = omega arith

-- The entry n has its own id and no other.
pub id_puts : (ids slots : List ℕ) (n : ℕ) → length slots ≡ 8192 → Kept (same_id ids) hash_id slots n
    → (end : Walk) → end ≡ walk (same_id ids (get_or ids n 0)) slots (hash_id (get_or ids n 0)) → Puts (same_id ids) hash_id slots n (get_or ids n 0) end
id_puts ids slots n size kept =
    puts (same_id ids) hash_id slots n (get_or ids n 0) kept (λ k e. sym (eqb-true (get_or ids n 0) k e)) (eq-eqb (get_or ids n 0) (get_or ids n 0) refl)
    (hash_within (get_or ids n 0) (length slots) size)

-- The table stays right for another list that has the same first n ids.
pub kept_same : (ids other slots : List ℕ) (n : ℕ) → ((e : ℕ) → e < n → get_or other e 0 ≡ get_or ids e 0) → Kept (same_id ids) hash_id slots n → Kept (same_id other) hash_id slots n
kept_same ids other slots n agree kept = kept_agree (same_id ids) (same_id other) hash_id slots n (λ k e h. ap (λ (i : ℕ). eqb i k) (sym (agree e h))) kept

-- So it does when an id is stored that is not in the table yet.
pub kept_set : (ids slots : List ℕ) (n i v : ℕ) → n ≤ i → Kept (same_id ids) hash_id slots n → Kept (same_id (set ids i v)) hash_id slots n
kept_set ids slots n i v h kept = kept_same ids (set ids i v) slots n (λ e k. get_or-set_other ids i e v 0 (λ s. omega arith)) kept

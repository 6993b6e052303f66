-- The state list, number by number. Assumes nothing.
use mathlib.Core.Path.{◌≡◌, refl, ap, ◌∙◌}
use mathlib.Core.List.Memᴰ.{head as here}
use mathlib.Core.List.{List, [], ◌∷◌, ◌++◌, flatten, append_assoc}
use Prim.Native.Nat.{ℕ, zero, suc, ◌+◌, ◌*◌, ◌/◌, ◌%◌, ◌<◌}
use native.Mathlib.Nat.{not-suc-le-zero}
use native.Mathlib.Omega.{arith}
use lib.ListN.{length, get_or, get_or-append}
use lib.Seq.{get_or-append-add}
use Rattle.rules.specs.State.{State, word_count, word, bit, member, no_propositions, state_at}
use Rattle.rules.specs.Result.{found}
use Rattle.rules.specs.Case.{Case, read_case}
use Rattle.rules.specs.Verdict.{states_of, filled, states_after, Laid}
use Rattle.rules.proofs.Worded.{Worded, states_worded}
use Rattle.rules.proofs.Judgement.Each.{Each, each_tail}
use Rattle.rules.proofs.Judgement.Sound.{sound, initial_worded}

-- Word j of state i, among the words of all.
word_at : (ss : List State) (rest : List ℕ) (i j : ℕ) → Each Worded ss → i < length ss → j < word_count
    → get_or (flatten ss ++ rest) (word_count * i + j) 0 ≡ word (get_or ss i no_propositions) j
unfolding flatten
word_at [] rest i j f h b = absurd (not-suc-le-zero h)
word_at (s ∷ ss) rest zero j f h b =
    let one : length s ≡ word_count = f s (here refl) in
    let at : word_count * zero + j ≡ j = omega arith in
    ap (λ (n : ℕ). get_or ((s ++ flatten ss) ++ rest) n 0) at ∙ ap (λ (l : List ℕ). get_or l j 0) (append_assoc s (flatten ss) rest)
    ∙ get_or-append s (flatten ss ++ rest) 0 j (omega arith)
word_at (s ∷ ss) rest (suc i) j f h b =
    let one : length s ≡ word_count = f s (here refl) in
    let at : word_count * suc i + j ≡ length s + (word_count * i + j) = omega arith in
    ap (λ (n : ℕ). get_or ((s ++ flatten ss) ++ rest) n 0) at ∙ ap (λ (l : List ℕ). get_or l (length s + (word_count * i + j)) 0) (append_assoc s (flatten ss) rest)
    ∙ get_or-append-add s (flatten ss ++ rest) (word_count * i + j) 0 ∙ word_at ss rest i j (each_tail Worded s ss f) (omega arith) b

-- The states of a case that is read, as the lent list holds them.
pub states_laid : {A : Type 0} (size : ℕ) (text : List ℕ) (k : Case) (a : A) → read_case text ≡ found k → Laid (states_of k) (states_after size (found (k, a)))
unfolding states_after filled member state_at states_of
states_laid size text k a e i p h b =
    ap (λ (w : ℕ). bit w (p % 64))
    (word_at (states_of k) _ i (p / 64) (states_worded k.actions k.plan k.initial (initial_worded k (sound text k e))) h (omega arith))

-- The states of a case lie in the state list one after the other, each in its own stretch of words: by induction on the states.
-- Assumes nothing.
use mathlib.Core.Path.{◌≡◌, refl, ap, ◌∙◌}
use mathlib.Core.List.{List, [], ◌∷◌, ◌++◌, flatten, append_assoc}
use mathlib.Core.List.Memᴰ.{head as here}
use Prim.Native.Nat.{ℕ, zero, suc, ◌+◌, ◌-◌, ◌*◌, ◌≤◌, ◌<◌}
use native.Mathlib.Omega.{arith}
use lib.ListN.{length, take, drop, replicate, length-append, length-replicate}
use lib.Seq.{take_at, drop-append-add}
use Rattle.rules.specs.State.{State, word_count, member, state_at}
use Rattle.rules.specs.Case.{Case}
use Rattle.rules.specs.declared.Sign.{Sign}
use Rattle.rules.specs.Constraint.{signed, holds_in}
use Rattle.rules.specs.Verdict.{states_of, filled}
use Rattle.rules.proofs.Statements.{states_length}
use Rattle.rules.proofs.Worded.{Worded, states_worded}
use Rattle.rules.specs.Refusals.{Each}
use Rattle.rules.proofs.Judgement.Each.{each_tail}
use Rattle.rows.specs.Rows.{row_at, stretch_at, in_row}

row_flat : (ss : List State) (rest : List ℕ) (l : ℕ) → Each Worded ss → l < length ss → row_at (flatten ss ++ rest) l ≡ state_at ss l
unfolding row_at stretch_at state_at flatten
row_flat [] rest l f h = absurd (omega arith)
row_flat (s ∷ ss) rest zero f h =
    let none : word_count * zero ≡ 0 = omega arith in
    ap (λ (n : ℕ). take word_count (drop n ((s ++ flatten ss) ++ rest))) none
    ∙ ap (take word_count) (append_assoc s (flatten ss) rest) ∙ take_at s (flatten ss ++ rest) word_count (f s (here refl))
row_flat (s ∷ ss) rest (suc l) f h =
    let one : length s ≡ word_count = f s (here refl) in
    let more : word_count * suc l ≡ length s + word_count * l = steps l one in
    ap (λ (n : ℕ). take word_count (drop n ((s ++ flatten ss) ++ rest))) more
    ∙ ap (λ (x : List ℕ). take word_count (drop (length s + word_count * l) x)) (append_assoc s (flatten ss) rest)
    ∙ ap (take word_count) (drop-append-add s (flatten ss ++ rest) (word_count * l)) ∙ row_flat ss rest l (each_tail Worded s ss f) (omega arith)
  where
    steps : (l : ℕ) → length s ≡ word_count → word_count * suc l ≡ length s + word_count * l
    steps l e = omega arith

-- State l of a case is the stretch of that number in what a run leaves in the state list.
pub states_hold : (k : Case) (size : ℕ) (s : Sign) (p l : ℕ) → Worded k.initial → l ≤ length k.plan
    → in_row (filled size 0 (flatten (states_of k))) s p l ≡ holds_in (states_of k) s p l
unfolding in_row filled holds_in states_of
states_hold k size s p l w h =
    ap (λ (x : State). signed s (member x p))
    (row_flat (states_of k) (replicate (size - length (flatten (states_of k))) 0) l (states_worded k.actions k.plan k.initial w)
    (omega (arith, states_length k.actions k.plan k.initial)))

pub filled_size : (size : ℕ) (l : List ℕ) → size ≤ length (filled size 0 l)
unfolding filled
filled_size size l = omega (arith, length-append l (replicate (size - length l) 0), length-replicate {A = ℕ} (size - length l) 0)

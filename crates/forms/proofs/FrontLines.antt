-- A line up to the root line, by what it says: what reading from it on gives. Assumes nothing.
use mathlib.Core.Path.{◌≡◌, ap, ◌∙◌}
use mathlib.Core.List.{List}
use Prim.Native.Nat.{ℕ, zero, suc, ◌+◌, ◌≤◌}
use native.Mathlib.Omega.{arith}
use Rattle.rules.specs.declared.Answer.{Answer}
use Rattle.rules.specs.declared.Answer.TheVariants.{WrongShape}
use Rattle.rules.specs.Result.{Result, found, refused, ◌>>=◌}
use Rattle.rules.specs.Case.{Case, Read}
use Rattle.rules.specs.Naming.{Names}
use Rattle.rules.specs.Form.{Front, an_action, the_root, cue_line, Fronts, root_only, with_cue, action_named, front_line, on_front, front_lines}

module _ (k : Case) (ns : Names) (text : List ℕ) (i n at : ℕ) where
  -- What reading goes on to, with so many lines left.
  abbrev goes_on : ℕ → Read Front → Result Fronts
  goes_on zero r = r >>= λ (front, n', place'). on_front front (λ id name. refused (WrongShape n 0)) (λ id. found (root_only id zero n' place'))
  goes_on (suc left) r =
      r >>= λ (front, n', place').
      on_front front
      (λ id name. action_named k ns n name >>= λ a. with_cue (cue_line n id a i) (front_lines k ns text left (suc i) n' place'))
      (λ id. found (root_only id (suc left) n' place'))

  pub front_other : (left : ℕ) → front_line text n at ≡ refused (WrongShape n 0) → front_lines k ns text left i n at ≡ refused (WrongShape n 0)
  front_other zero h = ap (goes_on zero) h
  front_other (suc left) h = ap (goes_on (suc left)) h

  pub front_root : (left id next : ℕ) → front_line text n at ≡ found (the_root id, n + 1, next)
      → front_lines k ns text left i n at ≡ found (root_only id left (n + 1) next)
  front_root zero id next h = ap (goes_on zero) h
  front_root (suc left) id next h = ap (goes_on (suc left)) h

  module _ (id next : ℕ) (name : List ℕ) (h : front_line text n at ≡ found (an_action id name, n + 1, next)) where
    -- "the 3,001st action or compound line, counted together" is surplus.
    pub front_surplus : (left : ℕ) → left ≡ 0 → front_lines k ns text left i n at ≡ refused (WrongShape n 0)
    front_surplus zero e = ap (goes_on zero) h
    front_surplus (suc left) e = absurd (omega arith)

    pub front_unnamed : (left : ℕ) (a : Answer) → 1 ≤ left → action_named k ns n name ≡ refused a → front_lines k ns text left i n at ≡ refused a
    front_unnamed zero a l e = absurd (omega arith)
    front_unnamed (suc left) a l e =
        ap (goes_on (suc left)) h ∙ ap (λ (r : Result ℕ). r >>= λ a. with_cue (cue_line n id a i) (front_lines k ns text left (suc i) (n + 1) next)) e

    pub front_taken : (left a : ℕ) → action_named k ns n name ≡ found a
        → front_lines k ns text (suc left) i n at ≡ with_cue (cue_line n id a i) (front_lines k ns text left (suc i) (n + 1) next)
    front_taken left a e =
        ap (goes_on (suc left)) h ∙ ap (λ (r : Result ℕ). r >>= λ a. with_cue (cue_line n id a i) (front_lines k ns text left (suc i) (n + 1) next)) e

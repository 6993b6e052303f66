-- What the constraints of a case say of every choice of gaps (02, Card 4): a part of a task as its least cue, its greatest cue and the positions
-- of its empty tasks; and what it is that a broken constraint makes a choice fail. Assumes nothing.
use Rattle.std.specs.Prelude.{◌≡◌, Bool, true, false, ◌↔◌, ℕ, ◌≤◌, get_or}
use mathlib.Core.List.{List, Memᴰ as Mem}
use Rattle.rules.specs.State.{bit}
use Rattle.rules.specs.Index.{Span, of_gap}
use Rattle.rules.specs.Case.{Constraint, Case}
use Rattle.rules.specs.Tree.{Tree, preorder}
use Rattle.rules.specs.Constraint.{holds_in, keeps, constraints_of, parts_of}
use Rattle.rules.specs.Verdict.{states_of}
use Rattle.rules.specs.Gaps.{Choice, ChoiceOf}
use Rattle.rules.proofs.Gaps.Trees.{regapped}
use Rattle.entering.specs.declared.sums.Part.{Part}

-- A choice fails where one constraint of one node is broken with its gaps.
abbrev pub BreaksFail : Case → Tree → (List ℕ → Bool) → Type 0
BreaksFail k t passing =
    (gs : List ℕ) → ChoiceOf k gs → (x : Tree) → Mem x (preorder (regapped gs 0 t)) → (d : Constraint) → Mem d (constraints_of k x)
    → keeps (holds_in (states_of k)) (parts_of x) d ≡ false → passing gs ≡ false

-- A part tells the span that it has with every choice: where it starts, at z or later exactly if its least cue does and each of its gaps does;
-- where it ends, likewise.
pub record Tells (k e : ℕ) (at : List ℕ → Span) (p : Part) : Type 0 where
  pub starts : (gs : List ℕ) → Choice k e gs → (z : ℕ)
      → (z ≤ (at gs).start) ↔ ((z ≤ p.low) × ((s : ℕ) → bit p.set s ≡ true → z ≤ of_gap (get_or gs s 0)))
  pub ends : (gs : List ℕ) → Choice k e gs → (z : ℕ)
      → ((at gs).end ≤ z) ↔ ((p.high ≤ z) × ((s : ℕ) → bit p.set s ≡ true → of_gap (get_or gs s 0) ≤ z))

-- What makes the check refuse the text with the gaps of a choice, of a case that passes rows 1 to 9: a broken constraint, or its length. Assumes
-- nothing.
use mathlib.Core.Path.{◌≡◌, refl, sym, ◌∙◌}
use mathlib.Core.List.{List, []}
use Prim.Native.Nat.{ℕ}
use Rattle.rules.specs.Case.{Case}
use Rattle.rules.specs.Gaps.{empty_count, text_with}
use Rattle.rules.proofs.Gaps.Fails.{breaks_fails, long_fails}
use Rattle.entering.specs.Entering.{BreaksFail}
use Rattle.seeking.specs.Seeking.{LongFails}
use Rattle.judge.specs.declared.Opened.{Opened}
use Rattle.judge.specs.Phases.{Claimed}
use Rattle.finder.specs.Finding.{passing, SpareOf}
use Rattle.finder.proofs.Rows.{checks_rows}
use Rattle.finder.proofs.First.{not_found}

module _ {k : Case} {fields : List ℕ} {o : Opened} {states work : List ℕ} (c : Claimed k fields o states work) where
  pub breaks_fail : BreaksFail k c.walked.tree (passing k)
  breaks_fail gs h x m d i broken =
      let w = c.walked in
      let read = w.opens.read in
      not_found _
      (λ y e. breaks_fails [] read.text k w.tree w.claimed gs read.reads w.walks h x m d i broken y (checks_rows [] refl (text_with gs k) ∙ e))

pub long_fail : (k : Case) (e spare : ℕ) → empty_count k.nodes ≡ e → SpareOf k spare → LongFails (passing k) k.head.cues e spare
long_fail k e spare n s gs h l =
    not_found _ (λ y q. long_fails [] k gs (s gs (h.0 ∙ sym n, h.1) l) y (checks_rows [] refl (text_with gs k) ∙ q))

-- One law for each step of a search: the choices passed over fail, whatever the condition is. Assumes nothing.
use mathlib.Core.Path.{◌≡◌, refl, sym, ap, subst, ◌∙◌}
use mathlib.Core.Bool.{Bool}
use mathlib.Core.List.{List, [], ◌++◌, append-nil, append_assoc}
use Prim.Native.Nat.{ℕ, ◌<◌}
use native.Mathlib.Omega.{arith}
use lib.ListN.{length, length-append}
use Rattle.rules.specs.Gaps.{Within}
use Rattle.choices.specs.Searching.{Next, next, over, next_of, on_from, Blames, AllFail, Skips}
use Rattle.choices.proofs.Order.{same, on_next, parts, Sized, sized, Kept, kept}
use Rattle.choices.proofs.Agreeing.{blamed, fails_append}
use Rattle.choices.proofs.Count.{same_some}

parts_as : (k b : ℕ) (c : List ℕ) (x : Next) → next_of k b c ≡ x → on_from k c ≡ same k b c ++ on_next k x
parts_as k b c x e = parts k b c ∙ ap (λ (y : Next). same k b c ++ on_next k y) e

-- A next choice leaves fewer from it on.
pub shorter : (k b : ℕ) (c d : List ℕ) → next_of k b c ≡ next d → length (on_from k d) < length (on_from k c)
shorter k b c d e =
    omega (arith, ap length (parts_as k b c (next d) e), length-append (same k b c) (on_from k d), same_some k b c)

module _ (passing : List ℕ → Bool) (k : ℕ) where
  pub skips_self : (c : List ℕ) → Within k c → Skips passing k c c
  skips_self c w = record { skipped = []; split = refl; fail = tt; same_length = refl; within = w }

  -- If the first b gaps are to blame, on to the next choice that differs there.
  pub next_skips : (b : ℕ) (c d : List ℕ) → Within k c → Blames passing k c b → next_of k b c ≡ next d → Skips passing k c d
  next_skips b c d w t e = record {
    skipped = same k b c;
    split = parts_as k b c (next d) e;
    fail = blamed passing k b c w t;
    same_length = subst (Sized (length c)) e (sized k b c);
    within = subst (Kept k) e (kept k b c w);
  }

  -- And where there is none, all from c on fail.
  pub over_fails : (b : ℕ) (c : List ℕ) → Within k c → Blames passing k c b → next_of k b c ≡ over → AllFail passing (on_from k c)
  over_fails b c w t e = subst (AllFail passing) (sym (parts_as k b c over e ∙ append-nil (same k b c))) (blamed passing k b c w t)

  pub skips_on : (c d f : List ℕ) → Skips passing k c d → Skips passing k d f → Skips passing k c f
  skips_on c d f x y = record {
    skipped = x.skipped ++ y.skipped;
    split =
        x.split
        ∙ ap (λ (l : List (List ℕ)). x.skipped ++ l) y.split
        ∙ sym (append_assoc x.skipped y.skipped (on_from k f));
    fail = fails_append passing x.skipped y.skipped x.fail y.fail;
    same_length = y.same_length ∙ x.same_length;
    within = y.within;
  }

  pub fails_on : (c d : List ℕ) → Skips passing k c d → AllFail passing (on_from k d) → AllFail passing (on_from k c)
  fails_on c d x h = subst (AllFail passing) (sym x.split) (fails_append passing x.skipped (on_from k d) x.fail h)

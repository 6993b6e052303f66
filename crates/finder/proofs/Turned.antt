-- A turn that failed, and the choices skipped after it. Assumes nothing.
use mathlib.Core.Path.{◌≡◌, sym, ap, ◌∙◌, subst}
use mathlib.Core.Bool.{Bool}
use mathlib.Core.List.{List}
use Prim.Native.Nat.{ℕ, ◌-◌, ◌^◌, ◌≤◌, ◌<◌}
use native.Mathlib.Omega.{arith}
use lib.ListN.{length}
use Rattle.std.specs.Prelude.{Option, IsSome, IsNone}
use Rattle.rules.specs.declared.Header.{Header}
use Rattle.rules.specs.Case.{Case}
use Rattle.rules.specs.Gaps.{empty_count, power, Within, ChoiceOf, choice_count, choice_most}
use Rattle.choices.specs.Searching.{place, on_from, AllFail}
use Rattle.choices.specs.Reasons.{Reason, Known}
use Rattle.choices.proofs.Count.{place_below}
use Rattle.choices.proofs.Skipping.{fails_on}
use Rattle.seeking.specs.Seeking.{GoesOn, Skipped, Nearer}
use Rattle.judge.specs.declared.Opened.{Opened}
use Rattle.finder.specs.declared.Attempt.TheVariants.{Failed, Over}
use Rattle.finder.specs.Finding.{passing, TurnsOut}
use Rattle.finder.proofs.Prints.{few_cues}
use Rattle.finder.proofs.Counts.{all_reason}
use Rattle.finder.proofs.Turns.{claimed_printable, Going, goes_on_lem, goes_fewer, skipped_none, skipped_some, nearer_some}

module _ {k : Case} {first text fields : List ℕ} {at : Opened} {states work choice why : List ℕ} (g : Going k first text fields at states work choice why)
    (h : ChoiceOf k first) where
  pub going_choice : ChoiceOf k choice
  going_choice = (g.goes.skips.same_length ∙ h.0, g.goes.skips.within)

  pub going_head : at.header ≡ k.head
  going_head = g.passes.claimed.walked.opens.head

  pub going_few : at.header.cues ≤ 1000
  going_few = few_cues (claimed_printable g.passes.claimed)

  -- A choice that is gone on to: its place, by the header's cues.
  module _ (d why' : List ℕ) (on : GoesOn (passing k) k.head.cues choice d why') where
    pub next_within : Within at.header.cues d
    next_within = subst (λ (x : Header). Within x.cues d) (sym going_head) on.skips.within

    module _ (few : choice_count k ≤ choice_most) where
      pub power_few : power at.header.cues (length d) ≤ 1000000
      unfolding choice_count choice_most
      power_few =
          let size : length d ≡ empty_count k.nodes = on.skips.same_length ∙ going_choice.0 in
          omega (arith, ap (λ (x : Header). power x.cues (length d)) going_head, ap (power k.head.cues) size)

      pub place_few : place at.header.cues d < 1000000
      place_few = omega (arith, power_few, place_below at.header.cues d next_within)

  -- ---- Nothing is left

  pub over_fails : (size : ℕ) (d why' states' work' : List ℕ) → TurnsOut k size choice Over d why' states' work'
      → AllFail (passing k) (on_from k.head.cues first)
  over_fails size d why' states' work' t = fails_on (passing k) k.head.cues first choice g.goes.skips t

  -- ---- After a choice that failed

  module _ (size : ℕ) (d why' states' work' : List ℕ) (t : TurnsOut k size choice Failed d why' states' work') (m : ℕ) (all : m ≡ 2 ^ length d - 1)
      (r : Option ℕ) (f after : List ℕ)
      (skips : (p : List ℕ → Bool) → Within at.header.cues d → Reason p at.header.cues (length d) m d → Known p at.header.cues why' d
      → Skipped p at.header.cues d r f after) where
    skipped : Skipped (passing k) k.head.cues d r f after
    skipped =
        subst (λ (x : Header). ((p : List ℕ → Bool) → Within x.cues d → Reason p x.cues (length d) m d → Known p x.cues why' d
        → Skipped p x.cues d r f after) → Skipped (passing k) k.head.cues d r f after) (sym going_head)
        (λ found. found (passing k) t.0.skips.within (all_reason (passing k) k.head.cues m d all t.1) t.0.known) skips

    upto : GoesOn (passing k) k.head.cues first d why'
    upto = goes_on_lem (passing k) k.head.cues first choice d why why' g.goes t.0

    pub none_after : IsNone r → AllFail (passing k) (on_from k.head.cues first)
    none_after z =
        fails_on (passing k) k.head.cues first d upto.skips (skipped_none (passing k) k.head.cues d f after r z skipped)

    pub some_after : IsSome r → GoesOn (passing k) k.head.cues first f after
    some_after n =
        goes_on_lem (passing k) k.head.cues first d f why' after upto (skipped_some (passing k) k.head.cues d f after r n skipped)

    -- Fewer are left, whichever header says how many cues there are.
    pub fewer_after : IsSome r → Nearer at.header.cues d r f → (header : Header) → header ≡ k.head
        → length (on_from header.cues f) < length (on_from header.cues choice)
    fewer_after n near header e =
        omega (
          arith,
          nearer_some at.header.cues d f r n near,
          goes_fewer (passing k) k.head.cues choice d why' t.0,
          ap (λ (x : Header). length (on_from x.cues f)) going_head,
          ap (λ (x : Header). length (on_from x.cues d)) going_head,
          ap (λ (x : Header). length (on_from x.cues f)) e,
          ap (λ (x : Header). length (on_from x.cues choice)) e,
        )

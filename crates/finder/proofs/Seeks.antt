-- What the search is lent, and what it finds by its entries: what is entered is sound. Assumes nothing.
use mathlib.Core.Path.{◌≡◌, refl, sym, ◌∙◌, subst}
use mathlib.Core.Bool.{Bool, true, false, not, false≢true}
use mathlib.Core.List.{List}
use Prim.Native.Nat.{ℕ, ◌+◌, ◌*◌, ◌≤◌}
use native.Mathlib.Omega.{arith}
use lib.ListN.{length}
use Rattle.rules.specs.declared.Header.{Header}
use Rattle.rules.specs.State.{word_count}
use Rattle.rules.specs.Case.{Case}
use Rattle.rules.specs.Verdict.{state_need}
use Rattle.rules.specs.Gaps.{Within, ChoiceOf}
use Rattle.rows.specs.Rows.{in_row}
use Rattle.columns.specs.Columns.{state_words, Columns, Blank}
use Rattle.columns.proofs.Kept.{columns_none}
use Rattle.choices.specs.Reasons.{Known}
use Rattle.blames.specs.declared.entry.Entry.{Entry}
use Rattle.blames.specs.Entries.{PoolSound}
use Rattle.seeking.specs.Seeking.{LongFails, Sought}
use Rattle.judge.specs.declared.Opened.{Opened}
use Rattle.judge.specs.Phases.{Claimed}
use Rattle.finder.specs.Finding.{passing, SpareOf}
use Rattle.finder.proofs.Fails.{long_fail}
use Rattle.finder.proofs.Prints.{few_cues}
use Rattle.finder.proofs.Turns.{claimed_printable}

-- ---- What is lent

module _ {k : Case} {fields : List ℕ} {o : Opened} {states work : List ℕ} (x : Claimed k fields o states work) where
  -- A column has a bit for each of the states, and they are all there.
  pub few_states : o.header.cues + 1 ≤ 64 * state_words
  unfolding state_words
  few_states = let few = few_cues (claimed_printable x) in omega arith

  pub states_there : word_count * (o.header.cues + 1) ≤ length states
  unfolding state_need word_count
  states_there =
      let few = few_cues (claimed_printable x) in
      let room = x.walked.run.state_room in
      omega arith

  pub columns_ready : (columns built : List ℕ) → Blank columns built → Columns states (o.header.cues + 1) columns built
  columns_ready columns built blank = columns_none states (o.header.cues + 1) columns built few_states states_there blank

  pub within_cues : (c : List ℕ) → ChoiceOf k c → Within o.header.cues c
  within_cues c h = subst (λ (y : Header). Within y.cues c) (sym x.walked.opens.head) h.1

  -- A choice of as many gaps within them is one of the case.
  pub choice_of : (c d : List ℕ) → ChoiceOf k c → length d ≡ length c → Within o.header.cues d → ChoiceOf k d
  choice_of c d h l w = (l ∙ h.0, subst (λ (y : Header). Within y.cues d) x.walked.opens.head w)

  -- What the search finds whatever the condition is, it finds for this one.
  pub sought_so : (c d why after : List ℕ) (pool : List Entry) (r : Bool) (spare : ℕ) → ChoiceOf k c → SpareOf k spare → Known (passing k) k.head.cues why c
      → PoolSound (in_row states) (passing k) o.header.cues (length c) pool
      → ((p : List ℕ → Bool) → PoolSound (in_row states) p o.header.cues (length c) pool → LongFails p o.header.cues (length c) spare
      → Known p o.header.cues why c → Sought p o.header.cues c r d after)
      → Sought (passing k) k.head.cues c r d after
  sought_so c d why after pool r spare h s known =
      subst (λ (y : Header). PoolSound (in_row states) (passing k) y.cues (length c) pool
      → ((p : List ℕ → Bool) → PoolSound (in_row states) p y.cues (length c) pool → LongFails p y.cues (length c) spare
      → Known p y.cues why c → Sought p y.cues c r d after)
      → Sought (passing k) k.head.cues c r d after) (sym x.walked.opens.head)
      (λ sound found. found (passing k) sound (long_fail k (length c) spare (sym h.0) s) known)

-- Where it stopped.
pub has_sought : (r : Bool) → not r ≡ false → r ≡ true
has_sought true e = refl
has_sought false e = absurd (false≢true (sym e))

module _ (p : List ℕ → Bool) (cues : ℕ) (c d why : List ℕ) where
  pub sought_none : (r : Bool) → not r ≡ true → Sought p cues c r d why → Sought p cues c false d why
  sought_none true e s = absurd (false≢true e)
  sought_none false e s = s

  pub sought_some : (r : Bool) → not r ≡ false → Sought p cues c r d why → Sought p cues c true d why
  sought_some true e s = s
  sought_some false e s = absurd (false≢true (sym e))

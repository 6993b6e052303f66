-- One turn of the search after another: where it stands, and how it ends. Assumes nothing.
use mathlib.Core.Path.{◌≡◌, sym, ap, ◌∙◌, subst}
use mathlib.Core.Bool.{Bool, true, false≢true}
use mathlib.Core.List.{List}
use Prim.Native.Nat.{ℕ, ◌+◌, ◌≤◌, ◌<◌}
use native.Mathlib.Omega.{arith}
use lib.ListN.{length, replicate, length-append, length-replicate}
use Rattle.std.specs.Prelude.{Option, Some, None, IsSome, IsNone, Result, Ok, Err}
use Rattle.rules.specs.declared.Answer.{Answer}
use Rattle.rules.specs.declared.Answer.TheVariants.{NoChoice}
use Rattle.rules.specs.Result.{found}
use Rattle.rules.specs.Case.{Case}
use Rattle.rules.specs.Tree.{Tree}
use Rattle.rules.specs.Verdict.{Found}
use Rattle.rules.specs.Gaps.{empty_count, Within, choice_count}
use Rattle.choices.specs.Searching.{place, on_from, AllFail, Skips}
use Rattle.choices.specs.Reasons.{Known}
use Rattle.choices.proofs.Skipping.{skips_self, skips_on}
use Rattle.seeking.specs.Seeking.{GoesOn, Skipped, Nearer}
use Rattle.judge.specs.declared.Opened.{Opened}
use Rattle.judge.specs.Phases.{Answers, Claimed, Passes, OpensAs}
use Rattle.finder.specs.declared.Attempt.{Attempt}
use Rattle.finder.specs.declared.Attempt.TheVariants.{Accepted, Failed, Over}
use Rattle.finder.specs.declared.Discovery.{Discovery}
use Rattle.finder.specs.Finding.{checked_with, passing, from_choices, Finds, Tried, Printable, TurnsOut}
use Rattle.finder.proofs.First.{found_at, none_at}
use Rattle.finder.proofs.Counts.{tried_all, tried_place, known_zeros}
use Rattle.finder.proofs.Verdicts.{accepted_finds, refused_finds}

pub claimed_printable : {k : Case} {fields : List ℕ} {o : Opened} {states work : List ℕ} → Claimed k fields o states work → Printable k fields o
claimed_printable c =
    let w = c.walked.opens in
    record { read = w.read; head = w.head; stands = w.stands; last = w.last }

-- ---- Onward

-- As far as a choice from the first one on, of a case whose text was opened.
pub record Going (k : Case) (first text fields : List ℕ) (at : Opened) (states work choice why : List ℕ) : Type 0 where
  pub passes : Passes text fields at states work k
  pub goes : GoesOn (passing k) k.head.cues first choice why

module _ (p : List ℕ → Bool) (cues : ℕ) where
  pub goes_start : (e : ℕ) (why : List ℕ) (c : List ℕ) → c ≡ replicate e 0 → Within cues c → GoesOn p cues c c why
  goes_start e why c z w =
      record { skips = skips_self p cues c w; known = subst (λ (x : List ℕ). Known p cues why x) (sym z) (known_zeros p cues e why) }

  pub goes_on_lem : (b c d why more : List ℕ) → GoesOn p cues b c why → GoesOn p cues c d more → GoesOn p cues b d more
  goes_on_lem b c d why more x y = record { skips = skips_on p cues b c d x.skips y.skips; known = y.known }

  -- No more are left than were.
  pub goes_fewer : (c d why : List ℕ) → GoesOn p cues c d why → length (on_from cues d) ≤ length (on_from cues c)
  goes_fewer c d why x = let s = x.skips in omega (arith, ap length s.split, length-append s.skipped (on_from cues d))

  pub skipped_none : (c d why : List ℕ) (r : Option ℕ) → IsNone r → Skipped p cues c r d why → AllFail p (on_from cues c)
  skipped_none c d why None e s = s
  skipped_none c d why (Some b) e s = absurd (false≢true (sym e))

  pub skipped_some : (c d why : List ℕ) (r : Option ℕ) → IsSome r → Skipped p cues c r d why → GoesOn p cues c d why
  skipped_some c d why None e s = absurd (false≢true e)
  skipped_some c d why (Some b) e s = s

pub nearer_some : (cues : ℕ) (c d : List ℕ) (r : Option ℕ) → IsSome r → Nearer cues c r d → length (on_from cues d) < length (on_from cues c)
nearer_some cues c d None e n = absurd (false≢true e)
nearer_some cues c d (Some b) e n = n.2

-- ---- How a turn came out

module _ (k : Case) (size : ℕ) (c d why states work : List ℕ) (r : Attempt) (t : TurnsOut k size c r d why states work) where
  pub turn_accepted : (a : Answer) → r ≡ Accepted a → TurnsOut k size c (Accepted a) d why states work
  turn_accepted a e = subst (λ (x : Attempt). TurnsOut k size c x d why states work) e t

  pub turn_failed : r ≡ Failed → TurnsOut k size c Failed d why states work
  turn_failed e = subst (λ (x : Attempt). TurnsOut k size c x d why states work) e t

  pub turn_over : r ≡ Over → TurnsOut k size c Over d why states work
  turn_over e = subst (λ (x : Attempt). TurnsOut k size c x d why states work) e t

-- ---- The text opened again

-- It reads as the same case.
pub same_case : {text fields states work now states' work' : List ℕ} {o at : Opened} {k l : Case} → Passes text fields o states work k
    → Passes text now at states' work' l → l ≡ k
same_case x y = let p = x.reads in let q = y.reads in cc

module _ {text fields states work : List ℕ} {o : Opened} {k : Case} (first : Passes text fields o states work k) (now : List ℕ) (size : ℕ)
    (states' work' : List ℕ) (r : Result Opened Answer) (told : OpensAs text now size r states' work') where
  pub opened_again : (at : Opened) → r ≡ Ok at → Passes text now at states' work' k
  opened_again at e =
      let (l, p) = subst (λ (x : Result Opened Answer). OpensAs text now size x states' work') e told in
      subst (λ (x : Case). Passes text now at states' work' x) (same_case first p) p

  -- So it is not refused.
  pub never_refused : (a : Answer) → r ≡ Err a → ⊥
  never_refused a e =
      let (refuses, zeros) = subst (λ (x : Result Opened Answer). OpensAs text now size x states' work') e told in
      let rest : Case → Tree → Found Tree = λ l t. found (l, t) in
      let p = first.rows rest in
      let q = refuses rest in
      let z : ◌≡◌ {A = ℕ} 0 1 = cc in
      omega arith

-- ---- The ends

module _ (k : Case) (e : ℕ) (counted : empty_count k.nodes ≡ e) {size : ℕ} {states work : List ℕ} where
  -- A choice is accepted.
  pub search_finds : (zeros d why : List ℕ) (a : Answer) (n : ℕ) → zeros ≡ replicate e 0 → GoesOn (passing k) k.head.cues zeros d why
      → passing k d ≡ true → Answers (checked_with k d) size a states work → n ≡ place k.head.cues d + 1
      → Finds (λ n. from_choices n k) (Tried k) size (record { answer = a; tried = n }) states work
  search_finds zeros d why a n z g p told tried =
      let s = subst (λ (x : List ℕ). Skips (passing k) k.head.cues x d) z g.skips in
      let size_is : length d ≡ empty_count k.nodes = g.skips.same_length ∙ ap length z ∙ length-replicate {A = ℕ} e 0 ∙ sym counted in
      accepted_finds n (subst (Tried k) (sym tried) (tried_place k d (size_is, g.skips.within))) told (found_at k n e counted d s p) p

  -- None is.
  pub search_fails : (zeros : List ℕ) (number : ℕ) → zeros ≡ replicate e 0 → AllFail (passing k) (on_from k.head.cues zeros) → number ≡ choice_count k
      → {r : Discovery} → r.answer ≡ NoChoice number → r.tried ≡ 0 → states ≡ replicate size 0
      → Finds (λ n. from_choices n k) (Tried k) size r states work
  search_fails zeros number z h n x y s =
      let all = subst (λ (c : List ℕ). AllFail (passing k) (on_from k.head.cues c)) z h in
      refused_finds number (tried_all k number n) (NoChoice number) (none_at k number e counted all) x y s

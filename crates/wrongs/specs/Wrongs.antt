-- Which line of a form refusal 19 names (02, Card 6), from plain lists: the test of one line, and what the lists say of a form's lines. Assumes
-- nothing.
use Rattle.std.specs.Prelude.{◌≡◌, Bool, true, false, ◌&&◌, ◌||◌, List, ℕ, suc, ◌+◌, ◌≤◌, ◌<◌, eqb, ltb, length, get_or, take, drop, Option, Some, None}
use Rattle.std.proofs.Math.Option as maybe
use Rattle.std.proofs.Math.Option.{none, some}
use Rattle.rules.specs.Form.{FormLine, Form, uses, all_defined, any_missing}
use Rattle.links.specs.Links.{line_at, link, Lines, Linked, Twins, Counted}
use Rattle.reaching.specs.Visited.{Marked}

-- The test of the line e, where no line before it is wrong: "an id defined twice, twice a subtask, the root under a parent or not reached from
-- the root by any lines, or that uses an id never defined".
unfoldable pub fails : (twin used marks : List ℕ) (lost root e : ℕ) → Bool
fails twin used marks lost root e =
    ltb 0 (get_or twin e 0)
    || (ltb 1 (get_or used e 0)
    || ((eqb root (e + 1) && ltb 0 (get_or used e 0))
    || (eqb (get_or marks e 0) 0
    || eqb e lost)))

-- The first of so many lines that fails a test, or their number.
pub record FirstFailing (test : ℕ → Bool) (count w : ℕ) : Type 0 where
  pub within : w ≤ count
  pub passed : (e : ℕ) → e < w → test e ≡ false
  pub failing : w < count → test w ≡ true

-- What the lists say of a form's lines, of which there are `count`, and of its root's id. The line `lost` is the first that uses an id never
-- defined, and `root` is the link of the root's id.
pub record Known (es : List FormLine) (cues count : ℕ) (ids labels starts links twin used marks : List ℕ) (lost root id : ℕ) : Type 0 where
  pub counts : length es ≡ count
  pub lines : Lines es cues ids labels
  pub linked : Linked es starts links
  pub twins : Twins es twin
  pub counted : Counted es used
  pub rooted : root ≡ link es id
  pub defined : (e : ℕ) → e < lost → any_missing (all_defined es) (uses (line_at es e)) ≡ false
  pub missing : lost < count → any_missing (all_defined es) (uses (line_at es lost)) ≡ true
  pub unmarked : root ≡ 0 → (d : ℕ) → get_or marks d 0 ≡ 0
  pub marked : (r : ℕ) → root ≡ suc r → Marked starts links twin r marks

-- The form whose lines these are: so many action lines from line 2 on, the root line, and the compound lines.
pub record Holds (f : Form) (es : List FormLine) (cues id : ℕ) : Type 0 where
  pub front : f.cues ≡ take cues es
  pub root_at : f.root_line ≡ 2 + cues
  pub root_is : f.root ≡ id
  pub back : f.tasks ≡ drop cues es

-- A line's number, if there is one.
abbrev pub as_line : Option ℕ → maybe.Option ℕ
as_line None = none
as_line (Some n) = some n

-- What the core of the find-the-gaps call answers and leaves (02, Card 4). Assumes nothing.
use Rattle.std.specs.Prelude.{◌≡◌, Bool, true, false, List, ℕ, ◌+◌, ◌*◌, ◌≤◌, ◌<◌, length, replicate}
use Rattle.rules.specs.declared.Answer.TheVariants.{NoChoice}
use Rattle.rules.specs.Result.{found, refused, ◌>>◌}
use Rattle.rules.specs.Case.{Case, read_case}
use Rattle.rules.specs.Fields.{fields_of}
use Rattle.rules.specs.Print.{printed}
use Rattle.rules.specs.Tree.{Tree}
use Rattle.rules.specs.Verdict.{Found, text_most, answer_of, states_after}
use Rattle.rules.specs.Gaps.{empty_count, choices, ChoiceOf, text_with, gaps_of, choice_count, few_choices, first_accepted, tried_after}
use Rattle.rules.proofs.Judgement.Rows.{from_text, from_tree}
use Rattle.rules.proofs.Gaps.Lengths.{surplus}
use Rattle.fields.specs.Standing.{Stands}
use Rattle.fields.specs.Directory.{IsRead, NodesLast}
use Rattle.records.specs.Records.{RecordsHeld}
use Rattle.judge.specs.declared.Opened.{Opened}
use Rattle.finder.specs.declared.Discovery.{Discovery}
use Rattle.finder.specs.declared.Attempt.{Attempt}
use Rattle.finder.specs.declared.Attempt.TheVariants.{Accepted, Failed, Over}
use Rattle.choices.specs.Searching.{on_from, AllFail}
use Rattle.seeking.specs.Seeking.{GoesOn}
use Rattle.judge.specs.Phases.{Answers}

-- The check of the text with the gaps of a choice, and whether it finds it right.
abbrev pub checked_with : Case → List ℕ → Found Tree
checked_with k gs = from_text from_tree (text_with gs k)

abbrev pub is_found : Found Tree → Bool
is_found (found x) = true
is_found (refused r) = false

abbrev pub passing : Case → List ℕ → Bool
passing k gs = is_found (checked_with k gs)

-- 15, then the choices and 16, of a case that passes rows 1 to 9; the number tried is open.
abbrev pub from_choices : ℕ → Case → Found Tree
from_choices number k = first_accepted (checked_with k) (NoChoice number) (choices k.head.cues (empty_count k.nodes))

abbrev pub from_count : ℕ → Case → Found Tree
from_count number k = few_choices k >> from_choices number k

abbrev pub from_gaps : ℕ → Case → Tree → Found Tree
from_gaps number k t = from_count number k

-- What the call answers, and leaves in a state list of a size and in the work space: the records of the tree found as columns. The number tried
-- lies within its limits.
pub record Finds (f : ℕ → Found Tree) (limited : ℕ → Type 0) (size : ℕ) (r : Discovery) (states work : List ℕ) : Type 0 where
  pub number : ℕ
  pub within : limited number
  pub answer : r.answer ≡ answer_of (f number)
  pub answered : r.tried ≡ tried_after number (f number)
  pub states_held : states ≡ states_after size (f number)
  pub records_held : RecordsHeld (f number) work

-- "at least 1 and at most (k + 1) to the power e"
abbrev pub Tried : Case → ℕ → Type 0
Tried k n = (1 ≤ n) × (n ≤ choice_count k)

-- The same of the case that a text reads as, if it reads as one.
abbrev pub LimitedBy : List ℕ → ℕ → Type 0
LimitedBy text n = (k : Case) → read_case text ≡ found k → Tried k n

-- The fields are those of a case that some text reads as, its node lines from `nodes` on and last.
pub record Printable (k : Case) (fields : List ℕ) (o : Opened) : Type 0 where
  pub read : IsRead k
  pub head : o.header ≡ k.head
  pub stands : Stands fields 0 (fields_of k)
  pub last : NodesLast k o.nodes

-- The length of the text of a case without the digits of its gaps past their first ones.
abbrev pub BaseOf : Case → ℕ → Type 0
BaseOf k base = base + surplus (gaps_of k.nodes) ≡ length (printed k)

-- So many digits past the gaps' first ones have room: with more the text is too long.
abbrev pub SpareOf : Case → ℕ → Type 0
SpareOf k spare = (gs : List ℕ) → ChoiceOf k gs → spare < surplus gs → text_most < length (text_with gs k)

-- The most digits that the gaps of a choice have past their first ones, where there are other choices: three of each of 19.
abbrev pub digits_most : ℕ
digits_most = 57

-- The fields have room for a text that is so long without the digits of its gaps, with the gaps of any choice, unless it is too long.
abbrev pub Spacious : ℕ → List ℕ → Type 0
Spacious base fields = (n : ℕ) → n ≤ base + digits_most → n ≤ text_most → n < 2 * length fields

-- What one turn of the search leaves: the first choice from c on that nothing is known against was tried, and its check accepted it; or refused it,
-- and the state list is zero; or none from c on passes.
abbrev pub TurnsOut : Case → ℕ → List ℕ → Attempt → List ℕ → List ℕ → List ℕ → List ℕ → Type 0
TurnsOut k size c (Accepted answer) d why states work =
    GoesOn (passing k) k.head.cues c d why × (passing k d ≡ true) × Answers (checked_with k d) size answer states work
TurnsOut k size c Failed d why states work = GoesOn (passing k) k.head.cues c d why × (passing k d ≡ false) × (states ≡ replicate size 0)
TurnsOut k size c Over d why states work = AllFail (passing k) (on_from k.head.cues c)

-- What the links of a form's lines come to. Assumes nothing.
use Rattle.std.specs.Prelude.{◌≡◌, List, ℕ, suc, ◌≤◌, length, get_or}
use Rattle.rules.specs.Form.{FormLine, Form, wrong_line}
use Rattle.links.specs.Links.{link, Defined, Linked}
use Rattle.reaching.specs.Visited.{Marked}
use Rattle.wrongs.specs.Wrongs.{as_line, Holds}
use Rattle.linking.specs.declared.Tied.{Tied}

-- The link of an id, for every form whose lines define these ids.
abbrev pub Rooted : List ℕ → ℕ → ℕ → ℕ → Type 0
Rooted ids count id r = ((es : List FormLine) → length es ≡ count → Defined es ids → r ≡ link es id) × (r ≤ count)

-- What is reached from the line that a link leads to is marked; nothing is, if it leads to none.
pub record MarkedFrom (starts links twin : List ℕ) (root : ℕ) (marks : List ℕ) : Type 0 where
  pub unmarked : root ≡ 0 → (d : ℕ) → get_or marks d 0 ≡ 0
  pub marked : (r : ℕ) → root ≡ suc r → Marked starts links twin r marks

-- The links of the lines and of the root's id, and of every form with these lines and this root the first wrong line.
pub record Joined (es : List FormLine) (cues id : ℕ) (r : Tied) (starts links : List ℕ) : Type 0 where
  pub linked : Linked es starts links
  pub rooted : r.root ≡ link es id
  pub wrong : (f : Form) → Holds f es cues id → wrong_line f ≡ as_line r.line

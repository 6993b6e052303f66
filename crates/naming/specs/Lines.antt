-- What the functions that read the lines of a name list answer and leave, as what the definitions read. Assumes nothing.
use Rattle.std.specs.Prelude.{◌≡◌, Bool, true, false, List, [], ◌∷◌, ℕ, zero, suc, ◌+◌, ◌-◌, ◌≤◌, ◌<◌, ltb, length, take, drop, Option, None, Some, Result, Ok, Err}
use Rattle.std.proofs.Math.Option.{none, some}
use Rattle.std.proofs.Math.Option as maybe
use Rattle.rules.specs.declared.Answer.{Answer}
use Rattle.rules.specs.declared.Answer.TheVariants.{WrongShape}
use Rattle.rules.specs.Result.{found, refused, ◌>>=◌, ◌>>◌}
use Rattle.rules.specs.Text.{is_comma, feed_follows}
use Rattle.rules.specs.Case.{Read}
use Rattle.rules.specs.Faults.{pieces}
use Rattle.rules.specs.Tokens.{line_of, due_line, shaped}
use Rattle.rules.specs.Naming.{name_for, not_again}
use Rattle.probing.specs.Probing.{Kept}
use Rattle.names.specs.Names.{name_at, same_name, Placed, hash_name}
use Rattle.naming.specs.declared.Name.{Name}
use Rattle.naming.specs.declared.Spot.{Spot}

abbrev pub spot : ℕ → ℕ → Spot
spot n place = record { line = n; at = place }

-- ---- One line

-- The name that the line from a place lists for number i; none where the line is missing or of another shape.
abbrev pub name_if : Bool → ℕ → List ℕ → maybe.Option (List ℕ)
name_if true i line = name_for i (pieces is_comma line)
name_if false i line = none

unfoldable pub name_due : List ℕ → ℕ → ℕ → maybe.Option (List ℕ)
name_due text i place = name_if (feed_follows text place) i (line_of (drop place text))

-- The line from a place lists for number i the name from `from` to before `to`, and ends there.
pub record Lists (text : List ℕ) (i place from to : ℕ) : Type 0 where
  pub name : name_due text i place ≡ some (take (to - from) (drop from text))
  pub ends : place + length (line_of (drop place text)) ≡ to
  pub order : from ≤ to
  pub inside : to < length text

abbrev pub Told : List ℕ → ℕ → ℕ → Option Name → Type 0
Told text i place (Some name) = Lists text i place name.from name.to
Told text i place None = name_due text i place ≡ none

-- ---- One name after others

-- The names of the first entries, the latest first.
abbrev pub earlier_names : List ℕ → List ℕ → List ℕ → ℕ → List (List ℕ)
earlier_names text starts ends zero = []
earlier_names text starts ends (suc count) = name_at text starts ends count ∷ earlier_names text starts ends count

-- So many entries are in the table, which has room for 2,048.
pub record Entered (text starts ends slots : List ℕ) (count : ℕ) : Type 0 where
  pub placed : Placed text starts ends
  pub kept : Kept (same_name text starts ends) hash_name slots count
  pub starts_length : length starts ≡ 2048
  pub slots_length : length slots ≡ 4096

-- The line that lists number i after earlier names: 17, then 18.
unfoldable pub one_name : List ℕ → ℕ → List (List ℕ) → ℕ → ℕ → Read (List ℕ)
one_name text i earlier n place = do
  (line, n', place') ← due_line text 1 n place
  name ← shaped 1 n (name_for i (pieces is_comma line))
  not_again n earlier name
  found (name, n', place')

-- The name is the next entry, after those of the lists before.
pub record NextName (text starts₀ ends₀ : List ℕ) (i : ℕ) (starts ends slots : List ℕ) (name : List ℕ) : Type 0 where
  pub entered : Entered text starts ends slots (suc i)
  pub names : earlier_names text starts ends (suc i) ≡ name ∷ earlier_names text starts₀ ends₀ i

-- ---- What is read

-- What is known of what is read, and where the next line is; or the refusal. Nothing is said of the lists that a refusal leaves.
abbrev pub Left : {A : Type 0} → (A → Type 0) → Read A → Result Spot Answer → Type 0
Left known (found (a, n, place)) r = (r ≡ Ok (spot n place)) × known a
Left known (refused x) r = r ≡ Err x

-- A list whose lines end at a spot: whole, if the text ends there too.
abbrev pub whole_if : Bool → Answer → Result (Unit {0}) Answer
whole_if true a = Err a
whole_if false a = Ok tt

abbrev pub whole_list : List ℕ → Spot → Result (Unit {0}) Answer
whole_list text end = whole_if (ltb end.at (length text)) (WrongShape end.line 1)

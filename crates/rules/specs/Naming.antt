-- The name list that comes beside a case (02, Card 6). Assumes nothing.
use Rattle.std.specs.Prelude.{Bool, true, false, ◌&&◌, ◌||◌, List, [], ◌∷◌, ℕ, zero, suc, ◌+◌, eqb}
use Rattle.std.proofs.Math.Option.{Option, none, some}
use Rattle.rules.specs.declared.Header.{Header}
use Rattle.rules.specs.declared.Answer.TheVariants.{WrongName}
use Rattle.rules.specs.Result.{Result, found, refused, ◌>>=◌, ◌>>◌}
use Rattle.rules.specs.Text.{is_comma, is_plain, value_of}
use Rattle.rules.specs.Case.{Read}
use Rattle.rules.specs.Faults.{pieces}
use Rattle.rules.specs.Tokens.{due_line, no_more, shaped, is_name, same_bytes}

-- The names of the tasks and of the methods, by number.
pub record Names : Type 0 where
  pub tasks : List (List ℕ)
  pub methods : List (List ℕ)

-- The place of a name among names, the first of which has place i.
abbrev pub listed_from : ℕ → List (List ℕ) → List ℕ → Option ℕ
listed_from i [] name = none
listed_from i (x ∷ xs) name = elim (same_bytes x name) [ true ↦ some i | false ↦ listed_from (suc i) xs name ]

unfoldable pub listed_at : List (List ℕ) → List ℕ → Option ℕ
listed_at names name = listed_from 0 names name

abbrev pub is_among : List (List ℕ) → List ℕ → Bool
is_among [] name = false
is_among (x ∷ xs) name = same_bytes x name || is_among xs name

-- "number and name by comma": the name that a line, as the pieces that commas part, lists for number i.
abbrev pub name_for : ℕ → List (List ℕ) → Option (List ℕ)
name_for i [] = none
name_for i (number ∷ []) = none
name_for i (number ∷ name ∷ []) =
    elim (is_plain number && (eqb (value_of 0 number) i && is_name name)) [ true ↦ some name | false ↦ none ]
name_for i (number ∷ name ∷ other ∷ more) = none

-- 18, a name "listed again among the tasks or among the methods (the later line)": not one of the earlier names.
unfoldable pub not_again : ℕ → List (List ℕ) → List ℕ → Result (Unit {0})
not_again n earlier name = elim (is_among earlier name) [ true ↦ refused (WrongName n 1) | false ↦ found tt ]

-- So many lines, for the numbers from i on: on each line 17, then 18.
abbrev pub name_lines : List ℕ → ℕ → ℕ → List (List ℕ) → ℕ → ℕ → Read (List (List ℕ))
name_lines text zero i earlier n place = found ([], n, place)
name_lines text (suc count) i earlier n place = do
  (line, n', place') ← due_line text 1 n place
  name ← shaped 1 n (name_for i (pieces is_comma line))
  not_again n earlier name
  (names, n'', place'') ← name_lines text count (suc i) (name ∷ earlier) n' place'
  found (name ∷ names, n'', place'')

-- "a name list: number and name by comma, for all tasks and then all methods, ascending", and nothing more.
unfoldable pub read_names : Header → List ℕ → Result Names
read_names h text = do
  (tasks, n, place) ← name_lines text (h.actions + h.compounds) 0 [] 1 0
  (methods, n', place') ← name_lines text h.methods 0 [] n place
  no_more text 1 n' place'
  found (record { tasks = tasks; methods = methods })

-- Rows 3 and 4 of the table as statements about the lines and fields of a text (01, "The case text"), apart from how they are read.
-- Assumes nothing.
use Rattle.std.specs.Prelude.{◌≡◌, Bool, true, false, ◌&&◌, List, [], ◌∷◌, ◌++◌, ◌≢◌, ◌⊎◌, ℕ, zero, suc, ◌+◌, ◌-◌, ◌<◌, leb, length, get_or, replicate}
use Rattle.std.proofs.Math.Option.{Option, none, some}
use Rattle.rules.specs.declared.Header.{Header}
use Rattle.rules.specs.Text.{is_feed, is_comma, is_plain, value_of}
use Rattle.rules.specs.Table.{Role, header, initial, action, method, constraint, plan, node, Item, one, set, subtaskList, cues, up_to, task, an_action, proposition, memberCount, Row, row_of, in_range, least_after}
use Rattle.rules.specs.Case.{header_in, no_header}

-- ---- Lines and fields

abbrev pub onto : ℕ → List (List ℕ) → List (List ℕ)
onto b [] = (b ∷ []) ∷ []
onto b (p ∷ ps) = (b ∷ p) ∷ ps

-- The parts of a list that bytes of a sort part.
abbrev pub pieces : (ℕ → Bool) → List ℕ → List (List ℕ)
pieces parts [] = [] ∷ []
pieces parts (b ∷ bs) = elim (parts b) [ true ↦ [] ∷ pieces parts bs | false ↦ onto b (pieces parts bs) ]

-- "Lines end in a line feed": line l, counted from 1, has one. What stands after the last line feed is no line.
unfoldable pub Ended : List ℕ → ℕ → Type 0
Ended text l = l < length (pieces is_feed text)

unfoldable pub text_line : List ℕ → ℕ → List ℕ
text_line text l = get_or (pieces is_feed text) (l - 1) []

-- "fields are in fixed order, parted by commas, no quoting"
unfoldable pub fields_at : List ℕ → ℕ → List (List ℕ)
fields_at text l = pieces is_comma (text_line text l)

-- ---- The numbers of a line

-- So many members, the first of them at least `low`; then the rest.
abbrev pub members_due : (ℕ → Bool) → Bool → ℕ → ℕ → List ℕ → (List ℕ → Option (ℕ → Bool)) → Option (ℕ → Bool)
members_due ok ascending zero low numbers rest = rest numbers
members_due ok ascending (suc count) low [] rest = some (λ v. leb low v && ok v)
members_due ok ascending (suc count) low (v ∷ numbers) rest = members_due ok ascending count (least_after ascending v) numbers rest

-- What the number after these must pass, by the items of the line's letter; none: no more is due. `before` has the numbers of the items that
-- are over, a list's count for a list.
unfoldable pub due : Header → ℕ → List ℕ → List Item → List ℕ → Option (ℕ → Bool)
due h n before [] numbers = none
due h n before (one kind ∷ is) [] = some (in_range h n before kind)
due h n before (one kind ∷ is) (v ∷ numbers) = due h n (before ++ v ∷ []) is numbers
due h n before (set ∷ is) [] = some (in_range h n before memberCount)
due h n before (set ∷ is) (count ∷ numbers) =
    members_due (in_range h n before proposition) true count 0 numbers (λ later. due h n (before ++ count ∷ []) is later)
due h n before (subtaskList ∷ is) [] = some (in_range h n before (up_to 32))
due h n before (subtaskList ∷ is) (count ∷ numbers) =
    members_due (in_range h n before task) false count 0 numbers (λ later. due h n (before ++ count ∷ []) is later)
due h n before (cues ∷ is) numbers =
    members_due (in_range h n before an_action) false h.cues 0 numbers (λ later. due h n (before ++ h.cues ∷ []) is later)

-- "Field 1 is a letter": one of the role that is due, whose row of the table is r.
pub record LetterOf (role : Role) (fields : List (List ℕ)) (r : Row) : Type 0 where
  pub letter : ℕ
  pub alone : get_or fields 0 [] ≡ letter ∷ []
  pub row : row_of letter ≡ some r
  pub right : r.role ≡ role

-- Field i, counted from 0, is there and is a plain number of this value.
pub record NumberIn (fields : List (List ℕ)) (i v : ℕ) : Type 0 where
  pub there : i < length fields
  pub plain : is_plain (get_or fields i []) ≡ true
  pub value : value_of 0 (get_or fields i []) ≡ v

-- "The rest are plain numbers": the fields after the first begin with these numbers, each in its range.
pub data NumbersRight (h : Header) (n : ℕ) (items : List Item) (fields : List (List ℕ)) : List ℕ → Type 0 where
  start : NumbersRight h n items fields []
  further : {numbers : List ℕ} {ok : ℕ → Bool} {v : ℕ} → NumbersRight h n items fields numbers → due h n [] items numbers ≡ some ok
      → NumberIn fields (1 + length numbers) v → ok v ≡ true → NumbersRight h n items fields (numbers ++ v ∷ [])

-- Line l, where one of this role is due, has a line feed; its letter is right, with the row r; and the numbers after it, up to these, are in
-- their ranges.
pub record Begins (text : List ℕ) (l : ℕ) (h : Header) (role : Role) (n : ℕ) (r : Row) (numbers : List ℕ) : Type 0 where
  pub ended : Ended text l
  pub letter : LetterOf role (fields_at text l) r
  pub right : NumbersRight h n r.items (fields_at text l) numbers

-- ---- The lines that are due

-- A line to come: its role, and how many subtasks the method has whose constraint it is (0 for other lines).
abbrev pub Awaited : Type 0
Awaited = Role × ℕ

unfoldable pub after_header : Header → List Awaited
after_header h =
    (initial, 0)
    ∷ replicate h.actions (action, 0) ++ (replicate h.methods (method, 0) ++ ((plan, 0) ∷ replicate h.nodes (node, 0)))

-- The header's numbers and the lines to come, after a line of this role and numbers. "constraint count c (0 to 64); then c lines of its own":
-- c is the number after the list of subtasks.
unfoldable pub due_after : Role → List ℕ → Header → List Awaited → Header × List Awaited
due_after header numbers h later = (header_in numbers, after_header (header_in numbers))
due_after initial numbers h later = (h, later)
due_after action numbers h later = (h, later)
due_after method numbers h later = (h, replicate (get_or numbers (2 + get_or numbers 1 0) 0) (constraint, get_or numbers 1 0) ++ later)
due_after constraint numbers h later = (h, later)
due_after plan numbers h later = (h, later)
due_after node numbers h later = (h, later)

-- From line l on these are due: it is line 1, or each line before it is right to its end.
pub data Comes (text : List ℕ) : ℕ → Header × List Awaited → Type 0 where
  first : Comes text 1 (no_header, (header, 0) ∷ [])
  next : {l : ℕ} {h : Header} {role : Role} {n : ℕ} {later : List Awaited} {r : Row} {numbers : List ℕ} → Comes text l (h, (role, n) ∷ later)
      → Begins text l h role n r numbers → due h n [] r.items numbers ≡ none → length (fields_at text l) ≡ 1 + length numbers
      → Comes text (l + 1) (due_after role numbers h later)

-- ---- Row 3, by line and item

pub data Unread (text : List ℕ) : ℕ → ℕ → Type 0 where
  -- "a line that is due has no line feed, or the text is over before it"
  unended : {l : ℕ} {h : Header} {role : Role} {n : ℕ} {later : List Awaited} → Comes text l (h, (role, n) ∷ later) → (Ended text l → ⊥)
      → Unread text l 0
  -- "wrong letter"
  letter : {l : ℕ} {h : Header} {role : Role} {n : ℕ} {later : List Awaited} → Comes text l (h, (role, n) ∷ later) → Ended text l
      → ((r : Row) → LetterOf role (fields_at text l) r → ⊥) → Unread text l 1
  -- "not a plain number, missing"
  number : {l : ℕ} {h : Header} {role : Role} {n : ℕ} {later : List Awaited} {r : Row} {numbers : List ℕ} {ok : ℕ → Bool}
      → Comes text l (h, (role, n) ∷ later) → Begins text l h role n r numbers → due h n [] r.items numbers ≡ some ok
      → (length (fields_at text l) ≡ 1 + length numbers) ⊎ (is_plain (get_or (fields_at text l) (1 + length numbers) []) ≡ false)
      → Unread text l (2 + length numbers)
  -- "surplus field"
  field : {l : ℕ} {h : Header} {role : Role} {n : ℕ} {later : List Awaited} {r : Row} {numbers : List ℕ} → Comes text l (h, (role, n) ∷ later)
      → Begins text l h role n r numbers → due h n [] r.items numbers ≡ none → 1 + length numbers < length (fields_at text l)
      → Unread text l (2 + length numbers)
  -- "surplus line (item 1, ended or not)"
  line : {l : ℕ} {h : Header} → Comes text l (h, []) → Ended text l ⊎ (text_line text l ≢ []) → Unread text l 1

-- ---- Row 4: "same field: outside its range"

pub data Outside (text : List ℕ) : ℕ → ℕ → Type 0 where
  outside : {l : ℕ} {h : Header} {role : Role} {n : ℕ} {later : List Awaited} {r : Row} {numbers : List ℕ} {ok : ℕ → Bool} {v : ℕ}
      → Comes text l (h, (role, n) ∷ later) → Begins text l h role n r numbers → due h n [] r.items numbers ≡ some ok
      → NumberIn (fields_at text l) (1 + length numbers) v → ok v ≡ false → Outside text l (2 + length numbers)

-- The node records in the work space: five columns of 3,000 numbers, one for each field. Assumes nothing.
use Rattle.std.specs.Prelude.{◌≡◌, true, false, List, [], ◌∷◌, ◌++◌, map, ℕ, zero, suc, ◌+◌, eqb, length, get_or}
use Prim.Native.Char.{code}
use Rattle.rules.specs.declared.Node.{Node}
use Rattle.rules.specs.Index.{Span, at}
use Rattle.rules.specs.Result.{found, refused}
use Rattle.rules.specs.Case.{NodeLine, node_of}
use Rattle.rules.specs.Fields.{lines_fields, node_line}
use Rattle.rules.specs.Tree.{Tree, preorder, root_line, span}
use Rattle.rules.specs.Verdict.{Found, node_record}
use Rattle.fields.specs.Standing.{Stands}

-- Where each column starts: those of the spans below the walk's rows, the others over the rows.
abbrev pub starts_from : ℕ
starts_from = 0

abbrev pub ends_from : ℕ
ends_from = 3000

abbrev pub letters_from : ℕ
letters_from = 7168

abbrev pub labels_from : ℕ
labels_from = 10168

abbrev pub places_from : ℕ
places_from = 13168

-- Record i: number i of each column.
unfoldable pub record_at : List ℕ → ℕ → Node
record_at w i =
    record {
      letter = get_or w (letters_from + i) 0;
      label = get_or w (labels_from + i) 0;
      place = get_or w (places_from + i) 0;
      start = get_or w (starts_from + i) 0;
      end = get_or w (ends_from + i) 0;
    }

-- f at each number below n, in order.
abbrev pub up_to : {A : Type 0} → (ℕ → A) → ℕ → List A
up_to f zero = []
up_to f (suc n) = up_to f n ++ (f n ∷ [])

unfoldable pub record_of : Tree → Node
record_of x = node_record (root_line x) (span x)

-- What the columns hold: the records of an accepted tree, from their starts on. Nothing is said of the rest, nor of a refusal.
unfoldable pub RecordsHeld : Found Tree → List ℕ → Type 0
RecordsHeld (found (k, t)) w = up_to (record_at w) k.head.nodes ≡ map record_of (preorder t)
RecordsHeld (refused r) w = Unit {0}

-- ---- How they are written

-- So many node lines stand among the fields from a place on.
pub record NodesStand (fields : List ℕ) (nodes count : ℕ) (ns : List NodeLine) : Type 0 where
  pub here : Stands fields nodes (lines_fields (map node_line ns))
  pub counted : length ns ≡ count

-- The letter code of a node line: that of its record.
unfoldable pub letter_code : ℕ → ℕ
letter_code l = (node_record (node_of l 0 0) (at 0)).letter

-- The place in the record of a node line at p, by its letter: "D,m (method m, not empty)" has none.
unfoldable pub place_at : List ℕ → ℕ → ℕ → ℕ
place_at fields p letter = elim (eqb letter (code "D")) [ true ↦ 0 | false ↦ get_or fields (p + 2) 0 ]

-- The span of node i, as the columns have it.
abbrev pub column_span : List ℕ → ℕ → Span
column_span w i = record { start = get_or w (starts_from + i) 0; end = get_or w (ends_from + i) 0 }

-- The records of node lines, the first of them that of node i.
abbrev pub records_of : (ℕ → Span) → ℕ → List NodeLine → List Node
records_of spans i [] = []
records_of spans i (l ∷ ls) = node_record l (spans i) ∷ records_of spans (i + 1) ls

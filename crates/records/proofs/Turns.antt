-- The node lines in turn: each has its record's head, and the records written so far with those to come are all of them. Assumes nothing.
use mathlib.Core.Path.{◌≡◌, refl, sym, ap, subst, ◌∙◌}
use mathlib.Core.Bool.{Bool, true, false}
use mathlib.Core.List.{List, [], ◌∷◌, ◌++◌, map, append_assoc, append-nil}
use Prim.Native.Nat.{ℕ, ◌+◌, ◌≤◌, ◌<◌}
use native.Mathlib.Numerals.{add-one}
use native.Mathlib.Omega.{arith}
use Prim.Native.Char.{code}
use lib.Dec.{eqb}
use borrow.Author.Tests.{ne_eqb}
use lib.ListN.{length, get_or, drop, drop_of_length-le}
use lib.Seq.{drop-cons}
use Rattle.rules.specs.Index.{Span}
use Rattle.rules.specs.Case.{NodeLine, D, E, L, node_of}
use Rattle.rules.specs.Fields.{line_fields, lines_fields, node_line}
use Rattle.rules.specs.Verdict.{node_record}
use Rattle.fields.specs.Standing.{Stands}
use Rattle.fields.specs.Directory.{node_size}
use Rattle.fields.proofs.Standing.{stands_left, stands_right, stands_at, stands_first, stands_inside, stands_as}
use Rattle.fields.proofs.Lines.{node_fields, node_fields_lem}
use Rattle.records.specs.Records.{starts_from, ends_from, record_at, up_to, NodesStand, letter_code, place_at, column_span, records_of}
use Rattle.records.proofs.Columns.{up_to_same, node_with, head_put, HeadsOnly, head_before, head_here}

-- Every node line has a letter and a label; all but D have a place.
pub size_least : (l : ℕ) → 2 ≤ node_size l
unfolding node_size
size_least l = go (eqb l (code "D"))
  where
    go : (b : Bool) → 2 ≤ elim b as (λ x. ℕ) [ true ↦ 2 | false ↦ 3 ]
    go true = omega arith
    go false = omega arith

pub size_placed : (l : ℕ) → (l ≡ 68 → ⊥) → node_size l ≡ 3
unfolding node_size
size_placed l other = ap (λ (b : Bool). elim b as (λ x. ℕ) [ true ↦ 2 | false ↦ 3 ]) (ne_eqb l 68 other)

-- The first of the node lines that stand at a place: its record's head, and the others, at the next place.
pub record LineHead (fields : List ℕ) (p : ℕ) (n : NodeLine) (ns : List NodeLine) : Type 0 where
  pub head : (s : Span) → node_with (letter_code (get_or fields p 0)) (get_or fields (p + 1) 0) (place_at fields p (get_or fields p 0)) s ≡ node_record n s
  pub inside : p + node_size (get_or fields p 0) ≤ length fields
  pub rest : Stands fields (p + node_size (get_or fields p 0)) (lines_fields (map node_line ns))

module _ (fields : List ℕ) (p : ℕ) (ns : List NodeLine) where
  -- A line of at least two fields, its letter l and the label m.
  line_head : (l m : ℕ) (more : List ℕ) (n : NodeLine) → Stands fields p ((l ∷ m ∷ more) ++ lines_fields (map node_line ns))
      → node_size l ≡ length (l ∷ m ∷ more) → ((s : Span) → node_with (letter_code l) m (place_at fields p l) s ≡ node_record n s) → LineHead fields p n ns
  line_head l m more n here size head =
      let others = lines_fields (map node_line ns) in
      let letter : get_or fields p 0 ≡ l = stands_first fields p l (m ∷ (more ++ others)) here in
      let label : get_or fields (p + 1) 0 ≡ m = stands_at fields p (l ∷ m ∷ (more ++ others)) 1 here (omega arith) in
      let sized : length (l ∷ m ∷ more) ≡ node_size (get_or fields p 0) = sym (ap node_size letter ∙ size) in
      let inside = stands_inside fields p (l ∷ m ∷ more) (stands_left fields p (l ∷ m ∷ more) others here) (omega arith) in
      record {
        head = λ s. (λ j. node_with (letter_code (letter j)) (label j) (place_at fields p (letter j)) s) ∙ head s;
        inside = omega arith;
        rest = subst (λ (k : ℕ). Stands fields (p + k) others) sized (stands_right fields p (l ∷ m ∷ more) others here);
      }

  pub first_line : (n : NodeLine) → Stands fields p (lines_fields (map node_line (n ∷ ns))) → LineHead fields p n ns
  unfolding node_size letter_code node_of node_record place_at
  first_line n here =
      let others = lines_fields (map node_line ns) in
      go n (stands_as fields p (line_fields (node_line n) ++ others) (node_fields n ++ others) (ap (λ (l : List ℕ). l ++ others) (node_fields_lem n)) here)
    where
      go : (n : NodeLine) → Stands fields p (node_fields n ++ lines_fields (map node_line ns)) → LineHead fields p n ns
      go (D m) s = line_head 68 m [] (D m) s refl (λ x. refl)
      go (E m g) s =
          let place : get_or fields (p + 2) 0 ≡ g = stands_at fields p (69 ∷ m ∷ g ∷ lines_fields (map node_line ns)) 2 s (omega arith) in
          line_head 69 m (g ∷ []) (E m g) s refl (λ x. ap (λ (y : ℕ). node_with 2 m y x) place)
      go (L a i) s =
          let place : get_or fields (p + 2) 0 ≡ i = stands_at fields p (76 ∷ a ∷ i ∷ lines_fields (map node_line ns)) 2 s (omega arith) in
          line_head 76 a (i ∷ []) (L a i) s refl (λ x. ap (λ (y : ℕ). node_with 3 a y x) place)

-- Of the node lines, those from line i on stand at a place, and the records of the columns up to node i and theirs are all of them.
pub record Going (fields start : List ℕ) (ns : List NodeLine) (p : ℕ) (work : List ℕ) (i : ℕ) : Type 0 where
  pub here : Stands fields p (lines_fields (map node_line (drop i ns)))
  pub same : up_to (record_at work) i ++ records_of (column_span start) i (drop i ns) ≡ records_of (column_span start) 0 ns

-- So for whichever node lines the fields are.
abbrev pub Turn : List ℕ → ℕ → ℕ → List ℕ → ℕ → List ℕ → ℕ → Type 0
Turn fields nodes count start p work i = (ns : List NodeLine) → NodesStand fields nodes count ns → Going fields start ns p work i

module _ (fields start : List ℕ) (ns : List NodeLine) (p : ℕ) (work : List ℕ) (i : ℕ) (g : Going fields start ns p work i) where
  module _ (more : i < length ns) where
    due : drop i ns ≡ get_or ns i (D 0) ∷ drop (i + 1) ns
    due = drop-cons ns i (D 0) more ∙ ap (λ (k : ℕ). get_or ns i (D 0) ∷ drop k ns) (sym (add-one i))

    line_due : LineHead fields p (get_or ns i (D 0)) (drop (i + 1) ns)
    line_due = first_line fields p (drop (i + 1) ns) (get_or ns i (D 0)) (subst (λ (l : List NodeLine). Stands fields p (lines_fields (map node_line l))) due g.here)

    pub going_on : HeadsOnly start work → i < 3000 → 16384 ≤ length start → (code place size : ℕ) → code ≡ letter_code (get_or fields p 0)
        → place ≡ place_at fields p (get_or fields p 0) → size ≡ node_size (get_or fields p 0)
        → Going fields start ns (p + size) (head_put work i code (get_or fields (p + 1) 0) place) (i + 1)
    going_on h few room code place size ec ep es =
        let long = h.size in
        let label = get_or fields (p + 1) 0 in
        let put = head_put work i code label place in
        let spans = column_span start in
        let later = records_of spans (i + 1) (drop (i + 1) ns) in
        let span : column_span work i ≡ spans i =
        λ z. record { start = h.kept (starts_from + i) (omega arith) z; end = h.kept (ends_from + i) (omega arith) z } in
        let before : up_to (record_at put) i ≡ up_to (record_at work) i = up_to_same (record_at put) (record_at work) i (head_before work i code label place few) in
        let here : record_at put i ≡ node_record (get_or ns i (D 0)) (spans i) =
        head_here work i code label place few (omega arith) ∙ (λ z. node_with (ec z) label (ep z) (span z)) ∙ line_due.head (spans i) in
        record {
          here = subst (λ (k : ℕ). Stands fields (p + k) (lines_fields (map node_line (drop (i + 1) ns)))) (sym es) line_due.rest;
          same = ap (λ (m : ℕ). up_to (record_at put) m ++ later) (add-one i)
              ∙ append_assoc (up_to (record_at put) i) (record_at put i ∷ []) later
              ∙ (λ j. before j ++ (here j ∷ later))
              ∙ ap (λ (xs : List NodeLine). up_to (record_at work) i ++ records_of spans i xs) (sym due)
              ∙ g.same;
        }

  pub going_ends : (count : ℕ) → length ns ≡ count → i ≡ count → up_to (record_at work) count ≡ records_of (column_span start) 0 ns
  going_ends count e q =
      let none : drop i ns ≡ [] = drop_of_length-le ns {i = i} (omega arith) in
      ap (up_to (record_at work)) (sym q)
      ∙ sym (append-nil (up_to (record_at work) i))
      ∙ ap (λ (xs : List NodeLine). up_to (record_at work) i ++ records_of (column_span start) i xs) (sym none)
      ∙ g.same

-- The line that is due lies inside the fields.
pub line_inside : (fields : List ℕ) (nodes count : ℕ) (start : List ℕ) (p : ℕ) (work : List ℕ) (i : ℕ) → Turn fields nodes count start p work i
    → ((ns : List NodeLine) × NodesStand fields nodes count ns) → i < count → (2 ≤ node_size (get_or fields p 0)) × (p + node_size (get_or fields p 0) ≤ length fields)
line_inside fields nodes count start p work i t (ns, w) more =
    (size_least (get_or fields p 0), (line_due fields start ns p work i (t ns w) (omega (arith, w.counted))).inside)

pub going_starts : (fields start : List ℕ) (ns : List NodeLine) (p : ℕ) → Stands fields p (lines_fields (map node_line ns)) → Going fields start ns p start 0
going_starts fields start ns p here = record { here = here; same = refl }

-- The records of lines whose spans agree.
pub records_agree : (f g : ℕ → Span) (n i : ℕ) (ls : List NodeLine) → ((j : ℕ) → j < n → f j ≡ g j) → i + length ls ≤ n → records_of f i ls ≡ records_of g i ls
records_agree f g n i [] same few = refl
records_agree f g n i (l ∷ ls) same few = λ j. node_record l (same i (omega arith) j) ∷ records_agree f g n (i + 1) ls same (omega arith) j

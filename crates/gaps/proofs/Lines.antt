-- Node lines in turn among the fields: the line that is due, by its letter, and the lines after it. What is summed over the lines of one
-- letter takes up a line's own share as the line is passed. Assumes nothing.
use mathlib.Core.Path.{◌≡◌, refl, sym, ap, subst, ◌∙◌}
use mathlib.Core.List.{List, [], ◌∷◌, ◌++◌, map}
use Prim.Native.Nat.{ℕ, ◌+◌, ◌-◌, ◌≤◌, ◌<◌, min, max}
use native.Mathlib.Numerals.{add-one}
use native.Mathlib.Omega.{arith}
use lib.ListN.{length, get_or, drop, drop_of_length-le}
use lib.Seq.{drop-cons}
use Rattle.rules.specs.declared.Header.{Header}
use Rattle.rules.specs.Text.{decimal}
use Rattle.rules.specs.Index.{of_cue}
use Rattle.rules.specs.Case.{NodeLine, D, E, L}
use Rattle.rules.specs.Fields.{lines_fields, node_line}
use Rattle.rules.specs.Ranges.{GoodNode}
use Rattle.rules.specs.Gaps.{empty_count, gaps_of}
use Rattle.rules.proofs.Gaps.Lengths.{surplus}
use Rattle.rules.proofs.Judgement.Each.{Each, each_at}
use Rattle.fields.specs.Standing.{Stands}
use Rattle.fields.specs.Directory.{node_size}
use Rattle.fields.proofs.Standing.{stands_left, stands_right, stands_at, stands_first, stands_inside, stands_as}
use Rattle.fields.proofs.Lines.{node_fields, node_fields_lem}
use Rattle.records.specs.Records.{NodesStand}
use Rattle.records.proofs.Turns.{size_least}
use Rattle.gaps.specs.Sums.{low_of, high_of}

-- ---- The line that is due

-- A line's letter; and its gap or its position, 0 for D, which has neither.
abbrev pub letter_of : NodeLine → ℕ
letter_of (D m) = 68
letter_of (E m g) = 69
letter_of (L a i) = 76

abbrev pub place_of : NodeLine → ℕ
place_of (D m) = 0
place_of (E m g) = g
place_of (L a i) = i

-- The fields of lines.
abbrev pub fields_of_lines : List NodeLine → List ℕ
fields_of_lines ns = lines_fields (map node_line ns)

abbrev pub line_at : List NodeLine → ℕ → NodeLine
line_at ns i = get_or ns i (D 0)

-- Of the lines from line i on, which stand at a place, the first; and the others, at the next place.
pub record Due (fields : List ℕ) (p : ℕ) (ns : List NodeLine) (i : ℕ) : Type 0 where
  pub first : drop i ns ≡ line_at ns i ∷ drop (i + 1) ns
  pub letter : get_or fields p 0 ≡ letter_of (line_at ns i)
  pub place : (get_or fields p 0 ≡ 68 → ⊥) → get_or fields (p + 2) 0 ≡ place_of (line_at ns i)
  pub split : fields_of_lines (drop i ns) ≡ node_fields (line_at ns i) ++ fields_of_lines (drop (i + 1) ns)
  pub size : node_size (get_or fields p 0) ≡ length (node_fields (line_at ns i))
  pub two : 2 ≤ node_size (get_or fields p 0)
  pub inside : p + node_size (get_or fields p 0) ≤ length fields
  pub rest : Stands fields (p + node_size (get_or fields p 0)) (fields_of_lines (drop (i + 1) ns))

module _ (fields : List ℕ) (p : ℕ) where
  letter_here : (n : NodeLine) → Stands fields p (node_fields n) → get_or fields p 0 ≡ letter_of n
  letter_here (D m) s = stands_first fields p 68 (m ∷ []) s
  letter_here (E m g) s = stands_first fields p 69 (m ∷ g ∷ []) s
  letter_here (L a i) s = stands_first fields p 76 (a ∷ i ∷ []) s

  place_here : (n : NodeLine) → Stands fields p (node_fields n) → (get_or fields p 0 ≡ 68 → ⊥) → get_or fields (p + 2) 0 ≡ place_of n
  place_here (D m) s h = absurd (h (stands_first fields p 68 (m ∷ []) s))
  place_here (E m g) s h = stands_at fields p (69 ∷ m ∷ g ∷ []) 2 s (omega arith)
  place_here (L a i) s h = stands_at fields p (76 ∷ a ∷ i ∷ []) 2 s (omega arith)

  line_size_lem : (n : NodeLine) → node_size (letter_of n) ≡ length (node_fields n)
  unfolding node_size
  line_size_lem (D m) = refl
  line_size_lem (E m g) = refl
  line_size_lem (L a i) = refl

  pub line_due : (ns : List NodeLine) (i : ℕ) → Stands fields p (fields_of_lines (drop i ns)) → i < length ns → Due fields p ns i
  line_due ns i s h =
      let x = line_at ns i in
      let left = drop (i + 1) ns in
      let after = fields_of_lines left in
      let first : drop i ns ≡ x ∷ left = rw (add-one, drop-cons ns i (D 0)) in
      let split : fields_of_lines (drop i ns) ≡ node_fields x ++ after =
      ap fields_of_lines first ∙ ap (λ (l : List ℕ). l ++ after) (node_fields_lem x) in
      let both = stands_as fields p _ _ split s in
      let one = stands_left fields p (node_fields x) after both in
      let letter = letter_here x one in
      let size : node_size (get_or fields p 0) ≡ length (node_fields x) = ap node_size letter ∙ line_size_lem x in
      let two = size_least (get_or fields p 0) in
      record {
        first = first;
        letter = letter;
        place = place_here x one;
        split = split;
        size = size;
        two = two;
        inside = omega (arith, stands_inside fields p (node_fields x) one (omega arith));
        rest = subst (λ (k : ℕ). Stands fields (p + k) after) (sym size) (stands_right fields p (node_fields x) after both);
      }

-- ---- What is summed over the lines of one letter

pub record Over (c : ℕ) (f : List NodeLine → ℕ) (step : ℕ → ℕ → ℕ) : Type 0 where
  pub those : (n : NodeLine) (ns : List NodeLine) → letter_of n ≡ c → f (n ∷ ns) ≡ step (place_of n) (f ns)
  pub others : (n : NodeLine) (ns : List NodeLine) → (letter_of n ≡ c → ⊥) → f (n ∷ ns) ≡ f ns

pub over_empties : Over 69 empty_count (λ g n. 1 + n)
over_empties = record { those = those; others = others }
  where
    those : (n : NodeLine) (ns : List NodeLine) → letter_of n ≡ 69 → empty_count (n ∷ ns) ≡ 1 + empty_count ns
    those (D m) ns e = absurd (omega arith)
    those (E m g) ns e = omega arith
    those (L a i) ns e = absurd (omega arith)

    others : (n : NodeLine) (ns : List NodeLine) → (letter_of n ≡ 69 → ⊥) → empty_count (n ∷ ns) ≡ empty_count ns
    others (D m) ns h = refl
    others (E m g) ns h = absurd (h refl)
    others (L a i) ns h = refl

abbrev pub surplus_of : List NodeLine → ℕ
surplus_of ns = surplus (gaps_of ns)

pub over_surplus : Over 69 surplus_of (λ g n. length (decimal g) - 1 + n)
over_surplus = record { those = those; others = others }
  where
    those : (n : NodeLine) (ns : List NodeLine) → letter_of n ≡ 69 → surplus_of (n ∷ ns) ≡ length (decimal (place_of n)) - 1 + surplus_of ns
    those (D m) ns e = absurd (omega arith)
    those (E m g) ns e = refl
    those (L a i) ns e = absurd (omega arith)

    others : (n : NodeLine) (ns : List NodeLine) → (letter_of n ≡ 69 → ⊥) → surplus_of (n ∷ ns) ≡ surplus_of ns
    others (D m) ns h = refl
    others (E m g) ns h = absurd (h refl)
    others (L a i) ns h = refl

pub over_low : (k : ℕ) → Over 76 (low_of k) (λ i n. min (of_cue i) n)
over_low k = record { those = those; others = others }
  where
    those : (n : NodeLine) (ns : List NodeLine) → letter_of n ≡ 76 → low_of k (n ∷ ns) ≡ min (of_cue (place_of n)) (low_of k ns)
    those (D m) ns e = absurd (omega arith)
    those (E m g) ns e = absurd (omega arith)
    those (L a i) ns e = refl

    others : (n : NodeLine) (ns : List NodeLine) → (letter_of n ≡ 76 → ⊥) → low_of k (n ∷ ns) ≡ low_of k ns
    others (D m) ns h = refl
    others (E m g) ns h = refl
    others (L a i) ns h = absurd (h refl)

pub over_high : Over 76 high_of (λ i n. max (of_cue i) n)
over_high = record { those = those; others = others }
  where
    those : (n : NodeLine) (ns : List NodeLine) → letter_of n ≡ 76 → high_of (n ∷ ns) ≡ max (of_cue (place_of n)) (high_of ns)
    those (D m) ns e = absurd (omega arith)
    those (E m g) ns e = absurd (omega arith)
    those (L a i) ns e = refl

    others : (n : NodeLine) (ns : List NodeLine) → (letter_of n ≡ 76 → ⊥) → high_of (n ∷ ns) ≡ high_of ns
    others (D m) ns h = refl
    others (E m g) ns h = refl
    others (L a i) ns h = absurd (h refl)

-- At the line that is due.
module _ {c : ℕ} {f : List NodeLine → ℕ} {step : ℕ → ℕ → ℕ} (o : Over c f step) (fields : List ℕ) (p : ℕ) (ns : List NodeLine) (i : ℕ) (d : Due fields p ns i) where
  pub due_those : get_or fields p 0 ≡ c → (c ≡ 68 → ⊥) → f (drop i ns) ≡ step (get_or fields (p + 2) 0) (f (drop (i + 1) ns))
  due_those e h =
      ap f d.first ∙ o.those (line_at ns i) (drop (i + 1) ns) (sym d.letter ∙ e)
      ∙ ap (λ (g : ℕ). step g (f (drop (i + 1) ns))) (sym (d.place (λ q. h (sym e ∙ q))))

  pub due_others : (get_or fields p 0 ≡ c → ⊥) → f (drop i ns) ≡ f (drop (i + 1) ns)
  due_others h = ap f d.first ∙ o.others (line_at ns i) (drop (i + 1) ns) (λ q. h (d.letter ∙ q))

-- ---- A loop over the lines that counts

-- The lines from line i on stand at a place, and what was counted and what they have is what all have.
pub record Counting (f : List NodeLine → ℕ) (fields : List ℕ) (ns : List NodeLine) (p i n : ℕ) : Type 0 where
  pub here : Stands fields p (fields_of_lines (drop i ns))
  pub same : n + f (drop i ns) ≡ f ns

-- So for whichever lines the fields are.
abbrev pub Counted : (List NodeLine → ℕ) → List ℕ → ℕ → ℕ → ℕ → ℕ → ℕ → Type 0
Counted f fields nodes count p i n = (ns : List NodeLine) → NodesStand fields nodes count ns → Counting f fields ns p i n

pub counting_starts : (f : List NodeLine → ℕ) (fields : List ℕ) (nodes count : ℕ) → Counted f fields nodes count nodes 0 0
counting_starts f fields nodes count ns w = record { here = w.here; same = omega arith }

pub stands_next : (fields : List ℕ) (p : ℕ) (ns : List NodeLine) (i : ℕ) (d : Due fields p ns i) (size : ℕ) → size ≡ node_size (get_or fields p 0)
    → Stands fields (p + size) (fields_of_lines (drop (i + 1) ns))
stands_next fields p ns i d size e = subst (λ (k : ℕ). Stands fields (p + k) (fields_of_lines (drop (i + 1) ns))) (sym e) d.rest

module _ (f : List NodeLine → ℕ) (fields : List ℕ) (nodes count p i n : ℕ) (t : Counted f fields nodes count p i n) where
  pub due_of : (ns : List NodeLine) → NodesStand fields nodes count ns → i < count → Due fields p ns i
  due_of ns w more = line_due fields p ns i (t ns w).here (omega (arith, w.counted))

  pub counting_on : i < count → (m size : ℕ) → size ≡ node_size (get_or fields p 0)
      → ((ns : List NodeLine) → Due fields p ns i → m + f (drop (i + 1) ns) ≡ n + f (drop i ns)) → Counted f fields nodes count (p + size) (i + 1) m
  counting_on more m size e step ns w =
      let d = due_of ns w more in
      record { here = stands_next fields p ns i d size e; same = step ns d ∙ (t ns w).same }

  pub counting_ends : f [] ≡ 0 → count ≤ i → (ns : List NodeLine) → NodesStand fields nodes count ns → n ≡ f ns
  counting_ends none most ns w =
      let over : drop i ns ≡ [] = drop_of_length-le ns {i = i} (omega (arith, w.counted)) in
      let same = (t ns w).same in
      omega (arith, ap f over)

-- The line that is due lies inside the fields.
abbrev pub Inside : List ℕ → ℕ → Type 0
Inside fields p = (2 ≤ node_size (get_or fields p 0)) × (p + node_size (get_or fields p 0) ≤ length fields)

pub due_inside : (fields : List ℕ) (p : ℕ) (ns : List NodeLine) (i : ℕ) → Due fields p ns i → Inside fields p
due_inside fields p ns i d = (d.two, d.inside)

-- A gap or a position is at most the number of cues.
pub place_few : (fields : List ℕ) (p : ℕ) (ns : List NodeLine) (i : ℕ) (h : Header) → Due fields p ns i → i < length ns → Each (GoodNode h) ns
    → (get_or fields p 0 ≡ 68 → ⊥) → get_or fields (p + 2) 0 ≤ h.cues
place_few fields p ns i h d more good other =
    let place = d.place other in
    let few = go (line_at ns i) (each_at (GoodNode h) ns i (D 0) good more) in
    omega arith
  where
    go : (n : NodeLine) → GoodNode h n → place_of n ≤ h.cues
    go (D m) g = omega arith
    go (E m x) g = g.1
    go (L a x) g = g.2

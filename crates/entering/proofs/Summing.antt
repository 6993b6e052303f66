-- The parts of trees made in turn: of all the trees, those that are left stand at a node and a place, and the parts of the others are
-- stored. Assumes nothing.
use mathlib.Core.Path.{◌≡◌, refl, sym, ap, subst, ◌∙◌}
use mathlib.Core.List.{List, ◌++◌, map}
use mathlib.Core.List.Memᴰ.{append_left as in_left}
use mathlib.Core.List.Memᴰ.{append_right as in_right}
use mathlib.Core.List.{Memᴰ as Mem}
use Prim.Native.Nat.{ℕ, ◌+◌, ◌-◌, ◌≤◌, ◌<◌}
use native.Mathlib.Omega.{arith}
use lib.ListN.{length, set, length-map}
use lib.Seq.{get_or-set_same, get_or-set_other}
use Rattle.rules.specs.Case.{NodeLine}
use Rattle.rules.specs.Fields.{lines_fields, node_line}
use Rattle.rules.specs.Tree.{Tree, Trees, no_tree, more, preorder, root_line, span}
use Rattle.rules.specs.Refusals.{Each}
use Rattle.rules.specs.Ranges.{GoodNode}
use Rattle.rules.specs.Gaps.{empty_count}
use Rattle.rules.proofs.Judgement.Preorder.{lines_of, lines_of_all, lines_more}
use Rattle.rules.proofs.Gaps.Trees.{empties_in, empties_in_all, empties_lines}
use Rattle.fields.specs.Standing.{Stands}
use Rattle.fields.proofs.Standing.{stands_left, stands_right, stands_as}
use Rattle.tree.specs.Layout.{size, sizes}
use Rattle.records.specs.Records.{NodesStand}
use Rattle.parts.specs.Spans.{node_after, RowInside}
use Rattle.constraints.proofs.Held.{RowIs, root_row, preorder_length, count_of}
use Rattle.entering.specs.declared.sums.Part.{Part}
use Rattle.entering.specs.Parts.{absent, part_in}
use Rattle.entering.specs.Trees.{TreesStand, PartSays, PartsSaid}
use Rattle.entering.proofs.Cuts.{lines_join}

abbrev fields_of : List NodeLine → List ℕ
fields_of ns = lines_fields (map node_line ns)

-- ---- The first of trees that stand

module _ {fields work : List ℕ} {n place before count : ℕ} {x : Tree} {xs : Trees} (w : TreesStand fields work n place before count (more x xs)) where
  this_row : RowIs work n (span x) (n + size x)
  this_row = root_row work x n w.rows.0

  pub this_inside : RowInside work n
  this_inside = this_row.inside

  pub this_after : node_after work n ≡ n + size x
  this_after = this_row.follows

  both : Stands fields place (fields_of (lines_of x) ++ fields_of (lines_of_all xs))
  both =
      stands_as fields place (fields_of (lines_of_all (more x xs))) (fields_of (lines_of x) ++ fields_of (lines_of_all xs))
      (ap fields_of (lines_more x xs) ∙ lines_join (lines_of x) (lines_of_all xs)) w.lines

  pub this_lines : NodesStand fields place (size x) (lines_of x)
  this_lines = record {
    here = stands_left fields place (fields_of (lines_of x)) (fields_of (lines_of_all xs)) both;
    counted = length-map (preorder x) root_line ∙ preorder_length x;
  }

  pub this_good : Each (GoodNode w.header) (lines_of x)
  this_good y m = w.good y (subst (λ (l : List NodeLine). Mem y l) (sym (lines_more x xs)) (in_left (lines_of_all xs) m))

  later_good : Each (GoodNode w.header) (lines_of_all xs)
  later_good y m = w.good y (subst (λ (l : List NodeLine). Mem y l) (sym (lines_more x xs)) (in_right (lines_of x) m))

  all_nodes : size x + sizes xs ≤ 3000
  unfolding size
  all_nodes = w.few_nodes

  all_empties : before + (empties_in x + empties_in_all xs) ≤ 32
  unfolding empties_in
  all_empties = w.few_empties

  pub this_few : size x ≤ 3000
  this_few = let a = all_nodes in omega arith

  pub this_empties : before + empty_count (lines_of x) ≤ 32
  this_empties = let a = all_empties in omega (arith, empties_lines x)

  later_stand : {place' : ℕ} → place' ≡ place + length (fields_of (lines_of x)) → TreesStand fields work (n + size x) place' (before + empties_in x) (count - 1) xs
  later_stand e =
      let a = all_nodes in
      let b = all_empties in
      let c = w.counted in
      record {
        header = w.header;
        few_cues = w.few_cues;
        rows = w.rows.1;
        counted = omega arith;
        lines = subst (λ (p : ℕ). Stands fields p (fields_of (lines_of_all xs))) (sym e) (stands_right fields place (fields_of (lines_of x)) (fields_of (lines_of_all xs)) both);
        good = later_good;
        few_nodes = omega arith;
        few_empties = omega arith;
      }

-- ---- In turn

pub record Summing (fields work : List ℕ) (cues first count : ℕ) (ts : Trees) (sums : List Part) (n place before j : ℕ) : Type 0 where
  pub left : Trees
  pub due : TreesStand fields work n place before (count - j) left
  pub rest : (new : List Part) → ((i : ℕ) → i < j → part_in new i ≡ part_in sums i) → PartsSaid cues before left new j → PartsSaid cues first ts new 0

pub summing_starts : {fields work : List ℕ} {first count : ℕ} {ts : Trees} {n place : ℕ} (cues : ℕ) (sums : List Part)
    → TreesStand fields work n place first count ts → Summing fields work cues first count ts sums n place first 0
summing_starts {fields} {work} {first} {count} {ts} {n} {place} cues sums w =
    let e : count ≡ count - 0 = omega arith in
    record { left = ts; due = subst (λ (c : ℕ). TreesStand fields work n place first c ts) e w; rest = λ new same said. said }

module _ {fields work : List ℕ} {cues first count : ℕ} {ts : Trees} {sums : List Part} {n place before j : ℕ}
    (p : Summing fields work cues first count ts sums n place before j) where
  -- The tree that is due, and those after it.
  pub record Due : Type 0 where
    pub this : Tree
    pub later : Trees
    pub lefts : p.left ≡ more this later
    pub stand : TreesStand fields work n place before (count - j) (more this later)

  pub tree_due : j < count → Due
  tree_due some = go p.left refl
    where
      go : (xs : Trees) → p.left ≡ xs → Due
      go no_tree e = let c = p.due.counted in let z = ap count_of e in absurd (omega arith)
      go (more x xs) e = record { this = x; later = xs; lefts = e; stand = subst (TreesStand fields work n place before (count - j)) e p.due }

  -- Its part is stored.
  pub summing_on : (x : Due) → j < length sums → (q : Part) → PartSays cues before (lines_of x.this) q → (after next empties : ℕ) → after ≡ node_after work n
      → next ≡ place + length (lines_fields (map node_line (lines_of x.this))) → empties ≡ empty_count (lines_of x.this)
      → Summing fields work cues first count ts (set sums j q) after next (before + empties) (j + 1)
  summing_on x inside q says after next empties a b c =
      let node : n + size x.this ≡ after = sym (a ∙ this_after x.stand) in
      let gaps : before + empties_in x.this ≡ before + empties = omega (arith, empties_lines x.this) in
      let left : count - j - 1 ≡ count - (j + 1) = omega arith in
      record {
        left = x.later;
        due = subst (λ (m : ℕ). TreesStand fields work m next (before + empties) (count - (j + 1)) x.later) node
            (subst (λ (m : ℕ). TreesStand fields work (n + size x.this) next m (count - (j + 1)) x.later) gaps
            (subst (λ (m : ℕ). TreesStand fields work (n + size x.this) next (before + empties_in x.this) m x.later) left (later_stand x.stand b)));
        rest = λ new same said.
            p.rest new (λ i h. same i (omega arith) ∙ get_or-set_other sums j i q absent (λ e. omega arith))
            (subst (λ (xs : Trees). PartsSaid cues before xs new j) (sym x.lefts) (
              subst (PartSays cues before (lines_of x.this)) (sym (same j (omega arith) ∙ get_or-set_same sums j q absent inside)) says,
              subst (λ (m : ℕ). PartsSaid cues m x.later new (j + 1)) (sym gaps) said,
            ));
      }

  pub summing_ends : count ≤ j → PartsSaid cues first ts sums 0
  summing_ends over = p.rest sums (λ i h. refl) (go p.left p.due.counted)
    where
      go : (xs : Trees) → count_of xs ≡ count - j → PartsSaid cues before xs sums j
      go no_tree e = tt
      go (more x xs) e = absurd (omega arith)

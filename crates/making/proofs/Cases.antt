-- The made case: its fields are the case's own up to the P line, with the header's k and node count, then the new P line and node lines. Assumes
-- nothing.
use mathlib.Core.Path.{◌≡◌, refl, sym, ap, ap₂, subst, ◌∙◌}
use mathlib.Core.List.{List, [], ◌∷◌, ◌++◌, map, flatten, append_assoc}
use mathlib.Core.Option.{Option, none, some}
use Prim.Native.Nat.{ℕ, zero, suc, ◌+◌, ◌-◌, ◌*◌, ◌≤◌}
use native.Mathlib.Omega.{arith}
use lib.ListN.{length, take, drop, set, length-append, take-append-drop}
use lib.Seq.{sets, sets-eq, take_at, take-append_seam, drop-append_seam, length-take-le}
use Rattle.rules.specs.declared.Header.{Header}
use Rattle.rules.specs.Table.{row_of, table}
use Rattle.rules.specs.Case.{NodeLine, Case, Valued}
use Rattle.rules.specs.Fields.{line_fields, lines_fields, header_line, initial_line, action_line, method_lines, cues_line, node_line, lines_of, fields_of}
use Rattle.rules.specs.Form.{FormLine, Form, form_lines}
use Rattle.rules.specs.Import.{line_defining, node_for, subtasks_first, nodes_of, actions_of, made_nodes, made_header, made_case}
use Rattle.rules.proofs.Judgement.Sound.{sound}
use Rattle.fields.specs.Standing.{Stands}
use Rattle.fields.specs.Directory.{IsRead, NodesLast}
use Rattle.fields.proofs.Standing.{sets_append}
use Rattle.fields.proofs.Lines.{cues_fields, node_fields_lem}
use Rattle.output.specs.Output.{HasLines}
use Rattle.output.proofs.Cases.{case_has_lines}
use Rattle.making.specs.declared.Put.{Put}
use Rattle.making.specs.Nodes.{nodes_fields, Room, Stored}
use Rattle.making.specs.Making.{PlanLast, Makes}
use Rattle.making.proofs.Plans.{plan_actions}
use Rattle.making.proofs.Putting.{few_fields, lines_append}

-- ---- The fields of a case in parts

abbrev header_fields : Header → List ℕ
header_fields h = 78 ∷ h.propositions ∷ h.actions ∷ h.compounds ∷ h.methods ∷ h.goal ∷ h.cues ∷ h.nodes ∷ []

header_fields_lem : (h : Header) → line_fields (header_line h) ≡ header_fields h
unfolding line_fields header_line row_of table
header_fields_lem h = refl

-- The lines between the header and the P line.
middle_lines : Case → List Valued
middle_lines k = initial_line k.initial ∷ (map action_line k.actions ++ flatten (map method_lines k.methods))

abbrev middle : Case → List ℕ
middle k = lines_fields (middle_lines k)

lines_part : (k : Case) → lines_of k ≡ header_line k.head ∷ (middle_lines k ++ (cues_line k.plan ∷ map node_line k.nodes))
unfolding lines_of middle_lines
lines_part k =
    ap (λ (l : List Valued). header_line k.head ∷ initial_line k.initial ∷ l)
    (sym (append_assoc (map action_line k.actions) (flatten (map method_lines k.methods)) (cues_line k.plan ∷ map node_line k.nodes)))

-- Those ahead of the P line.
abbrev ahead : Case → List ℕ
ahead k = header_fields k.head ++ middle k

fields_part : (k : Case) → fields_of k ≡ ahead k ++ (line_fields (cues_line k.plan) ++ nodes_fields k.nodes)
unfolding fields_of
fields_part k =
    let after = cues_line k.plan ∷ map node_line k.nodes in
    ap lines_fields (lines_part k)
    ∙ ap₂ ◌++◌ (header_fields_lem k.head) (lines_append (middle_lines k) after)
    ∙ sym (append_assoc (header_fields k.head) (middle k) (lines_fields after))

module _ (k : Case) where
  parts_size : length (fields_of k) ≡ 8 + length (middle k) + (length (line_fields (cues_line k.plan)) + length (nodes_fields k.nodes))
  parts_size =
      let plan = line_fields (cues_line k.plan) in
      let nodes = nodes_fields k.nodes in
      omega (arith, ap length (fields_part k), length-append (ahead k) (plan ++ nodes), length-append (header_fields k.head) (middle k), length-append plan nodes)

  ahead_size : (plan : ℕ) → PlanLast k plan → (length (ahead k) ≡ plan) × (8 ≤ plan)
  ahead_size plan last =
      let size = parts_size in
      let own = length-append (header_fields k.head) (middle k) in
      (omega arith, omega arith)

  -- The place of the P line, by that of the first node line.
  module _ (r : IsRead k) (nodes : ℕ) (last : NodesLast k nodes) where
    cues_size : length (line_fields (cues_line k.plan)) ≡ 1 + k.head.cues
    cues_size = omega (arith, ap length (cues_fields k.plan), (sound r.text k r.reads).plan_length)

    pub place_low : 1 + k.head.cues ≤ nodes
    place_low = omega (arith, cues_size, parts_size)

    pub place_is : PlanLast k (nodes - 1 - k.head.cues)
    place_is = let low = place_low in omega (arith, cues_size)

-- ---- The made case

module _ (k : Case) (f : Form) where
  made_ahead : ahead (made_case k f) ≡ header_fields (made_header k.head (length f.cues) (length (made_nodes f))) ++ middle k
  unfolding made_case middle_lines
  made_ahead = refl

  made_plan : (made_case k f).plan ≡ actions_of f.cues
  unfolding made_case
  made_plan = refl

  made_nodes_lem : (made_case k f).nodes ≡ made_nodes f
  unfolding made_case
  made_nodes_lem = refl

  made_cues : (made_case k f).head.cues ≡ length f.cues
  unfolding made_case made_header
  made_cues = refl

  made_fields : fields_of (made_case k f)
      ≡ (header_fields (made_header k.head (length f.cues) (length (made_nodes f))) ++ middle k)
      ++ (line_fields (cues_line (actions_of f.cues)) ++ nodes_fields (made_nodes f))
  made_fields =
      fields_part (made_case k f)
      ∙ ap₂ ◌++◌ made_ahead (ap₂ (λ (p : List ℕ) (ns : List NodeLine). line_fields (cues_line p) ++ nodes_fields ns) made_plan made_nodes_lem)

  -- Two numbers of the header, stored.
  header_set : (rest : List ℕ) (cues nodes : ℕ)
      → set (set ((header_fields k.head ++ middle k) ++ rest) 6 cues) 7 nodes ≡ (header_fields (made_header k.head cues nodes) ++ middle k) ++ rest
  unfolding made_header
  header_set rest cues nodes = refl

-- ---- How many nodes and fields there are

pub nodes_most : (left : ℕ) (es : List FormLine) (ids : List ℕ) → length (nodes_of left es ids) ≤ left
nodes_most zero es ids = omega arith
nodes_most (suc left) es [] = omega arith
nodes_most (suc left) es (id ∷ ids) = go (line_defining es id) (nodes_most left es)
  where
    go : (o : Option FormLine) → ((todo : List ℕ) → length (nodes_of left es todo) ≤ left)
        → length {A = NodeLine} (elim o as (λ x. List NodeLine) [ none ↦ nodes_of left es ids | some e ↦ node_for e ∷ nodes_of left es (subtasks_first e ids) ])
        ≤ suc left
    go none again = omega (arith, again ids)
    go (some e) again = omega (arith, again (subtasks_first e ids))

pub fields_most : (ns : List NodeLine) → length (nodes_fields ns) ≤ 3 * length ns
fields_most [] = omega arith
fields_most (x ∷ ns) =
    omega (arith, length-append (line_fields (node_line x)) (nodes_fields ns), ap length (node_fields_lem x), few_fields x, fields_most ns)

-- ---- The made case among the fields

-- The room for the node lines, after the P line is stored.
pub room_after : {count : ℕ} {starts labels next last before : List ℕ} {from : ℕ} → Room count starts labels next last before from → (after : List ℕ) (to : ℕ)
    → length after ≡ length before → to ≡ from → Room count starts labels next last after to
room_after r after to e i = record {
  starts_long = r.starts_long;
  labels_long = r.labels_long;
  next_long = r.next_long;
  last_long = r.last_long;
  fields_long = omega (arith, r.fields_long);
}

module _ {k : Case} {f : Form} {es : List FormLine} {ids starts links labels : List ℕ} {cues count root plan : ℕ} {before : List ℕ} (m : Makes k f es ids starts links labels cues count root plan before) where
  lines_are : form_lines f ≡ es
  unfolding form_lines
  lines_are = ap₂ ◌++◌ m.cued m.tasked ∙ take-append-drop cues es

  pub cues_are : length f.cues ≡ cues
  cues_are = ap length m.cued ∙ length-take-le cues es m.holds.lines.few

  pub nodes_are : made_nodes f ≡ nodes_of count es (f.root ∷ [])
  unfolding made_nodes
  nodes_are =
      ap (λ (l : List FormLine). nodes_of (length l) l (f.root ∷ [])) lines_are ∙ ap (λ (n : ℕ). nodes_of n es (f.root ∷ [])) m.holds.counted

  pub makes_long : 8 ≤ plan
  makes_long = (ahead_size k plan m.planned).1

  pub makes_few : cues ≤ 3000
  makes_few = omega (arith, m.holds.lines.few, m.holds.lines.most)

  module _ {next last : List ℕ} (room : Room count starts labels next last before (plan + 1 + cues)) where
    long : cues ≤ length labels
    long = omega (arith, room.labels_long, m.holds.lines.few, m.holds.counted)

    actions_are : actions_of f.cues ≡ take cues labels
    actions_are = ap actions_of m.cued ∙ sym (plan_actions es cues ids labels m.holds.lines long cues (omega arith))

    abbrev plan_fields : List ℕ
    plan_fields = line_fields (cues_line (take cues labels))

    abbrev nodes : List NodeLine
    nodes = nodes_of count es (f.root ∷ [])

    abbrev lines : List ℕ
    lines = nodes_fields nodes

    -- The fields ahead of the P line, with the two numbers of the header.
    abbrev renewed : List ℕ
    renewed = header_fields (made_header k.head cues (length nodes)) ++ middle k

    plan_size : length plan_fields ≡ 1 + cues
    plan_size = omega (arith, ap length (cues_fields (take cues labels)), length-take-le cues labels long)

    lines_size : length lines ≤ 3 * count
    lines_size = omega (arith, fields_most nodes, nodes_most count es (f.root ∷ []))

    kept : take plan before ≡ ahead k
    kept =
        let after = line_fields (cues_line k.plan) ++ nodes_fields k.nodes in
        let rest = m.stands.rest in
        ap (take plan) (m.stands.here ∙ ap (λ (l : List ℕ). l ++ rest) (fields_part k) ∙ append_assoc (ahead k) after rest)
        ∙ take_at (ahead k) (after ++ rest) plan (ahead_size k plan m.planned).0

    tail : List ℕ
    tail = drop (plan + length (plan_fields ++ lines)) before

    -- Both stored, after what is kept.
    both_put : (from : ℕ) → from ≡ plan + 1 + cues → sets (sets before plan plan_fields) from lines ≡ (ahead k ++ (plan_fields ++ lines)) ++ tail
    unfolding tail
    both_put from e =
        let place : from ≡ plan + length plan_fields = omega (arith, plan_size) in
        ap (λ (n : ℕ). sets (sets before plan plan_fields) n lines) place
        ∙ sym (sets_append plan_fields lines before plan)
        ∙ sets-eq (plan_fields ++ lines) before plan (omega (arith, room.fields_long, length-append plan_fields lines, plan_size, lines_size))
        ∙ ap (λ (l : List ℕ). (l ++ (plan_fields ++ lines)) ++ tail) kept

    fields_made : fields_of (made_case k f) ≡ renewed ++ (plan_fields ++ lines)
    fields_made =
        made_fields k f
        ∙ ap₂ (λ (n : ℕ) (ns : List NodeLine). (header_fields (made_header k.head n (length ns)) ++ middle k) ++ (line_fields (cues_line (actions_of f.cues)) ++ nodes_fields ns))
        cues_are nodes_are
        ∙ ap (λ (p : List ℕ). renewed ++ (line_fields (cues_line p) ++ lines)) actions_are

    made_size : length (fields_of (made_case k f)) ≡ plan + 1 + cues + length lines
    made_size =
        omega (
          arith,
          ap length fields_made,
          length-append renewed (plan_fields ++ lines),
          length-append (header_fields (made_header k.head cues (length nodes))) (middle k),
          length-append (header_fields k.head) (middle k),
          (ahead_size k plan m.planned).0,
          length-append plan_fields lines,
          plan_size,
        )

    -- The P line, the node lines and the two numbers of the header are stored.
    module _ (planned : List ℕ) (from : ℕ) (after : List ℕ) (r : Put) (e : planned ≡ sets before plan plan_fields) (i : from ≡ plan + 1 + cues) (s : Stored planned from nodes r after) where
      made_stands : Stands (set (set after 6 cues) 7 r.nodes) 0 (fields_of (made_case k f))
      made_stands = record {
        rest = tail;
        here =
            ap₂ (λ (l : List ℕ) (n : ℕ). set (set l 6 cues) 7 n) (s.put ∙ ap (λ (l : List ℕ). sets l from lines) e ∙ both_put from i) s.counted
            ∙ ap (λ (l : List ℕ). set (set l 6 cues) 7 (length nodes)) (append_assoc (ahead k) (plan_fields ++ lines) tail)
            ∙ header_set k f ((plan_fields ++ lines) ++ tail) cues (length nodes)
            ∙ sym (append_assoc renewed (plan_fields ++ lines) tail)
            ∙ ap (λ (l : List ℕ). l ++ tail) (sym fields_made);
      }

      pub makes_lines : HasLines cues (set (set after 6 cues) 7 r.nodes) r.end (lines_of (made_case k f))
      makes_lines =
          let plans : length (made_case k f).plan ≡ (made_case k f).head.cues =
          ap length (made_plan k f ∙ actions_are) ∙ length-take-le cues labels long ∙ sym (made_cues k f ∙ cues_are) in
          let end : length (fields_of (made_case k f)) ≡ r.end = omega (arith, made_size, s.ended) in
          subst (λ (n : ℕ). HasLines n (set (set after 6 cues) 7 r.nodes) r.end (lines_of (made_case k f))) (made_cues k f ∙ cues_are)
          (subst (λ (n : ℕ). HasLines (made_case k f).head.cues (set (set after 6 cues) 7 r.nodes) n (lines_of (made_case k f))) end
          (case_has_lines (made_case k f) (set (set after 6 cues) 7 r.nodes) plans made_stands))

      pub makes_most : r.end ≤ plan + 1 + cues + 3 * count
      makes_most = omega (arith, s.ended, lines_size)

-- The lines of a form, its action lines first.
pub form_cued : (f : Form) → f.cues ≡ take (length f.cues) (form_lines f)
unfolding form_lines
form_cued f = sym (take-append_seam f.cues f.tasks)

pub form_tasked : (f : Form) → f.tasks ≡ drop (length f.cues) (form_lines f)
unfolding form_lines
form_tasked f = sym (drop-append_seam f.cues f.tasks)

-- What a link leads to: the line that defines the id, so that the nodes of ids are those of their links. Assumes nothing.
use mathlib.Core.Path.{◌≡◌, refl, sym, ap, ap₂, subst, ◌∙◌}
use mathlib.Core.Bool.{Bool, true, false}
use mathlib.Core.List.Memᴰ
use mathlib.Core.List.{List, [], ◌∷◌, ◌++◌, map, map-append}
use mathlib.Core.Logic.{◌⊎◌, inl, inr, ⊎_elim, by_cases}
use mathlib.Core.Option.{Option, none, some}
use Prim.Native.Nat.{ℕ, zero, suc, ◌+◌, ◌-◌, ◌≤◌, ◌<◌}
use native.Mathlib.Decide.{dec_lt}
use native.Mathlib.Numerals.{add-one}
use native.Mathlib.Omega.{arith}
use borrow.Author.Tests.{lt-ltb, le-ltb, eq-eqb, ne_eqb}
use lib.Dec.{eqb}
use lib.ListN.{length, get_or, length-map}
use lib.Seq.{slice, length-slice}
use Rattle.rules.specs.Case.{NodeLine, D, E, L}
use Rattle.rules.specs.Form.{FormLine, cue_line, task_line, defines, uses}
use Rattle.rules.specs.Import.{line_defining, node_for, subtasks_first, nodes_of}
use Rattle.rules.proofs.Judgement.Each.{Each, each_nil}
use Rattle.links.specs.Links.{no_line, line_at, link_from, link, Lines, Linked}
use Rattle.making.specs.Nodes.{node_as, linked_nodes, links_below}

-- ---- The line of a link

-- No line of these defines an id; or one does, and the link leads to it. The first of these lines has number i.
abbrev Nowhere : ℕ → List FormLine → ℕ → Type 0
Nowhere i es id = (link_from i es id ≡ 0) × (line_defining es id ≡ none)

abbrev Somewhere : ℕ → List FormLine → ℕ → Type 0
Somewhere i es id = (d : ℕ) × (link_from i es id ≡ suc (i + d)) × (d < length es) × (line_defining es id ≡ some (line_at es d))

leads_from : (i : ℕ) (es : List FormLine) (id : ℕ) → Nowhere i es id ⊎ Somewhere i es id
unfolding line_at
leads_from i [] id = inl (refl, refl)
leads_from i (e ∷ es) id = go (eqb (defines e) id) (leads_from (suc i) es id)
  where
    linked : Bool → ℕ
    linked t = elim t as (λ x. ℕ) [ true ↦ suc i | false ↦ link_from (suc i) es id ]

    defined : Bool → Option FormLine
    defined t = elim t as (λ x. Option FormLine) [ true ↦ some e | false ↦ line_defining es id ]

    go : (t : Bool) → Nowhere (suc i) es id ⊎ Somewhere (suc i) es id
        → ((linked t ≡ 0) × (defined t ≡ none))
        ⊎ ((d : ℕ) × (linked t ≡ suc (i + d)) × (d < length (e ∷ es)) × (defined t ≡ some (get_or (e ∷ es) d no_line)))
    go true later = inr (0, omega arith, omega arith, refl)
    go false (inl h) = inl h
    go false (inr (d, l, s, m)) = inr (suc d, omega arith, omega arith, m)

pub leads : (es : List FormLine) (id : ℕ)
    → ((link es id ≡ 0) × (line_defining es id ≡ none))
    ⊎ ((d : ℕ) × (link es id ≡ suc d) × (d < length es) × (line_defining es id ≡ some (line_at es d)))
unfolding link
leads es id = ⊎_elim (λ h. inl h) (λ (d, l, s, m). inr (d, omega arith, s, m)) (leads_from 0 es id)

pub link_most : (es : List FormLine) (id : ℕ) → link es id ≤ length es
link_most es id = ⊎_elim (λ h. omega (arith, h.0)) (λ h. omega (arith, h.1, h.2)) (leads es id)

-- ---- The node line of a line

module _ (cues d label first past : ℕ) where
  pub as_cue : d < cues → node_as cues d label first past ≡ L label (d + 1)
  unfolding node_as
  as_cue h =
      ap (λ (t : Bool). elim t as (λ x. NodeLine) [ true ↦ L label (d + 1) | false ↦ elim (eqb first past) as (λ x. NodeLine) [ true ↦ E label 0 | false ↦ D label ] ])
      (lt-ltb d cues h)

  as_task_lem : cues ≤ d → node_as cues d label first past ≡ elim (eqb first past) as (λ x. NodeLine) [ true ↦ E label 0 | false ↦ D label ]
  unfolding node_as
  as_task_lem h =
      ap (λ (t : Bool). elim t as (λ x. NodeLine) [ true ↦ L label (d + 1) | false ↦ elim (eqb first past) as (λ x. NodeLine) [ true ↦ E label 0 | false ↦ D label ] ])
      (le-ltb d cues h)

  pub as_empty : cues ≤ d → first ≡ past → node_as cues d label first past ≡ E label 0
  as_empty h e = as_task_lem h ∙ ap (λ (t : Bool). elim t as (λ x. NodeLine) [ true ↦ E label 0 | false ↦ D label ]) (eq-eqb first past e)

  pub as_whole : cues ≤ d → (first ≡ past → ⊥) → node_as cues d label first past ≡ D label
  as_whole h n = as_task_lem h ∙ ap (λ (t : Bool). elim t as (λ x. NodeLine) [ true ↦ E label 0 | false ↦ D label ]) (ne_eqb first past n)

-- ---- The nodes of links

module _ (starts links labels : List ℕ) (cues : ℕ) where
  -- The nodes of these links in preorder, each followed by those of the links below it; at most so many.
  abbrev pub nodes_from : ℕ → List ℕ → List NodeLine
  nodes_from zero todo = []
  nodes_from (suc left) [] = []
  nodes_from (suc left) (l ∷ todo) = linked_nodes starts labels cues l ++ nodes_from left (links_below starts links l ++ todo)

  pub from_none : (left : ℕ) → nodes_from left [] ≡ []
  from_none zero = refl
  from_none (suc left) = refl

  pub from_first : (left l : ℕ) (todo : List ℕ) → 0 < left
      → nodes_from left (l ∷ todo) ≡ linked_nodes starts labels cues l ++ nodes_from (left - 1) (links_below starts links l ++ todo)
  from_first zero l todo h = absurd (omega arith)
  from_first (suc left) l todo h =
      let one : left ≡ suc left - 1 = omega arith in
      ap (λ (n : ℕ). linked_nodes starts labels cues l ++ nodes_from n (links_below starts links l ++ todo)) one

module _ (es : List FormLine) (ids starts links labels : List ℕ) (cues : ℕ) (h : Lines es cues ids labels) (g : Linked es starts links) where
  -- The links below a line.
  below_line : (d : ℕ) → d < length es → slice (get_or starts d 0) (get_or starts (suc d) 0) links ≡ map (link es) (uses (line_at es d))
  below_line d s = ap (λ (n : ℕ). slice (get_or starts d 0) (get_or starts n 0) links) (sym (add-one d)) ∙ g.here d s

  below_many : (d : ℕ) → d < length es → get_or starts (suc d) 0 ≡ get_or starts d 0 + length (uses (line_at es d))
  below_many d s =
      let one = ap (λ (n : ℕ). get_or starts n 0) (add-one d) in
      omega (
        arith,
        g.ordered d s,
        length-slice (get_or starts d 0) (get_or starts (suc d) 0) links (omega (arith, g.inside (d + 1) (omega arith))),
        ap length (below_line d s),
        length-map (uses (line_at es d)) (link es),
      )

  line_node : (d : ℕ) → d < length es → node_for (line_at es d) ≡ node_as cues d (get_or labels d 0) (get_or starts d 0) (get_or starts (suc d) 0)
  line_node d s =
      by_cases (dec_lt d cues)
      (λ w. ap node_for (h.cue_here d w) ∙ sym (as_cue cues d (get_or labels d 0) (get_or starts d 0) (get_or starts (suc d) 0) w))
      (λ w. tasked (h.task_here d (omega arith) s).0 (h.task_here d (omega arith) s).1 (omega arith))
    where
      tasked : (subtasks : List ℕ) → line_at es d ≡ task_line (d + 3) (get_or ids d 0) (get_or labels d 0) subtasks → cues ≤ d
          → node_for (line_at es d) ≡ node_as cues d (get_or labels d 0) (get_or starts d 0) (get_or starts (suc d) 0)
      tasked [] is w =
          let many = ap (λ (e : FormLine). length (uses e)) is in
          ap node_for is ∙ sym (as_empty cues d (get_or labels d 0) (get_or starts d 0) (get_or starts (suc d) 0) w (omega (arith, below_many d s)))
      tasked (x ∷ xs) is w =
          let many = ap (λ (e : FormLine). length (uses e)) is in
          ap node_for is ∙ sym (as_whole cues d (get_or labels d 0) (get_or starts d 0) (get_or starts (suc d) 0) w (λ e. omega (arith, below_many d s)))

  first_links : (e : FormLine) (todo : List ℕ) → map (link es) (subtasks_first e todo) ≡ map (link es) (uses e) ++ map (link es) todo
  first_links (cue_line line id a i) todo = refl
  first_links (task_line line id m subtasks) todo = map-append (link es) subtasks todo

  -- "subtask ids follow the method's order": the nodes of ids are those of their links.
  pub nodes_linked : (left : ℕ) (todo : List ℕ) → nodes_of left es todo ≡ nodes_from starts links labels cues left (map (link es) todo)
  nodes_linked zero todo = refl
  nodes_linked (suc left) [] = refl
  nodes_linked (suc left) (id ∷ todo) = ⊎_elim (nowhere (nodes_linked left todo)) (somewhere (nodes_linked left)) (leads es id)
    where
      by_line : Option FormLine → List NodeLine
      by_line o =
          elim o as (λ x. List NodeLine) [ none ↦ nodes_of left es todo | some e ↦ node_for e ∷ nodes_of left es (subtasks_first e todo) ]

      by_link : ℕ → List NodeLine
      by_link l = nodes_from starts links labels cues (suc left) (l ∷ map (link es) todo)

      nowhere : nodes_of left es todo ≡ nodes_from starts links labels cues left (map (link es) todo)
          → (link es id ≡ 0) × (line_defining es id ≡ none) → nodes_of (suc left) es (id ∷ todo) ≡ by_link (link es id)
      nowhere again (l, m) = ap by_line m ∙ again ∙ ap by_link (sym l)

      somewhere : ((now : List ℕ) → nodes_of left es now ≡ nodes_from starts links labels cues left (map (link es) now))
          → (d : ℕ) × (link es id ≡ suc d) × (d < length es) × (line_defining es id ≡ some (line_at es d))
          → nodes_of (suc left) es (id ∷ todo) ≡ by_link (link es id)
      somewhere again (d, l, s, m) =
          ap by_line m
          ∙ ap₂ ◌∷◌ (line_node d s)
          (again (subtasks_first (line_at es d) todo)
          ∙ ap (nodes_from starts links labels cues left)
          (first_links (line_at es d) todo ∙ ap (λ (ls : List ℕ). ls ++ map (link es) todo) (sym (below_line d s))))
          ∙ ap by_link (sym l)

-- ---- The links of a form's lines

-- The links below each line stand among the links, and each leads to a line.
pub record Near (count : ℕ) (starts links : List ℕ) : Type 0 where
  pub ordered : (l : ℕ) → l ≤ count → get_or starts (l - 1) 0 ≤ get_or starts l 0
  pub inside : (l : ℕ) → l ≤ count → get_or starts l 0 ≤ length links
  pub below : (l : ℕ) → l ≤ count → Each (λ n. n ≤ count) (links_below starts links l)

pub linked_near : (es : List FormLine) (starts links : List ℕ) → Linked es starts links → Near (length es) starts links
linked_near es starts links g = record { ordered = ordered; inside = g.inside; below = below }
  where
    ordered : (l : ℕ) → l ≤ length es → get_or starts (l - 1) 0 ≤ get_or starts l 0
    ordered zero h = omega arith
    ordered (suc d) h =
        let one : suc d - 1 ≡ d = omega arith in
        let first = ap (λ (n : ℕ). get_or starts n 0) one in
        let past = ap (λ (n : ℕ). get_or starts n 0) (add-one d) in
        omega (arith, g.ordered d (omega arith))

    below : (l : ℕ) → l ≤ length es → Each (λ n. n ≤ length es) (links_below starts links l)
    below zero h = each_nil (λ n. n ≤ length es)
    below (suc d) h =
        subst (Each (λ n. n ≤ length es))
        (sym (g.here d (omega arith)) ∙ ap (λ (n : ℕ). slice (get_or starts d 0) (get_or starts n 0) links) (add-one d))
        (λ x m. let (id, mem, e) = Memᴰ.of_map (link es) (uses (line_at es d)) m in subst (λ (n : ℕ). n ≤ length es) e (link_most es id))

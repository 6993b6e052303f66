-- The walk of the tree that hangs from a line: what is stored, followed by what is still to be walked, is the whole. Assumes nothing.
use mathlib.Core.Path.{◌≡◌, refl, sym, ap, ap₂, subst, ◌∙◌}
use mathlib.Core.List.{List, [], ◌∷◌, ◌++◌, append-nil}
use mathlib.Core.List.Memᴰ.{append_cases as either}
use mathlib.Core.List.Memᴰ.{head as here}
use mathlib.Core.Logic.{◌⊎◌, ⊎_elim}
use Prim.Native.Nat.{ℕ, zero, suc, ◌+◌, ◌-◌, ◌*◌, ◌≤◌, ◌<◌}
use native.Mathlib.Omega.{arith}
use lib.ListN.{length, get_or, set, length-append, length-set}
use lib.Seq.{sets, length-sets}
use Rattle.rules.specs.Case.{NodeLine}
use Rattle.rules.specs.Fields.{line_fields, node_line}
use Rattle.rules.specs.Form.{FormLine}
use Rattle.rules.specs.Import.{nodes_of}
use Rattle.rules.proofs.Judgement.Each.{Each, each_nil, each_cons, each_tail}
use Rattle.fields.proofs.Standing.{sets_append}
use Rattle.fields.proofs.Lines.{node_fields_lem}
use Rattle.making.specs.declared.Put.{Put}
use Rattle.making.specs.declared.Walk.{Walk}
use Rattle.making.specs.Nodes.{nodes_fields, linked_nodes, links_below, frames_links, Frames, Visited, Holds, Room, Stored}
use Rattle.making.proofs.Frames.{frames_none, pop_frame, later, take_first, take_frame}
use Rattle.making.proofs.Putting.{few_fields, nodes_append}
use Rattle.making.proofs.Leading.{link_most, nodes_from, from_none, from_first, nodes_linked, Near, linked_near}

-- ---- The fields of nodes

-- A link has one node line at most, of three fields at most.
linked_few : (starts labels : List ℕ) (cues l : ℕ)
    → (length (linked_nodes starts labels cues l) ≤ 1) × (length (nodes_fields (linked_nodes starts labels cues l)) ≤ 3)
linked_few starts labels cues zero = (omega arith, omega arith)
linked_few starts labels cues (suc d) = (omega arith, small _)
  where
    small : (x : NodeLine) → length (nodes_fields (x ∷ [])) ≤ 3
    small x = omega (arith, ap length (append-nil (line_fields (node_line x)) ∙ node_fields_lem x), few_fields x)

-- ---- The walk

abbrev pub began : ℕ → Walk
began from = record { end = from; nodes = 0; depth = 0 }

-- Nodes are stored, from where a walk was to where it is.
pub record Ends (before : List ℕ) (b : Walk) (whole : List NodeLine) (fields : List ℕ) (w : Walk) : Type 0 where
  pub stored : fields ≡ sets before b.end (nodes_fields whole)
  pub ended : w.end ≡ b.end + length (nodes_fields whole)
  pub counted : w.nodes ≡ b.nodes + length whole

module _ (starts links labels : List ℕ) (cues count : ℕ) where
  abbrev pub rest : ℕ → List ℕ → List NodeLine
  rest left todo = nodes_from starts links labels cues left todo

  -- So many links may still be taken, each leads to a line, and there is room.
  pub record Spare (left : ℕ) (todo fields : List ℕ) (w : Walk) : Type 0 where
    pub room : w.end + 3 * left ≤ length fields
    pub few : w.nodes + left ≤ count
    pub deep : w.depth + left ≤ count
    pub near : Each (λ n. n ≤ count) todo

  -- What is stored, with the nodes of the links that are still to be walked, is the whole of what was to be stored.
  pub record Walks (before : List ℕ) (b : Walk) (whole : List NodeLine) (left : ℕ) (todo fields : List ℕ) (w : Walk) : Type 0 where
    pub spare : Spare left todo fields w
    pub stored : sets fields w.end (nodes_fields (rest left todo)) ≡ sets before b.end (nodes_fields whole)
    pub ended : w.end + length (nodes_fields (rest left todo)) ≡ b.end + length (nodes_fields whole)
    pub counted : w.nodes + length (rest left todo) ≡ b.nodes + length whole

  pub walks_start : (left : ℕ) (todo fields : List ℕ) (w : Walk) → Spare left todo fields w → Walks fields w (rest left todo) left todo fields w
  walks_start left todo fields w g = record { spare = g; stored = refl; ended = refl; counted = refl }

  module _ (before : List ℕ) (b : Walk) (whole : List NodeLine) where
    pub walks_end : (left : ℕ) (todo fields : List ℕ) (w : Walk) → Walks before b whole left todo fields w → rest left todo ≡ [] → Ends before b whole fields w
    walks_end left todo fields w g none =
        let size = ap (λ (ns : List NodeLine). length (nodes_fields ns)) none in
        let number = ap (length {A = NodeLine}) none in
        record {
          stored = ap (λ (ns : List NodeLine). sets fields w.end (nodes_fields ns)) (sym none) ∙ g.stored;
          ended = omega (arith, g.ended);
          counted = omega (arith, g.counted);
        }

    -- A walk that goes on from where this one is.
    pub walks_join : (left : ℕ) (todo fields : List ℕ) (w : Walk) → Walks before b whole left todo fields w → (after : List ℕ) (r : Walk)
        → Ends fields w (rest left todo) after r → Ends before b whole after r
    walks_join left todo fields w g after r e = record {
      stored = e.stored ∙ g.stored;
      ended = e.ended ∙ g.ended;
      counted = e.counted ∙ g.counted;
    }

    -- The first link is visited.
    pub walks_on : (left l : ℕ) (todo fields : List ℕ) (w : Walk) → Walks before b whole left (l ∷ todo) fields w → 0 < left → Near count starts links
        → (next last : List ℕ) (r : Walk) (after next' last' : List ℕ) → Visited starts labels cues l fields w next last r after next' last'
        → Walks before b whole (left - 1) (links_below starts links l ++ todo) after r
    walks_on left l todo fields w g more t next last r after next' last' v =
        let own = linked_nodes starts labels cues l in
        let others = rest (left - 1) (links_below starts links l ++ todo) in
        let first = from_first starts links labels cues left l todo more in
        let both : nodes_fields (rest left (l ∷ todo)) ≡ nodes_fields own ++ nodes_fields others = ap nodes_fields first ∙ nodes_append own others in
        let size = ap length both ∙ length-append (nodes_fields own) (nodes_fields others) in
        let number = ap length first ∙ length-append own others in
        let small = linked_few starts labels cues l in
        let q = g.spare in
        record {
          spare = record {
            room = omega (arith, v.ended, ap length v.put ∙ length-sets fields w.end (nodes_fields own));
            few = omega (arith, v.counted);
            deep = omega (arith, v.deep);
            near = λ n m. ⊎_elim (t.below l (q.near l (here refl)) n) (each_tail (λ i. i ≤ count) l todo q.near n) (either (links_below starts links l) m);
          };
          stored =
              ap₂ (λ (f : List ℕ) (n : ℕ). sets f n (nodes_fields others)) v.put v.ended
              ∙ sym (sets_append (nodes_fields own) (nodes_fields others) fields w.end)
              ∙ ap (sets fields w.end) (sym both)
              ∙ g.stored;
          ended = omega (arith, g.ended, v.ended);
          counted = omega (arith, g.counted, v.counted);
        }

-- ---- The walk by its frames

-- The lists that are walked and the room for the frames.
pub record Lent (count : ℕ) (starts links labels next last : List ℕ) : Type 0 where
  pub few : count ≤ 3000
  pub starts_long : count < length starts
  pub labels_long : count ≤ length labels
  pub next_long : count ≤ length next
  pub last_long : count ≤ length last
  pub near : Near count starts links

-- The links that are still to be walked are those of the frames.
pub record Turning (starts links labels : List ℕ) (cues count : ℕ) (before : List ℕ) (b : Walk) (whole : List NodeLine) (left : ℕ) (fields next last : List ℕ) (w : Walk) : Type 0 where
  pub lent : Lent count starts links labels next last
  pub todo : List ℕ
  pub frames : Frames links next last w.depth todo
  pub walks : Walks starts links labels cues count before b whole left todo fields w

-- A link is taken, and the frames have those that follow it.
pub record Due (starts links labels : List ℕ) (cues count : ℕ) (before : List ℕ) (b : Walk) (whole : List NodeLine) (left l : ℕ) (fields next last : List ℕ) (w : Walk) : Type 0 where
  pub lent : Lent count starts links labels next last
  pub todo : List ℕ
  pub frames : Frames links next last w.depth todo
  pub walks : Walks starts links labels cues count before b whole left (l ∷ todo) fields w

-- The visit of a link asks for this.
abbrev Visitable : ℕ → List ℕ → List ℕ → List ℕ → Walk → List ℕ → List ℕ → Type 0
Visitable l starts labels fields w next last =
    ((l ≤ 3000) × (l < length starts) × (l ≤ length labels) × (get_or starts (l - 1) 0 ≤ get_or starts l 0))
    × ((w.end + 3 ≤ length fields) × (w.nodes < 3000) × (w.depth < length next) × (w.depth < length last))

module _ {starts links labels : List ℕ} {cues count : ℕ} {before : List ℕ} {b : Walk} {whole : List NodeLine} {left l : ℕ} {fields next last : List ℕ} {w : Walk} (d : Due starts links labels cues count before b whole left l fields next last w) (more : 0 < left) where
  near_due : l ≤ count
  near_due = d.walks.spare.near l (here refl)

  pub due_visitable : Visitable l starts labels fields w next last
  due_visitable =
      let near = near_due in
      let t = d.lent in
      let q = d.walks.spare in
      ((omega arith, omega arith, omega arith, t.near.ordered l near), (omega arith, omega arith, omega arith, omega arith))

  pub due_on : (r : Walk) (after next' last' : List ℕ) → Visited starts labels cues l fields w next last r after next' last' → length next' ≡ length next
      → length last' ≡ length last → (fewer : ℕ) → left - 1 ≡ fewer → Turning starts links labels cues count before b whole fewer after next' last' r
  due_on r after next' last' v m n fewer e =
      let t = d.lent.near in
      subst (λ (i : ℕ). Turning starts links labels cues count before b whole i after next' last' r) e
      (record {
        lent = record {
          few = d.lent.few;
          starts_long = d.lent.starts_long;
          labels_long = d.lent.labels_long;
          next_long = omega (arith, d.lent.next_long);
          last_long = omega (arith, d.lent.last_long);
          near = t;
        };
        todo = links_below starts links l ++ d.todo;
        frames = v.frames links d.todo (t.inside l near_due) d.frames;
        walks = walks_on starts links labels cues count before b whole left l d.todo fields w d.walks more t next last r after next' last' v;
      })

module _ {starts links labels : List ℕ} {cues count : ℕ} {before : List ℕ} {b : Walk} {whole : List NodeLine} {left : ℕ} {fields next last : List ℕ} {w : Walk} (g : Turning starts links labels cues count before b whole left fields next last w) where
  pub turning_ends : (left ≡ 0) ⊎ (w.depth ≡ 0) → Ends before b whole fields w
  turning_ends over =
      walks_end starts links labels cues count before b whole left g.todo fields w g.walks
      (⊎_elim (λ e. ap (λ (n : ℕ). nodes_from starts links labels cues n g.todo) e)
      (λ e. ap (nodes_from starts links labels cues left) (sym g.frames.stand ∙ ap (frames_links links next last) e) ∙ from_none starts links labels cues left) over)

  -- A walk that starts where this one is, and this one once that has ended.
  pub turning_anew : Turning starts links labels cues count fields w (nodes_from starts links labels cues left (frames_links links next last w.depth)) left fields next last w
  turning_anew = record {
    lent = g.lent;
    todo = frames_links links next last w.depth;
    frames = record { stand = refl; ordered = g.frames.ordered; inside = g.frames.inside };
    walks = walks_start starts links labels cues count left (frames_links links next last w.depth) fields w
        (subst (λ (t : List ℕ). Spare starts links labels cues count left t fields w) (sym g.frames.stand) g.walks.spare);
  }

  pub turning_joins : (after : List ℕ) (r : Walk)
      → Ends fields w (nodes_from starts links labels cues left (frames_links links next last w.depth)) after r → Ends before b whole after r
  turning_joins after r e =
      walks_join starts links labels cues count before b whole left g.todo fields w g.walks after r
      (subst (λ (t : List ℕ). Ends fields w (nodes_from starts links labels cues left t) after r) g.frames.stand e)

  -- The frame on top.
  module _ (some : w.depth ≡ 0 → ⊥) where
    abbrev top : ℕ
    top = w.depth - 1

    top_frames : Frames links next last (suc top) g.todo
    top_frames = let one : w.depth ≡ suc (w.depth - 1) = omega arith in subst (λ (n : ℕ). Frames links next last n g.todo) one g.frames

    pub turning_top : (w.depth - 1 < length next) × (w.depth - 1 < length last) × (get_or next (w.depth - 1) 0 ≤ get_or last (w.depth - 1) 0) × (get_or last (w.depth - 1) 0 < length links)
    turning_top = (
      omega (arith, g.lent.next_long, g.walks.spare.deep),
      omega (arith, g.lent.last_long, g.walks.spare.deep),
      top_frames.ordered top (omega arith),
      top_frames.inside top (omega arith),
    )

    abbrev those : List ℕ
    those = later links next last top g.todo top_frames

    -- Its next link is taken: the walk is where it was, but for its depth.
    taken : (l : ℕ) → l ≡ get_or links (get_or next top 0) 0 → (after : List ℕ) (r : Walk) → length after ≡ length next → r.end ≡ w.end → r.nodes ≡ w.nodes → r.depth ≤ w.depth
        → Frames links after last r.depth those → Due starts links labels cues count before b whole left l fields after last r
    taken l e after r m p n d frames =
        let k = g.walks in
        let q = k.spare in
        let is : l ∷ those ≡ g.todo = ap (λ (n : ℕ). n ∷ those) e ∙ sym (take_first links next last top g.todo top_frames) in
        let ns = ap (nodes_from starts links labels cues left) is in
        let size = ap (λ (x : List NodeLine). length (nodes_fields x)) ns in
        let number = ap (length {A = NodeLine}) ns in
        record {
          lent = record {
            few = g.lent.few;
            starts_long = g.lent.starts_long;
            labels_long = g.lent.labels_long;
            next_long = omega (arith, g.lent.next_long);
            last_long = g.lent.last_long;
            near = g.lent.near;
          };
          todo = those;
          frames = frames;
          walks = record {
            spare = record { room = omega arith; few = omega arith; deep = omega arith; near = subst (Each (λ n. n ≤ count)) (sym is) q.near };
            stored = ap₂ (λ (t : ℕ) (x : List NodeLine). sets fields t (nodes_fields x)) p ns ∙ k.stored;
            ended = omega (arith, k.ended);
            counted = omega (arith, k.counted);
          };
        }

    module _ (l : ℕ) (e : l ≡ get_or links (get_or next (w.depth - 1) 0) 0) (after : List ℕ) (r : Walk) where
      -- It has more.
      pub turning_more : get_or next (w.depth - 1) 0 < get_or last (w.depth - 1) 0 → after ≡ set next (w.depth - 1) (get_or next (w.depth - 1) 0 + 1)
          → r ≡ w → Due starts links labels cues count before b whole left l fields after last r
      turning_more more p q =
          let depth = ap (λ (v : Walk). v.depth) q in
          let one : suc (w.depth - 1) ≡ r.depth = omega arith in
          taken l e after r (ap length p ∙ length-set next top (get_or next top 0 + 1)) (ap (λ (v : Walk). v.end) q) (ap (λ (v : Walk). v.nodes) q) (omega arith)
          (subst (λ (a : List ℕ). Frames links a last r.depth those) (sym p)
          (subst (λ (n : ℕ). Frames links (set next top (get_or next top 0 + 1)) last n those) one (take_frame links next last top g.todo top_frames turning_top.0 more)))

      -- It was its last one.
      pub turning_last : get_or last (w.depth - 1) 0 ≤ get_or next (w.depth - 1) 0 → after ≡ next → r ≡ record { end = w.end; nodes = w.nodes; depth = w.depth - 1 }
          → Due starts links labels cues count before b whole left l fields after last r
      turning_last done p q =
          let depth = ap (λ (v : Walk). v.depth) q in
          taken l e after r (ap length p) (ap (λ (v : Walk). v.end) q) (ap (λ (v : Walk). v.nodes) q) (omega arith)
          (subst (λ (a : List ℕ). Frames links a last r.depth those) (sym p)
          (subst (λ (n : ℕ). Frames links next last n those) (sym depth) (pop_frame links next last top g.todo top_frames done)))

-- ---- The whole tree

module _ {es : List FormLine} {ids : List ℕ} {id : ℕ} {starts links labels : List ℕ} {cues count root : ℕ} (h : Holds es ids id starts links labels cues count root) where
  holds_root : root ≤ count
  holds_root = omega (arith, h.rooted, h.counted, link_most es id)

  pub holds_few : count ≤ 3000
  holds_few = omega (arith, h.counted, h.lines.most)

  pub holds_nodes : nodes_of count es (id ∷ []) ≡ nodes_from starts links labels cues count (root ∷ [])
  holds_nodes =
      nodes_linked es ids starts links labels cues h.lines h.linked count (id ∷ [])
      ∙ ap (λ (l : ℕ). nodes_from starts links labels cues count (l ∷ [])) (sym h.rooted)

  holds_near : Near count starts links
  holds_near = subst (λ (n : ℕ). Near n starts links) h.counted (linked_near es starts links h.linked)

  -- Before the root is visited.
  pub root_due : {fields next last : List ℕ} {from : ℕ} → Room count starts labels next last fields from
      → Due starts links labels cues count fields (began from) (nodes_from starts links labels cues count (root ∷ [])) count root fields next last (began from)
  root_due {fields} {next} {last} {from} r = record {
    lent = record {
      few = holds_few;
      starts_long = r.starts_long;
      labels_long = r.labels_long;
      next_long = r.next_long;
      last_long = r.last_long;
      near = holds_near;
    };
    todo = [];
    frames = frames_none links next last;
    walks = walks_start starts links labels cues count count (root ∷ []) fields (began from)
        (record {
          room = r.fields_long;
          few = omega arith;
          deep = omega arith;
          near = each_cons (λ n. n ≤ count) root [] holds_root (each_nil (λ n. n ≤ count));
        });
  }

  -- No line, no node.
  pub none_stored : count ≡ 0 → (fields : List ℕ) (from : ℕ) (r : Put) → r.end ≡ from → r.nodes ≡ 0 → Stored fields from (nodes_of count es (id ∷ [])) r fields
  none_stored e fields from r p n =
      let none : nodes_of count es (id ∷ []) ≡ [] = ap (λ (k : ℕ). nodes_of k es (id ∷ [])) e in
      let size = ap (λ (ns : List NodeLine). length (nodes_fields ns)) none in
      let number = ap (length {A = NodeLine}) none in
      record {
        put = ap (λ (ns : List NodeLine). sets fields from (nodes_fields ns)) (sym none);
        ended = omega arith;
        counted = omega arith;
      }

  -- A walk from the root that has ended.
  pub ends_stored : (fields : List ℕ) (from : ℕ) (after : List ℕ) (w : Walk)
      → Ends fields (began from) (nodes_from starts links labels cues count (root ∷ [])) after w → (r : Put) → r.end ≡ w.end → r.nodes ≡ w.nodes
      → Stored fields from (nodes_of count es (id ∷ [])) r after
  ends_stored fields from after w e r p n =
      let is = holds_nodes in
      let size = ap (λ (ns : List NodeLine). length (nodes_fields ns)) is in
      let number = ap (length {A = NodeLine}) is in
      record {
        put = e.stored ∙ ap (λ (ns : List NodeLine). sets fields from (nodes_fields ns)) (sym is);
        ended = omega (arith, e.ended);
        counted = omega (arith, e.counted);
      }

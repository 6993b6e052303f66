-- The node lines of the tree that hangs from a line of a form, by the links of the lines' subtasks; and what the functions that store them
-- leave. Assumes nothing.
use Rattle.std.specs.Prelude.{◌≡◌, true, false, List, [], ◌∷◌, ◌++◌, map, ℕ, zero, suc, ◌+◌, ◌*◌, ◌≤◌, ◌<◌, eqb, ltb, length, get_or}
use Rattle.std.proofs.lemmas.List.Edits.{sets}
use Rattle.std.proofs.Math.Seq.{slice}
use Rattle.rules.specs.Case.{NodeLine, D, E, L}
use Rattle.rules.specs.Fields.{lines_fields, node_line}
use Rattle.rules.specs.Form.{FormLine}
use Rattle.links.specs.Links.{link, Lines, Linked}
use Rattle.making.specs.declared.Put.{Put}
use Rattle.making.specs.declared.Walk.{Walk}

-- The fields of node lines.
abbrev pub nodes_fields : List NodeLine → List ℕ
nodes_fields ns = lines_fields (map node_line ns)

-- The node line that line d of a form becomes, if the links of its subtasks stand from `first` up to `past`: "The form becomes a case, gaps 0".
-- The action lines come first, each at its position: "action lines plan order".
unfoldable pub node_as : ℕ → ℕ → ℕ → ℕ → ℕ → NodeLine
node_as cues d label first past =
    elim (ltb d cues) [ true ↦ L label (d + 1) | false ↦ elim (eqb first past) [ true ↦ E label 0 | false ↦ D label ] ]

-- The node line of the line that a link leads to; none for link 0.
abbrev pub linked_nodes : List ℕ → List ℕ → ℕ → ℕ → List NodeLine
linked_nodes starts labels cues zero = []
linked_nodes starts labels cues (suc d) = node_as cues d (get_or labels d 0) (get_or starts d 0) (get_or starts (suc d) 0) ∷ []

-- The links of that line's subtasks: "subtask ids follow the method's order".
abbrev pub links_below : List ℕ → List ℕ → ℕ → List ℕ
links_below starts links zero = []
links_below starts links (suc d) = slice (get_or starts d 0) (get_or starts (suc d) 0) links

-- The links that are still to be walked: those of the frame on top, then those of the frames under it. Frame t has the links from next[t] on,
-- of which the last is at last[t].
abbrev pub frames_links : List ℕ → List ℕ → List ℕ → ℕ → List ℕ
frames_links links next last zero = []
frames_links links next last (suc t) = slice (get_or next t 0) (suc (get_or last t 0)) links ++ frames_links links next last t

pub record Frames (links next last : List ℕ) (depth : ℕ) (todo : List ℕ) : Type 0 where
  pub stand : frames_links links next last depth ≡ todo
  pub ordered : (t : ℕ) → t < depth → get_or next t 0 ≤ get_or last t 0
  pub inside : (t : ℕ) → t < depth → get_or last t 0 < length links

-- A frame for the links from `first` up to `past`, on top of the others.
pub record Pushed (first past : ℕ) (next last : List ℕ) (depth : ℕ) (next' last' : List ℕ) (r : ℕ) : Type 0 where
  pub most : r ≤ depth + 1
  pub frames : (links todo : List ℕ) → past ≤ length links → Frames links next last depth todo
      → Frames links next' last' r (slice first past links ++ todo)

-- The line that a link leads to, visited: its node line is stored, and the links of its subtasks come first.
pub record Visited (starts labels : List ℕ) (cues link : ℕ) (before : List ℕ) (w : Walk) (next last : List ℕ) (r : Walk) (after next' last' : List ℕ) : Type 0 where
  pub put : after ≡ sets before w.end (nodes_fields (linked_nodes starts labels cues link))
  pub ended : r.end ≡ w.end + length (nodes_fields (linked_nodes starts labels cues link))
  pub counted : r.nodes ≡ w.nodes + length (linked_nodes starts labels cues link)
  pub deep : r.depth ≤ w.depth + 1
  pub frames : (links todo : List ℕ) → get_or starts link 0 ≤ length links → Frames links next last w.depth todo
      → Frames links next' last' r.depth (links_below starts links link ++ todo)

-- Plain lists hold the lines of a form, and the root's link is that of its id.
pub record Holds (es : List FormLine) (ids : List ℕ) (id : ℕ) (starts links labels : List ℕ) (cues count root : ℕ) : Type 0 where
  pub lines : Lines es cues ids labels
  pub linked : Linked es starts links
  pub counted : length es ≡ count
  pub rooted : root ≡ link es id

-- A stack of as many frames as there are lines is deep enough, and no line takes more than three fields.
pub record Room (count : ℕ) (starts labels next last fields : List ℕ) (from : ℕ) : Type 0 where
  pub starts_long : count < length starts
  pub labels_long : count ≤ length labels
  pub next_long : count ≤ length next
  pub last_long : count ≤ length last
  pub fields_long : from + 3 * count ≤ length fields

-- Node lines stored from a place on.
pub record Stored (before : List ℕ) (from : ℕ) (ns : List NodeLine) (r : Put) (after : List ℕ) : Type 0 where
  pub put : after ≡ sets before from (nodes_fields ns)
  pub ended : r.end ≡ from + length (nodes_fields ns)
  pub counted : r.nodes ≡ length ns

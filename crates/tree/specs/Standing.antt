-- What a walk stands on, and what it has done where it ends: the node after what it walked, the rows of that, and its claims marked.
-- Assumes nothing.
use Rattle.std.specs.Prelude.{◌≡◌, true, false, List, [], ◌∷◌, ℕ, zero, suc, ◌+◌, ◌-◌, ◌*◌, ◌≤◌, ◌<◌, length, get_or, drop, Result, Ok, Err}
use Rattle.std.proofs.lemmas.List.Edits.{sets}
use Rattle.rules.specs.declared.Answer.{Answer}
use Rattle.rules.specs.declared.Answer.TheVariants.{WrongClaim}
use Rattle.rules.specs.Index as Ix
use Rattle.rules.specs.Index.{at, hull}
use Rattle.rules.specs.Result.{found, refused, ◌>>=◌}
use Rattle.rules.specs.Case.{NodeLine, Case, method_at}
use Rattle.rules.specs.Fields.{line_fields, lines_fields, method_lines, cues_line}
use Rattle.rules.specs.Tree.{Tree, leaf, empty, task, Trees, no_tree, more, span, spans, Walk, walk_subtasks, may_claim, walk_node}
use Rattle.index.specs.Spans.{as_span}
use Rattle.fields.specs.Standing.{Stands}
use Rattle.fields.specs.Directory.{methods_from, IsRead}
use Rattle.tree.specs.declared.fit.Given.{Given}
use Rattle.tree.specs.declared.fit.Place.{Place}
use Rattle.tree.specs.declared.fit.Fit.{Fit}
use Rattle.tree.specs.declared.fit.Fit.TheVariants.{Open, Empty as EmptyFit, Leaf as LeafFit}
use Rattle.tree.specs.declared.rows.Walked.{Walked}
use Rattle.tree.specs.Layout.{rows_from, size, sizes, row, rows, rows_all, marks_of, directory_of, marks_in}
use Rattle.tree.specs.Fits.{line_at, Follows, SubtasksWithin, subtasks_in}

-- ---- What a walk stands on

-- Each method's lines, by the directory.
abbrev pub MethodsAt : Case → List ℕ → List ℕ → Type 0
MethodsAt k fields directory =
    (m : ℕ) → m < k.head.methods → Stands fields (get_or directory (methods_from + m) 0) (lines_fields (method_lines (method_at k.methods m)))

-- What is given is the case's; its plan stands among the fields; and the work space holds the directory and the marks of some claims.
pub record Steady (k : Case) (fields : List ℕ) (g : Given) (w : List ℕ) : Type 0 where
  pub read : IsRead k
  pub count : g.nodes ≡ k.head.nodes
  pub planned : g.line ≡ k.plan_line
  pub plan : Stands fields g.plan (line_fields (cues_line k.plan))
  pub room : 16384 ≤ length w
  pub methods : MethodsAt k fields (directory_of w)
  pub claimed : List ℕ
  pub marks : marks_in k.head.cues w ≡ marks_of k.head.cues claimed

-- A node of the case, and one of its positions.
pub record ClaimWithin (k : Case) (n i : ℕ) : Type 0 where
  pub node : n < k.head.nodes
  pub low : 1 ≤ i
  pub high : i ≤ k.head.cues

-- ---- The walks of the definitions, from node n on

abbrev pub node_from : Case → ℕ → ℕ → ℕ → List ℕ → Walk Tree
node_from k levels t n claimed = walk_node levels k (may_claim k.plan) t (line_at k.plan_line n) (drop n k.nodes) claimed

abbrev pub list_from : Case → ℕ → List ℕ → ℕ → List ℕ → Walk Trees
list_from k levels ts n claimed =
    walk_subtasks (walk_node levels k (may_claim k.plan)) ts (line_at k.plan_line n) (drop n k.nodes) claimed

-- The task of method m, once its subtasks are walked.
abbrev pub as_task : ℕ → Walk Trees → Walk Tree
as_task m ws = ws >>= λ (ts, line, nodes, claimed). found (task m ts, line, nodes, claimed)

-- What a claim of position i at node n comes to.
abbrev pub claim_from : Case → ℕ → ℕ → ℕ → List ℕ → Walk Tree
claim_from k n a i claimed =
    elim (may_claim k.plan a i claimed) [
      | true ↦ found (leaf a i, line_at k.plan_line (n + 1), drop (n + 1) k.nodes, i ∷ claimed)
      | false ↦ refused (WrongClaim (line_at k.plan_line n) i)
    ]

-- ---- How a node fits

-- The node after one whose line is taken.
pub record Beyond (k : Case) (fields : List ℕ) (p next : Place) : Type 0 where
  pub one : next.node ≡ p.node + 1
  pub there : p.node < k.head.nodes
  pub follows : Follows k fields next

-- What the fit of the node at p, where task t is expected at a level, makes of its walk.
abbrev pub Judged : Case → List ℕ → Place → ℕ → ℕ → Result Fit Answer → Type 0
Judged k fields p t level (Err a) = (claimed : List ℕ) → node_from k (65 - level) t p.node claimed ≡ refused a
Judged k fields p t level (Ok (Open s next)) =
    (m : ℕ) × ((claimed : List ℕ) → node_from k (65 - level) t p.node claimed
    ≡ as_task m (list_from k (64 - level) (subtasks_in fields s) (p.node + 1) claimed))
    × (level < 65) × SubtasksWithin fields s × Beyond k fields p next
Judged k fields p t level (Ok (EmptyFit g next)) =
    (m : ℕ) × ((claimed : List ℕ) → node_from k (65 - level) t p.node claimed
    ≡ found (empty m g, line_at k.plan_line (p.node + 1), drop (p.node + 1) k.nodes, claimed))
    × (g ≤ 1000) × Beyond k fields p next
Judged k fields p t level (Ok (LeafFit a i next)) =
    ((claimed : List ℕ) → node_from k (65 - level) t p.node claimed ≡ claim_from k p.node a i claimed) × ClaimWithin k p.node i
    × Beyond k fields p next

-- ---- Stores and spans

unfoldable pub put_row : ℕ → Ix.Span → ℕ → List ℕ → List ℕ
put_row n s after w = sets w (rows_from + 3 * n) (row s after)

abbrev pub settled : ℕ → Place → Walked
settled index next = record { next = next; span = as_span (at index) }

-- The span of the first subtasks, so many of them, and then of the next one.
abbrev pub joined : ℕ → Ix.Span → Ix.Span → Ix.Span
joined zero s last = last
joined (suc count) s last = hull (s ∷ last ∷ [])

-- ---- What a walk has done

-- From node n and the work space w a walk went on, over so many nodes: its answer r, and the work space v.
pub record Passed (k : Case) (fields : List ℕ) (n count : ℕ) (whole : Ix.Span) (stored : List ℕ) (line : ℕ) (left : List NodeLine) (claimed : List ℕ) (w : List ℕ) (r : Result Walked Answer) (v : List ℕ) : Type 0 where
  pub next : Place
  pub answer : r ≡ Ok (record { next = next; span = as_span whole })
  pub after : next.node ≡ n + count
  pub follows : Follows k fields next
  pub lines : line ≡ line_at k.plan_line next.node
  pub lefts : left ≡ drop next.node k.nodes
  pub rowed : drop rows_from v ≡ sets (drop rows_from w) (3 * n) stored
  pub marked : marks_in k.head.cues v ≡ marks_of k.head.cues claimed
  pub directory : directory_of v ≡ directory_of w

abbrev pub Told : Case → List ℕ → ℕ → List ℕ → Walk Tree → Result Walked Answer → List ℕ → Type 0
Told k fields n w (found (t, line, left, claimed)) r v = Passed k fields n (size t) (span t) (rows t n) line left claimed w r v
Told k fields n w (refused a) r v = r ≡ Err a

-- One tree at least.
abbrev pub Some : Trees → Type 0
Some no_tree = ⊥
Some (more t ts) = Unit {0}

abbrev pub ToldAll : Case → List ℕ → ℕ → List ℕ → Walk Trees → Result Walked Answer → List ℕ → Type 0
ToldAll k fields n w (found (ts, line, left, claimed)) r v =
    Some ts × Passed k fields n (sizes ts) (hull (spans ts)) (rows_all ts n) line left claimed w r v
ToldAll k fields n w (refused a) r v = r ≡ Err a

-- A claim at node n: the leaf is walked, or refused.
abbrev pub ClaimTold : Case → ℕ → ℕ → ℕ → Place → List ℕ → Walk Tree → Result Walked Answer → List ℕ → Type 0
ClaimTold k n a i next w (found (t, line, left, claimed)) r v =
    (r ≡ Ok (settled (Ix.of_cue i) next)) × (drop rows_from v ≡ sets (drop rows_from w) (3 * n) (row (at (Ix.of_cue i)) next.node))
    × (marks_in k.head.cues v ≡ marks_of k.head.cues claimed) × (directory_of v ≡ directory_of w)
ClaimTold k n a i next w (refused x) r v = r ≡ Err x

-- Whatever is claimed, as the marks have it.
abbrev pub Claims : Case → ℕ → ℕ → ℕ → Place → List ℕ → Result Walked Answer → List ℕ → Type 0
Claims k n a i next w r v =
    (claimed : List ℕ) → marks_in k.head.cues w ≡ marks_of k.head.cues claimed → ClaimTold k n a i next w (claim_from k n a i claimed) r v

abbrev pub WalksNode : Case → List ℕ → ℕ → ℕ → ℕ → List ℕ → Result Walked Answer → List ℕ → Type 0
WalksNode k fields levels t n w r v =
    (claimed : List ℕ) → marks_in k.head.cues w ≡ marks_of k.head.cues claimed → Told k fields n w (node_from k levels t n claimed) r v

abbrev pub WalksList : Case → List ℕ → ℕ → List ℕ → ℕ → List ℕ → Result Walked Answer → List ℕ → Type 0
WalksList k fields levels ts n w r v =
    (claimed : List ℕ) → marks_in k.head.cues w ≡ marks_of k.head.cues claimed → ToldAll k fields n w (list_from k levels ts n claimed) r v

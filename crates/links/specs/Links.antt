-- The lines of a form by number, from 0, as plain lists hold them: what each defines, and the ids of its subtasks as links, the numbers of the
-- lines that define them. Assumes nothing.
use Rattle.std.specs.Prelude.{◌≡◌, true, false, List, [], ◌∷◌, map, ◌⊎◌, ℕ, suc, ◌+◌, ◌≤◌, ◌<◌, eqb, length, get_or}
use Rattle.std.proofs.Math.Seq.{slice}
use Rattle.tokens.specs.Pieces.{Spells}
use Rattle.rules.specs.Form.{FormLine, cue_line, task_line, defines, uses, times, all_defined, all_used, any_missing}

unfoldable pub no_line : FormLine
no_line = cue_line 0 0 0 0

unfoldable pub line_at : List FormLine → ℕ → FormLine
line_at es e = get_or es e no_line

-- The link of an id: one more than the number of the first line that defines it, 0 if none does. The first of these lines has number i.
abbrev pub link_from : ℕ → List FormLine → ℕ → ℕ
link_from i [] id = 0
link_from i (e ∷ es) id = elim (eqb (defines e) id) [ true ↦ suc i | false ↦ link_from (suc i) es id ]

unfoldable pub link : List FormLine → ℕ → ℕ
link es id = link_from 0 es id

-- The lines of a form that was read: so many action lines, each at its position of the plan; then the compound lines, past the root line.
-- What each defines, and its action or method.
pub record Lines (es : List FormLine) (cues : ℕ) (ids labels : List ℕ) : Type 0 where
  pub few : cues ≤ length es
  pub most : length es ≤ 3000
  pub cue_here : (e : ℕ) → e < cues → line_at es e ≡ cue_line (e + 2) (get_or ids e 0) (get_or labels e 0) (e + 1)
  pub task_here : (e : ℕ) → cues ≤ e → e < length es
      → (subtasks : List ℕ) × (line_at es e ≡ task_line (e + 3) (get_or ids e 0) (get_or labels e 0) subtasks) × (length subtasks ≤ 32)

-- The ids that lines define, in a plain list.
abbrev pub Defined : List FormLine → List ℕ → Type 0
Defined es ids = (e : ℕ) → e < length es → defines (line_at es e) ≡ get_or ids e 0

-- The links of each line's subtasks, in their order, from its start up to the next line's.
pub record Linked (es : List FormLine) (starts links : List ℕ) : Type 0 where
  pub ordered : (e : ℕ) → e < length es → get_or starts e 0 ≤ get_or starts (e + 1) 0
  pub inside : (e : ℕ) → e ≤ length es → get_or starts e 0 ≤ length links
  pub here : (e : ℕ) → e < length es → slice (get_or starts e 0) (get_or starts (e + 1) 0) links ≡ map (link es) (uses (line_at es e))

-- The twin of a line: one more than the number of the next line that defines the same id, 0 if none does.
pub record Twins (es : List FormLine) (twin : List ℕ) : Type 0 where
  pub later : (e d : ℕ) → e < length es → get_or twin e 0 ≡ suc d
      → (e < d) × (d < length es) × (defines (line_at es d) ≡ defines (line_at es e))
  pub chained : (d : ℕ) → d < length es
      → (link es (defines (line_at es d)) ≡ suc d) ⊎ ((e : ℕ) × (e < d) × (get_or twin e 0 ≡ suc d))

-- How often each line is linked to.
abbrev pub Counted : List FormLine → List ℕ → Type 0
Counted es used = (d : ℕ) → d < length es → get_or used d 0 ≡ times (suc d) (map (link es) (all_used es))

-- The subtask ids of each compound line stand in the form's text from a place on: where its method's name ends.
abbrev pub Spelled : List ℕ → List ℕ → List FormLine → ℕ → Type 0
Spelled text places es cues = (e : ℕ) → cues ≤ e → e < length es → Spells text (get_or places e 0) (uses (line_at es e))

-- What linking the lines leaves, and its answer: the first line that "uses an id never defined", or the number of lines if there is none.
pub record Resolved (es : List FormLine) (answer : ℕ) (starts links used : List ℕ) : Type 0 where
  pub linked : Linked es starts links
  pub counted : Counted es used
  pub low : (u : ℕ) → get_or links u 0 ≤ length es
  pub most : answer ≤ length es
  pub whole : (e : ℕ) → e < answer → any_missing (all_defined es) (uses (line_at es e)) ≡ false
  pub wrong : answer < length es → any_missing (all_defined es) (uses (line_at es answer)) ≡ true

-- What making the case of a form asks for, over the fields of the case that came beside it. Assumes nothing.
use Rattle.std.specs.Prelude.{◌≡◌, List, ℕ, ◌+◌, length, take, drop}
use Rattle.rules.specs.Case.{Case}
use Rattle.rules.specs.Fields.{line_fields, cues_line, fields_of}
use Rattle.rules.specs.Form.{FormLine, Form}
use Rattle.fields.specs.Standing.{Stands}
use Rattle.making.specs.Nodes.{nodes_fields, Holds}

-- The P line stands at a place, and only the node lines come after it.
abbrev pub PlanLast : Case → ℕ → Type 0
PlanLast k plan = plan + length (line_fields (cues_line k.plan)) + length (nodes_fields k.nodes) ≡ length (fields_of k)

-- The fields are those of a case; plain lists hold the lines of a form, the action lines first.
pub record Makes (k : Case) (f : Form) (es : List FormLine) (ids starts links labels : List ℕ) (cues count root plan : ℕ) (fields : List ℕ) : Type 0 where
  pub stands : Stands fields 0 (fields_of k)
  pub planned : PlanLast k plan
  pub cued : f.cues ≡ take cues es
  pub tasked : f.tasks ≡ drop cues es
  pub holds : Holds es ids f.root starts links labels cues count root

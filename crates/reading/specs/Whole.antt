-- What reading a whole case answers and leaves. Assumes nothing.
use Rattle.std.specs.Prelude.{◌≡◌, List, map, ℕ, ◌+◌, ◌≤◌, length, Result, Ok, Err}
use Rattle.std.proofs.lemmas.List.Edits.{sets}
use Rattle.rules.specs.declared.Header.{Header}
use Rattle.rules.specs.declared.Answer.{Answer}
use Rattle.rules.specs.Result as R
use Rattle.rules.specs.Result.{found, refused, ◌>>=◌, ◌>>◌}
use Rattle.rules.specs.Case.{Case, Read, no_surplus}
use Rattle.rules.specs.Fields.{line_fields, initial_line, action_line, cues_line, node_line, fields_of}
use Rattle.fields.specs.Standing.{Stands}
use Rattle.fields.specs.Directory.{methods_from, Finds, NodesLast}
use Rattle.reading.specs.declared.CaseRead.{CaseRead}
use Rattle.reading.specs.Groups.{joined, method_fields, starts, case_at}

-- A body, up to the end of the text.
abbrev pub to_the_end : List ℕ → Read Case → R.Result Case
to_the_end text r = r >>= λ (k, n, place). no_surplus text n place >> found k

-- The fields of a case's lines after its header, each group's one after the other.
abbrev pub initial_fields : Case → List ℕ
initial_fields k = line_fields (initial_line k.initial)

abbrev pub action_fields : Case → List (List ℕ)
action_fields k = map (λ a. line_fields (action_line a)) k.actions

abbrev pub methods_fields : Case → List (List ℕ)
methods_fields k = map method_fields k.methods

abbrev pub plan_fields : Case → List ℕ
plan_fields k = line_fields (cues_line k.plan)

abbrev pub node_fields : Case → List (List ℕ)
node_fields k = map (λ x. line_fields (node_line x)) k.nodes

-- Where each group's fields start, if the first of them stands at `from`.
abbrev pub actions_at : Case → ℕ → ℕ
actions_at k from = from + length (initial_fields k)

abbrev pub methods_at : Case → ℕ → ℕ
methods_at k from = actions_at k from + length (joined (action_fields k))

abbrev pub plan_at : Case → ℕ → ℕ
plan_at k from = methods_at k from + length (joined (methods_fields k))

abbrev pub nodes_at : Case → ℕ → ℕ
nodes_at k from = plan_at k from + length (plan_fields k)

abbrev pub end_at : Case → ℕ → ℕ
end_at k from = nodes_at k from + length (joined (node_fields k))

-- A body that is read from a place on: its answer, its fields, and its directory.
pub record Filled (h : Header) (k : Case) (from : ℕ) (before directory : List ℕ) (r : Result CaseRead Answer) (now places : List ℕ) : Type 0 where
  pub head : k.head ≡ h
  pub answer : r ≡ Ok (case_at k.head k.plan_line from (plan_at k from) (nodes_at k from))
  pub room : end_at k from ≤ length before
  pub fields : now
      ≡ sets (sets (sets (sets (sets before from (initial_fields k)) (actions_at k from) (joined (action_fields k))) (methods_at k from) (joined (methods_fields k)))
      (plan_at k from) (plan_fields k)) (nodes_at k from) (joined (node_fields k))
  pub listed : places ≡ sets (sets directory 0 (starts (actions_at k from) (action_fields k))) methods_from (starts (methods_at k from) (methods_fields k))

abbrev pub BodyLeft : Header → ℕ → List ℕ → List ℕ → R.Result Case → Result CaseRead Answer → List ℕ → List ℕ → Type 0
BodyLeft h from before directory (found k) r now places = Filled h k from before directory r now places
BodyLeft h from before directory (refused a) r now places = r ≡ Err a

-- What reading a case answers and leaves: the fields of the case, and where its lines stand among them, those of its nodes last.
abbrev pub ReadsAs : R.Result Case → Result CaseRead Answer → List ℕ → List ℕ → Type 0
ReadsAs (refused a) r fields directory = r ≡ Err a
ReadsAs (found k) r fields directory =
    (initial plan nodes : ℕ) × (r ≡ Ok (case_at k.head k.plan_line initial plan nodes)) × Stands fields 0 (fields_of k) × Finds k fields directory initial plan nodes
    × NodesLast k nodes

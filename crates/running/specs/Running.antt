-- Running the plan of a case that was read, over its fields. Assumes nothing.
use Rattle.std.specs.Prelude.{◌≡◌, List, ℕ, ◌≤◌, length, take, Result, Ok, Err}
use Rattle.std.proofs.Math.Option.{Option, none, some}
use Rattle.rules.specs.declared.Header.{Header}
use Rattle.rules.specs.State.{State, first_stop}
use Rattle.rules.specs.Case.{Case}
use Rattle.rules.specs.Verdict.{states_of}
use Rattle.fields.specs.Directory.{Finds, IsRead, directory_size}
use Rattle.rows.specs.Rows.{put_rows}
use Rattle.running.specs.declared.Stopped.{Stopped}

-- What reading left: the fields are those of a case that was read, whose header is h, and the directory finds its lines.
pub record Left (k : Case) (fields directory : List ℕ) (h : Header) (initial plan : ℕ) : Type 0 where
  pub nodes : ℕ
  pub head : h ≡ k.head
  pub long : directory_size ≤ length directory
  pub read : IsRead k
  pub finds : Finds k fields directory initial plan nodes

-- All cues apply; or the first that doesn't.
abbrev pub stopped : ℕ → Result (Unit {0}) Stopped
stopped i = Err (record { cue = i })

abbrev pub ran_of : Option ℕ → Result (Unit {0}) Stopped
ran_of none = Ok tt
ran_of (some i) = stopped i

-- The first cue of a case that doesn't apply.
abbrev pub stop_of : Case → Option ℕ
stop_of k = first_stop k.actions k.plan k.initial 1

-- Of states 0 to k, those that a run reaches: all of them, or states 0 to i - 1 where cue i is the first that doesn't apply.
abbrev pub reached : Option ℕ → List State → List State
reached none ss = ss
reached (some i) ss = take i ss

-- What running the plan of a case answers, and what it makes of a state list: the states that it reaches in turn, all after them as it was.
pub record RanAs (k : Case) (r : Result (Unit {0}) Stopped) (before after : List ℕ) : Type 0 where
  pub answer : r ≡ ran_of (stop_of k)
  pub written : after ≡ put_rows before 0 (reached (stop_of k) (states_of k))

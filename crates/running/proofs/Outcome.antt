-- What the answer of a run says of its case: whether all cues apply, and what the state list holds then. Assumes nothing.
use mathlib.Core.Path.{◌≡◌, refl, sym, ap, ◌∙◌}
use mathlib.Core.List.{List}
use mathlib.Core.Option.{Option, none, some}
use Prim.Native.Nat.{ℕ}
use Rattle.rules.specs.declared.Header.{Header}
use Rattle.rules.specs.Case.{Case}
use Rattle.rules.specs.Verdict.{states_of}
use Rattle.rules.proofs.Judgement.Each.{Each}
use Rattle.rules.proofs.Judgement.Sound.{initial_worded}
use Rattle.rules.proofs.Worded.{Worded, states_worded}
use Rattle.rows.specs.Rows.{put_rows}
use Rattle.std.specs.Prelude.{Result, Ok, Err}
use Rattle.running.specs.declared.Stopped.{Stopped}
use Rattle.running.specs.Running.{Left, ran_of, stop_of, reached, RanAs}
use Rattle.running.proofs.Reached.{left_sound}

-- Every state has the words of a state.
pub left_worded : (k : Case) (fields directory : List ℕ) (h : Header) (initial plan : ℕ) → Left k fields directory h initial plan
    → Each Worded (states_of k)
unfolding states_of
left_worded k fields directory h initial plan left =
    states_worded k.actions k.plan k.initial (initial_worded k (left_sound left))

all_ran : (o : Option ℕ) → Ok tt ≡ ran_of o → o ≡ none
all_ran none e = refl
all_ran (some i) e = cc

pub stopped_at : (o : Option ℕ) (s : Stopped) → Err s ≡ ran_of o → o ≡ some s.cue
stopped_at none s e = cc
stopped_at (some j) s e = let same : ◌≡◌ {A = Stopped} (record { cue = j }) s = cc in ap (λ (x : Stopped). some x.cue) same

-- Where all cues apply, states 0 to k are written.
pub ran_all : (k : Case) (r : Result (Unit {0}) Stopped) (before after : List ℕ) → RanAs k r before after → r ≡ Ok tt
    → (stop_of k ≡ none) × (after ≡ put_rows before 0 (states_of k))
ran_all k r before after ran e =
    let runs = all_ran (stop_of k) (sym e ∙ ran.answer) in
    (runs, ran.written ∙ ap (λ (o : Option ℕ). put_rows before 0 (reached o (states_of k))) runs)

-- The checks of the replay call. Assumes nothing.
use Rattle.std.specs.Prelude.{◌≡◌, List, ℕ}
use Rattle.rules.specs.Result.{found}
use Rattle.rules.specs.Case.{Case}
use Rattle.rules.specs.declared.Answer.{Answer}
use Rattle.rules.specs.Verdict.{Found, answer_of, states_after}
use Rattle.rules.proofs.Judgement.Rows.{from_run, from_text}

-- From row 5 on, and from row 2 on.
unfoldable pub replay_run : Case → Found (Unit {0})
replay_run k = from_run (λ c. found (c, tt)) k

unfoldable pub replay_text : List ℕ → Found (Unit {0})
replay_text text = from_text (λ c. found (c, tt)) text

-- What the call answers, and what a state list of so many numbers holds then.
pub record Replayed (f : Found (Unit {0})) (size : ℕ) (r : Answer) (states : List ℕ) : Type 0 where
  pub answer : r ≡ answer_of f
  pub filled : states ≡ states_after size f

-- What the core of the write call answers and leaves. Assumes nothing.
use Rattle.std.specs.Prelude.{◌≡◌, List, true, false, ℕ, ◌≤◌, ◌<◌, ltb, length, replicate, Option, Some, None, Result, Ok, Err}
use Rattle.rules.specs.declared.Answer.{Answer}
use Rattle.rules.specs.declared.Answer.TheVariants.{ShortOutput}
use Rattle.rules.specs.Result.{found, ◌>>=◌, ◌>>◌}
use Rattle.rules.specs.Tree.{Tree}
use Rattle.rules.specs.Verdict.{Found, answer_of, filled, states_after}
use Rattle.rules.specs.Writing.{output_long, output_after, length_after}
use Rattle.records.specs.Records.{RecordsHeld}
use Rattle.writer.specs.declared.Wrote.{Wrote}

-- What a verdict answers, and leaves in lists of these sizes and in the work space: the records of an accepted tree as columns.
pub record Writes (f : Found Tree) (state_size outputSize : ℕ) (w : Wrote) (states work output : List ℕ) : Type 0 where
  pub answer : w.answer ≡ answer_of f
  pub answered : w.length ≡ length_after f
  pub states_held : states ≡ states_after state_size f
  pub records_held : RecordsHeld f work
  pub put : output ≡ output_after outputSize f

-- The bytes needed, if there is less room.
unfoldable pub lacked : ℕ → ℕ → Option ℕ
lacked needed room = elim (ltb room needed) [ true ↦ Some needed | false ↦ None ]

-- What became of a text, with an output of this size: it stands there, so many bytes; or the output is too short, and zero.
abbrev pub PutAs : List ℕ → ℕ → Result ℕ Answer → List ℕ → Type 0
PutAs text size (Ok bytes) output = (length text ≤ size) × (bytes ≡ length text) × (output ≡ filled size 0 text)
PutAs text size (Err short) output = (size < length text) × (short ≡ ShortOutput (length text)) × (output ≡ replicate size 0)

-- The rest of the write call, after the check: 14.
abbrev pub then_output : ℕ → Found Tree → Found Tree
then_output size f = f >>= λ (k, t). output_long size k >> found (k, t)

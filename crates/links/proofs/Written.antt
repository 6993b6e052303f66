-- What the lines of a form that was read define and use, and where the ids that they use stand. Assumes nothing.
use mathlib.Core.Path.{◌≡◌, ap}
use mathlib.Core.List.{List, []}
use mathlib.Core.Logic.{⊎_elim}
use Prim.Native.Nat.{ℕ, ◌≤◌, ◌<◌}
use native.Mathlib.Omega.{arith}
use lib.ListN.{length}
use Rattle.rules.specs.Form.{FormLine, defines, uses}
use Rattle.probing.proofs.First.{below}
use Rattle.links.specs.Links.{line_at, Lines, Defined, Spelled}

-- The part of `Lines` that linking asks.
pub record Written (es : List FormLine) (text places ids : List ℕ) (cues count : ℕ) : Type 0 where
  pub size : length es ≡ count
  pub few : cues ≤ count
  pub most : count ≤ 3000
  pub defined : Defined es ids
  pub idle : (e : ℕ) → e < cues → uses (line_at es e) ≡ []
  pub short : (e : ℕ) → e < length es → length (uses (line_at es e)) ≤ 32
  pub spelled : Spelled text places es cues

module _ {es : List FormLine} {cues : ℕ} {ids labels : List ℕ} (lines : Lines es cues ids labels) where
  pub lines_defined : Defined es ids
  lines_defined e h =
      ⊎_elim (λ k. ap defines (lines.cue_here e k)) (λ k. ap defines (lines.task_here e k h).1) (below e cues)

  cue_idle : (e : ℕ) → e < cues → uses (line_at es e) ≡ []
  cue_idle e h = ap uses (lines.cue_here e h)

  pub lines_written : {text places : List ℕ} {count : ℕ} → Spelled text places es cues → length es ≡ count → Written es text places ids cues count
  lines_written spelled size =
      record {
        size = size;
        few = omega (arith, lines.few);
        most = omega (arith, lines.most);
        defined = lines_defined;
        idle = cue_idle;
        short = λ e h. ⊎_elim (λ k. omega (arith, ap length (cue_idle e k)))
            (λ k. let t = lines.task_here e k h in omega (arith, t.2, ap (λ (l : FormLine). length (uses l)) t.1)) (below e cues);
        spelled = spelled;
      }

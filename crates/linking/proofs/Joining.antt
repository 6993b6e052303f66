-- What is known of a form's lines, one list after the other, makes a graph, and tells the first wrong line. Assumes nothing.
use mathlib.Core.Path.{◌≡◌, subst}
use mathlib.Core.List.{List}
use Prim.Native.Nat.{ℕ, ◌-◌, ◌≤◌, ◌<◌}
use native.Mathlib.Omega.{arith}
use lib.ListN.{length, get_or}
use Rattle.rules.specs.Form.{FormLine, Form, wrong_line}
use Rattle.links.specs.Links.{Lines, Twins, Resolved}
use Rattle.links.proofs.Written.{lines_defined}
use Rattle.reaching.specs.Visited.{Graph, Marked}
use Rattle.std.specs.Prelude.{Option}
use Rattle.wrongs.specs.Wrongs.{as_line, Known, Holds}
use Rattle.linking.specs.Linking.{Rooted, MarkedFrom, Joined}

-- ---- Marks

module _ {starts links twin : List ℕ} {root : ℕ} {marks : List ℕ} where
  -- A link that leads to no line leaves the marks at 0.
  pub none_marked : root ≡ 0 → ((d : ℕ) → get_or marks d 0 ≡ 0) → MarkedFrom starts links twin root marks
  none_marked none clear = record { unmarked = λ q. clear; marked = λ r q. absurd (omega arith) }

  -- Any other leads to the line whose number is one less.
  pub some_marked : (root ≡ 0 → ⊥) → Marked starts links twin (root - 1) marks → MarkedFrom starts links twin root marks
  some_marked some walked =
      record {
        unmarked = λ q. absurd (some q);
        marked = λ r q. subst (λ (e : ℕ). Marked starts links twin e marks) (omega arith) walked;
      }

-- ---- The lines of one form

module _ {es : List FormLine} {count lost : ℕ} {starts links used : List ℕ} (size : length es ≡ count) (k : Resolved es lost starts links used) where
  pub graph : {twin : List ℕ} → count < length starts → count ≤ length twin → ((e : ℕ) → get_or twin e 0 ≤ count) → Graph starts links twin count
  graph room fits low =
      record {
        starts_fit = room;
        twins_fit = fits;
        ordered = λ e h. k.linked.ordered e (omega arith);
        inside = λ e h. k.linked.inside e (omega arith);
        links_low = λ e u h from to. omega (arith, k.low u);
        twins_low = λ e h. low e;
      }

  module _ {cues : ℕ} {ids labels twin marks : List ℕ} {root id : ℕ} (lines : Lines es cues ids labels) (twins : Twins es twin)
      (rooted : Rooted ids count id root) (from : MarkedFrom starts links twin root marks) where
    known : Known es cues count ids labels starts links twin used marks lost root id
    known =
        record {
          counts = size;
          lines = lines;
          linked = k.linked;
          twins = twins;
          counted = k.counted;
          rooted = rooted.0 es size (lines_defined lines);
          defined = k.whole;
          missing = λ h. k.wrong (omega arith);
          unmarked = from.unmarked;
          marked = from.marked;
        }

    -- The answer tells the first wrong line of each form of which all this is known.
    pub joined : (line : Option ℕ)
        → ((es : List FormLine) (ids labels starts links : List ℕ) (id : ℕ)
        → Known es cues count ids labels starts links twin used marks lost root id → (f : Form) → Holds f es cues id → wrong_line f ≡ as_line line)
        → Joined es cues id (record { root = root; line = line }) starts links
    joined line answer =
        record {
          linked = k.linked;
          rooted = rooted.0 es size (lines_defined lines);
          wrong = answer es ids labels starts links id known;
        }

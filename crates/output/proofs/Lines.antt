-- The lines of the fields in turn, measured and put. Assumes nothing.
use mathlib.Core.Path.{◌≡◌, refl, sym, ap, subst, ◌∙◌}
use mathlib.Core.List.{List, [], ◌∷◌, ◌++◌}
use Prim.Native.Nat.{ℕ, ◌+◌, ◌*◌, ◌≤◌, ◌<◌}
use native.Mathlib.Omega.{arith}
use lib.ListN.{length, get_or, length-append}
use lib.Seq.{sets, slice}
use Rattle.rules.specs.Case.{Valued}
use Rattle.rules.specs.Fields.{line_fields, lines_fields}
use Rattle.rules.specs.Print.{line_text, lines_text}
use Rattle.fields.specs.Standing.{Stands}
use Rattle.fields.proofs.Standing.{stands_left, stands_right}
use Rattle.sizes.specs.Sizes.{IsLine, AreLines}
use Rattle.sizes.proofs.Items.{letter_here}
use Rattle.output.specs.Output.{HasLines}
use Rattle.output.proofs.Putting.{Putting, putting_starts, putting_as, putting_more, putting_room, putting_ends}
use Rattle.output.proofs.Texts.{stands_slice, text_most_lem}

-- These lines stand from a place on, up to the end.
pub record Going (k : ℕ) (fields : List ℕ) (end at : ℕ) (rest : List Valued) : Type 0 where
  pub lines : AreLines k rest
  pub here : Stands fields at (lines_fields rest)
  pub whole : at + length (lines_fields rest) ≡ end

-- The first of them, and that the others follow it.
pub record Due (k : ℕ) (fields : List ℕ) (end at : ℕ) (rest : List Valued) : Type 0 where
  pub line : Valued
  pub others : List Valued
  pub same : rest ≡ line ∷ others
  pub is : IsLine k line
  pub here : Stands fields at (line_fields line)
  pub some : 0 < length (line_fields line)
  pub inside : at + length (line_fields line) ≤ length fields
  pub most : at + length (line_fields line) ≤ end
  pub letter : get_or fields at 0 < 256
  pub next : (n : ℕ) → n ≡ length (line_fields line) → Going k fields end (at + n) others
  pub text : (n : ℕ) → n ≡ length (line_fields line) → line_text (slice at (at + n) fields) ≡ line_text (line_fields line)

some_fields : (x : Valued) → 0 < length (line_fields x)
unfolding line_fields
some_fields x = omega arith

module _ (k : ℕ) (fields : List ℕ) (end at : ℕ) where
  first_due : (rest : List Valued) → at < end → AreLines k rest → Stands fields at (lines_fields rest) → at + length (lines_fields rest) ≡ end → Due k fields end at rest
  first_due [] more lines here whole = absurd (omega arith)
  first_due (x ∷ xs) more lines here whole =
      let own = stands_left fields at (line_fields x) (lines_fields xs) here in
      let long = length-append (line_fields x) (lines_fields xs) in
      let first = letter_here k fields at x lines.0 own in
      record {
        line = x;
        others = xs;
        same = refl;
        is = lines.0;
        here = own;
        some = some_fields x;
        inside = first.0;
        most = omega arith;
        letter = first.3;
        next =
            λ n e. record {
              lines = lines.1;
              here = subst (λ (m : ℕ). Stands fields (at + m) (lines_fields xs)) (sym e) (stands_right fields at (line_fields x) (lines_fields xs) here);
              whole = omega arith;
            };
        text = λ n e. ap line_text (stands_slice fields at (line_fields x) (at + n) own (some_fields x) (ap (λ (m : ℕ). at + m) e));
      }

  pub line_due : (rest : List Valued) → Going k fields end at rest → at < end → Due k fields end at rest
  line_due rest g more = first_due rest more g.lines g.here g.whole

  pub none_due : (rest : List Valued) → Going k fields end at rest → end ≤ at → rest ≡ []
  none_due [] g done = refl
  none_due (x ∷ xs) g done =
      let s = some_fields x in let e = length-append (line_fields x) (lines_fields xs) in let w = g.whole in absurd (omega arith)

pub going_starts : (k : ℕ) (fields : List ℕ) (end : ℕ) (xs : List Valued) → HasLines k fields end xs → Going k fields end 0 xs
going_starts k fields end xs h = let w = h.whole in record { lines = h.lines; here = h.here; whole = omega arith }

-- ---- Measured

pub record Measured (k : ℕ) (fields : List ℕ) (end : ℕ) (xs : List Valued) (at size : ℕ) : Type 0 where
  pub rest : List Valued
  pub going : Going k fields end at rest
  pub sum : size + length (lines_text rest) ≡ length (lines_text xs)

pub measured_starts : (k : ℕ) (fields : List ℕ) (end : ℕ) (xs : List Valued) → HasLines k fields end xs → Measured k fields end xs 0 0
measured_starts k fields end xs h = record { rest = xs; going = going_starts k fields end xs h; sum = omega arith }

module _ (k : ℕ) (fields : List ℕ) (end : ℕ) (xs : List Valued) (at size : ℕ) (m : Measured k fields end xs at size) where
  pub measured_due : at < end → Due k fields end at m.rest
  measured_due more = line_due k fields end at m.rest m.going more

  -- How far the sum goes with the line that is due.
  pub measured_sum : (more : at < end) (n s : ℕ) → n ≡ length (line_fields (measured_due more).line) → s ≡ length (line_text (slice at (at + n) fields))
      → size + s + length (lines_text (measured_due more).others) ≡ length (lines_text xs)
  measured_sum more n s e z =
      let d = measured_due more in
      let t = ap length (d.text n e) in
      let a = ap (λ (l : List Valued). length (lines_text l)) d.same in
      let b = length-append (line_text (line_fields d.line)) (lines_text d.others) in
      let w = m.sum in
      omega arith

  pub measured_next : (more : at < end) (n s : ℕ) → n ≡ length (line_fields (measured_due more).line) → s ≡ length (line_text (slice at (at + n) fields))
      → Measured k fields end xs (at + n) (size + s)
  measured_next more n s e z = let d = measured_due more in record { rest = d.others; going = d.next n e; sum = measured_sum more n s e z }

  pub measured_ends : end ≤ at → size ≡ length (lines_text xs)
  measured_ends done =
      let a = ap (λ (l : List Valued). length (lines_text l)) (none_due k fields end at m.rest m.going done) in
      let w = m.sum in
      omega arith

-- Twelve bytes a field.
pub lines_most : (k : ℕ) (fields : List ℕ) (end : ℕ) (xs : List Valued) → HasLines k fields end xs → length (lines_text xs) ≤ 12 * end
lines_most k fields end xs h = let t = text_most_lem xs in let w = h.whole in omega arith

-- ---- Put

pub record Written (k : ℕ) (fields : List ℕ) (end : ℕ) (before : List ℕ) (xs : List Valued) (at to : ℕ) (now : List ℕ) : Type 0 where
  pub rest : List Valued
  pub going : Going k fields end at rest
  pub put : Putting (lines_text xs) 0 before (lines_text rest) to now

pub written_starts : (k : ℕ) (fields : List ℕ) (end : ℕ) (before : List ℕ) (xs : List Valued) → HasLines k fields end xs
    → Written k fields end before xs 0 0 before
written_starts k fields end before xs h =
    record { rest = xs; going = going_starts k fields end xs h; put = putting_starts (lines_text xs) 0 before }

module _ (k : ℕ) (fields : List ℕ) (end : ℕ) (before : List ℕ) (xs : List Valued) (at to : ℕ) (now : List ℕ) (w : Written k fields end before xs at to now) where
  pub written_due : at < end → Due k fields end at w.rest
  written_due more = line_due k fields end at w.rest w.going more

  due_put : (more : at < end)
      → Putting (lines_text xs) 0 before (line_text (line_fields (written_due more).line) ++ lines_text (written_due more).others) to now
  due_put more = putting_as (lines_text xs) 0 before (lines_text w.rest) to now _ (ap lines_text (written_due more).same) w.put

  pub written_size : length now ≡ length before
  written_size = (putting_room (lines_text xs) 0 before (lines_text w.rest) to now w.put).1

  -- There is room for the line that is due.
  pub written_room : (more : at < end) (n : ℕ) → n ≡ length (line_fields (written_due more).line) → length (lines_text xs) ≤ length before
      → to + length (line_text (slice at (at + n) fields)) ≤ length now
  written_room more n e fits =
      let d = written_due more in
      let t = ap length (d.text n e) in
      let own = line_text (line_fields d.line) in
      let b = length-append own (lines_text d.others) in
      let r = putting_room (lines_text xs) 0 before (own ++ lines_text d.others) to now (due_put more) in
      omega arith

  pub written_next : (more : at < end) (n next : ℕ) (after : List ℕ) → n ≡ length (line_fields (written_due more).line)
      → after ≡ sets now to (line_text (slice at (at + n) fields)) → next ≡ to + length (line_text (slice at (at + n) fields))
      → Written k fields end before xs (at + n) next after
  written_next more n next after e is place =
      let d = written_due more in
      let t = d.text n e in
      record {
        rest = d.others;
        going = d.next n e;
        put =
            putting_more (lines_text xs) 0 before (line_text (line_fields d.line)) (lines_text d.others) to now after next (due_put more)
            (is ∙ ap (sets now to) t) (place ∙ ap (λ (l : List ℕ). to + length l) t);
      }

  pub written_ends : end ≤ at → (now ≡ sets before 0 (lines_text xs)) × (to ≡ length (lines_text xs))
  written_ends done =
      let p = putting_ends (lines_text xs) 0 before (lines_text w.rest) to now w.put (ap lines_text (none_due k fields end at w.rest w.going done)) in
      let e = p.1 in
      (p.0, omega arith)

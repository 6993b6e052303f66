-- A text that was read, as making the case goes by it. Assumes nothing.
use mathlib.Core.Path.{◌≡◌, refl, sym, subst}
use mathlib.Core.List.{List}
use Prim.Native.Nat.{ℕ}
use native.Mathlib.Omega.{arith}
use Rattle.rules.specs.declared.Answer.{Answer}
use Rattle.rules.specs.Result.{Result, found, refused, ◌>>=◌}
use Rattle.rules.specs.Case.{Case, no_method, method_at, read_case}
use Rattle.rules.specs.Ranges.{GoodMethod}
use Rattle.rules.specs.Verdict.{work_need}
use Rattle.rules.proofs.Judgement.Each.{each_at}
use Rattle.rules.proofs.Judgement.Sound.{sound}
use Rattle.fields.specs.Directory.{directory_size}
use Rattle.judge.specs.declared.Opened.{Opened}
use Rattle.judge.specs.Phases.{Opens}
use Rattle.std.specs.Prelude.{Err, Result as Returned}
use Rattle.importer.specs.Importing.{CaseHere, made_beside, made_text, MadeIs}

pub case_here : (k : Case) (fields : List ℕ) (o : Opened) (initial : ℕ) (work : List ℕ) → Opens k fields o initial work → CaseHere k o.header o.nodes fields work
unfolding work_need directory_size method_at
case_here k fields o initial work x =
    let s = sound x.read.text k x.read.reads in
    let room = x.work_room in
    record {
      model = record {
        read = x.read;
        head = sym x.head;
        methods = record {
          room = omega arith;
          most = s.head_good.few_methods;
          here = x.finds.method_here;
          few = λ m h. (each_at (GoodMethod k.head) k.methods m no_method s.methods_good (omega (arith, s.methods_length))).few_subtasks;
        };
      };
      stands = x.stands;
      last = x.last;
    }

module _ (size : ℕ) (text names form : List ℕ) where
  pub text_made : (k : Case) → read_case text ≡ found k → (r : Returned ℕ Answer) (output : List ℕ) → MadeIs (made_beside size k names form) size r output → MadeIs (made_text size text names form) size r output
  unfolding made_text
  text_made k e r output m = subst (λ (x : Result Case). MadeIs (x >>= λ l. made_beside size l names form) size r output) (sym e) m

  pub text_refused : (a : Answer) → read_case text ≡ refused a → (output : List ℕ) → MadeIs (made_text size text names form) size (Err a) output
  unfolding made_text
  text_refused a e output = subst (λ (x : Result Case). MadeIs (x >>= λ l. made_beside size l names form) size (Err a) output) (sym e) refl

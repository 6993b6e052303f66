-- The rows of the import call put together: the made text and what is found of it, as the definitions have them in one. Assumes nothing.
use mathlib.Core.Path.{◌≡◌, refl, sym, ap, subst, ◌∙◌}
use mathlib.Core.Bool.{Bool, true, false}
use mathlib.Core.List.{List}
use Prim.Native.Nat.{ℕ, ◌-◌, ◌≤◌, ◌<◌}
use native.Mathlib.Omega.{arith}
use lib.ListN.{length, take, replicate}
use lib.Seq.{take_at}
use Rattle.std.specs.Prelude.{Ok, Err}
use borrow.Author.Tests.{le-ltb}
use Rattle.rules.specs.declared.Answer.{Answer}
use Rattle.rules.specs.declared.Answer.TheVariants.{LongText}
use Rattle.rules.specs.Result.{Result, found, refused, ◌>>=◌, ◌>>◌}
use Rattle.rules.specs.Case.{Case, read_case}
use Rattle.rules.specs.Print.{printed}
use Rattle.rules.specs.Tree.{Tree}
use Rattle.rules.specs.Verdict.{Lent, text_most, check_lists, lists_long, text_short, Found, answer_of, filled, states_after}
use Rattle.rules.specs.Writing.{room_for}
use Rattle.rules.specs.Gaps.{before_choices, find_gaps, tried_after, choice_count, Limited}
use Rattle.rules.specs.Naming.{read_names}
use Rattle.rules.specs.Form.{read_form, ids_right}
use Rattle.rules.specs.Import.{made_case, made_from, import_form, found_tree, made_after, made_length, LimitedMade}
use Rattle.records.specs.Records.{RecordsHeld}
use Rattle.finder.specs.declared.Discovery.{Discovery}
use Rattle.finder.specs.Finding.{Finds}
use Rattle.finder.proofs.Counting.{limited_one}
use Rattle.finder.proofs.Rows.{limits_hold}
use Rattle.importer.specs.declared.Outcome.{Outcome}
use Rattle.importer.specs.Importing.{made_of, made_beside, made_text, MadeIs, then_find, from_made, LimitedTo, Imports}

apart : {A : Type 0} → ◌≡◌ {A = ℕ} 0 1 → A
apart z = absurd (omega arith)

-- ---- One row after another

bind_each : {A B : Type 0} (r : Result A) {F G : A → Result B} → ((a : A) → F a ≡ G a) → (r >>= F) ≡ (r >>= G)
bind_each (found a) e = e a
bind_each (refused x) e = refl

bind_assoc : {A B C : Type 0} (r : Result A) (F : A → Result B) (G : B → Result C) → ((r >>= F) >>= G) ≡ (r >>= λ a. F a >>= G)
bind_assoc (found a) F G = refl
bind_assoc (refused x) F G = refl

then_assoc : {A B C : Type 0} (r : Result A) (s : Result B) (G : B → Result C) → ((r >> s) >>= G) ≡ (r >> (s >>= G))
then_assoc (found a) s G = refl
then_assoc (refused x) s G = refl

module _ (size : ℕ) (text names form : List ℕ) where
  -- The text that is made, as `made_from` and the room for it give it.
  abbrev roomy : Case → Result (List ℕ)
  roomy made = room_for size (printed made) >> found (printed made)

  abbrev body : Result Case
  body = read_case text >>= λ k. read_names k.head names >>= λ ns. read_form k ns form >>= λ f. ids_right f >> found (made_case k f)

  body_made : (body >>= roomy) ≡ made_text size text names form
  unfolding made_text made_beside made_of
  body_made =
      bind_assoc (read_case text) (λ k. read_names k.head names >>= λ ns. read_form k ns form >>= λ f. ids_right f >> found (made_case k f)) roomy
      ∙ bind_each (read_case text)
      (λ k.
      bind_assoc (read_names k.head names) (λ ns. read_form k ns form >>= λ f. ids_right f >> found (made_case k f)) roomy
      ∙ (bind_each (read_names k.head names)
      (λ ns.
      bind_assoc (read_form k ns form) (λ f. ids_right f >> found (made_case k f)) roomy
      ∙ bind_each (read_form k ns form) (λ f. then_assoc (ids_right f) (found (made_case k f)) roomy))
      ∙ sym (bind_assoc (read_names k.head names) (λ ns. read_form k ns form) (λ f. made_of size k f))))

  module _ (lists : List Lent) where
    abbrev whole : Result (List ℕ)
    whole = made_from lists text names form >>= roomy

    -- The call is the made text, and what is found of it.
    pub import_made : (n : ℕ) → import_form n lists size text names form ≡ from_made n lists whole
    unfolding import_form
    import_made n =
        sym
        (bind_assoc (made_from lists text names form) roomy (λ made. then_find n lists made)
        ∙ bind_each (made_from lists text names form) (λ made. then_assoc (room_for size (printed made)) (found (printed made)) (λ t. then_find n lists t)))

    -- Past rows 1 and 2.
    pub whole_passed : lists_long lists ≡ found tt → text_short text ≡ found tt → whole ≡ made_text size text names form
    unfolding made_from
    whole_passed l s =
        ap (λ (r : Result (Unit {0})). (r >> (text_short text >> body)) >>= roomy) l
        ∙ (ap (λ (r : Result (Unit {0})). (r >> body) >>= roomy) s ∙ body_made)

    pub whole_refused : (a : Answer) → (lists_long lists >> text_short text) ≡ refused a → whole ≡ refused a
    unfolding made_from
    whole_refused a e = go (lists_long lists) e
      where
        go : (r : Result (Unit {0})) → (r >> text_short text) ≡ refused a → ((r >> (text_short text >> body)) >>= roomy) ≡ refused a
        go (found u) q = ap (λ (r : Result (Unit {0})). (r >> body) >>= roomy) q
        go (refused x) q = q' q
          where
            q' : ◌≡◌ {A = Result (Unit {0})} (refused x) (refused a) → ◌≡◌ {A = Result (List ℕ)} (refused x) (refused a)
            q' h = ap refused (cc)

-- ---- What is found of the made text

from_found : {A B : Type 0} (r : Result A) (F : A → Result B) {b : B} → (r >>= F) ≡ found b → (a : A) × (r ≡ found a)
from_found (found a) F e = (a, refl)
from_found (refused x) F e = apart (cc)

before_found : (n : ℕ) (lists : List Lent) (text : List ℕ) (x : Case × Tree) → find_gaps n lists text ≡ found x → (k : Case) × (before_choices lists text ≡ found k)
unfolding find_gaps
before_found n lists text x e = from_found (before_choices lists text) _ e

-- A number within the limits of a text of which something is found is not 0.
some_tried : (n : ℕ) (lists : List Lent) (text : List ℕ) (x : Case × Tree) → Limited (before_choices lists text) n → find_gaps n lists text ≡ found x → 0 < n
some_tried n lists text x w e =
    let (k, b) = before_found n lists text x e in
    let limits : (1 ≤ n) × (n ≤ choice_count k) = subst (λ (r : Result Case). Limited r n) b w in
    limits.0

-- The text is what stands in so many places.
pub text_is : (size : ℕ) (text output : List ℕ) (n : ℕ) → output ≡ filled size 0 text → length text ≡ n → take n output ≡ text
unfolding filled
text_is size text output n e h = ap (take n) e ∙ take_at text (replicate (size - length text) 0) n h

module _ (lists : List Lent) (made : List ℕ) (size room : ℕ) {d : Discovery} {states work : List ℕ} (x : Finds (λ n. find_gaps n lists made) (Limited (before_choices lists made)) size d states work) where
  abbrev sought : Found Tree
  sought = find_gaps x.number lists made

  abbrev bound : Found Tree → Found (Tree × List ℕ)
  bound f = f >>= λ (k, t). found (k, (t, made))

  bound_tree : (f : Found Tree) → found_tree (bound f) ≡ f
  bound_tree (found (k, t)) = refl
  bound_tree (refused a) = refl

  bound_answer : (f : Found Tree) → answer_of (bound f) ≡ answer_of f
  bound_answer (found (k, t)) = refl
  bound_answer (refused a) = refl

  bound_states : (f : Found Tree) → states_after size (bound f) ≡ states_after size f
  unfolding states_after
  bound_states (found (k, t)) = refl
  bound_states (refused a) = refl

  abbrev As : Outcome → List ℕ → Type 0
  As r output = Imports (λ n. then_find n lists made) (Limited (before_choices lists made)) size room r states work output

  -- Whatever is found or refused: what is left to say is the length and the output.
  as_found_lem : {r : Outcome} {output : List ℕ} → r.answer ≡ d.answer → r.tried ≡ d.tried → r.length ≡ made_length (bound sought)
      → output ≡ made_after room (bound sought) → As r output
  as_found_lem a t l o = record {
    number = x.number;
    within = x.within;
    answer = a ∙ (x.answer ∙ sym (bound_answer sought));
    answered = t ∙ (x.answered ∙ ap (tried_after x.number) (sym (bound_tree sought)));
    sized = l;
    states_held = x.states_held ∙ sym (bound_states sought);
    records_held = subst (λ (f : Found Tree). RecordsHeld f work) (sym (bound_tree sought)) x.records_held;
    put = o;
  }

  -- None was tried: it is refused.
  pub imports_none : {r : Outcome} {output : List ℕ} → d.tried ≡ 0 → r.answer ≡ d.answer → r.tried ≡ 0 → r.length ≡ 0 → output ≡ replicate room 0 → As r output
  unfolding tried_after made_length made_after
  imports_none {r} {output} z a t l o = go sought refl
    where
      go : (f : Found Tree) → sought ≡ f → As r output
      go (found y) e =
          let h = some_tried x.number lists made y x.within e in
          let n : d.tried ≡ x.number = x.answered ∙ ap (tried_after x.number) e in
          absurd (omega arith)
      go (refused b) e =
          as_found_lem a (t ∙ sym z) (l ∙ sym (ap (λ (f : Found Tree). made_length (bound f)) e)) (o ∙ sym (ap (λ (f : Found Tree). made_after room (bound f)) e))

  -- One was tried: it is found.
  pub imports_found : {r : Outcome} {output : List ℕ} → (d.tried ≡ 0 → ⊥) → r.answer ≡ d.answer → r.tried ≡ d.tried → r.length ≡ length made
      → output ≡ filled room 0 made → As r output
  unfolding tried_after made_length made_after
  imports_found {r} {output} z a t l o = go sought refl
    where
      go : (f : Found Tree) → sought ≡ f → As r output
      go (found (k, u)) e =
          as_found_lem a t (l ∙ sym (ap (λ (f : Found Tree). made_length (bound f)) e)) (o ∙ sym (ap (λ (f : Found Tree). made_after room (bound f)) e))
      go (refused b) e = absurd (z (x.answered ∙ ap (tried_after x.number) e))

-- ---- The same as another verdict says it

pub imports_as : {f g : ℕ → Found (Tree × List ℕ)} {limited allowed : ℕ → Type 0} {n l m room : ℕ} {r : Outcome} {states work output : List ℕ} → ((i : ℕ) → f i ≡ g i)
    → ((i : ℕ) → limited i → allowed i) → n ≡ l → m ≡ room → Imports f limited n m r states work output → Imports g allowed l room r states work output
imports_as {f} {g} {limited} {allowed} {n} {l} {m} {room} {r} {states} {work} {output} e w s o x =
    let same = e x.number in
    record {
      number = x.number;
      within = w x.number x.within;
      answer = x.answer ∙ ap answer_of same;
      answered = x.answered ∙ ap (λ (h : Found (Tree × List ℕ)). tried_after x.number (found_tree h)) same;
      sized = x.sized ∙ ap made_length same;
      states_held = x.states_held ∙ (ap (states_after n) same ∙ ap (λ (i : ℕ). states_after i (g x.number)) s);
      records_held = subst (λ (h : Found (Tree × List ℕ)). RecordsHeld (found_tree h) work) same x.records_held;
      put = x.put ∙ (ap (made_after m) same ∙ ap (λ (i : ℕ). made_after i (g x.number)) o);
    }

-- A refusal, whatever the number.
pub imports_refused : {f : ℕ → Found (Tree × List ℕ)} {limited : ℕ → Type 0} {size room : ℕ} {r : Outcome} {states work output : List ℕ} (a : Answer) → ((n : ℕ) → f n ≡ refused a)
    → limited 1 → r.answer ≡ a → r.tried ≡ 0 → r.length ≡ 0 → states ≡ replicate size 0 → output ≡ replicate room 0
    → Imports f limited size room r states work output
unfolding tried_after made_length made_after states_after RecordsHeld
imports_refused {f} {limited} {size} {room} {r} {states} {work} {output} a e w x t l s o = record {
  number = 1;
  within = w;
  answer = x ∙ sym (ap answer_of (e 1));
  answered = t ∙ sym (ap (λ (h : Found (Tree × List ℕ)). tried_after 1 (found_tree h)) (e 1));
  sized = l ∙ sym (ap made_length (e 1));
  states_held = s ∙ sym (ap (states_after size) (e 1));
  records_held = subst (λ (h : Found (Tree × List ℕ)). RecordsHeld (found_tree h) work) (sym (e 1)) tt;
  put = o ∙ sym (ap (made_after room) (e 1));
}

-- ---- What was made

pub made_text_lem : (m : Result (List ℕ)) (size n : ℕ) (output : List ℕ) → MadeIs m size (Ok n) output
    → (made : List ℕ) × (m ≡ found made) × (length made ≡ n) × (output ≡ filled size 0 made) × (length made ≤ size)
made_text_lem (found made) size n output (e, o, h) = (made, refl, let same : n ≡ length made = cc in sym same, o, h)
made_text_lem (refused a) size n output e = apart (cc)

pub made_refused : (m : Result (List ℕ)) (size : ℕ) (a : Answer) (output : List ℕ) → MadeIs m size (Err a) output → m ≡ refused a
made_refused (found made) size a output (e, o, h) = apart (cc)
made_refused (refused b) size a output e = ap refused (let same : a ≡ b = cc in sym same)

-- ---- With lists that are long enough

pub lent_found : (states nodes work' work : ℕ) → work' ≡ work → (room' room : ℕ) → room' ≡ room → (m : Result (List ℕ)) (made : List ℕ) → m ≡ found made
    → {r : Outcome} {ss ws output : List ℕ}
    → Imports (λ n. then_find n (check_lists states nodes work') made) (Limited (before_choices (check_lists states nodes work') made)) states room' r ss ws output
    → Imports (λ n. from_made n (check_lists states nodes work) m) (LimitedTo (check_lists states nodes work) m) states room r ss ws output
lent_found states nodes work' work w room' room o m made e x =
    imports_as
    (λ n.
    ap (λ (i : ℕ). then_find n (check_lists states nodes i) made) w
    ∙ sym (ap (from_made n (check_lists states nodes work)) e))
    (λ n l.
    subst (λ (q : Result (List ℕ)). LimitedTo (check_lists states nodes work) q n) (sym e)
    (subst (λ (i : ℕ). Limited (before_choices (check_lists states nodes i) made) n) w l))
    refl o x

pub lent_refused : (lists : List Lent) (m : Result (List ℕ)) (a : Answer) → m ≡ refused a → {size room : ℕ} {r : Outcome} {states work output : List ℕ}
    → r.answer ≡ a → r.tried ≡ 0 → r.length ≡ 0 → states ≡ replicate size 0 → output ≡ replicate room 0
    → Imports (λ n. from_made n lists m) (LimitedTo lists m) size room r states work output
lent_refused lists m a e x t l s o =
    imports_refused a (λ n. ap (from_made n lists) e) (subst (λ (q : Result (List ℕ)). LimitedTo lists q 1) (sym e) refl) x t l s o

-- ---- All rows

-- 1 is within the limits of any text.
one_limited : (lists : List Lent) (text : List ℕ) → Limited (before_choices lists text) 1
one_limited lists text = limits_hold 1 lists text (limited_one text)

module _ (lists : List Lent) (room : ℕ) where
  within_made : (m : Result Case) (n : ℕ) → LimitedTo lists (m >>= λ made. room_for room (printed made) >> found (printed made)) n → LimitedMade lists m n
  within_made (refused a) n h = tt
  within_made (found made) n h = go (room_for room (printed made)) h
    where
      go : (r : Result (Unit {0})) → LimitedTo lists (r >> found (printed made)) n → Limited (before_choices lists (printed made)) n
      go (found u) q = q
      go (refused a) q = subst (Limited (before_choices lists (printed made))) (sym q) (one_limited lists (printed made))

  module _ (text names form : List ℕ) where
    abbrev All : ℕ → Outcome → List ℕ → List ℕ → List ℕ → Type 0
    All size r states work output =
        Imports (λ i. import_form i lists room text names form) (LimitedMade lists (made_from lists text names form)) size room r states work output

    pub all_passed : lists_long lists ≡ found tt → text_short text ≡ found tt → {size : ℕ} {r : Outcome} {states work output : List ℕ}
        → Imports (λ i. from_made i lists (made_text room text names form)) (LimitedTo lists (made_text room text names form)) size room r states work output
        → All size r states work output
    all_passed l s x =
        let w = whole_passed room text names form lists l s in
        imports_as
        (λ i. ap (from_made i lists) (sym w) ∙ sym (import_made room text names form lists i))
        (λ i h. within_made (made_from lists text names form) i (subst (λ (t : Result (List ℕ)). LimitedTo lists t i) (sym w) h))
        refl refl x

    pub all_refused : (a : Answer) → (lists_long lists >> text_short text) ≡ refused a → {size : ℕ} {r : Outcome} {states work output : List ℕ}
        → r.answer ≡ a → r.tried ≡ 0 → r.length ≡ 0 → states ≡ replicate size 0 → output ≡ replicate room 0
        → All size r states work output
    all_refused a e x t l s o =
        let w = whole_refused room text names form lists a e in
        imports_refused a
        (λ i. import_made room text names form lists i ∙ ap (from_made i lists) w)
        (within_made (made_from lists text names form) 1 (subst (λ (q : Result (List ℕ)). LimitedTo lists q 1) (sym w) refl))
        x t l s o

pub short_text : (text : List ℕ) → length text ≤ text_most → text_short text ≡ found tt
short_text text h =
    ap (λ (x : Bool). elim x as (λ y. Result (Unit {0})) [ true ↦ refused LongText | false ↦ found tt ]) (le-ltb text_most (length text) h)

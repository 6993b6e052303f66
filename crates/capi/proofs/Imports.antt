-- The import call finds what the check accepts of the made text with some gaps, and a refusal comes with no records: what refuses the three texts
-- (`made_shows`) has a number of the table, and 14 and the find-the-gaps call's refusals come after it. Assumes nothing.
--     import_fits      the records of what is found all fit
--     import_filled    what the core leaves gives what `nodes_after` says
use mathlib.Core.Path.{◌≡◌, refl, ap, subst}
use mathlib.Core.Bool.{Bool, true, false}
use mathlib.Core.List.{List}
use Prim.Native.Nat.{ℕ, ◌<◌}
use native.Mathlib.Omega.{arith}
use lib.Dec.{ltb}
use lib.ListN.{length}
use Rattle.rules.specs.declared.Answer.{Answer}
use Rattle.rules.specs.declared.Answer.TheVariants.{ShortOutput}
use Rattle.rules.specs.declared.Header.{Header}
use Rattle.rules.specs.Result.{Result, found, refused, ◌>>=◌, ◌>>◌}
use Rattle.rules.specs.Case.{Constraint, O, B, F, W, Case}
use Rattle.rules.specs.Print.{printed}
use Rattle.rules.specs.Tree.{Tree}
use Rattle.rules.specs.Verdict.{Found, Lent, check_lists, reported, answer_of, filled, no_node, nodes_after}
use Rattle.rules.specs.Refusals.{broken_number, Shows, short, long, unread, outside, cue, other, letter, deep, claim, lacking, over, unclaimed, broken}
use Rattle.rules.specs.Writing.{room_for}
use Rattle.rules.specs.Gaps.{find_gaps}
use Rattle.rules.specs.Naming.{Names}
use Rattle.rules.specs.FormFaults.{PartFault, NamesFault, FormFault}
use Rattle.rules.specs.Import.{made_from, import_form, found_tree, Stops, on_case, on_names, on_form, on_ids, MadeShows}
use Rattle.rules.proofs.Import.{made_shows}
use Rattle.records.specs.Records.{record_at, up_to, RecordsHeld}
use Rattle.verdict.proofs.Records.{Comes, no_records, Fits, records_fit, records_filled}
use Rattle.verdict.proofs.Finds.{find_comes}

-- ---- A refusal with no records

-- The table has no number 0.
shown_some : {lists : List Lent} {text : List ℕ} {number line item : ℕ} → Shows lists text number line item → 0 < number
shown_some (short l) = omega arith
shown_some (long l h) = omega arith
shown_some (unread a u) = omega arith
shown_some (outside a o) = omega arith
shown_some (cue r h b n) = omega arith
shown_some (other w n) = omega arith
shown_some (letter w o n) = omega arith
shown_some (deep w h) = omega arith
shown_some (claim w f l n) = omega arith
shown_some (lacking w) = omega arith
shown_some (over w) = omega arith
shown_some (unclaimed g l h e b) = omega arith
shown_some (broken c x) = go x.bad.it
  where
    go : (d : Constraint) → 0 < broken_number d
    go (O i j) = omega arith
    go (B s p u) = omega arith
    go (F s p u) = omega arith
    go (W s u p v) = omega arith

part_bare : {text : List ℕ} {from count : ℕ} {a : Answer} → PartFault text from count a → (reported a).nodes ≡ 0
unfolding reported
part_bare (PartFault.other h n w) = refl
part_bare (PartFault.again h n u l v) = refl

names_bare : {h : Header} {text : List ℕ} {a : Answer} → NamesFault h text a → (reported a).nodes ≡ 0
unfolding reported
names_bare (NamesFault.tasks p) = part_bare p
names_bare (NamesFault.methods n p) = part_bare p
names_bare (NamesFault.surplus n m s) = refl

form_bare : {k : Case} {ns : Names} {text : List ℕ} {a : Answer} → FormFault k ns text a → (reported a).nodes ≡ 0
unfolding reported
form_bare (FormFault.other d n) = refl
form_bare (FormFault.many d e w) = refl
form_bare (FormFault.surplus d s) = refl
form_bare (FormFault.action d m w n) = refl
form_bare (FormFault.compound d m w n) = refl

stops_bare : {lists : List Lent} {text names form : List ℕ} {a : Answer} → Stops lists text names form a → (reported a).nodes ≡ 0
unfolding reported
stops_bare (on_case {a} h w) = no_records a (λ cues nodes e. let none = ap (λ (b : Answer). (reported b).number) e in omega (arith, shown_some w))
stops_bare (on_names a e w) = names_bare w
stops_bare (on_form a e n w) = form_bare w
stops_bare (on_ids a e n i w) = refl

-- ---- The call

answer_same : (f : Found (Tree × List ℕ)) → answer_of (found_tree f) ≡ answer_of f
answer_same (found (k, (t, made))) = refl
answer_same (refused r) = refl

module _ (s n w number size : ℕ) (text names form : List ℕ) where
  abbrev lists : List Lent
  lists = check_lists s n w

  abbrev outcome : Found (Tree × List ℕ)
  outcome = import_form number lists size text names form

  -- Of some text.
  abbrev ComesOfSome : Found Tree → Type 0
  ComesOfSome f = (other : List ℕ) × Comes s n w other f

  by_found : (made : List ℕ) (f : Found Tree) → ComesOfSome f → ComesOfSome (found_tree (f >>= λ (k, t). found (k, (t, made))))
  by_found made (found (k, t)) c = c
  by_found made (refused r) c = c

  by_room : (made : List ℕ) (b : Bool)
      → ComesOfSome (found_tree (◌>>◌ {A = Unit {0}} (elim b [ true ↦ refused (ShortOutput (length made)) | false ↦ found tt ]) (find_gaps number lists made >>= λ (k, t). found (k, (t, made)))))
  unfolding reported
  by_room made true = (text, refl)
  by_room made false = by_found made (find_gaps number lists made) (find_comes s n w number made)

  import_comes : ComesOfSome (found_tree outcome)
  unfolding import_form
  import_comes = go (made_from lists text names form) (made_shows lists text names form)
    where
      go : (o : Result Case) → MadeShows lists text names form o
          → ComesOfSome (found_tree (o >>= λ made. room_for size (printed made) >> (find_gaps number lists (printed made) >>= λ (k, t). found (k, (t, printed made)))))
      go (found made) h = by_room (printed made) (ltb size (length (printed made)))
      go (refused r) h = (text, stops_bare h)

  pub import_fits : Fits n w (reported (answer_of outcome)).nodes
  import_fits =
      let (made, comes) = import_comes in
      subst (λ (a : Answer). Fits n w (reported a).nodes) (answer_same outcome) (records_fit s n w made (found_tree outcome) comes)

  pub import_filled : (work : List ℕ) → RecordsHeld (found_tree outcome) work
      → filled n no_node (up_to (record_at work) (reported (answer_of outcome)).nodes) ≡ nodes_after n (found_tree outcome)
  import_filled work held =
      let (made, comes) = import_comes in
      subst (λ (a : Answer). filled n no_node (up_to (record_at work) (reported a).nodes) ≡ nodes_after n (found_tree outcome)) (answer_same outcome)
      (records_filled s n w made work (found_tree outcome) comes held)

-- What `fill` makes of what a core leaves is the node list that the check and write calls owe, for every text and for lists of every length.
-- Accepted: the columns hold the records, which all fit, since then no list was short, and a case has at most 3,000 nodes. Refused: no record
-- is taken. Assumes nothing.
--     no_records       only an acceptance comes with records
--     Comes            only a case that the check accepts is found, and a refusal comes with no records: so it is with the check (`check_comes`)
--     Fits             what `fill` asks: a node list of n has room for the records, and they all stand in the columns of a work space of w
--     records_fit      so it is with the records of what comes
--     records_filled   what the core leaves gives what `nodes_after` says
--     fits_left, filled_left   both, as a call has them
use mathlib.Core.Path.{◌≡◌, refl, sym, ◌∙◌, ap, subst}
use mathlib.Core.List.Memᴰ.{head as here}
use mathlib.Core.List.Memᴰ.{tail as there}
use mathlib.Core.List.{List}
use Prim.Native.Nat.{ℕ, ◌+◌, ◌-◌, ◌≤◌, ◌<◌}
use native.Mathlib.Omega.{arith}
use lib.ListN.{length, replicate}
use Rattle.rules.specs.declared.Node.{Node}
use Rattle.rules.specs.declared.Answer.{Answer}
use Rattle.rules.specs.declared.Answer.TheVariants.{Accepted, ShortList, LongText, Unreadable, OutOfRange, Inapplicable, WrongTask, TooDeep, WrongClaim, Unclaimed, OrderBroken, BeforeBroken, AfterBroken, BetweenBroken, ShortOutput, TooManyChoices, NoChoice, WrongShape, WrongName, WrongId, WrongLetter, SurplusNode, MissingNode}
use Rattle.rules.specs.Result.{found, refused}
use Rattle.rules.specs.Case.{Case}
use Rattle.rules.specs.Tree.{Tree}
use Rattle.rules.specs.Verdict.{Found, node_need, work_need, check_lists, lent, check, filled, no_node, nodes_after, answer_of, reported}
use Rattle.rules.proofs.Judgement.Sound.{sound}
use Rattle.rules.proofs.Judgement.Refusals.{Accepts, CheckSays, check_says}
use Rattle.rules.proofs.Judgement.Theorem.{shows_not_zero}
use Rattle.records.specs.Records.{places_from, record_at, up_to, record_of, RecordsHeld}

-- ---- How many records

pub no_records : (a : Answer) → ((cues nodes : ℕ) → a ≡ Accepted cues nodes → ⊥) → (reported a).nodes ≡ 0
unfolding reported
no_records (Accepted cues nodes) h = absurd (h cues nodes refl)
no_records (ShortList i) h = refl
no_records LongText h = refl
no_records (Unreadable l i) h = refl
no_records (OutOfRange l i) h = refl
no_records (Inapplicable l i) h = refl
no_records (WrongTask l) h = refl
no_records (TooDeep l) h = refl
no_records (WrongClaim l i) h = refl
no_records (Unclaimed l i) h = refl
no_records (OrderBroken l i) h = refl
no_records (BeforeBroken l i) h = refl
no_records (AfterBroken l i) h = refl
no_records (BetweenBroken l i) h = refl
no_records (ShortOutput i) h = refl
no_records (TooManyChoices i) h = refl
no_records (NoChoice i) h = refl
no_records (WrongShape l i) h = refl
no_records (WrongName l i) h = refl
no_records (WrongId l) h = refl
no_records (WrongLetter l) h = refl
no_records (SurplusNode l) h = refl
no_records (MissingNode l) h = refl

refused_none : (s n w : ℕ) (text : List ℕ) (r : Answer) → CheckSays (check_lists s n w) text (refused r) → (reported r).nodes ≡ 0
unfolding reported
refused_none s n w text r b = no_records r (λ cues nodes e. shows_not_zero b (ap (λ (a : Answer). (reported a).number) e))

abbrev pub Comes : ℕ → ℕ → ℕ → List ℕ → Found Tree → Type 0
Comes s n w text (found (k, t)) = Accepts (check_lists s n w) text k t
Comes s n w text (refused r) = (reported r).nodes ≡ 0

pub check_comes : (s n w : ℕ) (text : List ℕ) → Comes s n w text (check (check_lists s n w) text)
check_comes s n w text = go (check (check_lists s n w) text) (check_says (check_lists s n w) text)
  where
    go : (f : Found Tree) → CheckSays (check_lists s n w) text f → Comes s n w text f
    go (found (k, t)) a = a
    go (refused r) b = refused_none s n w text r b

abbrev pub Fits : ℕ → ℕ → ℕ → Type 0
Fits n w count = (count ≤ n) × ((i : ℕ) → i < count → places_from + i < w)

-- an accepted case has no more nodes than either list has room for
accepted_fit : (s n w : ℕ) (text : List ℕ) (k : Case) (t : Tree) → Accepts (check_lists s n w) text k t → Fits n w k.head.nodes
unfolding check_lists node_need work_need
accepted_fit s n w text k t a =
    let r = a.covered.grown.runs.reads in
    let few : k.head.nodes ≤ 3000 = (sound text k r.reading).head_good.few_nodes in
    let nodes_long : 3000 ≤ n = r.admits.long_lists (lent 2 n node_need) (there (here refl)) in
    let work_long : 16384 ≤ w = r.admits.long_lists (lent 3 w work_need) (there (there (here refl))) in
    (omega arith, λ i below. omega arith)

pub records_fit : (s n w : ℕ) (text : List ℕ) (f : Found Tree) → Comes s n w text f → Fits n w (reported (answer_of f)).nodes
unfolding reported
records_fit s n w text (found (k, t)) a = accepted_fit s n w text k t a
records_fit s n w text (refused r) none = subst (Fits n w) (sym none) (omega arith, λ i below. absurd (omega arith))

-- ---- What the core leaves

pub records_filled : (s n w : ℕ) (text work : List ℕ) (f : Found Tree) → Comes s n w text f → RecordsHeld f work
    → filled n no_node (up_to (record_at work) (reported (answer_of f)).nodes) ≡ nodes_after n f
unfolding RecordsHeld record_of nodes_after reported filled
records_filled s n w text work (found (k, t)) a held = ap (filled n no_node) held
records_filled s n w text work (refused r) none held =
    let all : n - 0 ≡ n = omega arith in
    ap (λ (m : ℕ). filled n no_node (up_to (record_at work) m)) none ∙ ap (λ (m : ℕ). replicate m no_node) all

-- ---- As a call has them: it counts so many records of an answer, and the work space is as its core left it

pub fits_left : (n w count : ℕ) (work : List ℕ) (r a : Answer) → count ≡ (reported r).nodes → r ≡ a → length work ≡ w
    → Fits n w (reported a).nodes → Fits n (length work) count
fits_left n w count work r a counted e same fit =
    subst (λ (m : ℕ). Fits n (length work) m) (sym (counted ∙ ap (λ (x : Answer). (reported x).nodes) e))
    (subst (λ (v : ℕ). Fits n v (reported a).nodes) (sym same) fit)

pub filled_left : (n count : ℕ) (work : List ℕ) (made owed : List Node) (r a : Answer) → made ≡ filled n no_node (up_to (record_at work) count)
    → count ≡ (reported r).nodes → r ≡ a → filled n no_node (up_to (record_at work) (reported a).nodes) ≡ owed → made ≡ owed
filled_left n count work made owed r a is counted e all =
    is ∙ (ap (λ (m : ℕ). filled n no_node (up_to (record_at work) m)) (counted ∙ ap (λ (x : Answer). (reported x).nodes) e) ∙ all)

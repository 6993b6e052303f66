-- A refusal shows the first rule broken: each row is tried only after those before it have passed, so what the call finds is read off row
-- by row, from the last to the first.
use mathlib.Core.Path.{◌≡◌, refl, sym, ◌∙◌, subst}
use mathlib.Core.Bool.{Bool, true, false, false≢true}
use mathlib.Core.List.{List, [], ◌∷◌, ◌++◌}
use mathlib.Core.List.Memᴰ.{append_right as in_right}
use mathlib.Core.List.Memᴰ.{head as here}
use mathlib.Core.List.{Memᴰ as Mem}
use mathlib.Core.Logic.{⊎_elim}
use mathlib.Core.Option.{Option, none, some}
use Prim.Native.Nat.{ℕ, ◌+◌, ◌≤◌, ◌<◌}
use native.Mathlib.Omega.{arith}
use lib.Dec.{eqb, ltb}
use lib.ListN.{length}
use borrow.Author.Tests.{ltb-true, ltb-false, eqb-true, eqb-false}
use Rattle.rules.specs.declared.Answer.{Answer}
use Rattle.rules.specs.declared.Answer.TheVariants.{LongText, ShortList}
use Rattle.rules.specs.State.{first_stop}
use Rattle.rules.specs.Result.{Result, found, refused, ◌>>=◌, ◌>>◌}
use Rattle.rules.specs.Case.{Constraint, O, B, F, W, NodeLine, D, E, L, Case, read_case}
use Rattle.rules.specs.Tree.{Tree, preorder, is_in, of_task, may_claim, walk_tree, least_unclaimed, level_count}
use Rattle.rules.specs.Constraint.{holds_in, broken_at, first_broken}
use Rattle.rules.specs.Verdict.{Found, Lent, reported, lists_long, text_most, text_short, unless, states_of, plan_runs, all_claimed, none_broken, check}
use Rattle.rules.specs.Rules.{cue_action}
use Rattle.rules.specs.Refusals.{Each, First, LongEnough, Short, Admits, Reads, Runs, Expected, below, waiting, own_task, MayClaim, RightNodes, root, Walks, Claimed, KeepsAll, Grows, broken_number, Covers, Shows, short, long, unread, outside, cue, other, letter, deep, claim, lacking, over, unclaimed, broken}
use Rattle.rules.proofs.Statements.{fits_iff, are_states}
use Rattle.rules.proofs.Faults.{FaultSays, CaseSays, reading_shows}
use Rattle.rules.proofs.Judgement.Sound.{sound}
use Rattle.rules.proofs.Judgement.Nodes.{of_task_lem, letter_wrong}
use Rattle.rules.proofs.Judgement.Each.{each_nil, each_cons, first_here, first_later}
use Rattle.rules.proofs.Judgement.Preorder.{height, claim as claimBy, Passes, claimed_by, ClaimsPass, TreeOf, lines_of}
use Rattle.rules.proofs.Judgement.Waiting as Wa
use Rattle.rules.proofs.Judgement.Waiting.{Reached, Stop, tree_reached}
use Rattle.rules.proofs.Judgement.Walk.{TreeSays, tree_says}
use Rattle.rules.proofs.Judgement.Claims.{claimants_passed, LeastSays, least_says, claimants_none, may_claim_lem, may_claim_of, claimed_by_lem, not_claimed}
use Rattle.rules.proofs.Judgement.Run.{StopSays, stop_says}
use Rattle.rules.proofs.Judgement.Kept.{BrokenSays, broken_says}
use Rattle.rules.proofs.Judgement.Rows.{from_constraints, from_claims, from_tree, from_run, from_text}

-- All rows are passed.
pub record Accepts (lists : List Lent) (text : List ℕ) (k : Case) (t : Tree) : Type 0 where
  pub covered : Covers lists text k (states_of k) t
  pub shallow : height t ≤ level_count
  pub kept : Each (KeepsAll k (states_of k)) (preorder t)

-- What an answer shows, by its number, line and item.
abbrev pub AnswerShows : List Lent → List ℕ → Answer → Type 0
AnswerShows lists text r = Shows lists text (reported r).number (reported r).line (reported r).item

-- What the call's finding says: all rows are passed, or the first that isn't.
abbrev pub CheckSays : List Lent → List ℕ → Found Tree → Type 0
CheckSays lists text (found (k, t)) = Accepts lists text k t
CheckSays lists text (refused r) = AnswerShows lists text r

-- ---- Right lines, as statements

module _ (k : Case) where
  passes_claim : (before : List NodeLine) (x : NodeLine) → Passes (may_claim k.plan) x (claimed_by before []) → MayClaim k before x
  passes_claim before (D m) p = tt
  passes_claim before (E m g) p = tt
  passes_claim before (L a i) p =
      let w = may_claim_lem k.plan a i (claimed_by before []) p in
      (w.0, λ b h. not_claimed i b before [] h w.1)

  claimed_snoc : (before : List NodeLine) (x : NodeLine) → claimed_by (before ++ x ∷ []) [] ≡ claimBy x (claimed_by before [])
  claimed_snoc before x = go before []
    where
      go : (ls : List NodeLine) (c : List ℕ) → claimed_by (ls ++ x ∷ []) c ≡ claimBy x (claimed_by ls c)
      go [] c = refl
      go (y ∷ ls) c = go ls (claimBy y c)

  right_nodes : (before xs : List NodeLine) (st : List Expected) → Reached k (may_claim k.plan) xs st (claimed_by before []) → RightNodes k before xs st
  right_nodes before [] st r = tt
  right_nodes before (x ∷ xs) [] r = absurd r
  right_nodes before (x ∷ xs) (e ∷ st) r = (
    (fits_iff k x e.0).0 r.0,
    r.1,
    passes_claim before x r.2,
    right_nodes (before ++ x ∷ []) xs (below k e.1 x ++ st)
        (subst (λ (c : List ℕ). Reached k (may_claim k.plan) xs (below k e.1 x ++ st) c) (sym (claimed_snoc before x)) r.3),
  )

  unclaims : (before : List NodeLine) (a i : ℕ) → may_claim k.plan a i (claimed_by before []) ≡ false → MayClaim k before (L a i) → ⊥
  unfolding is_in
  unclaims before a i e w = go (is_in i (claimed_by before [])) refl
    where
      go : (b : Bool) → is_in i (claimed_by before []) ≡ b → ⊥
      go true q = ⊎_elim (λ (h : (b : ℕ) × Mem (L b i) before). w.1 h.0 h.1) (λ h. false≢true h) (claimed_by_lem i before [] q)
      go false q = false≢true (sym e ∙ may_claim_of k.plan a i (claimed_by before []) w.0 q)

-- The text is not too long; or it is.
abbrev pub TextSays : List ℕ → Result (Unit {0}) → Type 0
TextSays text (found u) = length text ≤ text_most
TextSays text (refused r) = (text_most < length text) × (r ≡ LongText)

pub short_says : (text : List ℕ) → TextSays text (text_short text)
short_says text = go (ltb text_most (length text)) refl
  where
    go : (b : Bool) → ltb text_most (length text) ≡ b → TextSays text (elim b [ true ↦ refused LongText | false ↦ found tt ])
    go true e = (ltb-true text_most (length text) e, refl)
    go false e = ltb-false text_most (length text) e

module _ (lists : List Lent) (text : List ℕ) where
  -- ---- Rows 10 to 13

  as_answer : (d : Constraint) {line n : ℕ} → Shows lists text (broken_number d) line n → AnswerShows lists text (broken_at line n d)
  unfolding broken_at reported
  as_answer (O i j) s = s
  as_answer (B x p u) s = s
  as_answer (F x p u) s = s
  as_answer (W x u p v) s = s

  constraints_say : (k : Case) (t : Tree) → Covers lists text k (states_of k) t → height t ≤ level_count → CheckSays lists text (from_constraints k t)
  unfolding none_broken
  constraints_say k t c s =
      go (first_broken k (holds_in (states_of k)) (k.plan_line + 1) (preorder t)) (broken_says k (states_of k) (k.plan_line + 1) (preorder t))
    where
      go : (o : Option Answer) → BrokenSays k (states_of k) (k.plan_line + 1) (preorder t) o → CheckSays lists text (unless (λ r. r) o >> found (k, t))
      go none f = record { covered = c; shallow = s; kept = f }
      go (some r) (node, e) = subst (λ (x : Answer). AnswerShows lists text x) (sym e) (as_answer node.bad.it (broken c node))

  -- ---- Row 9

  claims_say : (k : Case) (t : Tree) → Grows lists text k (states_of k) t → TreeOf k (may_claim k.plan) t
      → CheckSays lists text (from_claims k t (claimed_by k.nodes []))
  unfolding is_in all_claimed reported
  claims_say k t w tree = go (least_unclaimed (claimed_by k.nodes []) k.head.cues 1) (least_says (claimed_by k.nodes []) k.head.cues 1)
    where
      claimed : (j : ℕ) → is_in j (claimed_by k.nodes []) ≡ true → Claimed k j
      claimed j e = claimants_passed k.plan j k.nodes [] tree.passing e

      go : (o : Option ℕ) → LeastSays (claimed_by k.nodes []) k.head.cues 1 o
          → CheckSays lists text (unless (Answer.Unclaimed k.plan_line) o >> from_constraints k t)
      go none f = constraints_say k t (record { grown = w; claimed = λ j lo hi. claimed j (f j lo (omega arith)) }) tree.shallow
      go (some i) f = unclaimed w f.0 (omega arith) (claimants_none i k.nodes [] f.2) (λ j lo hi. claimed j (f.3 j lo hi))

  -- ---- Rows 6 to 8 and 20 to 22

  stop_shows : (k : Case) → Runs lists text k (states_of k) → (before rest : List NodeLine) (st : List Expected) → k.nodes ≡ before ++ rest
      → Reached k (may_claim k.plan) before (root k) [] → waiting k before (root k) ≡ st → {r : Answer}
      → Stop k (may_claim k.plan) (k.plan_line + 1 + length before) (claimed_by before []) rest st r → AnswerShows lists text r
  unfolding reported
  stop_shows k run before rest st e reached q s = go s walks
    where
      walks : Walks lists text k before rest st
      walks = record { states = states_of k; runs = run; split = e; right = right_nodes k [] before (root k) reached; expected = q }

      own : (x : NodeLine) (t : ℕ) {xs : List NodeLine} {st : List Expected} → Walks lists text k before (x ∷ xs) st → of_task k x t ≡ eqb (own_task k x) t
      own x t w =
          let good = sound text k run.reads.reading in
          of_task_lem k good x t (good.nodes_good x (subst (λ (l : List NodeLine). Mem x l) (sym w.split) (in_right before (here refl))))

      go : {rest : List NodeLine} {st : List Expected} {r : Answer}
          → Stop k (may_claim k.plan) (k.plan_line + 1 + length before) (claimed_by before []) rest st r → Walks lists text k before rest st
          → AnswerShows lists text r
      go Wa.lacking w = lacking w
      go Wa.over w = over w
      go (Wa.other {x = x} {t = t} f) w = other w (eqb-false (own_task k x) t (sym (own x t w) ∙ f))
      go (Wa.letter {x = x} {t = t} f n) w = letter w (eqb-true (own_task k x) t (sym (own x t w) ∙ f)) (letter_wrong k x n)
      go (Wa.deep {x = x} {t = t} f) w = deep w ((fits_iff k x t).0 f)
      go (Wa.unclaimable {a = a} {i = i} {t = t} f h n) w = claim w ((fits_iff k (L a i) t).0 f) h (unclaims k before a i n)

  tree_say : (k : Case) → Runs lists text k (states_of k) → CheckSays lists text (from_tree k)
  unfolding from_tree level_count
  tree_say k run = go (walk_tree k (may_claim k.plan)) (tree_says k (may_claim k.plan))
    where
      go : (w : Result (Tree × List ℕ)) → TreeSays k (may_claim k.plan) w → CheckSays lists text (w >>= λ (t, claimed). from_claims k t claimed)
      go (found (t, c)) w =
          let tree = w.0 in
          let reached = tree_reached k (may_claim k.plan) t k.head.goal 1 [] [] tree.fitting (let h = tree.shallow in omega arith)
          (subst (λ (ls : List NodeLine). ClaimsPass (may_claim k.plan) ls []) (sym tree.preordered) tree.passing) in
          let right = subst (λ (ls : List NodeLine). RightNodes k [] ls (root k)) tree.preordered (right_nodes k [] (lines_of t) (root k) reached) in
          subst (λ (d : List ℕ). CheckSays lists text (from_claims k t d)) (sym w.1)
          (claims_say k t (record { runs = run; right = right; preordered = tree.preordered; fitting = tree.fitting }) tree)
      go (refused a) w = stop_shows k run w.before w.rest (waiting k w.before (root k)) w.split w.reached refl w.stop

  -- ---- Row 5

  run_says : (k : Case) → Admits lists text → read_case text ≡ found k → CheckSays lists text (from_run from_tree k)
  unfolding from_run plan_runs reported states_of cue_action
  run_says k a e = go (first_stop k.actions k.plan k.initial 1) (stop_says k.actions k.plan k.initial 1)
    where
      reads : Reads lists text k (states_of k)
      reads = record { admits = a; reading = e; are = are_states k }

      go : (o : Option ℕ) → StopSays k.actions k.plan k.initial 1 o
          → CheckSays lists text (unless (Answer.Inapplicable k.plan_line) o >> from_tree k)
      go none f = tree_say k (record { reads = reads; runs = f })
      go (some i) (j, n, h, e, f) =
          let m : j + 1 ≡ i = omega arith in
          subst (λ (x : ℕ). Shows lists text 5 k.plan_line x) m (cue {i = j} reads h f (λ y. false≢true (sym e ∙ y)))

  -- ---- Rows 1 to 4

  -- A text that doesn't read is refused by 3 or 4, and shows why.
  pub unread_shows : Admits lists text → (r : Answer) → FaultSays text r → ((reported r).number ≤ 4) × AnswerShows lists text r
  unfolding reported
  unread_shows a (Answer.Unreadable line field) f = (omega arith, unread a f)
  unread_shows a (Answer.OutOfRange line field) f = (omega arith, outside a f)
  unread_shows a (Answer.Accepted cues nodes) f = absurd f
  unread_shows a (Answer.ShortList i) f = absurd f
  unread_shows a Answer.LongText f = absurd f
  unread_shows a (Answer.Inapplicable line i) f = absurd f
  unread_shows a (Answer.WrongTask line) f = absurd f
  unread_shows a (Answer.TooDeep line) f = absurd f
  unread_shows a (Answer.WrongClaim line i) f = absurd f
  unread_shows a (Answer.Unclaimed line i) f = absurd f
  unread_shows a (Answer.OrderBroken line i) f = absurd f
  unread_shows a (Answer.BeforeBroken line i) f = absurd f
  unread_shows a (Answer.AfterBroken line i) f = absurd f
  unread_shows a (Answer.BetweenBroken line i) f = absurd f
  unread_shows a (Answer.ShortOutput i) f = absurd f
  unread_shows a (Answer.TooManyChoices i) f = absurd f
  unread_shows a (Answer.NoChoice i) f = absurd f
  unread_shows a (Answer.WrongShape line i) f = absurd f
  unread_shows a (Answer.WrongName line i) f = absurd f
  unread_shows a (Answer.WrongId line) f = absurd f
  unread_shows a (Answer.WrongLetter line) f = absurd f
  unread_shows a (Answer.SurplusNode line) f = absurd f
  unread_shows a (Answer.MissingNode line) f = absurd f

  text_says : Each LongEnough lists → CheckSays lists text (from_text from_tree text)
  unfolding from_text reported
  text_says l = go (text_short text) (short_says text)
    where
      reading : Admits lists text → (r : Result Case) → read_case text ≡ r → CaseSays text r → CheckSays lists text (r >>= λ k. from_run from_tree k)
      reading a (found k) e s = run_says k a e
      reading a (refused r) e s = (unread_shows a r s).1

      go : (o : Result (Unit {0})) → TextSays text o → CheckSays lists text (o >> (read_case text >>= λ k. from_run from_tree k))
      go (found u) h = reading (record { long_lists = l; short_text = h }) (read_case text) refl (reading_shows text)
      go (refused r) (h, e) = subst (λ (x : Answer). AnswerShows lists text x) (sym e) (long l h)

-- Of the lent lists: all are long enough; or the first that isn't.
abbrev pub ListsSay : List Lent → Result (Unit {0}) → Type 0
ListsSay ls (found u) = Each LongEnough ls
ListsSay ls (refused r) = (l : First LongEnough Short ls) × (r ≡ ShortList l.it.item)

pub lists_say : (ls : List Lent) → ListsSay ls (lists_long ls)
lists_say [] = each_nil LongEnough
lists_say (l ∷ ls) = go (ltb l.size l.need) refl (lists_long ls) (lists_say ls)
  where
    later : LongEnough l → (o : Result (Unit {0})) → ListsSay ls o → ListsSay (l ∷ ls) o
    later h (found u) f = each_cons LongEnough l ls h f
    later h (refused r) w = (first_later l ls h w.0, w.1)

    go : (b : Bool) → ltb l.size l.need ≡ b → (o : Result (Unit {0})) → ListsSay ls o
        → ListsSay (l ∷ ls) (elim b [ true ↦ refused (ShortList l.item) | false ↦ o ])
    go true e o f = (first_here l ls (ltb-true l.size l.need e), refl)
    go false e o f = later (ltb-false l.size l.need e) o f

pub check_says : (lists : List Lent) (text : List ℕ) → CheckSays lists text (check lists text)
unfolding check from_tree from_run from_text reported
check_says lists text = go (lists_long lists) (lists_say lists)
  where
    go : (o : Result (Unit {0})) → ListsSay lists o → CheckSays lists text (o >> from_text from_tree text)
    go (found u) f = text_says lists text f
    go (refused r) (l, e) = subst (λ (x : Answer). AnswerShows lists text x) (sym e) (short l)

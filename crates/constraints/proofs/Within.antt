-- The spans of a walked tree lie between the first gap and the last one, and so do those of its parts: least starts and greatest ends of
-- such spans. By recursion on the tree. Assumes nothing.
use mathlib.Core.Path.{◌≡◌, refl, sym, ap, subst, ◌∙◌}
use mathlib.Core.Logic.{◌≢◌, ⊎_elim}
use mathlib.Core.List.{List, [], ◌∷◌, ◌++◌, map, head_d, tail}
use mathlib.Core.List.Memᴰ.{append_cases}
use mathlib.Core.List.Memᴰ.{append_left as in_left}
use mathlib.Core.List.Memᴰ.{append_right as in_right}
use mathlib.Core.List.Memᴰ.{head as here}
use mathlib.Core.List.{Memᴰ as Mem}
use Prim.Native.Nat.{ℕ, zero, suc, ◌+◌, ◌*◌, ◌^◌, ◌≤◌, ◌<◌}
use native.Mathlib.Nat.{lt_of_lt_of_le}
use native.Mathlib.Omega.{arith}
use lib.ListN.{length, get_or}
use lib.Pow.{pow_mono}
use Rattle.rules.specs.Index.{Span, at, of_cue, of_gap, hull, part_of, span_of_part, c, f, rounded_up, rounded_down}
use Rattle.rules.specs.Case.{method_at, D, E, Case}
use Rattle.rules.specs.Tree.{Tree, leaf, empty, task, Trees, no_tree, more, preorder, preorders, root_line, span, spans}
use Rattle.rules.specs.Rules.{Fits, FitsTask, FitsTasks}
use Rattle.rules.proofs.Spans.{hull_one, hull_cons_start, hull_cons_end}
use Rattle.rules.proofs.Judgement.Each.{Each, each_nil, each_cons, each_tail}
use Rattle.rules.proofs.Judgement.Sound.{GoodNode}
use Rattle.subsets.specs.Members.{members_of}
use Rattle.subsets.proofs.Members.{pick_members, members_cons, members_below}
use Rattle.constraints.proofs.Held.{count_of}

-- ---- one span

-- From gap 0 to gap `cues`, doubled: 1 to 2 * cues + 1.
pub record Within (cues : ℕ) (s : Span) : Type 0 where
  pub least : 1 ≤ s.start
  pub start_most : s.start ≤ 2 * cues + 1
  pub end_most : s.end ≤ 2 * cues + 1

module _ (cues : ℕ) (s : Span) (w : Within cues s) where
  pub start_some : 1 ≤ c s
  unfolding c rounded_up
  start_some = let a = w.least in omega arith

  pub start_few : c s ≤ cues + 1
  unfolding c rounded_up
  start_few = let a = w.start_most in omega arith

  pub end_few : f s ≤ cues
  unfolding f rounded_down
  end_few = let a = w.end_most in omega arith

cue_within : (cues i : ℕ) → 1 ≤ i → i ≤ cues → Within cues (at (of_cue i))
unfolding at of_cue
cue_within cues i a b = record { least = omega arith; start_most = omega arith; end_most = omega arith }

gap_within : (cues g : ℕ) → g ≤ cues → Within cues (at (of_gap g))
unfolding at of_gap
gap_within cues g b = record { least = omega arith; start_most = omega arith; end_most = omega arith }

-- ---- several spans

hull_within : (cues : ℕ) (s : Span) (l : List Span) → Each (Within cues) (s ∷ l) → Within cues (hull (s ∷ l))
hull_within cues s [] f = subst (Within cues) (sym (hull_one s)) (f s (here refl))
hull_within cues s (t ∷ l) f =
    let a = f s (here refl) in
    let b = hull_within cues t l (each_tail (Within cues) s (t ∷ l) f) in
    record {
      least = omega (arith, hull_cons_start s t l, a.least, b.least);
      start_most = omega (arith, hull_cons_start s t l, a.start_most, b.start_most);
      end_most = omega (arith, hull_cons_end s t l, a.end_most, b.end_most);
    }

each_at_members : (cues : ℕ) (subs : List Span) (d : Span) (ms : List ℕ) → Each (Within cues) subs → Each (λ j. j < length subs) ms
    → Each (Within cues) (map (λ j. get_or subs j d) ms)
each_at_members cues subs d [] f g = each_nil (Within cues)
each_at_members cues subs d (m ∷ ms) f g =
    each_cons (Within cues) (get_or subs m d) (map (λ j. get_or subs j d) ms) (each_get subs m f (g m (here refl)))
    (each_at_members cues subs d ms f (each_tail (λ j. j < length subs) m ms g))
  where
    each_get : (l : List Span) (i : ℕ) → Each (Within cues) l → i < length l → Within cues (get_or l i d)
    each_get [] i h b = absurd (omega arith)
    each_get (x ∷ l) zero h b = h x (here refl)
    each_get (x ∷ l) (suc i) h b = each_get l i (each_tail (Within cues) x l h) (omega arith)

-- A part of a task.
pub part_within : (cues : ℕ) (own : Span) (subs : List Span) (u : ℕ) → Within cues own → Each (Within cues) subs → length subs ≤ 32
    → u < 2 ^ length subs → Within cues (span_of_part own subs (part_of u))
unfolding part_of span_of_part
part_within cues own subs zero o f few h = o
part_within cues own subs (suc u) o f few h =
    let small : suc u < 2 ^ 32 = lt_of_lt_of_le h (pow_mono few) in
    let some : suc u ≢ 0 = λ e. omega arith in
    let g : ℕ → Span = λ j. get_or subs j own in
    let cut : members_of (suc u) ≡ head_d (members_of (suc u)) 32 ∷ tail (members_of (suc u)) = members_cons (suc u) some small in
    let all : Each (Within cues) (map g (members_of (suc u))) =
    each_at_members cues subs own (members_of (suc u)) f (λ j m. members_below (suc u) (length subs) j h m) in
    subst (Within cues) (sym (ap hull (pick_members (suc u) subs own h few ∙ ap (map g) cut)))
    (hull_within cues (g (head_d (members_of (suc u)) 32)) (map g (tail (members_of (suc u)))) (subst (λ (ms : List ℕ). Each (Within cues) (map g ms)) cut all))

-- ---- the trees in preorder

each_left : {P : Tree → Type 0} (l r : List Tree) → Each P (l ++ r) → Each P l
each_left l r f x m = f x (in_left r m)

each_right : {P : Tree → Type 0} (l r : List Tree) → Each P (l ++ r) → Each P r
each_right l r f x m = f x (in_right l m)

each_join : {P : Tree → Type 0} (l r : List Tree) → Each P l → Each P r → Each P (l ++ r)
each_join l r f g x m = ⊎_elim (λ a. f x a) (λ b. g x b) (append_cases l m)

-- What a node's number and its subtasks' spans are good for, by the root of its tree.
abbrev pub Proper : Case → Tree → Type 0
Proper k (leaf a i) = Within k.head.cues (span (leaf a i))
Proper k (empty m g) =
    Within k.head.cues (span (empty m g)) × (m < k.head.methods) × (length (method_at k.methods m).subtasks ≡ 0)
Proper k (task m ts) =
    Within k.head.cues (span (task m ts)) × (m < k.head.methods) × (count_of ts ≡ length (method_at k.methods m).subtasks)
    × Each (Within k.head.cues) (spans ts)

pub proper_span : (k : Case) (t : Tree) → Proper k t → Within k.head.cues (span t)
proper_span k (leaf a i) p = p
proper_span k (empty m g) p = p.0
proper_span k (task m ts) p = p.0

abbrev GoodRoot : Case → Tree → Type 0
GoodRoot k t = GoodNode k.head (root_line t)

no_subtasks_lem : (k : Case) (m g t : ℕ) → Fits k (E m g) t → length (method_at k.methods m).subtasks ≡ 0
unfolding Fits
no_subtasks_lem k m g t f = ap length f.1

some_subtasks : (k : Case) (m t : ℕ) → Fits k (D m) t → length (method_at k.methods m).subtasks ≢ 0
unfolding Fits
some_subtasks k m t f e = f.1 (none (method_at k.methods m).subtasks e)
  where
    none : (ts : List ℕ) → length ts ≡ 0 → ts ≡ []
    none [] e = refl
    none (t ∷ ts) e = absurd (omega arith)

fits_count : (k : Case) (ts : Trees) (us : List ℕ) → FitsTasks k ts us → count_of ts ≡ length us
unfolding FitsTask
fits_count k no_tree [] w = refl
fits_count k no_tree (u ∷ us) w = absurd w
fits_count k (more t ts) [] w = absurd w
fits_count k (more t ts) (u ∷ us) w = ap suc (fits_count k ts us w.1)

spans_within : (cues : ℕ) (ts : Trees) → count_of ts ≢ 0 → Each (Within cues) (spans ts) → Within cues (hull (spans ts))
unfolding spans
spans_within cues no_tree n f = absurd (n refl)
spans_within cues (more t ts) n f = hull_within cues (span t) (spans ts) f

preorder_first : (t : Tree) → Mem t (preorder t)
unfolding preorder
preorder_first (leaf a i) = here refl
preorder_first (empty m g) = here refl
preorder_first (task m ts) = here refl

mutual
  unfolding preorder span FitsTask root_line

  pub proper : (k : Case) (t : Tree) (u : ℕ) → Each (GoodRoot k) (preorder t) → FitsTask k t u → Each (Proper k) (preorder t)
  proper k (leaf a i) u g w =
      let good = g (leaf a i) (here refl) in
      each_cons (Proper k) (leaf a i) [] (cue_within k.head.cues i good.1 good.2) (each_nil (Proper k))
  proper k (empty m p) u g w =
      let good = g (empty m p) (here refl) in
      each_cons (Proper k) (empty m p) [] (gap_within k.head.cues p good.1, good.0, no_subtasks_lem k m p u w) (each_nil (Proper k))
  proper k (task m ts) u g w =
      let all = propers k ts (method_at k.methods m).subtasks (each_tail (GoodRoot k) (task m ts) (preorders ts) g) w.1 in
      let count = fits_count k ts (method_at k.methods m).subtasks w.1 in
      let some : count_of ts ≢ 0 = λ e. some_subtasks k m u w.0 (sym count ∙ e) in
      each_cons (Proper k) (task m ts) (preorders ts)
      (spans_within k.head.cues ts some all.1, g (task m ts) (here refl), count, all.1)
      all.0

  propers : (k : Case) (ts : Trees) (us : List ℕ) → Each (GoodRoot k) (preorders ts) → FitsTasks k ts us
      → Each (Proper k) (preorders ts) × Each (Within k.head.cues) (spans ts)
  propers k no_tree us g w = (each_nil (Proper k), each_nil (Within k.head.cues))
  propers k (more t ts) [] g w = absurd w
  propers k (more t ts) (u ∷ us) g w =
      let this = proper k t u (each_left (preorder t) (preorders ts) g) w.0 in
      let rest = propers k ts us (each_right (preorder t) (preorders ts) g) w.1 in (
        each_join (preorder t) (preorders ts) this rest.0,
        each_cons (Within k.head.cues) (span t) (spans ts) (proper_span k t (this t (preorder_first t))) rest.1,
      )

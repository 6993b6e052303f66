-- What a rewriting leaves behind. What it gathers and marks is what the methods used bring, whatever their order; and a path names one task
-- in the whole run, since what a step removes never comes back.
use mathlib.Core.Path.{◌≡◌, refl, sym, ◌∙◌, ap, subst}
use mathlib.Core.List.{List, [], ◌∷◌, ◌++◌, map}
use mathlib.Core.List.Memᴰ.{append_cases as in-cases}
use mathlib.Core.List.Memᴰ.{append_left as in_left}
use mathlib.Core.List.Memᴰ.{append_right as in_right}
use mathlib.Core.List.Memᴰ.{cases_cons}
use mathlib.Core.List.Memᴰ.{cast as in-cast}
use mathlib.Core.List.Memᴰ.{head as here}
use mathlib.Core.List.Memᴰ.{map as in_map}
use mathlib.Core.List.Memᴰ.{not-nil}
use mathlib.Core.List.Memᴰ.{of_map}
use mathlib.Core.List.Memᴰ.{tail as there}
use mathlib.Core.List.{Memᴰ as Mem}
use mathlib.Core.Logic.{◌≢◌, ◌↔◌, ◌⊎◌, inl, inr, ⊎_elim}
use mathlib.Core.Bool.{Bool, true}
use Prim.Native.Nat.{ℕ}
use Rattle.rules.specs.Case.{Constraint, method_at, Case}
use Rattle.rules.specs.Tree.{no_subtasks}
use Rattle.rules.specs.Rules.{MethodOf}
use Rattle.rules.specs.Rewriting.{TaskPath, Occurrence, subtasks_of, Network, Step, CanTake, same_path, replace, rewritten, Steps, rewritten_by, goal_alone, result, used, record_of, SameSet}
use Rattle.rules.proofs.Rewritings.Lists.{mem_split, mem_cond, Reflects, holds, fails}
use Rattle.rules.proofs.Rewritings.Records.{record_used}
use Rattle.rules.proofs.Rewritings.Paths.{Under, Apart, under_refl, under_trans, apart_ne, subtask_under, subtask_not_above, Spread, spread_eq, spread_others, spread_in_place, path_reflects, replace_in_place}

module _ (k : Case) where
  -- ---- Gathered and marked

  -- A method that was used on q and brings d.
  abbrev pub Brings : List Step → TaskPath → Constraint → Type 0
  Brings ss q d = (m : ℕ) × Mem (q, m) ss × Mem d (method_at k.methods m).constraints

  gathered_kept : (n : Network) (ss : List Step) (q : TaskPath) (d : Constraint) → Mem (q, d) n.gathered ⊎ Brings ss q d → Mem (q, d) (rewritten_by k n ss).gathered
  unfolding rewritten_by rewritten
  gathered_kept n [] q d (inl h) = h
  gathered_kept n [] q d (inr w) = absurd (not-nil w.1)
  gathered_kept n (s ∷ ss) q d (inl h) = gathered_kept (rewritten k n s) ss q d (inl (in_left (map (λ c. (s.0, c)) (method_at k.methods s.1).constraints) h))
  gathered_kept n (s ∷ ss) q d (inr (m, here e, i)) =
      gathered_kept (rewritten k n s) ss q d (inl (in_right n.gathered
      (subst (λ (x : Step). Mem {A = TaskPath × Constraint} (q, d) (map (λ c. (x.0, c)) (method_at k.methods x.1).constraints)) e (in_map {B = TaskPath × Constraint} (λ c. (q, c)) i))))
  gathered_kept n (s ∷ ss) q d (inr (m, there h, i)) = gathered_kept (rewritten k n s) ss q d (inr (m, h, i))

  gathered_from : (n : Network) (ss : List Step) (q : TaskPath) (d : Constraint) → Mem (q, d) (rewritten_by k n ss).gathered → Mem (q, d) n.gathered ⊎ Brings ss q d
  unfolding rewritten_by rewritten
  gathered_from n [] q d h = inl h
  gathered_from n (s ∷ ss) q d h =
      ⊎_elim (λ i. ⊎_elim inl (λ w. inr (now w)) (in-cases n.gathered i)) (λ w. inr (w.0, there w.1, w.2)) (gathered_from (rewritten k n s) ss q d h)
    where
      now : Mem {A = TaskPath × Constraint} (q, d) (map (λ c. (s.0, c)) (method_at k.methods s.1).constraints) → Brings (s ∷ ss) q d
      now w =
          let (c, i, e) = of_map {B = TaskPath × Constraint} (λ c. (s.0, c)) (method_at k.methods s.1).constraints w in
          (s.1, here (ap {B = Step} (λ (x : TaskPath × Constraint). (x.0, s.1)) (sym e)), in-cast (ap (λ (x : TaskPath × Constraint). x.1) (sym e)) i)

  -- A rewriting gathers the constraints of the methods that it uses, each tied to its path.
  pub gathered_iff : (ss : List Step) (q : TaskPath) (d : Constraint) → Mem (q, d) (result k ss).gathered ↔ Brings ss q d
  unfolding result goal_alone
  gathered_iff ss q d = (λ h. ⊎_elim (λ i. absurd (not-nil i)) (λ w. w) (gathered_from (goal_alone k) ss q d h), λ w. gathered_kept (goal_alone k) ss q d (inr w))

  -- So equal records give equal sets of gathered constraints.
  pub same_gathered : (ss ss' : List Step) → SameSet (record_of k ss) (record_of k ss') → SameSet (result k ss).gathered (result k ss').gathered
  same_gathered ss ss' e x = (
    go ss ss' (λ m h. (record_used k ss' x.0 m).1 ((e (x.0, used m)).0 ((record_used k ss x.0 m).0 h))),
    go ss' ss (λ m h. (record_used k ss x.0 m).1 ((e (x.0, used m)).1 ((record_used k ss' x.0 m).0 h))),
  )
    where
      go : (u v : List Step) → ((m : ℕ) → Mem (x.0, m) u → Mem (x.0, m) v) → Mem x (result k u).gathered → Mem x (result k v).gathered
      go u v f h = let (m, i, d) = (gathered_iff u x.0 x.1).0 h in (gathered_iff v x.0 x.1).1 (m, f m i, d)

  -- A marked path is one on which an empty method was used.
  abbrev UsedEmpty : List Step → TaskPath → Type 0
  UsedEmpty ss q = (m : ℕ) × Mem (q, m) ss × (no_subtasks (method_at k.methods m) ≡ true)

  marked_from : (n : Network) (ss : List Step) (q : TaskPath) → Mem q (rewritten_by k n ss).marked → Mem q n.marked ⊎ UsedEmpty ss q
  unfolding rewritten_by rewritten
  marked_from n [] q h = inl h
  marked_from n (s ∷ ss) q h =
      ⊎_elim (λ i. ⊎_elim inl
      (λ w. let (b, e) = mem_cond (no_subtasks (method_at k.methods s.1)) w in inr (s.1, here (ap {B = Step} (λ (x : TaskPath). (x, s.1)) e), b))
      (in-cases n.marked i))
      (λ w. inr (w.0, there w.1, w.2))
      (marked_from (rewritten k n s) ss q h)

  pub marked_used : (ss : List Step) (q : TaskPath) → Mem q (result k ss).marked → UsedEmpty ss q
  unfolding result goal_alone
  marked_used ss q h = ⊎_elim (λ i. absurd (not-nil i)) (λ w. w) (marked_from (goal_alone k) ss q h)

  -- ---- One step, on a network whose occurrences are spread

  -- The subtasks that a step adds.
  abbrev pub added : Step → List Occurrence
  added s = subtasks_of s.0 0 (method_at k.methods s.1).subtasks

  pub take_in_place : (n : Network) (s : Step) (t : ℕ) (xs ys : List Occurrence) → Spread n.occurrences → n.occurrences ≡ xs ++ ((s.0, t) ∷ ys)
      → (rewritten k n s).occurrences ≡ xs ++ (added s ++ ys)
  unfolding rewritten
  take_in_place n s t xs ys sp e =
      ap (λ l. replace s.0 (added s) l) e
      ∙ replace_in_place xs (s.0, t) (added s) ys (λ p h. apart_ne p.0 s.0 (spread_others xs (s.0, t) ys (subst (λ l. Spread l) e sp) p h))

  -- A step taken in place: the occurrence between two parts of the list.
  record InPlace (n : Network) (s : Step) : Type 0 where
    task : ℕ
    before : List Occurrence
    behind : List Occurrence
    was : n.occurrences ≡ before ++ ((s.0, task) ∷ behind)
    becomes : (rewritten k n s).occurrences ≡ before ++ (added s ++ behind)
    spread : Spread (before ++ ((s.0, task) ∷ behind))
    own : MethodOf k s.1 task

  in_place : (n : Network) (s : Step) → Spread n.occurrences → CanTake k n s → InPlace n s
  unfolding CanTake
  in_place n s sp (t, h, m) =
      let (xs, ys, e) = mem_split n.occurrences h in
      record { task = t; before = xs; behind = ys; was = e; becomes = take_in_place n s t xs ys sp e; spread = subst (λ l. Spread l) e sp; own = m }

  module _ (n : Network) (s : Step) (w : InPlace n s) where
    abbrev taken : Occurrence
    taken = (s.0, w.task)

    take_taken : Mem taken n.occurrences
    take_taken = subst (λ l. Mem taken l) (sym w.was) (in_right w.before (here refl))

    take_spread : Spread (rewritten k n s).occurrences
    take_spread = subst (λ l. Spread l) (sym w.becomes) (spread_in_place w.before taken w.behind (method_at k.methods s.1).subtasks w.spread)

    -- What a step leaves: what is apart from the path taken, and the subtasks.
    take_from : (o : Occurrence) → Mem o (rewritten k n s).occurrences → (Mem o n.occurrences × Apart o.0 s.0) ⊎ Mem o (added s)
    take_from o h =
        ⊎_elim (λ i. inl (was (in_left (taken ∷ w.behind) i), others (in_left w.behind i)))
        (λ i. ⊎_elim inr (λ j. inl (was (in_right w.before (there j)), others (in_right w.before j))) (in-cases (added s) i))
        (in-cases w.before (subst (λ l. Mem o l) w.becomes h))
      where
        was : Mem o (w.before ++ (taken ∷ w.behind)) → Mem o n.occurrences
        was i = subst (λ l. Mem o l) (sym w.was) i

        others : Mem o (w.before ++ w.behind) → Apart o.0 s.0
        others = spread_others w.before taken w.behind w.spread o

    take_keeps : (o : Occurrence) → Mem o n.occurrences → o.0 ≢ s.0 → Mem o (rewritten k n s).occurrences
    take_keeps o h ne =
        subst (λ l. Mem o l) (sym w.becomes)
        (⊎_elim (λ i. in_left (added s ++ w.behind) i)
        (λ i. ⊎_elim (λ e. absurd (ne (ap (λ (x : Occurrence). x.0) e))) (λ j. in_right w.before (in_right (added s) j)) (cases_cons i))
        (in-cases w.before (subst (λ l. Mem o l) w.was h)))

    take_adds : (o : Occurrence) → Mem o (added s) → Mem o (rewritten k n s).occurrences
    take_adds o h = subst (λ l. Mem o l) (sym w.becomes) (in_right w.before (in_left w.behind h))

  pub step_spread : (n : Network) (s : Step) → Spread n.occurrences → CanTake k n s → Spread (rewritten k n s).occurrences
  step_spread n s sp c = take_spread n s (in_place n s sp c)

  same_path_lem : (n : Network) (q : TaskPath) (t t' : ℕ) → Spread n.occurrences → Mem (q, t) n.occurrences → Mem (q, t') n.occurrences → t ≡ t'
  same_path_lem n q t t' sp h h' = ap (λ (o : Occurrence). o.1) (spread_eq n.occurrences (q, t) (q, t') q sp h h' (under_refl q) (under_refl q))

  -- ---- The whole run

  -- The occurrence was there at some time.
  abbrev pub Seen : Network → List Step → Occurrence → Type 0
  Seen n [] o = Mem o n.occurrences
  Seen n (s ∷ ss) o = Mem o n.occurrences ⊎ Seen (rewritten k n s) ss o

  pub seen_first : (n : Network) (ss : List Step) (o : Occurrence) → Mem o n.occurrences → Seen n ss o
  seen_first n [] o h = h
  seen_first n (s ∷ ss) o h = inl h

  pub seen_last : (n : Network) (ss : List Step) (o : Occurrence) → Mem o (rewritten_by k n ss).occurrences → Seen n ss o
  unfolding rewritten_by
  seen_last n [] o h = h
  seen_last n (s ∷ ss) o h = inr (seen_last (rewritten k n s) ss o h)

  seen_under : (n : Network) (ss : List Step) (o : Occurrence) → Spread n.occurrences → Steps k n ss → Seen n ss o → (p : Occurrence) × Mem p n.occurrences × Under p.0 o.0
  unfolding Steps
  seen_under n [] o sp st h = (o, h, under_refl o.0)
  seen_under n (s ∷ ss) o sp st (inl h) = (o, h, under_refl o.0)
  seen_under n (s ∷ ss) o sp st (inr h) =
      let w = in_place n s sp st.0 in
      let (p, i, u) = seen_under (rewritten k n s) ss o (take_spread n s w) st.1 h in
      ⊎_elim (λ v. (p, v.0, u)) (λ j. (taken n s w, take_taken n s w, under_trans s.0 p.0 o.0 (subtask_under s.0 (method_at k.methods s.1).subtasks p j) u))
      (take_from n s w p i)

  -- A path that is taken does not come back.
  taken_gone : (n : Network) (s : Step) (ss : List Step) (t : ℕ) → InPlace n s → Steps k (rewritten k n s) ss → Seen (rewritten k n s) ss (s.0, t) → ⊥
  taken_gone n s ss t w st h =
      let (p, i, u) = seen_under (rewritten k n s) ss (s.0, t) (take_spread n s w) st h in
      ⊎_elim (λ v. v.1 s.0 u (under_refl s.0)) (λ j. subtask_not_above s.0 (method_at k.methods s.1).subtasks p j u) (take_from n s w p i)

  seen_later : (n : Network) (s : Step) (ss : List Step) (q : TaskPath) (t t' : ℕ) (b : Bool) → Reflects (q ≡ s.0) b → InPlace n s → Steps k (rewritten k n s) ss
      → Mem (q, t) n.occurrences → Seen (rewritten k n s) ss (q, t') → Seen (rewritten k n s) ss (q, t)
  seen_later n s ss q t t' b (holds e) w st h later = absurd (taken_gone n s ss t' w st (subst (λ r. Seen (rewritten k n s) ss (r, t')) e later))
  seen_later n s ss q t t' b (fails ne) w st h later = seen_first (rewritten k n s) ss (q, t) (take_keeps n s w (q, t) h ne)

  -- A path names one task in the whole run.
  pub seen_unique : (n : Network) (ss : List Step) (q : TaskPath) (t t' : ℕ) → Spread n.occurrences → Steps k n ss → Seen n ss (q, t) → Seen n ss (q, t') → t ≡ t'
  unfolding Steps
  seen_unique n [] q t t' sp st h h' = same_path_lem n q t t' sp h h'
  seen_unique n (s ∷ ss) q t t' sp st (inl h) (inl h') = same_path_lem n q t t' sp h h'
  seen_unique n (s ∷ ss) q t t' sp st (inl h) (inr h') =
      let w = in_place n s sp st.0 in
      seen_unique (rewritten k n s) ss q t t' (take_spread n s w) st.1 (seen_later n s ss q t t' (same_path q s.0) (path_reflects q s.0) w st.1 h h') h'
  seen_unique n (s ∷ ss) q t t' sp st (inr h) (inl h') =
      let w = in_place n s sp st.0 in
      seen_unique (rewritten k n s) ss q t t' (take_spread n s w) st.1 h (seen_later n s ss q t' t (same_path q s.0) (path_reflects q s.0) w st.1 h' h)
  seen_unique n (s ∷ ss) q t t' sp st (inr h) (inr h') = seen_unique (rewritten k n s) ss q t t' (step_spread n s sp st.0) st.1 h h'

  -- A method used on a path is one of a task seen there, and its subtasks are seen.
  pub used_seen : (n : Network) (ss : List Step) (s : Step) → Spread n.occurrences → Steps k n ss → Mem s ss
      → (t : ℕ) × Seen n ss (s.0, t) × MethodOf k s.1 t × ((o : Occurrence) → Mem o (added s) → Seen n ss o)
  unfolding Steps
  used_seen n [] s sp st h = absurd (not-nil h)
  used_seen n (x ∷ ss) s sp st (here e) =
      let w = in_place n x sp st.0 in
      subst (λ (y : Step). (t : ℕ) × Seen n (x ∷ ss) (y.0, t) × MethodOf k y.1 t × ((o : Occurrence) → Mem o (added y) → Seen n (x ∷ ss) o)) (sym e)
      (w.task, inl (take_taken n x w), w.own, λ o i. inr (seen_first (rewritten k n x) ss o (take_adds n x w o i)))
  used_seen n (x ∷ ss) s sp st (there h) =
      let (t, i, m, f) = used_seen (rewritten k n x) ss s (step_spread n x sp st.0) st.1 h in
      (t, inr i, m, λ o j. inr (f o j))

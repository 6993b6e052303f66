-- Laws of the walk over a node's subtasks: a run of siblings that is walked, then those after it. Assumes nothing.
use mathlib.Core.Path.{◌≡◌, refl, sym, ap, subst, ◌∙◌}
use mathlib.Core.List.{List, [], ◌∷◌, ◌++◌, append-nil, append_assoc}
use Prim.Native.Nat.{ℕ, suc, ◌+◌, ◌-◌, ◌*◌, ◌≤◌, ◌<◌}
use native.Mathlib.Nat.{add-zero}
use native.Mathlib.Numerals.{add-one}
use native.Mathlib.Decide.{ℕ_discrete}
use native.Mathlib.Omega.{arith}
use lib.ListN.{length, get_or, take, drop, take-append-drop}
use lib.Seq.{sets, take-suc, take_all}
use Rattle.std.specs.Prelude.{Result, Ok, Err}
use Rattle.rules.specs.declared.Answer.{Answer}
use Rattle.rules.specs.Index as Ix
use Rattle.rules.specs.Index.{hull}
use Rattle.rules.specs.Result.{found, refused, ◌>>=◌}
use Rattle.rules.specs.Case.{NodeLine, Case}
use Rattle.rules.specs.Tree.{Tree, Trees, no_tree, more, span, spans, Walk, Walker, walk_subtasks, may_claim, walk_node}
use Rattle.rules.proofs.Spans.{span_from, hull_one, hull_two, hull_cons_start, hull_cons_end, hull_join}
use Rattle.index.specs.declared.Span.{Span}
use Rattle.index.specs.Spans.{span_of, as_span}
use Rattle.tree.specs.declared.fit.Given.{Given}
use Rattle.tree.specs.declared.fit.Place.{Place}
use Rattle.tree.specs.declared.rows.Walked.{Walked}
use Rattle.tree.specs.Layout.{rows_from, size, sizes, rows, rows_all, marks_of, marks_in}
use Rattle.tree.specs.Fits.{line_at, Follows}
use Rattle.tree.specs.Standing.{MethodsAt, Steady, node_from, list_from, joined, Passed, Told, Some, ToldAll, WalksNode, WalksList}
use Rattle.fields.proofs.Standing.{sets_append}
use Rattle.tree.proofs.Stores.{length_rows_all}
use Rattle.tree.proofs.Passing.{same_ok, ok_not_err}

-- ---- Trees, and trees after them

abbrev append_trees : Trees → Trees → Trees
append_trees no_tree us = us
append_trees (more t ts) us = more t (append_trees ts us)

some_append : (ts us : Trees) → Some ts → Some (append_trees ts us)
some_append no_tree us h = absurd h
some_append (more t ts) us h = tt

sizes_append : (ts us : Trees) → sizes (append_trees ts us) ≡ sizes ts + sizes us
unfolding sizes
sizes_append no_tree us = omega arith
sizes_append (more t ts) us = let ih = sizes_append ts us in omega arith

rows_append : (ts us : Trees) (n : ℕ) → rows_all (append_trees ts us) n ≡ rows_all ts n ++ rows_all us (n + sizes ts)
unfolding sizes rows_all
rows_append no_tree us n = ap (rows_all us) (sym (add-zero n))
rows_append (more t ts) us n =
    let past : n + size t + sizes ts ≡ n + (size t + sizes ts) = omega arith in
    ap (λ (l : List ℕ). rows t n ++ l) (rows_append ts us (n + size t) ∙ ap (λ (m : ℕ). rows_all ts (n + size t) ++ rows_all us m) past)
    ∙ sym (append_assoc (rows t n) (rows_all ts (n + size t)) (rows_all us (n + (size t + sizes ts))))

spans_append : (ts us : Trees) → spans (append_trees ts us) ≡ spans ts ++ spans us
unfolding spans
spans_append no_tree us = refl
spans_append (more t ts) us = ap (λ (l : List Ix.Span). span t ∷ l) (spans_append ts us)

-- The hull of the first spans, joined to that of the others.
hull_list : (s : Ix.Span) (ts : Trees) → Some ts → hull (s ∷ hull (spans ts) ∷ []) ≡ hull (s ∷ spans ts)
unfolding spans
hull_list s no_tree h = absurd h
hull_list s (more t ts) h =
    let rest = hull (span t ∷ spans ts) in
    let a = sym (hull_cons_start s (span t) (spans ts)) in
    let b = sym (hull_cons_end s (span t) (spans ts)) in
    hull_two s rest ∙ λ j. span_from (a j) (b j)

hull_run : (s : Ix.Span) (l m : List Ix.Span) → hull (hull (s ∷ l) ∷ m) ≡ hull (s ∷ (l ++ m))
hull_run s [] m = ap (λ (x : Ix.Span). hull (x ∷ m)) (hull_one s)
hull_run s (t ∷ l) m =
    ap (λ (x : Ix.Span). hull (x ∷ m)) (hull_join s t l) ∙ hull_run (hull (s ∷ t ∷ [])) l m ∙ sym (hull_join s t (l ++ m))

hull_append : (ts us : Trees) → Some ts → Some us → hull (hull (spans ts) ∷ hull (spans us) ∷ []) ≡ hull (spans (append_trees ts us))
unfolding spans
hull_append no_tree us h g = absurd h
hull_append (more t ts) us h g =
    hull_list (hull (span t ∷ spans ts)) us g ∙ hull_run (span t) (spans ts) (spans us)
    ∙ ap (λ (l : List Ix.Span). hull (span t ∷ l)) (sym (spans_append ts us))

-- ---- The definition's walk of a list of tasks, and of tasks after them

-- Trees after a first one.
abbrev with_tree : Tree → Walk Trees → Walk Trees
with_tree t ws = ws >>= λ (ts, line, nodes, claimed). found (more t ts, line, nodes, claimed)

abbrev follow_tree : Walk Tree → (ℕ → List NodeLine → List ℕ → Walk Trees) → Walk Trees
follow_tree x rest = x >>= λ (t, line, nodes, claimed). with_tree t (rest line nodes claimed)

abbrev with_trees : Trees → Walk Trees → Walk Trees
with_trees ts (found (us, line, left, claimed)) = found (append_trees ts us, line, left, claimed)
with_trees ts (refused a) = refused a

abbrev follow_trees : Walk Trees → (ℕ → List NodeLine → List ℕ → Walk Trees) → Walk Trees
follow_trees (found (ts, line, left, claimed)) rest = with_trees ts (rest line left claimed)
follow_trees (refused a) rest = refused a

with_none : (ws : Walk Trees) → ws ≡ with_trees no_tree ws
with_none (found (us, line, left, claimed)) = refl
with_none (refused a) = refl

with_more : (t : Tree) (ts : Trees) (ws : Walk Trees) → with_tree t (with_trees ts ws) ≡ with_trees (more t ts) ws
with_more t ts (found (us, line, left, claimed)) = refl
with_more t ts (refused a) = refl

module _ (rest : ℕ → List NodeLine → List ℕ → Walk Trees) where
  with_follow : (t : Tree) (ws : Walk Trees) → with_tree t (follow_trees ws rest) ≡ follow_trees (with_tree t ws) rest
  with_follow t (found (ts, line, left, claimed)) = with_more t ts (rest line left claimed)
  with_follow t (refused a) = refl

  follow_first : (x : Walk Tree) (all first : ℕ → List NodeLine → List ℕ → Walk Trees)
      → ((line : ℕ) (left : List NodeLine) (claimed : List ℕ) → all line left claimed ≡ follow_trees (first line left claimed) rest)
      → follow_tree x all ≡ follow_trees (follow_tree x first) rest
  follow_first (found (t, line, left, claimed)) all first h = ap (with_tree t) (h line left claimed) ∙ with_follow t (first line left claimed)
  follow_first (refused a) all first h = refl

walk_append : (walk : Walker) (ts us : List ℕ) (line : ℕ) (left : List NodeLine) (claimed : List ℕ)
    → walk_subtasks walk (ts ++ us) line left claimed
    ≡ follow_trees (walk_subtasks walk ts line left claimed) (λ line' left' claimed'. walk_subtasks walk us line' left' claimed')
walk_append walk [] us line left claimed = with_none (walk_subtasks walk us line left claimed)
walk_append walk (t ∷ ts) us line left claimed =
    follow_first (λ line' left' claimed'. walk_subtasks walk us line' left' claimed') (walk t line left claimed)
    (λ line' left' claimed'. walk_subtasks walk (ts ++ us) line' left' claimed') (λ line' left' claimed'. walk_subtasks walk ts line' left' claimed')
    (walk_append walk ts us)

-- ---- What the code has done after the one and the other

-- A walk that ended at `next`, of so wide a span.
abbrev pub went : Place → Span → Result Walked Answer
went next s = Ok (record { next = next; span = s })

-- A walk after one whose span is s.
abbrev joined_to : Ix.Span → Result Walked Answer → Result Walked Answer
joined_to s (Ok o) = went o.next (as_span (hull (s ∷ span_of o.span ∷ [])))
joined_to s (Err a) = Err a

-- One task alone.
one_told : (k : Case) (fields : List ℕ) (n : ℕ) (w : List ℕ) (r : Result Walked Answer) (v : List ℕ) (x : Walk Tree) → Told k fields n w x r v
    → ToldAll k fields n w (follow_tree x (λ line left claimed. found (no_tree, line, left, claimed))) r v
unfolding sizes spans rows_all
one_told k fields n w r v (found (t, line, left, claimed)) f = (
  tt,
  record {
    next = f.next;
    answer = f.answer ∙ ap (λ (x : Ix.Span). went f.next (as_span x)) (sym (hull_one (span t)));
    after = let a = f.after in omega arith;
    follows = f.follows;
    lines = f.lines;
    lefts = f.lefts;
    rowed = f.rowed ∙ ap (λ (l : List ℕ). sets (drop rows_from w) (3 * n) l) (sym (append-nil (rows t n)));
    marked = f.marked;
    directory = f.directory;
  },
)
one_told k fields n w r v (refused a) f = f

-- And back: what is told of a list of one task is told of that task.
pub alone_told : (k : Case) (fields : List ℕ) (n : ℕ) (w : List ℕ) (r : Result Walked Answer) (v : List ℕ) (x : Walk Tree)
    → ToldAll k fields n w (follow_tree x (λ line left claimed. found (no_tree, line, left, claimed))) r v → Told k fields n w x r v
unfolding sizes spans rows_all
alone_told k fields n w r v (found (t, line, left, claimed)) h =
    let f = h.1 in
    record {
      next = f.next;
      answer = f.answer ∙ ap (λ (x : Ix.Span). went f.next (as_span x)) (hull_one (span t));
      after = let a = f.after in omega arith;
      follows = f.follows;
      lines = f.lines;
      lefts = f.lefts;
      rowed = f.rowed ∙ ap (λ (l : List ℕ). sets (drop rows_from w) (3 * n) l) (append-nil (rows t n));
      marked = f.marked;
      directory = f.directory;
    }
alone_told k fields n w r v (refused a) f = f

module _ (k : Case) (fields : List ℕ) (n : ℕ) (w : List ℕ) (next : Place) (s : Span) (v₁ : List ℕ) where
  -- A walk that ended at `next` found trees.
  same_next : (ts : Trees) {line : ℕ} {left : List NodeLine} {claimed : List ℕ}
      (f : Passed k fields n (sizes ts) (hull (spans ts)) (rows_all ts n) line left claimed w (went next s) v₁) → (next ≡ f.next) × (s ≡ as_span (hull (spans ts)))
  same_next ts f = let e = same_ok f.answer in (ap (λ (x : Walked). x.next) e, ap (λ (x : Walked). x.span) e)

  module _ (r r₂ : Result Walked Answer) (v : List ℕ) (e : r ≡ joined_to (span_of s) r₂) where
    both_told : (ts : Trees) (line : ℕ) (left : List NodeLine) (claimed : List ℕ) (ws : Walk Trees) → Some ts
        → Passed k fields n (sizes ts) (hull (spans ts)) (rows_all ts n) line left claimed w (went next s) v₁ → ToldAll k fields next.node v₁ ws r₂ v
        → ToldAll k fields n w (with_trees ts ws) r v
    both_told ts line left claimed (found (us, line₂, left₂, claimed₂)) some f h =
        let g = h.1 in
        let sn = same_next ts f in
        let here : next.node ≡ n + sizes ts = ap (λ (p : Place). p.node) sn.0 ∙ f.after in
        let past : 3 * next.node ≡ 3 * n + length (rows_all ts n) = omega (arith, length_rows_all ts n) in
        let whole : hull (span_of s ∷ hull (spans us) ∷ []) ≡ hull (spans (append_trees ts us)) =
        ap (λ (x : Span). hull (span_of x ∷ hull (spans us) ∷ [])) sn.1 ∙ hull_append ts us some h.0 in (
          some_append ts us some,
          record {
            next = g.next;
            answer = e ∙ ap (joined_to (span_of s)) g.answer ∙ ap (λ (x : Ix.Span). went g.next (as_span x)) whole;
            after = let a = g.after in let b = sizes_append ts us in omega arith;
            follows = g.follows;
            lines = g.lines;
            lefts = g.lefts;
            rowed =
                g.rowed
                ∙ (λ j. sets (f.rowed j) (past j) (rows_all us (here j)))
                ∙ sym (sets_append (rows_all ts n) (rows_all us (n + sizes ts)) (drop rows_from w) (3 * n))
                ∙ ap (sets (drop rows_from w) (3 * n)) (sym (rows_append ts us n));
            marked = g.marked;
            directory = g.directory ∙ f.directory;
          },
        )
    both_told ts line left claimed (refused a) some f h = e ∙ ap (joined_to (span_of s)) h

    then_told : (x : Walk Trees) (rest : ℕ → List NodeLine → List ℕ → Walk Trees) → ToldAll k fields n w x (went next s) v₁
        → ((claimed : List ℕ) → marks_in k.head.cues v₁ ≡ marks_of k.head.cues claimed
        → ToldAll k fields next.node v₁ (rest (line_at k.plan_line next.node) (drop next.node k.nodes) claimed) r₂ v)
        → ToldAll k fields n w (follow_trees x rest) r v
    then_told (found (ts, line, left, claimed)) rest f h =
        let there : f.1.next.node ≡ next.node = ap (λ (p : Place). p.node) (sym (same_next ts f.1).0) in
        let on : line ≡ line_at k.plan_line next.node = f.1.lines ∙ ap (line_at k.plan_line) there in
        let over : left ≡ drop next.node k.nodes = f.1.lefts ∙ ap (λ (m : ℕ). drop m k.nodes) there in
        both_told ts line left claimed (rest line left claimed) f.0 f.1
        (subst (λ (ws : Walk Trees). ToldAll k fields next.node v₁ ws r₂ v) (λ j. rest (sym on j) (sym over j) claimed) (h claimed f.1.marked))
    then_told (refused a) rest f h = absurd (ok_not_err f)

  moves_on : (g : Given) (x : Walk Trees) → Steady k fields g w → length v₁ ≡ length w → ToldAll k fields n w x (went next s) v₁
      → Steady k fields g v₁ × Follows k fields next × (n ≤ next.node)
  moves_on g (found (ts, line, left, claimed)) st l h =
      let f = h.1 in
      let there = (same_next ts f).0 in (
        record {
          read = st.read;
          count = st.count;
          planned = st.planned;
          plan = st.plan;
          room = let q = st.room in omega arith;
          methods = subst (MethodsAt k fields) (sym f.directory) st.methods;
          claimed = claimed;
          marks = f.marked;
        },
        subst (Follows k fields) (sym there) f.follows,
        (let e = ap (λ (p : Place). p.node) there in let a = f.after in omega arith),
      )
  moves_on g (refused a) st l f = absurd (ok_not_err f)

stop_told : (k : Case) (fields : List ℕ) (n : ℕ) (w : List ℕ) (a : Answer) (v : List ℕ) (x : Walk Trees) (rest : ℕ → List NodeLine → List ℕ → Walk Trees)
    → ToldAll k fields n w x (Err a) v → ToldAll k fields n w (follow_trees x rest) (Err a) v
stop_told k fields n w a v (found (ts, line, left, claimed)) rest f = absurd (ok_not_err (sym f.1.answer))
stop_told k fields n w a v (refused b) rest f = f

-- ---- The loop

module _ (k : Case) (fields : List ℕ) (level : ℕ) where
  abbrev Done : List ℕ → ℕ → List ℕ → Result Walked Answer → List ℕ → Type 0
  Done ts n w r v = WalksList k fields (64 - level) ts n w r v

  -- A subtask is one level below its task.
  abbrev DoneOne : ℕ → ℕ → List ℕ → Result Walked Answer → List ℕ → Type 0
  DoneOne t n w r v = WalksNode k fields (65 - (level + 1)) t n w r v

  one_done : (t n : ℕ) (w : List ℕ) (r : Result Walked Answer) (v : List ℕ) → DoneOne t n w r v → Done (t ∷ []) n w r v
  one_done t n w r v f claimed m =
      let d : 65 - (level + 1) ≡ 64 - level = omega arith in
      one_told k fields n w r v (node_from k (64 - level) t n claimed) (subst (λ (l : ℕ). Told k fields n w (node_from k l t n claimed) r v) d (f claimed m))

  module _ (ts us : List ℕ) (n : ℕ) (w : List ℕ) where
    abbrev rest : ℕ → List NodeLine → List ℕ → Walk Trees
    rest line left claimed = walk_subtasks (walk_node (64 - level) k (may_claim k.plan)) us line left claimed

    -- The walk of all the tasks, from the walk of the first ones.
    append_told : (r : Result Walked Answer) (v claimed : List ℕ) → ToldAll k fields n w (follow_trees (list_from k (64 - level) ts n claimed) rest) r v
        → ToldAll k fields n w (list_from k (64 - level) (ts ++ us) n claimed) r v
    append_told r v claimed h =
        subst (λ (x : Walk Trees). ToldAll k fields n w x r v)
        (sym (walk_append (walk_node (64 - level) k (may_claim k.plan)) ts us (line_at k.plan_line n) (drop n k.nodes) claimed)) h

    append_done : (next : Place) (s : Span) (v₁ : List ℕ) (r₂ r : Result Walked Answer) (v : List ℕ) → Done ts n w (went next s) v₁ → Done us next.node v₁ r₂ v
        → r ≡ joined_to (span_of s) r₂ → Done (ts ++ us) n w r v
    append_done next s v₁ r₂ r v f h e claimed m =
        append_told r v claimed (then_told k fields n w next s v₁ r r₂ v e (list_from k (64 - level) ts n claimed) rest (f claimed m) h)

    append_refused : (a : Answer) (v : List ℕ) → Done ts n w (Err a) v → Done (ts ++ us) n w (Err a) v
    append_refused a v f claimed m =
        append_told (Err a) v claimed (stop_told k fields n w a v (list_from k (64 - level) ts n claimed) rest (f claimed m))

  -- From the place p and the work space w the first i tasks are walked, to the place `next`, their span and the work space v.
  pub record Begun (tasks : List ℕ) (i : ℕ) (p : Place) (w : List ℕ) (next : Place) (s : Span) (v : List ℕ) : Type 0 where
    pub none : i ≡ 0 → (next ≡ p) × (v ≡ w)
    pub some : 0 < i → Done (take i tasks) p.node w (went next s) v

  pub begins : (tasks : List ℕ) (p : Place) (w : List ℕ) (s : Span) → Begun tasks 0 p w p s w
  begins tasks p w s = record { none = λ e. (refl, refl); some = λ h. absurd (omega arith) }

  module _ {tasks : List ℕ} {i : ℕ} {p : Place} {w : List ℕ} {next : Place} {s : Span} {v : List ℕ} (b : Begun tasks i p w next s v) where
    pub moves : (g : Given) → Steady k fields g w → Follows k fields p → length v ≡ length w
        → Steady k fields g v × Follows k fields next × (p.node ≤ next.node)
    moves g st f l = go (ℕ_discrete i 0)
      where
        go : Dec (i ≡ 0) → Steady k fields g v × Follows k fields next × (p.node ≤ next.node)
        go (yes e) =
            let o = b.none e in (
              subst (Steady k fields g) (sym o.1) st,
              subst (Follows k fields) (sym o.0) f,
              (let q = ap (λ (x : Place). x.node) o.0 in omega arith),
            )
        go (no n) =
            moves_on k fields p.node w next s v g (list_from k (64 - level) (take i tasks) p.node st.claimed) st l
            (b.some (omega arith) st.claimed st.marks)

    -- One more task is walked, to the answer r.
    one_more : (r₂ r : Result Walked Answer) (v₂ : List ℕ) → i < length tasks → (i ≡ 0 → r ≡ r₂) → (0 < i → r ≡ joined_to (span_of s) r₂)
        → DoneOne (get_or tasks i 0) next.node v r₂ v₂ → Done (take (i + 1) tasks) p.node w r v₂
    one_more r₂ r v₂ h first later f =
        let more : take (i + 1) tasks ≡ take i tasks ++ (get_or tasks i 0 ∷ []) = rw (add-one, take-suc tasks i 0 h) in
        subst (λ (l : List ℕ). Done l p.node w r v₂) (sym more) (go (ℕ_discrete i 0))
      where
        go : Dec (i ≡ 0) → Done (take i tasks ++ (get_or tasks i 0 ∷ [])) p.node w r v₂
        go (yes e) =
            let o = b.none e in
            let alone : take i tasks ++ (get_or tasks i 0 ∷ []) ≡ get_or tasks i 0 ∷ [] = ap (λ (x : ℕ). take x tasks ++ (get_or tasks i 0 ∷ [])) e in
            subst (λ (l : List ℕ). Done l p.node w r v₂) (sym alone)
            (subst (λ (q : Place). Done (get_or tasks i 0 ∷ []) q.node w r v₂) o.0
            (subst (λ (u : List ℕ). Done (get_or tasks i 0 ∷ []) next.node u r v₂) o.1
            (subst (λ (x : Result Walked Answer). Done (get_or tasks i 0 ∷ []) next.node v x v₂) (sym (first e))
            (one_done (get_or tasks i 0) next.node v r₂ v₂ f))))
        go (no n) =
            append_done (take i tasks) (get_or tasks i 0 ∷ []) p.node w next s v r₂ r v₂ (b.some (omega arith))
            (one_done (get_or tasks i 0) next.node v r₂ v₂ f) (later (omega arith))

    pub goes_on_lem : (o : Walked) (v₂ : List ℕ) (whole : Span) → i < length tasks → span_of whole ≡ joined i (span_of s) (span_of o.span)
        → DoneOne (get_or tasks i 0) next.node v (Ok o) v₂ → Begun tasks (i + 1) p w o.next whole v₂
    goes_on_lem o v₂ whole h j f =
        record {
          none = λ z. absurd (omega arith);
          some = λ z. one_more (Ok o) (went o.next whole) v₂ h first later f;
        }
      where
        first : i ≡ 0 → went o.next whole ≡ Ok o
        first z = ap (λ (x : Ix.Span). went o.next (as_span x)) (j ∙ ap (λ (c : ℕ). joined c (span_of s) (span_of o.span)) z)

        later : 0 < i → went o.next whole ≡ joined_to (span_of s) (Ok o)
        later z =
            let c : i ≡ suc (i - 1) = omega arith in
            ap (λ (x : Ix.Span). went o.next (as_span x)) (j ∙ ap (λ (c : ℕ). joined c (span_of s) (span_of o.span)) c)

    pub stops : (v₂ : List ℕ) (a : Answer) → i < length tasks → DoneOne (get_or tasks i 0) next.node v (Err a) v₂ → Done tasks p.node w (Err a) v₂
    stops v₂ a h f =
        subst (λ (l : List ℕ). Done l p.node w (Err a) v₂) (take-append-drop (i + 1) tasks)
        (append_refused (take (i + 1) tasks) (drop (i + 1) tasks) p.node w a v₂ (one_more (Err a) (Err a) v₂ h (λ z. refl) (λ z. refl) f))

    pub ends : 0 < length tasks → length tasks ≤ i → Done tasks p.node w (went next s) v
    ends some all = subst (λ (l : List ℕ). Done l p.node w (went next s) v) (take_all i tasks all) (b.some (omega arith))

-- The lines after the header, group by group: what each leaves to the next, and the whole body. Assumes nothing.
use Rattle.std.specs.Prelude.{Result, Ok, Err}
use mathlib.Core.Path.{◌≡◌, refl, sym, ap, subst, transport, ◌∙◌}
use mathlib.Core.Bool.{Bool, true, false}
use mathlib.Core.List.{List, map}
use Prim.Native.Nat.{ℕ, ◌+◌}
use native.Mathlib.Omega.{arith}
use lib.Dec.{ltb}
use lib.ListN.{length, get_or}
use lib.Seq.{sets}
use Rattle.rules.specs.declared.Header.{Header}
use Rattle.rules.specs.declared.Answer.{Answer}
use Rattle.rules.specs.declared.Answer.TheVariants.{Unreadable}
use Rattle.rules.specs.State.{State, Action}
use Rattle.rules.specs.Table as T
use Rattle.rules.specs.Result.{found, refused, ◌>>◌}
use Rattle.rules.specs.Case.{Method, NodeLine, Case, Valued, Read, header_in, initial_of, action_of, plan_of, as_node, one_line, many, one_method, read_body, no_surplus}
use Rattle.rules.specs.Fields.{line_fields, initial_line, action_line, cues_line, node_line}
use Rattle.rules.proofs.Judgement.Sound.{GoodHeader}
use Rattle.rules.proofs.Judgement.Back.{initial_back, action_back, plan_back, node_back}
use Rattle.fields.specs.Directory.{methods_from}
use Rattle.lines.specs.Ranges.{known_of}
use Rattle.reading.specs.declared.CaseRead.{CaseRead}
use Rattle.reading.specs.declared.Spot.{Spot}
use Rattle.reading.specs.Groups.{valued_line, Due, Left, together, starts, Placed, method_fields, case_at, whole_if, whole_case}
use Rattle.reading.specs.Whole.{to_the_end, actions_at, methods_at, plan_at, nodes_at, end_at, Filled, BodyLeft}
use Rattle.reading.proofs.Turns.{line_goes, many_goes, due_next, went, halted}
use Rattle.reading.proofs.Meant.{left_alike, many_left, many_placed, line_meant, lines_meant}
use Rattle.reading.proofs.MethodLines.{method_goes}

abbrev action_shown : Action → List ℕ
action_shown a = line_fields (action_line a)

abbrev node_shown : NodeLine → List ℕ
node_shown x = line_fields (node_line x)

module _ (text : List ℕ) (h : Header) (past : ℕ) (first : Spot) (w d : List ℕ) (good : GoodHeader h) (due : Due text past w first)
    (x : List ℕ) (known : x ≡ known_of h 0) where
  abbrev body_read : Read Case
  body_read = read_body text h first.line first.start.at

  abbrev Refuses : Answer → List ℕ → List ℕ → Type 0
  Refuses a u e = BodyLeft h first.from w d (to_the_end text body_read) (Err a) u e

  refuses : (a : Answer) (u e : List ℕ) → body_read ≡ refused a → Refuses a u e
  refuses a u e q = subst (λ (r : Read Case). BodyLeft h first.from w d (to_the_end text r) (Err a) u e) (sym q) refl

  -- ---- The initial line

  abbrev initial_read : Read State
  initial_read = one_line text h T.initial 0 initial_of first.line first.start.at

  pub record After1 (s : Spot) (v : List ℕ) : Type 0 where
    pub i : State
    pub is : initial_read ≡ found (i, s.line, s.start.at)
    pub from : s.from ≡ first.from + length (line_fields (initial_line i))
    pub fields : v ≡ sets w first.from (line_fields (initial_line i))
    pub next : Due text past v s

  module _ (g : Result Spot Answer) (v : List ℕ) (q : Left line_fields first.from w (valued_line text (header_in x) T.initial (get_or x 7 0) first.line first.start.at) g v) where
    initial_read_lem : Left line_fields first.from w (valued_line text h T.initial 0 first.line first.start.at) g v
    unfolding known_of
    initial_read_lem = subst (λ (l : List ℕ). Left line_fields first.from w (valued_line text (header_in l) T.initial (get_or l 7 0) first.line first.start.at) g v) known q

    initial_left : Left (λ i. line_fields (initial_line i)) first.from w initial_read g v
    initial_left =
        left_alike line_fields (λ i. line_fields (initial_line i)) first.from w (valued_line text h T.initial 0 first.line first.start.at) initial_read g v
        (line_meant text h T.initial 0 initial_of initial_line (initial_back h good) first.line first.start.at) initial_read_lem

    pub after1 : (s : Spot) → g ≡ Ok s → After1 s v
    after1 s e =
        let y = went (λ i. line_fields (initial_line i)) first.from w initial_read g v initial_left s e in
        record {
          i = y.0;
          is = y.1;
          from = y.2;
          fields = y.3;
          next = due_next line_fields text past w v first s (valued_line text h T.initial 0 first.line first.start.at) g due
              (line_goes text h T.initial 0 first.line first.start.at first.from due.ahead due.inside) initial_read_lem e;
        }

    pub refused1 : (a : Answer) → g ≡ Err a → (u e : List ℕ) → Refuses a u e
    unfolding read_body
    refused1 a e u f =
        let none = halted (λ i. line_fields (initial_line i)) first.from w initial_read g v initial_left a e in
        refuses a u f (rw none)

  -- ---- The actions

  abbrev actions_read : Spot → Read (List Action)
  actions_read s = many (one_line text h T.action 0 action_of) h.actions s.line s.start.at

  pub record After2 (s : Spot) (v e : List ℕ) : Type 0 where
    pub s₁ : Spot
    pub v₁ : List ℕ
    pub before : After1 s₁ v₁
    pub acts : List Action
    pub is : actions_read s₁ ≡ found (acts, s.line, s.start.at)
    pub from : s.from ≡ s₁.from + length (together action_shown acts)
    pub fields : v ≡ sets v₁ s₁.from (together action_shown acts)
    pub placed : e ≡ sets d 0 (starts s₁.from (map action_shown acts))
    pub next : Due text past v s

  module _ (s : Spot) (v : List ℕ) (b : After1 s v) (g : Result Spot Answer) (u e : List ℕ)
      (q : Left (together line_fields) s.from v (many (valued_line text (header_in x) T.action (get_or x 7 0)) (get_or x 1 0) s.line s.start.at) g u)
      (p : Placed line_fields s.from 0 d (many (valued_line text (header_in x) T.action (get_or x 7 0)) (get_or x 1 0) s.line s.start.at) e) where
    abbrev actions_valued : Read (List Valued)
    actions_valued = many (valued_line text h T.action 0) h.actions s.line s.start.at

    actions_are : many (valued_line text (header_in x) T.action (get_or x 7 0)) (get_or x 1 0) s.line s.start.at ≡ actions_valued
    unfolding known_of
    actions_are = ap (λ (l : List ℕ). many (valued_line text (header_in l) T.action (get_or l 7 0)) (get_or l 1 0) s.line s.start.at) known

    actions_read_lem : Left (together line_fields) s.from v actions_valued g u
    actions_read_lem = subst (λ (r : Read (List Valued)). Left (together line_fields) s.from v r g u) actions_are q

    actions_left : Left (together action_shown) s.from v (actions_read s) g u
    actions_left =
        many_left line_fields action_shown s.from v actions_valued (actions_read s) g u
        (lines_meant text h T.action 0 action_of action_line (action_back h good) h.actions s.line s.start.at) actions_read_lem

    actions_placed : Placed action_shown s.from 0 d (actions_read s) e
    actions_placed =
        many_placed line_fields action_shown s.from 0 d actions_valued (actions_read s) e
        (lines_meant text h T.action 0 action_of action_line (action_back h good) h.actions s.line s.start.at)
        (subst (λ (r : Read (List Valued)). Placed line_fields s.from 0 d r e) actions_are p)

    pub after2 : (t : Spot) → g ≡ Ok t → After2 t u e
    after2 t z =
        let y = went (together action_shown) s.from v (actions_read s) g u actions_left t z in
        record {
          s₁ = s;
          v₁ = v;
          before = b;
          acts = y.0;
          is = y.1;
          from = y.2;
          fields = y.3;
          placed = subst (λ (r : Read (List Action)). Placed action_shown s.from 0 d r e) y.1 actions_placed;
          next = due_next (together line_fields) text past v u s t actions_valued g b.next
              (many_goes text line_fields (valued_line text h T.action 0) (line_goes text h T.action 0) h.actions s.line s.start.at s.from b.next.ahead b.next.inside) actions_read_lem z;
        }

    pub refused2 : (a : Answer) → g ≡ Err a → (u' e' : List ℕ) → Refuses a u' e'
    unfolding read_body
    refused2 a z u' e' =
        let none = halted (together action_shown) s.from v (actions_read s) g u actions_left a z in
        refuses a u' e' (rw (b.is, none))

  -- ---- The methods

  abbrev methods_read : Spot → Read (List Method)
  methods_read s = many (one_method text h) h.methods s.line s.start.at

  pub record After3 (s : Spot) (v e : List ℕ) : Type 0 where
    pub s₂ : Spot
    pub v₂ : List ℕ
    pub e₂ : List ℕ
    pub before : After2 s₂ v₂ e₂
    pub ms : List Method
    pub is : methods_read s₂ ≡ found (ms, s.line, s.start.at)
    pub from : s.from ≡ s₂.from + length (together method_fields ms)
    pub fields : v ≡ sets v₂ s₂.from (together method_fields ms)
    pub placed : e ≡ sets e₂ methods_from (starts s₂.from (map method_fields ms))
    pub next : Due text past v s

  module _ (s : Spot) (v e : List ℕ) (b : After2 s v e) (g : Result Spot Answer) (u f : List ℕ)
      (q : Left (together method_fields) s.from v (many (one_method text (header_in x)) (get_or x 3 0) s.line s.start.at) g u)
      (p : Placed method_fields s.from methods_from e (many (one_method text (header_in x)) (get_or x 3 0) s.line s.start.at) f) where
    methods_are : many (one_method text (header_in x)) (get_or x 3 0) s.line s.start.at ≡ methods_read s
    unfolding known_of
    methods_are = ap (λ (l : List ℕ). many (one_method text (header_in l)) (get_or l 3 0) s.line s.start.at) known

    methods_left : Left (together method_fields) s.from v (methods_read s) g u
    methods_left = subst (λ (r : Read (List Method)). Left (together method_fields) s.from v r g u) methods_are q

    pub after3 : (t : Spot) → g ≡ Ok t → After3 t u f
    after3 t z =
        let y = went (together method_fields) s.from v (methods_read s) g u methods_left t z in
        record {
          s₂ = s;
          v₂ = v;
          e₂ = e;
          before = b;
          ms = y.0;
          is = y.1;
          from = y.2;
          fields = y.3;
          placed = subst (λ (r : Read (List Method)). Placed method_fields s.from methods_from e r f) (methods_are ∙ y.1) p;
          next = due_next (together method_fields) text past v u s t (methods_read s) g b.next
              (many_goes text method_fields (one_method text h) (method_goes text h) h.methods s.line s.start.at s.from b.next.ahead b.next.inside) methods_left z;
        }

    pub refused3 : (a : Answer) → g ≡ Err a → (u' e' : List ℕ) → Refuses a u' e'
    unfolding read_body
    refused3 a z u' e' =
        let none = halted (together method_fields) s.from v (methods_read s) g u methods_left a z in
        refuses a u' e' (rw (b.before.is, b.is, none))

  -- ---- The plan

  abbrev plan_read : Spot → Read (List ℕ)
  plan_read s = one_line text h T.plan 0 plan_of s.line s.start.at

  pub record After4 (plan s : Spot) (v e : List ℕ) : Type 0 where
    pub v₃ : List ℕ
    pub before : After3 plan v₃ e
    pub cs : List ℕ
    pub is : plan_read plan ≡ found (cs, s.line, s.start.at)
    pub from : s.from ≡ plan.from + length (line_fields (cues_line cs))
    pub fields : v ≡ sets v₃ plan.from (line_fields (cues_line cs))
    pub next : Due text past v s

  module _ (s : Spot) (v e : List ℕ) (b : After3 s v e) (g : Result Spot Answer) (u : List ℕ)
      (q : Left line_fields s.from v (valued_line text (header_in x) T.plan (get_or x 7 0) s.line s.start.at) g u) where
    plan_read_lem : Left line_fields s.from v (valued_line text h T.plan 0 s.line s.start.at) g u
    unfolding known_of
    plan_read_lem = subst (λ (l : List ℕ). Left line_fields s.from v (valued_line text (header_in l) T.plan (get_or l 7 0) s.line s.start.at) g u) known q

    plan_left : Left (λ cs. line_fields (cues_line cs)) s.from v (plan_read s) g u
    plan_left =
        left_alike line_fields (λ cs. line_fields (cues_line cs)) s.from v (valued_line text h T.plan 0 s.line s.start.at) (plan_read s) g u
        (line_meant text h T.plan 0 plan_of cues_line (plan_back h) s.line s.start.at) plan_read_lem

    pub after4 : (t : Spot) → g ≡ Ok t → After4 s t u e
    after4 t z =
        let y = went (λ cs. line_fields (cues_line cs)) s.from v (plan_read s) g u plan_left t z in
        record {
          v₃ = v;
          before = b;
          cs = y.0;
          is = y.1;
          from = y.2;
          fields = y.3;
          next = due_next line_fields text past v u s t (valued_line text h T.plan 0 s.line s.start.at) g b.next
              (line_goes text h T.plan 0 s.line s.start.at s.from b.next.ahead b.next.inside) plan_read_lem z;
        }

    pub refused4 : (a : Answer) → g ≡ Err a → (u' e' : List ℕ) → Refuses a u' e'
    unfolding read_body
    refused4 a z u' e' =
        let none = halted (λ cs. line_fields (cues_line cs)) s.from v (plan_read s) g u plan_left a z in
        refuses a u' e' (rw (b.before.before.is, b.before.is, b.is, none))

  -- ---- The nodes

  abbrev nodes_read : Spot → Read (List NodeLine)
  nodes_read s = many (one_line text h T.node 0 as_node) h.nodes s.line s.start.at

  module _ (plan s : Spot) (v e : List ℕ) (b : After4 plan s v e) (g : Result Spot Answer) (u : List ℕ)
      (q : Left (together line_fields) s.from v (many (valued_line text (header_in x) T.node (get_or x 7 0)) h.nodes s.line s.start.at) g u) where
    nodes_valued : Left (together line_fields) s.from v (many (valued_line text h T.node 0) h.nodes s.line s.start.at) g u
    unfolding known_of
    nodes_valued =
        subst (λ (l : List ℕ). Left (together line_fields) s.from v (many (valued_line text (header_in l) T.node (get_or l 7 0)) h.nodes s.line s.start.at) g u) known q

    nodes_left : Left (together node_shown) s.from v (nodes_read s) g u
    nodes_left =
        many_left line_fields node_shown s.from v (many (valued_line text h T.node 0) h.nodes s.line s.start.at) (nodes_read s) g u
        (lines_meant text h T.node 0 as_node node_line (node_back h) h.nodes s.line s.start.at) nodes_valued

    pub refused5 : (a : Answer) → g ≡ Err a → (u' e' : List ℕ) → Refuses a u' e'
    unfolding read_body
    refused5 a z u' e' =
        let none = halted (together node_shown) s.from v (nodes_read s) g u nodes_left a z in
        refuses a u' e' (rw (b.before.before.before.is, b.before.before.is, b.before.is, b.is, none))

    module _ (end : Spot) (z : g ≡ Ok end) where
      three : After3 plan b.v₃ e
      three = b.before

      two : After2 three.s₂ three.v₂ three.e₂
      two = three.before

      one : After1 two.s₁ two.v₁
      one = two.before

      nodes : (ns : List NodeLine) × (nodes_read s ≡ found (ns, end.line, end.start.at)) × (end.from ≡ s.from + length (together node_shown ns)) × (u ≡ sets v s.from (together node_shown ns))
      nodes = went (together node_shown) s.from v (nodes_read s) g u nodes_left end z

      -- The case that was read.
      k : Case
      k = record { head = h; initial = one.i; actions = two.acts; methods = three.ms; plan = b.cs; nodes = nodes.0; plan_line = plan.line }

      is_read : body_read ≡ found (k, end.line, end.start.at)
      unfolding read_body k
      is_read = rw (one.is, two.is, three.is, b.is, nodes.1)

      ended : Due text past u end
      ended =
          due_next (together line_fields) text past v u s end (many (valued_line text h T.node 0) h.nodes s.line s.start.at) g b.next
          (many_goes text line_fields (valued_line text h T.node 0) (line_goes text h T.node 0) h.nodes s.line s.start.at s.from b.next.ahead b.next.inside) nodes_valued z

      -- Where each group starts.
      at₁ : two.s₁.from ≡ actions_at k first.from
      unfolding k
      at₁ = one.from

      at₂ : three.s₂.from ≡ methods_at k first.from
      unfolding k
      at₂ = two.from ∙ ap (λ (n : ℕ). n + length (together action_shown two.acts)) at₁

      at₃ : plan.from ≡ plan_at k first.from
      unfolding k
      at₃ = three.from ∙ ap (λ (n : ℕ). n + length (together method_fields three.ms)) at₂

      at₄ : s.from ≡ nodes_at k first.from
      unfolding k
      at₄ = b.from ∙ ap (λ (n : ℕ). n + length (line_fields (cues_line b.cs))) at₃

      at₅ : end.from ≡ end_at k first.from
      unfolding k
      at₅ = nodes.2 ∙ ap (λ (n : ℕ). n + length (together node_shown nodes.0)) at₄

      filled : Filled h k first.from w d (Ok (case_at h plan.line first.from plan.from s.from)) u e
      unfolding k
      filled = record {
        head = refl;
        answer = λ j. Ok (case_at h plan.line first.from (at₃ j) (at₄ j));
        room = let l = due.long in let a = ended.ahead in let i = ended.inside in let t = ended.short in let f = at₅ in omega arith;
        fields =
            nodes.3
            ∙ (λ j. sets (b.fields j) (at₄ j) (together node_shown nodes.0))
            ∙ (λ j. sets (sets (three.fields j) (at₃ j) (line_fields (cues_line b.cs))) (nodes_at k first.from) (together node_shown nodes.0))
            ∙ (λ j. sets (sets (sets (two.fields j) (at₂ j) (together method_fields three.ms)) (plan_at k first.from) (line_fields (cues_line b.cs))) (nodes_at k first.from) (together node_shown nodes.0))
            ∙ (λ j. sets (sets (sets (sets (one.fields j) (at₁ j) (together action_shown two.acts)) (methods_at k first.from) (together method_fields three.ms)) (plan_at k first.from) (line_fields (cues_line b.cs))) (nodes_at k first.from) (together node_shown nodes.0));
        listed = three.placed ∙ (λ j. sets (two.placed j) methods_from (starts (at₂ j) (map method_fields three.ms)))
            ∙ (λ j. sets (sets d 0 (starts (at₁ j) (map action_shown two.acts))) methods_from (starts (methods_at k first.from) (map method_fields three.ms)));
      }

      -- The body, whole if the text ends with it.
      pub body_left : (r : Result CaseRead Answer) → r ≡ whole_case text h first plan s end → BodyLeft h first.from w d (to_the_end text body_read) r u e
      unfolding no_surplus
      body_left r q =
          transport (λ j. BodyLeft h first.from w d (to_the_end text (sym is_read j)) (sym q j) u e) (go (ltb end.start.at (length text)))
        where
          go : (more : Bool)
              → BodyLeft h first.from w d (◌>>◌ {A = Unit {0}} (elim more [ true ↦ refused (Unreadable end.line 1) | false ↦ found tt ]) (found k))
              (whole_if more (Unreadable end.line 1) (case_at h plan.line first.from plan.from s.from)) u e
          go true = refl
          go false = filled

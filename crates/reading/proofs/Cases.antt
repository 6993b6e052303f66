-- A whole case: the fields that its groups leave are those of the case, and the directory finds its lines among them. Assumes nothing.
use Rattle.std.specs.Prelude.{Result, Ok, Err}
use mathlib.Core.Path.{◌≡◌, refl, sym, ap, ap₂, subst, transport, ◌∙◌}
use mathlib.Core.List.{List, [], ◌∷◌, ◌++◌, map, flatten, append_assoc}
use Prim.Native.Nat.{ℕ, zero, suc, ◌+◌, ◌≤◌, ◌<◌}
use native.Mathlib.Omega.{arith}
use lib.Dec.{ltb}
use lib.ListN.{length, get_or, drop, set, length-append, length-map}
use lib.Seq.{sets, length-sets, get_or-set_other, get_or-drop}
use Rattle.rules.specs.declared.Header.{Header}
use Rattle.rules.specs.declared.Answer.{Answer}
use Rattle.rules.specs.Text.{feed_follows}
use Rattle.rules.specs.State.{no_action, action_at}
use Rattle.rules.specs.Table as T
use Rattle.rules.specs.Table.{row_of, table}
use Rattle.rules.specs.Result as R
use Rattle.rules.specs.Result.{found, refused, ◌>>=◌, ◌>>◌}
use Rattle.rules.specs.Case.{Case, Valued, Read, header_in, header_of, no_method, method_at, one_line, read_body, no_header, read_from, read_case}
use Rattle.rules.specs.Fields.{line_fields, lines_fields, header_line, action_line, method_lines, cues_line, node_line, lines_of, fields_of}
use Rattle.rules.proofs.Judgement.Reading.{ReadSays, one_line_says}
use Rattle.rules.proofs.Judgement.Sound.{GoodHeader, header_good, Sound, sound}
use Rattle.rules.proofs.Judgement.Back.{header_back}
use Rattle.lines.specs.Ranges.{known_of}
use Rattle.text.specs.declared.Cursor.{Cursor}
use Rattle.text.specs.Cursor.{cursor}
use Rattle.fields.specs.Standing.{Stands}
use Rattle.fields.specs.Directory.{Roomy, methods_from, directory_size, Finds, NodesLast}
use Rattle.fields.proofs.Standing.{stands_left, stands_right, stands_as, sets_stand, sets_append, stands_at}
use Rattle.reading.specs.declared.CaseRead.{CaseRead}
use Rattle.reading.specs.declared.Spot.{Spot}
use Rattle.reading.specs.Groups.{joined, valued_line, Due, Left, starts, method_fields}
use Rattle.reading.specs.Whole.{to_the_end, initial_fields, action_fields, methods_fields, plan_fields, node_fields, actions_at, methods_at, plan_at, nodes_at, end_at, Filled, BodyLeft, ReadsAs}
use Rattle.reading.proofs.Turns.{Goes, line_goes, due_next, went, halted}
use Rattle.reading.proofs.Meant.{means_found, means_refused}
use Rattle.reading.proofs.MethodLines.{lines_joined}

-- ---- Lists

-- Each of several lists stands where it starts.
stands_each : (fields : List ℕ) (at : ℕ) (xss : List (List ℕ)) (i : ℕ) → Stands fields at (joined xss) → i < length xss
    → Stands fields (get_or (starts at xss) i 0) (get_or xss i [])
stands_each fields at [] i s h = absurd (omega arith)
stands_each fields at (xs ∷ xss) zero s h = stands_left fields at xs (joined xss) s
stands_each fields at (xs ∷ xss) (suc i) s h = stands_each fields (at + length xs) xss i (stands_right fields at xs (joined xss) s) (omega arith)

length_starts : (at : ℕ) (xss : List (List ℕ)) → length (starts at xss) ≡ length xss
length_starts at [] = refl
length_starts at (xs ∷ xss) = ap suc (length_starts (at + length xs) xss)

sets_below : (l : List ℕ) (i k : ℕ) (vs : List ℕ) → k < i → get_or (sets l i vs) k 0 ≡ get_or l k 0
sets_below l i k [] h = refl
sets_below l i k (v ∷ vs) h = sets_below (set l i v) (suc i) k vs (omega arith) ∙ get_or-set_other l i k v 0 (λ e. omega arith)

map_at : {A B : Type 0} (f : A → B) (l : List A) (i : ℕ) (d : A) (e : B) → i < length l → get_or (map f l) i e ≡ f (get_or l i d)
map_at f [] i d e h = absurd (omega arith)
map_at f (x ∷ l) zero d e h = refl
map_at f (x ∷ l) (suc i) d e h = map_at f l i d e (omega arith)

lines_append : (xs ys : List Valued) → lines_fields (xs ++ ys) ≡ lines_fields xs ++ lines_fields ys
lines_append [] ys = refl
lines_append (x ∷ xs) ys = ap (λ (l : List ℕ). line_fields x ++ l) (lines_append xs ys) ∙ sym (append_assoc (line_fields x) (lines_fields xs) (lines_fields ys))

methods_joined : (ms : List _) → lines_fields (flatten (map method_lines ms)) ≡ joined (map method_fields ms)
unfolding flatten
methods_joined [] = refl
methods_joined (m ∷ ms) = lines_append (method_lines m) (flatten (map method_lines ms)) ∙ ap (λ (l : List ℕ). method_fields m ++ l) (methods_joined ms)

-- ---- The fields of a case, group by group

body_fields : Case → List ℕ
body_fields k = initial_fields k ++ (joined (action_fields k) ++ (joined (methods_fields k) ++ (plan_fields k ++ joined (node_fields k))))

fields_are : (k : Case) → fields_of k ≡ line_fields (header_line k.head) ++ body_fields k
unfolding fields_of lines_of body_fields
fields_are k =
    ap (λ (l : List ℕ). line_fields (header_line k.head) ++ (initial_fields k ++ l))
    (lines_append (map action_line k.actions) (flatten (map method_lines k.methods) ++ (cues_line k.plan ∷ map node_line k.nodes))
    ∙ ap₂ (λ (a b : List ℕ). a ++ b) (lines_joined action_line k.actions)
    (lines_append (flatten (map method_lines k.methods)) (cues_line k.plan ∷ map node_line k.nodes)
    ∙ ap₂ (λ (a b : List ℕ). a ++ (plan_fields k ++ b)) (methods_joined k.methods) (lines_joined node_line k.nodes)))

-- What is stored group by group is stored as one.
module _ (h : Header) (k : Case) (from : ℕ) (before directory now places : List ℕ) (r : Result CaseRead Answer) (f : Filled h k from before directory r now places) where
  stored : now ≡ sets before from (body_fields k)
  unfolding body_fields
  stored =
      let i = initial_fields k in
      let a = joined (action_fields k) in
      let m = joined (methods_fields k) in
      let p = plan_fields k in
      let n = joined (node_fields k) in
      f.fields
      ∙ sym (sets_append p n (sets (sets (sets before from i) (actions_at k from) a) (methods_at k from) m) (plan_at k from))
      ∙ sym (sets_append m (p ++ n) (sets (sets before from i) (actions_at k from) a) (methods_at k from))
      ∙ sym (sets_append a (m ++ (p ++ n)) (sets before from i) (actions_at k from))
      ∙ sym (sets_append i (a ++ (m ++ (p ++ n))) before from)

  whole_size : from + length (body_fields k) ≡ end_at k from
  unfolding body_fields
  whole_size =
      let i = initial_fields k in
      let a = joined (action_fields k) in
      let m = joined (methods_fields k) in
      let p = plan_fields k in
      let n = joined (node_fields k) in
      omega (arith, length-append i (a ++ (m ++ (p ++ n))), length-append a (m ++ (p ++ n)), length-append m (p ++ n), length-append p n)

  body_stands : Stands now from (body_fields k)
  body_stands =
      subst (λ (l : List ℕ). Stands l from (body_fields k)) (sym stored)
      (sets_stand before from (body_fields k) (let z = f.room in let e = whole_size in omega arith))

  after_initial : Stands now (actions_at k from) (joined (action_fields k) ++ (joined (methods_fields k) ++ (plan_fields k ++ joined (node_fields k))))
  unfolding body_fields
  after_initial = stands_right now from (initial_fields k) (joined (action_fields k) ++ (joined (methods_fields k) ++ (plan_fields k ++ joined (node_fields k)))) body_stands

  after_actions : Stands now (methods_at k from) (joined (methods_fields k) ++ (plan_fields k ++ joined (node_fields k)))
  after_actions = stands_right now (actions_at k from) (joined (action_fields k)) (joined (methods_fields k) ++ (plan_fields k ++ joined (node_fields k))) after_initial

  after_methods_lem : Stands now (plan_at k from) (plan_fields k ++ joined (node_fields k))
  after_methods_lem = stands_right now (methods_at k from) (joined (methods_fields k)) (plan_fields k ++ joined (node_fields k)) after_actions

  module _ (s : Sound k) (roomy : directory_size ≤ length directory) where
    action_place : (a : ℕ) → a < k.head.actions → get_or places a 0 ≡ get_or (starts (actions_at k from) (action_fields k)) a 0
    unfolding methods_from directory_size
    action_place a h =
        let few = s.head_good.few_actions in
        let n = s.actions_length in
        let starting = starts (actions_at k from) (action_fields k) in
        let count : length starting ≡ length k.actions = length_starts (actions_at k from) (action_fields k) ∙ length-map k.actions (λ a. line_fields (action_line a)) in
        let z : 0 + a ≡ a = omega arith in
        ap (λ (l : List ℕ). get_or l a 0) f.listed
        ∙ sets_below (sets directory 0 starting) methods_from a (starts (methods_at k from) (methods_fields k)) (omega arith)
        ∙ ap (λ (i : ℕ). get_or (sets directory 0 starting) i 0) (sym z)
        ∙ stands_at (sets directory 0 starting) 0 starting a (sets_stand directory 0 starting (omega arith)) (omega arith)

    method_place : (m : ℕ) → m < k.head.methods → get_or places (methods_from + m) 0 ≡ get_or (starts (methods_at k from) (methods_fields k)) m 0
    unfolding methods_from directory_size
    method_place m h =
        let few = s.head_good.few_methods in
        let n = s.methods_length in
        let base = sets directory 0 (starts (actions_at k from) (action_fields k)) in
        let starting = starts (methods_at k from) (methods_fields k) in
        let count : length starting ≡ length k.methods = length_starts (methods_at k from) (methods_fields k) ∙ length-map k.methods method_fields in
        let size : length base ≡ length directory = length-sets directory 0 (starts (actions_at k from) (action_fields k)) in
        ap (λ (l : List ℕ). get_or l (methods_from + m) 0) f.listed
        ∙ stands_at (sets base methods_from starting) methods_from starting m (sets_stand base methods_from starting (omega arith)) (omega arith)

    pub filled_finds : Finds k now places from (plan_at k from) (nodes_at k from)
    unfolding action_at method_at body_fields
    filled_finds = record {
      initial_here = stands_left now from (initial_fields k) (joined (action_fields k) ++ (joined (methods_fields k) ++ (plan_fields k ++ joined (node_fields k)))) body_stands;
      action_here = λ a h.
          let n = s.actions_length in
          let inside : a < length (action_fields k) = let e = length-map k.actions (λ x. line_fields (action_line x)) in omega arith in
          transport (λ j. Stands now (sym (action_place a h) j) (map_at (λ x. line_fields (action_line x)) k.actions a no_action [] (omega arith) j))
          (stands_each now (actions_at k from) (action_fields k) a
          (stands_left now (actions_at k from) (joined (action_fields k)) (joined (methods_fields k) ++ (plan_fields k ++ joined (node_fields k))) after_initial) inside);
      method_here = λ m h.
          let n = s.methods_length in
          let inside : m < length (methods_fields k) = let e = length-map k.methods method_fields in omega arith in
          transport (λ j. Stands now (sym (method_place m h) j) (map_at method_fields k.methods m no_method [] (omega arith) j))
          (stands_each now (methods_at k from) (methods_fields k) m
          (stands_left now (methods_at k from) (joined (methods_fields k)) (plan_fields k ++ joined (node_fields k)) after_actions) inside);
      plan_here = stands_left now (plan_at k from) (plan_fields k) (joined (node_fields k)) after_methods_lem;
      nodes_here = stands_as now (nodes_at k from) (joined (node_fields k)) (lines_fields (map node_line k.nodes)) (sym (lines_joined node_line k.nodes))
          (stands_right now (plan_at k from) (plan_fields k) (joined (node_fields k)) after_methods_lem);
    }

-- ---- The header line, and the case as it goes on from there

header_fields_lem : (h : Header)
    → line_fields (header_line h) ≡ 78 ∷ h.propositions ∷ h.actions ∷ h.compounds ∷ h.methods ∷ h.goal ∷ h.cues ∷ h.nodes ∷ []
unfolding line_fields header_line row_of table
header_fields_lem h = refl

-- The numbers after the letter, where a header's fields stand.
header_read : (v : List ℕ) (h : Header) → Stands v 0 (line_fields (header_line h)) → header_in (drop 1 v) ≡ h
header_read v h s =
    λ j. record {
      propositions = same 0 (omega arith) j;
      actions = same 1 (omega arith) j;
      compounds = same 2 (omega arith) j;
      methods = same 3 (omega arith) j;
      goal = same 4 (omega arith) j;
      cues = same 5 (omega arith) j;
      nodes = same 6 (omega arith) j;
    }
  where
    listed : List ℕ
    listed = 78 ∷ h.propositions ∷ h.actions ∷ h.compounds ∷ h.methods ∷ h.goal ∷ h.cues ∷ h.nodes ∷ []

    same : (i : ℕ) → i < 7 → get_or (drop 1 v) i 0 ≡ get_or listed (suc i) 0
    same i less =
        let one : 1 + i ≡ 0 + suc i = omega arith in
        get_or-drop 1 v i 0 ∙ ap (λ (k : ℕ). get_or v k 0) one
        ∙ stands_at v 0 listed (suc i) (stands_as v 0 (line_fields (header_line h)) listed (header_fields_lem h) s) (omega arith)

module _ (text : List ℕ) (past : ℕ) (w d : List ℕ) (feeds : (p : ℕ) → feed_follows text p ≡ ltb p past) (short : length text ≤ 65535) (long : Roomy text w)
    (roomy : directory_size ≤ length d) where
  abbrev start : Spot
  start = record { line = 1; start = cursor 0; from = 0 }

  pub first_due : Due text past w start
  first_due = record { feeds = feeds; short = short; inside = omega arith; counted = omega arith; long = long; ahead = omega arith }

  -- The same for a cursor that is at the text's start.
  pub start_due : (c₀ : Cursor) → c₀ ≡ cursor 0 → Due text past w (record { line = 1; start = c₀; from = 0 })
  start_due c₀ e = subst (λ (c : Cursor). Due text past w (record { line = 1; start = c; from = 0 })) (sym e) first_due

  abbrev first : Read Valued
  first = valued_line text no_header T.header 0 1 0

  pub first_left : (c₀ : Cursor) → c₀ ≡ cursor 0 → (x : List ℕ) → x ≡ known_of no_header 0 → (g : Result Spot Answer) (v : List ℕ)
      → Left line_fields 0 w (valued_line text (header_in x) T.header (get_or x 7 0) 1 c₀.at) g v → Left line_fields 0 w first g v
  unfolding known_of
  first_left c₀ e x k g v q = transport (λ j. Left line_fields 0 w (valued_line text (header_in (k j)) T.header (get_or (k j) 7 0) 1 (e j).at) g v) q

  -- The header that it is.
  abbrev headed : Read Header
  headed = one_line text no_header T.header 0 header_of 1 0

  module _ (g : Result Spot Answer) (v : List ℕ) (q : Left line_fields 0 w first g v) where
    pub first_refused : (a : Answer) → g ≡ Err a → (u e : List ℕ) → ReadsAs (read_case text) (Err a) u e
    unfolding read_case read_from
    first_refused a z u e =
        let none : headed ≡ refused a = means_refused text no_header T.header 0 header_of 1 0 a (halted line_fields 0 w first g v q a z) in
        subst (λ (r : R.Result Case). ReadsAs r (Err a) u e) (sym (ap (λ (x : Read Header). to_the_end text (x >>= λ (h, n, place). read_body text h n place)) none)) refl

    module _ (s : Spot) (z : g ≡ Ok s) where
      pub read : (x : Valued) × (first ≡ found (x, s.line, s.start.at)) × (s.from ≡ 0 + length (line_fields x)) × (v ≡ sets w 0 (line_fields x))
      read = went line_fields 0 w first g v q s z

      pub h : Header
      h = header_of read.0

      is : header_line h ≡ read.0
      unfolding h
      is = subst (ReadSays (λ (x : Valued). header_line (header_of x) ≡ x)) read.1
          (one_line_says text no_header T.header 0 (λ x. x) 1 0 (λ x. header_line (header_of x) ≡ x) header_back)

      headed_is : headed ≡ found (h, s.line, s.start.at)
      unfolding h
      headed_is = means_found text no_header T.header 0 header_of 1 0 read.0 s.line s.start.at read.1

      pub good : GoodHeader h
      good = subst (ReadSays GoodHeader) headed_is (one_line_says text no_header T.header 0 header_of 1 0 GoodHeader header_good)

      stored_header : v ≡ sets w 0 (line_fields (header_line h))
      stored_header = read.3 ∙ ap (λ (x : Valued). sets w 0 (line_fields x)) (sym is)

      header_size : length (line_fields (header_line h)) ≡ 8
      header_size = ap length (header_fields_lem h)

      -- The header's eight fields took sixteen bytes.
      room_for_header : 8 ≤ length w
      room_for_header =
          let g = subst (Goes text line_fields 1 0 0) read.1 (line_goes text no_header T.header 0 1 0 0 (omega arith) (omega arith)) in
          let n = header_size in
          let m = ap (λ (x : Valued). length (line_fields x)) is in
          omega (arith, g.1, g.3)

      pub header_is : header_in (drop 1 v) ≡ h
      header_is =
          header_read v h
          (subst (λ (l : List ℕ). Stands l 0 (line_fields (header_line h))) (sym stored_header)
          (sets_stand w 0 (line_fields (header_line h)) (let e = header_size in let m = room_for_header in omega arith)))

      pub kept : length v ≡ length w
      kept = ap length read.3 ∙ length-sets w 0 (line_fields read.0)

      pub header_room : 8 ≤ length v
      header_room = let k = kept in let m = room_for_header in omega arith

      pub body_due : Due text past v s
      body_due = due_next line_fields text past w v start s first g first_due (line_goes text no_header T.header 0 1 0 0 (omega arith) (omega arith)) q z

      body_from : s.from ≡ 0 + length (line_fields (header_line h))
      body_from = read.2 ∙ ap (λ (x : Valued). 0 + length (line_fields x)) (sym is)

      whole_stands : (k : Case) (r : Result CaseRead Answer) (u e : List ℕ) → Filled h k s.from v d r u e → Stands u 0 (line_fields (header_line h) ++ body_fields k)
      whole_stands k r u e f =
          let head = line_fields (header_line h) in
          let size : s.from ≡ 0 + length head = body_from in
          let all : u ≡ sets w 0 (head ++ body_fields k)
          = stored h k s.from v d u e r f ∙ (λ j. sets (stored_header j) (size j) (body_fields k)) ∙ sym (sets_append head (body_fields k) w 0) in
          subst (λ (l : List ℕ). Stands l 0 (head ++ body_fields k)) (sym all)
          (sets_stand w 0 (head ++ body_fields k)
          (let n = length-append head (body_fields k) in let m = whole_size h k s.from v d u e r f in let o = f.room in let l = kept in omega arith))

      whole_is : (k : Case) (r : Result CaseRead Answer) (u e : List ℕ) → Filled h k s.from v d r u e → fields_of k ≡ line_fields (header_line h) ++ body_fields k
      whole_is k r u e f = fields_are k ∙ ap (λ (y : Header). line_fields (header_line y) ++ body_fields k) f.head

      nodes_last : (k : Case) (r : Result CaseRead Answer) (u e : List ℕ) → Filled h k s.from v d r u e → NodesLast k (nodes_at k s.from)
      nodes_last k r u e f =
          let head = line_fields (header_line h) in
          let nodes : length (lines_fields (map node_line k.nodes)) ≡ length (joined (node_fields k)) = ap length (lines_joined node_line k.nodes) in
          let all : length (fields_of k) ≡ length head + length (body_fields k) = ap length (whole_is k r u e f) ∙ length-append head (body_fields k) in
          let size = body_from in
          let end = whole_size h k s.from v d u e r f in
          omega arith

      pub case_read : (h' : Header) → h' ≡ header_in (drop 1 v) → (r : Result CaseRead Answer) (u e : List ℕ)
          → BodyLeft h' s.from v d (to_the_end text (read_body text h' s.line s.start.at)) r u e → ReadsAs (read_case text) r u e
      unfolding read_case read_from
      case_read h' same r u e b =
          let goes : read_case text ≡ to_the_end text (read_body text h s.line s.start.at)
          = ap (λ (x : Read Header). to_the_end text (x >>= λ (y, n, place). read_body text y n place)) headed_is in
          subst (λ (x : R.Result Case). ReadsAs x r u e) (sym goes)
          (go (to_the_end text (read_body text h s.line s.start.at)) goes
          (subst (λ (y : Header). BodyLeft y s.from v d (to_the_end text (read_body text y s.line s.start.at)) r u e) (same ∙ header_is) b))
        where
          go : (x : R.Result Case) → read_case text ≡ x → BodyLeft h s.from v d x r u e → ReadsAs x r u e
          go (refused a) c f = f
          go (found k) c f = (
            s.from,
            plan_at k s.from,
            nodes_at k s.from,
            f.answer,
            stands_as u 0 (line_fields (header_line h) ++ body_fields k) (fields_of k) (sym (whole_is k r u e f)) (whole_stands k r u e f),
            filled_finds h k s.from v d u e r f (sound text k c) roomy,
            nodes_last k r u e f,
          )

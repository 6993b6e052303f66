-- Rows 3 and 4 of the table: where reading refuses a text, its first fault stands, as the text's lines and fields show it. Assumes nothing.
use mathlib.Core.Path.{◌≡◌, refl, subst}
use mathlib.Core.Bool.{Bool, true, false}
use mathlib.Core.List.{List, [], ◌∷◌, ◌++◌, append-nil}
use Prim.Native.Nat.{ℕ, zero, suc, ◌+◌}
use lib.Dec.{ltb}
use lib.ListN.{length, replicate}
use borrow.Author.Tests.{ltb-true}
use Rattle.rules.specs.declared.Header.{Header}
use Rattle.rules.specs.declared.Answer.{Answer}
use Rattle.rules.specs.declared.Answer.TheVariants.{Accepted, ShortList, LongText, Unreadable, OutOfRange, Inapplicable, WrongTask, TooDeep, WrongClaim, Unclaimed, OrderBroken, BeforeBroken, AfterBroken, BetweenBroken, ShortOutput, TooManyChoices, NoChoice, WrongShape, WrongName, WrongId, WrongLetter, SurplusNode, MissingNode}
use Rattle.rules.specs.Table.{Role, header, initial, action, method, constraint, plan, node, Value, LineRead, line, read_line}
use Rattle.rules.specs.Result.{Result, found, refused, ◌>>=◌, ◌>>◌}
use Rattle.rules.specs.Case.{Case, Valued, scalar_at, header_of, initial_of, action_of, as_constraint, plan_of, as_node, Read, read_as, one_line, many, one_method, read_body, no_header, read_from, no_surplus, read_case}
use Rattle.rules.specs.Faults.{Awaited, after_header, due_after, Comes, Unread, Outside}
use Rattle.rules.proofs.Outcomes.{LineSays}
use Rattle.rules.proofs.Faults.Line.{Starts, starts_first, surplus_line, Reads, line_says}
pub mod Fields
pub mod Items
pub mod Rows
pub mod Line

-- What reading says of the first fault.
abbrev pub FaultSays : List ℕ → Answer → Type 0
FaultSays text (Accepted c n) = ⊥
FaultSays text (ShortList l) = ⊥
FaultSays text LongText = ⊥
FaultSays text (Unreadable l i) = Unread text l i
FaultSays text (OutOfRange l i) = Outside text l i
FaultSays text (Inapplicable l c) = ⊥
FaultSays text (WrongTask l) = ⊥
FaultSays text (TooDeep l) = ⊥
FaultSays text (WrongClaim l p) = ⊥
FaultSays text (Unclaimed l p) = ⊥
FaultSays text (OrderBroken l c) = ⊥
FaultSays text (BeforeBroken l c) = ⊥
FaultSays text (AfterBroken l c) = ⊥
FaultSays text (BetweenBroken l c) = ⊥
FaultSays text (ShortOutput i) = ⊥
FaultSays text (TooManyChoices i) = ⊥
FaultSays text (NoChoice i) = ⊥
FaultSays text (WrongShape l i) = ⊥
FaultSays text (WrongName l i) = ⊥
FaultSays text (WrongId l) = ⊥
FaultSays text (WrongLetter l) = ⊥
FaultSays text (SurplusNode l) = ⊥
FaultSays text (MissingNode l) = ⊥

abbrev pub CaseSays : List ℕ → Result Case → Type 0
CaseSays text (found k) = Unit {0}
CaseSays text (refused r) = FaultSays text r

module _ (text : List ℕ) where
  -- P of what is read, of the number of the next line and of its place; at a refusal, the fault there.
  abbrev ReadSays : {A : Type 0} → (A → ℕ → ℕ → Type 0) → Read A → Type 0
  ReadSays P (found (a, l, place)) = P a l place
  ReadSays P (refused r) = FaultSays text r

  read_then : {A B : Type 0} (P : A → ℕ → ℕ → Type 0) (Q : B → ℕ → ℕ → Type 0) (x : Read A) (rest : A × ℕ × ℕ → Read B) → ReadSays P x
      → ((a : A) (l place : ℕ) → P a l place → ReadSays Q (rest (a, l, place))) → ReadSays Q (x >>= rest)
  read_then P Q (found (a, l, place)) rest p f = f a l place p
  read_then P Q (refused r) rest p f = p

  -- Line l starts here, and from it on these lines are due.
  abbrev Due : Header → List Awaited → ℕ → ℕ → Type 0
  Due h awaited l place = Comes text l (h, awaited) × Starts text l place

  one_says : {A : Type 0} (Q : A → ℕ → ℕ → Type 0) (h : Header) (role : Role) (s : ℕ) (later : List Awaited) (means : Valued → A) (l place : ℕ)
      → Due h ((role, s) ∷ later) l place
      → ((b : ℕ) (vs : List Value) (next : ℕ) → Reads text l h role later vs next → Q (means (b, vs)) (l + 1) next)
      → ReadSays Q (one_line text h role s means l place)
  unfolding one_line
  one_says {A} Q h role s later means l place (comes, starts) f = go (read_line text role h s place) (line_says text l place h role s later comes starts)
    where
      go : (x : LineRead) → LineSays (Unread text l) (Outside text l) (λ b vs next. Reads text l h role later vs next) x → ReadSays Q (read_as means l x)
      go (line b vs next) p = f b vs next p
      go (LineRead.unreadable field) p = p
      go (LineRead.outside field) p = p

  -- What is read where one of the lines that are due is first: once it is over, the others are due.
  abbrev Takes : {A : Type 0} → Header → Awaited → (ℕ → ℕ → Read A) → Type 0
  Takes {A} h x one = (later : List Awaited) (l place : ℕ) → Due h (x ∷ later) l place → ReadSays {A = A} (λ a. Due h later) (one l place)

  many_say : {A : Type 0} (h : Header) (x : Awaited) (one : ℕ → ℕ → Read A) → Takes h x one → (count : ℕ) (later : List Awaited) (l place : ℕ)
      → Due h (replicate count x ++ later) l place → ReadSays {A = List A} (λ xs. Due h later) (many one count l place)
  many_say h x one f zero later l place d = d
  many_say {A} h x one f (suc count) later l place d =
      read_then (λ a. Due h (replicate count x ++ later)) (λ xs. Due h later) (one l place) _ (f (replicate count x ++ later) l place d)
      (λ a l' place' d'. read_then (λ xs. Due h later) (λ xs. Due h later) (many one count l' place') _ (many_say h x one f count later l' place' d')
      (λ xs l'' place'' d''. d''))

  -- A line that changes nothing of what is due after it.
  plain : {A : Type 0} (h : Header) (role : Role) (s : ℕ) (means : Valued → A)
      → ((numbers : List ℕ) (later : List Awaited) → due_after role numbers h later ≡ (h, later)) → Takes h (role, s) (one_line text h role s means)
  plain {A} h role s means same later l place d =
      one_says (λ a. Due h later) h role s later means l place d
      (λ b vs next p. (subst (λ (x : Header × List Awaited). Comes text (l + 1) x) (same p.numbers later) p.comes, p.starts))

  method_says : (h : Header) → Takes h (method, 0) (one_method text h)
  unfolding one_method due_after
  method_says h later l place d =
      read_then (λ vs. Due h (replicate (scalar_at vs 2) (constraint, scalar_at vs 1) ++ later)) (λ m. Due h later) (one_line text h method 0 _ l place) _
      (one_says _ h method 0 later _ l place d (λ b vs next p. (rw (p.meant.1, p.meant.0) p.comes, p.starts)))
      (λ vs l' place' d'.
      let one = one_line text h constraint (scalar_at vs 1) as_constraint in
      read_then (λ cs. Due h later) (λ m. Due h later) (many one (scalar_at vs 2) l' place') _
      (many_say h (constraint, scalar_at vs 1) one (plain h constraint (scalar_at vs 1) as_constraint (λ ns later. refl)) (scalar_at vs 2) later l' place' d')
      (λ cs l'' place'' d''. d''))

  -- No line is due any more.
  abbrev Over : Case → ℕ → ℕ → Type 0
  Over k l place = (h : Header) × Due h [] l place

  body_says : (h : Header) (l place : ℕ) → Due h (after_header h) l place → ReadSays Over (read_body text h l place)
  unfolding read_body after_header due_after
  body_says h l place d =
      let nodes : List Awaited = replicate h.nodes (node, 0) in
      let methods : List Awaited = replicate h.methods (method, 0) in
      read_then (λ i. Due h (replicate h.actions (action, 0) ++ (methods ++ ((plan, 0) ∷ nodes)))) Over (one_line text h initial 0 initial_of l place) _
      (plain h initial 0 initial_of (λ ns later. refl) _ l place d)
      (λ i l₁ p₁ d₁. read_then (λ xs. Due h (methods ++ ((plan, 0) ∷ nodes))) Over (many (one_line text h action 0 action_of) h.actions l₁ p₁) _
      (many_say h (action, 0) _ (plain h action 0 action_of (λ ns later. refl)) h.actions _ l₁ p₁ d₁)
      (λ acts l₂ p₂ d₂. read_then (λ ms. Due h ((plan, 0) ∷ nodes)) Over (many (one_method text h) h.methods l₂ p₂) _
      (many_say h (method, 0) _ (method_says h) h.methods _ l₂ p₂ d₂)
      (λ ms l₃ p₃ d₃. read_then (λ cs. Due h nodes) Over (one_line text h plan 0 plan_of l₃ p₃) _
      (plain h plan 0 plan_of (λ ns later. refl) nodes l₃ p₃ d₃)
      (λ cs l₄ p₄ d₄. read_then (λ ns. Due h []) Over (many (one_line text h node 0 as_node) h.nodes l₄ p₄) _
      (many_say h (node, 0) _ (plain h node 0 as_node (λ ns later. refl)) h.nodes [] l₄ p₄ (rw append-nil d₄))
      (λ ns l₅ p₅ d₅. (h, d₅))))))

  from_says : ReadSays Over (read_from text 1 0)
  unfolding read_from due_after header_of
  from_says =
      read_then (λ h. Due h (after_header h)) Over (one_line text no_header header 0 header_of 1 0) _
      (one_says _ no_header header 0 [] header_of 1 0 (Comes.first, starts_first text) (λ b vs next p. (rw p.meant p.comes, p.starts)))
      body_says

  over_says : (k : Case) (l place : ℕ) → Over k l place → CaseSays text (no_surplus text l place >> found k)
  unfolding no_surplus
  over_says k l place (h, (comes, starts)) = go (ltb place (length text)) refl
    where
      go : (t : Bool) → ltb place (length text) ≡ t
          → CaseSays text (◌>>◌ {A = Unit {0}} (elim t [ true ↦ refused (Unreadable l 1) | false ↦ found tt ]) (found k))
      go true e = Unread.line comes (surplus_line text l place starts (ltb-true place (length text) e))
      go false e = tt

-- Reading finds a case, or refuses the text at its first fault.
pub reading_shows : (text : List ℕ) → CaseSays text (read_case text)
unfolding read_case
reading_shows text = go (read_from text 1 0) (from_says text)
  where
    go : (x : Read Case) → ReadSays text (Over text) x
        → CaseSays text (x >>= (λ (k, l, place). no_surplus text l place >> found k))
    go (found (k, l, place)) p = over_says text k l place p
    go (refused r) p = p

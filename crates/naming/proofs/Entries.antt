-- One name after others: it is among them exactly if the table answers an earlier entry; and what its line leaves, in each of the three ways
-- that it can end. Assumes nothing.
use mathlib.Core.Path.{◌≡◌, refl, sym, ap, ap₂, subst, ◌∙◌}
use mathlib.Core.Bool.{Bool, true, false, ◌||◌}
use mathlib.Core.List.{List, ◌∷◌}
use mathlib.Core.Option.{none, some}
use mathlib.Core.Option as maybe
use Prim.Native.Nat.{ℕ, zero, suc, ◌+◌, ◌-◌, ◌<◌}
use native.Mathlib.Omega.{arith}
use lib.ListN.{length, get_or, take, drop, set, length-set}
use lib.Seq.{get_or-set_same, get_or-set_other}
use Rattle.std.specs.Prelude.{Option, None, Some, Ok, Err}
use Rattle.rules.specs.declared.Answer.TheVariants.{WrongShape, WrongName}
use Rattle.rules.specs.Result.{Result, found, refused, ◌>>=◌, ◌>>◌}
use Rattle.rules.specs.Text.{is_comma, feed_follows}
use Rattle.rules.specs.Case.{Read}
use Rattle.rules.specs.Faults.{pieces}
use Rattle.rules.specs.Tokens.{line_of, due_line, shaped}
use Rattle.rules.specs.Naming.{is_among, name_for, not_again}
use Rattle.probing.specs.Probing.{earlier, first, Kept}
use Rattle.names.specs.Names.{name_at, same_name, Placed, hash_name}
use Rattle.names.proofs.Keys.{kept_set, placed_set}
use Rattle.naming.specs.Lines.{spot, name_if, name_due, Lists, earlier_names, Entered, one_name, NextName, Left}

-- ---- The names of the first entries

-- Only these entries count.
names_agree : (text starts ends starts' ends' : List ℕ) (n : ℕ) → ((e : ℕ) → e < n → get_or starts' e 0 ≡ get_or starts e 0)
    → ((e : ℕ) → e < n → get_or ends' e 0 ≡ get_or ends e 0) → earlier_names text starts' ends' n ≡ earlier_names text starts ends n
names_agree text starts ends starts' ends' zero from to = refl
names_agree text starts ends starts' ends' (suc n) from to =
    ap₂ ◌∷◌ (ap₂ (λ (a b : ℕ). take (b - a) (drop a text)) (from n (omega arith)) (to n (omega arith)))
    (names_agree text starts ends starts' ends' n (λ e h. from e (omega arith)) (λ e h. to e (omega arith)))

abbrev is_at : Option ℕ → Bool
is_at (Some e) = true
is_at None = false

-- A name is among them exactly if the table finds one of them by it.
among_first : (text starts ends name : List ℕ) (n : ℕ) → is_among (earlier_names text starts ends n) name ≡ is_at (first (same_name text starts ends name) n)
among_first text starts ends name zero = refl
among_first text starts ends name (suc n) =
    ap (λ (x : Bool). same_name text starts ends name n || x) (among_first text starts ends name n) ∙ go (first (same_name text starts ends name) n) (same_name text starts ends name n)
  where
    go : (r : Option ℕ) (b : Bool) → (b || is_at r) ≡ is_at (earlier r b n)
    go (Some e) true = refl
    go (Some e) false = refl
    go None true = refl
    go None false = refl

-- ---- What the definition reads

module _ (text : List ℕ) (i : ℕ) (earlierOnes : List (List ℕ)) (n place : ℕ) where
  -- Where the next line starts.
  abbrev after : ℕ
  after = place + suc (length (line_of (drop place text)))

  abbrev named : maybe.Option (List ℕ) → Read (List ℕ)
  named o = shaped 1 n o >>= λ name. not_again n earlierOnes name >> found (name, n + 1, after)

  one_is : one_name text i earlierOnes n place ≡ named (name_due text i place)
  unfolding one_name name_due due_line
  one_is = go (feed_follows text place)
    where
      go : (x : Bool)
          → ◌≡◌ {A = Read (List ℕ)}
          (elim x as (λ y. Read (List ℕ)) [ true ↦ found (line_of (drop place text), n + 1, after) | false ↦ refused (WrongShape n 1) ]
          >>= λ (line, n', place'). shaped 1 n (name_for i (pieces is_comma line)) >>= λ name. not_again n earlierOnes name >> found (name, n', place'))
          (named (name_if x i (line_of (drop place text))))
      go true = refl
      go false = refl

  one_wrong : name_due text i place ≡ none → one_name text i earlierOnes n place ≡ refused (WrongShape n 1)
  one_wrong e = one_is ∙ ap named e

  abbrev unless : Bool → Result (Unit {0})
  unless x = elim x [ true ↦ refused (WrongName n 1) | false ↦ found tt ]

  one_by : (name : List ℕ) (x : Bool) → name_due text i place ≡ some name → is_among earlierOnes name ≡ x
      → one_name text i earlierOnes n place ≡ (unless x >> found (name, n + 1, after))
  unfolding not_again
  one_by name x e h = one_is ∙ (ap named e ∙ ap (λ (y : Bool). unless y >> found (name, n + 1, after)) h)

-- ---- What the code leaves

module _ (text starts ends slots : List ℕ) (i n place : ℕ) where
  abbrev due : Read (List ℕ)
  due = one_name text i (earlier_names text starts ends i) n place

  pub other_left : name_due text i place ≡ none → (s e l : List ℕ) → Left (NextName text starts ends i s e l) due (Err (WrongShape n 1))
  other_left h s e l =
      subst (λ (r : Read (List ℕ)). Left (NextName text starts ends i s e l) r (Err (WrongShape n 1)))
      (sym (one_wrong text i (earlier_names text starts ends i) n place h)) refl

  module _ (from to : ℕ) (entered : Entered text starts ends slots i) (few : i < 2048) (lists : Lists text i place from to) where
    abbrev starts' : List ℕ
    starts' = set starts i from

    abbrev ends' : List ℕ
    ends' = set ends i to

    placed' : Placed text starts' ends'
    placed' = let h = lists.inside in placed_set text starts ends i from to lists.order (omega arith) entered.placed

    long : length starts' ≡ 2048
    long = length-set starts i from ∙ entered.starts_length

    pub insert_ready : (length slots ≡ 4096) × (i < 4096) × (i < length starts') × Placed text starts' ends' × Kept (same_name text starts' ends') hash_name slots i
    insert_ready = (
      entered.slots_length,
      omega arith,
      omega (arith, long),
      placed',
      kept_set text starts ends slots i i from to (omega arith) entered.kept,
    )

    abbrev name : List ℕ
    name = take (to - from) (drop from text)

    stored : name_at text starts' ends' i ≡ name
    stored =
        ap₂ (λ (a b : ℕ). take (b - a) (drop a text)) (get_or-set_same starts i from 0 (omega (arith, entered.starts_length)))
        (get_or-set_same ends i to 0 (omega (arith, entered.starts_length, entered.placed.pairs)))

    others : earlier_names text starts' ends' i ≡ earlier_names text starts ends i
    others =
        names_agree text starts ends starts' ends' i (λ e h. get_or-set_other starts i e from 0 (λ s. omega arith)) (λ e h. get_or-set_other ends i e to 0 (λ s. omega arith))

    -- The table's answer says whether the name is among the earlier ones.
    among : (r : Option ℕ) → r ≡ first (same_name text starts' ends' (name_at text starts' ends' i)) i → is_among (earlier_names text starts ends i) name ≡ is_at r
    among r e =
        ap (λ (l : List (List ℕ)). is_among l name) (sym others)
        ∙ (among_first text starts' ends' name i ∙ sym (ap is_at (e ∙ ap (λ (k : List ℕ). first (same_name text starts' ends' k) i) stored)))

    pub again_left : (x : ℕ) → Some x ≡ first (same_name text starts' ends' (name_at text starts' ends' i)) i → (s e l : List ℕ)
        → Left (NextName text starts ends i s e l) due (Err (WrongName n 1))
    again_left x h s e l =
        subst (λ (r : Read (List ℕ)). Left (NextName text starts ends i s e l) r (Err (WrongName n 1)))
        (sym (one_by text i (earlier_names text starts ends i) n place name true lists.name (among (Some x) h))) refl

    pub name_left : None ≡ first (same_name text starts' ends' (name_at text starts' ends' i)) i → (l : List ℕ) → length l ≡ length slots
        → Kept (same_name text starts' ends') hash_name l (suc i) → Left (NextName text starts ends i starts' ends' l) due (Ok (spot (n + 1) (to + 1)))
    name_left h l same kept =
        let next : to + 1 ≡ place + suc (length (line_of (drop place text))) = omega (arith, lists.ends) in
        subst (λ (r : Read (List ℕ)). Left (NextName text starts ends i starts' ends' l) r (Ok (spot (n + 1) (to + 1))))
        (sym (one_by text i (earlier_names text starts ends i) n place name false lists.name (among None h))) (
          ap (λ (p : ℕ). Ok (spot (n + 1) p)) next,
          record {
            entered = record { placed = placed'; kept = kept; starts_length = long; slots_length = same ∙ entered.slots_length };
            names = ap₂ ◌∷◌ stored others;
          },
        )

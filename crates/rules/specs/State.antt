-- States and cues (01, "States and cues"). A state, or a set of propositions, is the list of its words. Assumes nothing.
use Rattle.std.specs.Prelude.{◌≡◌, ◌↔◌, Bool, true, false, ◌&&◌, not, List, [], ◌∷◌, ℕ, zero, suc, ◌+◌, ◌/◌, ◌%◌, ◌^◌, ◌<◌, eqb, get_or, set}
use Rattle.std.proofs.Math.Option.{Option, none, some}
use Rattle.std.specs.Int.Bits.{bit_and, bit_or, bit_xor}

-- "A state is the set of those that are true, held as" 64-bit words: "a state eight words" (02, Card 3).
unfoldable pub word_count : ℕ
word_count = 8

-- How many propositions a model may have: "The limit becomes 512" (02, Card 3).
unfoldable pub proposition_most : ℕ
proposition_most = 512

abbrev pub State : Type 0
State = List ℕ

abbrev pub word : State → ℕ → ℕ
word s i = get_or s i 0

-- Bit i of a number.
unfoldable pub bit : ℕ → ℕ → Bool
bit w i = eqb (w / 2 ^ i % 2) 1

-- "proposition p is bit (p mod 64) of word (p div 64)"
unfoldable pub member : State → ℕ → Bool
member s p = bit (word s (p / 64)) (p % 64)

-- The list f 0, f 1, .. of n members, counted from i.
abbrev pub tabulate : ℕ → ℕ → (ℕ → ℕ) → List ℕ
tabulate zero i f = []
tabulate (suc n) i f = f i ∷ tabulate n (suc i) f

-- f holds of each of the n numbers from i on.
abbrev pub every : ℕ → ℕ → (ℕ → Bool) → Bool
every zero i f = true
every (suc n) i f = f i && every n (suc i) f

unfoldable pub no_propositions : State
no_propositions = tabulate word_count 0 (λ i. 0)

-- The set s and proposition p.
unfoldable pub insert : State → ℕ → State
insert s p = set s (p / 64) (bit_or (word s (p / 64)) (2 ^ (p % 64)))

-- The set s and the propositions of a list.
abbrev pub insert_all : State → List ℕ → State
insert_all s [] = s
insert_all s (p ∷ ps) = insert_all (insert s p) ps

-- "An action has four sets: needed, forbidden, added, deleted."
pub record Action : Type 0 where
  pub needed : State
  pub forbidden : State
  pub added : State
  pub deleted : State

-- The bits of a word that are not in another.
unfoldable pub without : ℕ → ℕ → ℕ
without a b = bit_xor a (bit_and a b)

-- "It applies if every needed one is true and no forbidden one is." In one word of each set, then in all.
unfoldable pub applies_word : ℕ → ℕ → ℕ → Bool
applies_word w needed forbidden = eqb (without needed w) 0 && eqb (bit_and forbidden w) 0

unfoldable pub applies : State → Action → Bool
applies s a = every word_count 0 (λ i. applies_word (word s i) (word a.needed i) (word a.forbidden i))

-- "The next state is the old one without the deleted, then with the added; a proposition in both ends true."
unfoldable pub next_word : ℕ → ℕ → ℕ → ℕ
next_word old added deleted = bit_or (without old deleted) added

unfoldable pub next : State → Action → State
next s a = tabulate word_count 0 (λ i. next_word (word s i) (word a.added i) (word a.deleted i))

-- "The *step* call takes any state and four sets as words and gives yes with the next state, or no with the state as it came."
unfoldable pub step : State → Action → Bool × State
step s a = elim (applies s a) [ true ↦ (true, next s a) | false ↦ (false, s) ]

-- "The step shall pass a word through untouched where its added and deleted words are both zero" (02, Card 5): such a word is quiet.
unfoldable pub quiet : ℕ → ℕ → Bool
quiet added deleted = eqb added 0 && eqb deleted 0

unfoldable pub touched : Action → ℕ → Bool
touched a w = not (quiet (word a.added w) (word a.deleted w))

-- The number m, with bit i if b.
abbrev pub with_bit : ℕ → ℕ → Bool → ℕ
with_bit m i true = bit_or m (2 ^ i)
with_bit m i false = m

-- The number with bit i for each i below n that f holds of, and no other bit.
abbrev pub bits_below : ℕ → (ℕ → Bool) → ℕ
bits_below zero f = 0
bits_below (suc n) f = with_bit (bits_below n f) n (f n)

-- "and answer for the trace which words it computed, word w as bit w of one number: after a yes exactly the others, after a no none"
abbrev pub computed_after : Bool → Action → ℕ
computed_after true a = bits_below word_count (touched a)
computed_after false a = 0

unfoldable pub computed : State → Action → ℕ
computed s a = computed_after (applies s a) a

-- The same as statements: of the number that a step of action a in state s answers for the trace, and the state t that it leaves.
pub record Traced (s : State) (a : Action) (n : ℕ) (t : State) : Type 0 where
  pub number : n ≡ computed s a
  -- bit w is set after a yes exactly if w is a word of a state and its added or its deleted word is not zero; after a no, none is
  pub bits : (w : ℕ) → (bit n w ≡ true) ↔ ((applies s a ≡ true) × (w < word_count) × ((word a.added w ≡ 0) × (word a.deleted w ≡ 0) → ⊥))
  -- a word whose bit is not set is the old one
  pub untouched : (w : ℕ) → w < word_count → bit n w ≡ false → word t w ≡ word s w

unfoldable pub no_action : Action
no_action = record { needed = no_propositions; forbidden = no_propositions; added = no_propositions; deleted = no_propositions }

unfoldable pub action_at : List Action → ℕ → Action
action_at actions a = get_or actions a no_action

-- "State 0 is the initial one; state i follows cue i." States 0 to k.
unfoldable pub states : List Action → List ℕ → State → List State
states actions [] s = s ∷ []
states actions (a ∷ plan) s = s ∷ states actions plan (next s (action_at actions a))

unfoldable pub state_at : List State → ℕ → State
state_at ss i = get_or ss i no_propositions

-- "The plan runs from the initial state if each cue i applies in state i - 1." The first cue from cue i on that doesn't.
unfoldable pub first_stop : List Action → List ℕ → State → ℕ → Option ℕ
first_stop actions [] s i = none
first_stop actions (a ∷ plan) s i =
    elim (applies s (action_at actions a)) [ true ↦ first_stop actions plan (next s (action_at actions a)) (i + 1) | false ↦ some i ]

-- The entry of a constraint, by its letter. Assumes nothing.
use mathlib.Core.Path.{◌≡◌, ap, ◌∙◌}
use mathlib.Core.Bool.{Bool, true, false}
use mathlib.Core.List.{List}
use Rattle.rules.specs.Case.{is_either}
use Rattle.blames.specs.declared.entry.Entry.{Entry}
use Rattle.constraints.specs.declared.method.Line.{Line}
use Rattle.entering.specs.declared.sums.Part.{Part}
use Rattle.entering.specs.Lines.{between_entry, after_entry, before_entry, order_entry, entry_of}

module _ (d : Line) (own : Part) (sums : List Part) where
  abbrev by_B : Bool → Entry
  by_B b = elim b [ true ↦ before_entry d own sums | false ↦ order_entry d sums ]

  abbrev by_F : Bool → Entry
  by_F b = elim b [ true ↦ after_entry d own sums | false ↦ by_B (is_either d.letter 66 98) ]

  abbrev by_W : Bool → Entry
  by_W b = elim b [ true ↦ between_entry d own sums | false ↦ by_F (is_either d.letter 70 102) ]

  pub entry_W : is_either d.letter 87 119 ≡ true → entry_of d own sums ≡ between_entry d own sums
  unfolding entry_of
  entry_W w = ap by_W w

  pub entry_F : is_either d.letter 87 119 ≡ false → is_either d.letter 70 102 ≡ true → entry_of d own sums ≡ after_entry d own sums
  unfolding entry_of
  entry_F w f = ap by_W w ∙ ap by_F f

  pub entry_B : is_either d.letter 87 119 ≡ false → is_either d.letter 70 102 ≡ false → is_either d.letter 66 98 ≡ true
      → entry_of d own sums ≡ before_entry d own sums
  unfolding entry_of
  entry_B w f b = ap by_W w ∙ ap by_F f ∙ ap by_B b

  pub entry_O : is_either d.letter 87 119 ≡ false → is_either d.letter 70 102 ≡ false → is_either d.letter 66 98 ≡ false
      → entry_of d own sums ≡ order_entry d sums
  unfolding entry_of
  entry_O w f b = ap by_W w ∙ ap by_F f ∙ ap by_B b

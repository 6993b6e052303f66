-- What `ok_or` and the exit of a `?` answer: the value that was there, or the one refusal. Assumes nothing.
use mathlib.Core.Path.{◌≡◌, refl}
use Rattle.std.specs.Prelude.{Option, Some, None, Ok, Err}
use Rattle.std.specs.Option.{ok_or}
use Rattle.rules.specs.declared.Answer.{Answer}

pub there : {T : Type 0} (o : Option T) (x : T) (a : Answer) → Ok x ≡ ok_or o a → o ≡ Some x
there (Some y) x a e = cc
there None x a e = absurd (cc)

pub missing : {T : Type 0} (o : Option T) (a b : Answer) → Err b ≡ ok_or o a → (o ≡ None) × (b ≡ a)
missing (Some y) a b e = absurd (cc)
missing None a b e = (refl, cc)

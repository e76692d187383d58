-- A judged pair or name taken apart: a number says that it is right, and which number it is. Assumes nothing.
use Prim.Native.Nat.{ℕ}
use mathlib.Core.Path.{◌≡◌, refl}
use mathlib.Core.Bool.{Bool, true, false}
use Rattle.std.specs.Prelude.{Some, None}
use Rattle.std.proofs.lemmas.Option.{none-some, same_Some}
use Rattle.header.specs.Steps.{judged_if}

pub judged_some : (right : Bool) (n found : ℕ) → judged_if right n ≡ Some found → (right ≡ true) × (found ≡ n)
unfolding judged_if
judged_some true n found e = (refl, same_Some found n (cc))
judged_some false n found e = absurd (none-some found e)

pub judged_none : (right : Bool) (n : ℕ) → judged_if right n ≡ None → right ≡ false
unfolding judged_if
judged_none false n e = refl
judged_none true n e = absurd (none-some n cc)

-- A conjunction of tests: both halves, and which part that fails is enough. Assumes nothing.
use mathlib.Core.Path.{◌≡◌, refl}
use mathlib.Core.Bool.{Bool, true, false, ◌&&◌, and-eq-true_iff}

pub both : {a b : Bool} → (a && b) ≡ true → (a ≡ true) × (b ≡ true)
both {a} {b} e = (and-eq-true_iff a b).0 e

pub join : {a b : Bool} → a ≡ true → b ≡ true → (a && b) ≡ true
join {a} {b} p q = (and-eq-true_iff a b).1 (p, q)

pub and_second : (p q r : Bool) → q ≡ false → (p && q && r) ≡ false
and_second true q r e = rw e
and_second false q r e = refl

pub and_third : (p q r : Bool) → r ≡ false → (p && q && r) ≡ false
and_third true true r e = e
and_third true false r e = refl
and_third false q r e = refl

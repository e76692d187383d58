-- Two numbers told apart; two branches that are the same, or have the same. Assumes nothing.
use Prim.Native.Nat.{ℕ, ◌≤◌, ◌<◌}
use mathlib.Core.Path.{◌≡◌, refl, sym}
use mathlib.Core.Bool.{Bool, true, false, cond}
use mathlib.Core.Logic.{◌⊎◌, inl, inr, ⊎_elim}
use native.Mathlib.Nat.{eq-or-lt_of_le}
use native.Mathlib.Omega.{arith}
use lib.Dec.{ltb}
use borrow.Author.Tests.{ltb-true, ltb-false}

-- a number is below another, or not
pub lt_or_ge : (n m : ℕ) → (n < m) ⊎ (m ≤ n)
lt_or_ge n m = go (ltb n m) refl
  where
    go : (t : Bool) → ltb n m ≡ t → (n < m) ⊎ (m ≤ n)
    go true e = inl (ltb-true n m e)
    go false e = inr (ltb-false n m e)

-- what follows where a number is below another, the same and above it, follows
pub compared : {X : Type 0} (n m : ℕ) → (n < m → X) → (n ≡ m → X) → (m < n → X) → X
compared n m below same above =
    ⊎_elim below (λ (l : m ≤ n). ⊎_elim (λ (e : m ≡ n). same (sym e)) above (eq-or-lt_of_le l)) (lt_or_ge n m)

-- what follows where two numbers are the same that are not
pub apart : {X : Type 0} → ◌≡◌ {A = ℕ} 0 1 → X
apart e = absurd (omega (arith, e))

pub cond_same : {A : Type 0} (c : Bool) (x : A) → cond c x x ≡ x
cond_same true x = refl
cond_same false x = refl

-- what two answers have, has either of them
pub either : {A : Type 0} (Holds : A → Type 0) (b : Bool) (x y : A) → Holds x → Holds y → Holds (cond b x y)
either Holds true x y p q = p
either Holds false x y p q = q

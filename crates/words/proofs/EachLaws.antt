-- A test of every index below a number: what it gives, what it takes, and when it fails. Assumes nothing.
use Prim.Native.Nat.{ℕ, zero, suc, ◌+◌, ◌<◌}
use mathlib.Core.Path.{◌≡◌, refl, sym, ap, ◌∙◌}
use mathlib.Core.Bool.{Bool, true, false, and-eq-true_iff}
use mathlib.Core.Logic.{⊎_elim}
use native.Mathlib.Nat.{not-suc-le-zero, eq-or-lt_of_le}
use native.Mathlib.Numerals.{add-one}
use native.Mathlib.Omega.{arith}
use Rattle.words.specs.Each.{each}

module _ (test : ℕ → Bool) where
  -- one index more, as a loop counts
  pub each_more : (n : ℕ) → each test n ≡ true → test n ≡ true → each test (n + 1) ≡ true
  unfolding each
  each_more n h k = rw add-one ((and-eq-true_iff (each test n) (test n)).1 (h, k))

  -- the last index, and those before it
  pub each_last : (n : ℕ) → each test (suc n) ≡ true → (each test n ≡ true) × (test n ≡ true)
  unfolding each
  each_last n h = (and-eq-true_iff (each test n) (test n)).0 h

  -- the test of every index below n is the test of each of them
  pub each_gives : (n : ℕ) → each test n ≡ true → (i : ℕ) → i < n → test i ≡ true
  unfolding each
  each_gives zero h i l = absurd (not-suc-le-zero l)
  each_gives (suc n) h i l =
      let p = each_last n h in
      ⊎_elim (λ e. ap test e ∙ p.1) (λ m. each_gives n p.0 i m) (eq-or-lt_of_le {n = i} {m = n} (omega arith))

  pub each_takes : (n : ℕ) → ((i : ℕ) → i < n → test i ≡ true) → each test n ≡ true
  unfolding each
  each_takes zero h = refl
  each_takes (suc n) h =
      (and-eq-true_iff (each test n) (test n)).1 (each_takes n (λ i l. h i (omega arith)), h n (omega arith))

  -- one index that fails is enough
  pub each_fails : (n i : ℕ) → i < n → test i ≡ false → each test n ≡ false
  each_fails n i l f = go (each test n) refl
    where
      go : (t : Bool) → each test n ≡ t → each test n ≡ false
      go false e = e
      go true e = absurd (let z : true ≡ false = sym (each_gives n e i l) ∙ f in mathlib.Core.Bool.false≢true (sym z))

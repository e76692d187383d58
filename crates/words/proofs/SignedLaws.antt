-- The top bit complemented and read as a sign, each law once over what that bit counts for. Assumes nothing.
use Prim.Native.Nat.{ℕ, zero, suc, ◌+◌, ◌-◌, ◌^◌, ◌≤◌, ◌<◌}
use mathlib.Core.Path.{◌≡◌, sym, ap, ◌∙◌}
use mathlib.Core.Bool.{true}
use mathlib.Core.Logic.{⊎_elim}
use native.Mathlib.Nat.{pow-suc}
use native.Mathlib.Omega.{arith}
use lib.IntN.{pos, negsuc, ◌-ℤ◌}
use lib.Signed.{lt_z}
use borrow.Author.Tests.{lt-ltb, le-ltb, le-leb, lt-leb}
use Rattle.words.proofs.Cases.{lt_or_ge}
use Rattle.words.specs.Signed.{half, complemented, signed}

-- twice the top bit is all that w bytes can count
pub half_twice : (w : ℕ) → 1 ≤ w → half w + half w ≡ 256 ^ w
half_twice zero h = absurd (omega arith)
half_twice (suc w) h = rw pow-suc (omega arith)

module _ (top n : ℕ) where
  pub complemented_from : top ≤ n → complemented top n ≡ n - top
  unfolding complemented
  complemented_from h = rw (le-leb top n h)

  pub complemented_below : n < top → complemented top n ≡ n + top
  unfolding complemented
  complemented_below h = rw (lt-leb top n h)

  pub signed_below : n < top → signed top n ≡ pos n
  unfolding signed
  signed_below h = rw (lt-ltb n top h)

  pub signed_from : top ≤ n → signed top n ≡ negsuc (top + top - suc n)
  unfolding signed
  signed_from h = rw (le-ltb n top h)

-- ---- the top bit complemented, then signed: the number less that bit

pub less_below : (n top : ℕ) → n < top → pos n -ℤ pos top ≡ negsuc (top - suc n)
less_below n zero h = absurd (omega arith)
less_below n (suc top) h = rw (lt-ltb n (suc top) h)

pub less_from : (n top : ℕ) → top ≤ n → pos n -ℤ pos top ≡ pos (n - top)
less_from n zero h = ap pos (omega arith)
less_from n (suc top) h = rw (le-ltb n (suc top) h)

pub signed_complemented : (top n : ℕ) → n < top + top → signed top (complemented top n) ≡ pos n -ℤ pos top
signed_complemented top n h =
    ⊎_elim
    (λ (l : n < top). rw (complemented_below top n l, signed_from top (n + top) (omega arith))
    (ap negsuc (omega arith) ∙ sym (less_below n top l)))
    (λ (l : top ≤ n). rw (complemented_from top n l, signed_below top (n - top) (omega arith))
    (sym (less_from n top l)))
    (lt_or_ge n top)

-- numbers so read are ordered as they are stored
pub signed_order : (top m n : ℕ) → m < n → n < top + top →
    lt_z (signed top (complemented top m)) (signed top (complemented top n)) ≡ true
signed_order top m n h l =
    rw (signed_complemented top m (omega arith), signed_complemented top n l)
    (⊎_elim
    (λ (b : n < top). rw (less_below m top (omega arith), less_below n top b)
    (lt-ltb (top - suc n) (top - suc m) (omega arith)))
    (λ (b : top ≤ n). ⊎_elim
    (λ (c : m < top). rw (less_below m top c, less_from n top b))
    (λ (c : top ≤ m). rw (less_from m top c, less_from n top b) (lt-ltb (m - top) (n - top) (omega arith)))
    (lt_or_ge m top))
    (lt_or_ge n top))

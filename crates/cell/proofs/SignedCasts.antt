-- A number less its top bit at 64 bits and then at a narrower width, and back: what the casts ask and give, once over
-- the width. Assumes nothing.
use mathlib.Core.Path.{◌≡◌, refl, sym}
use mathlib.Core.Logic.{⊎_elim}
use Prim.Native.Nat.{ℕ, suc, ◌+◌, ◌^◌, ◌≤◌, ◌<◌}
use native.Mathlib.Omega.{arith}
use lib.Arith.{lt_of_le-ne}
use lib.IntN.{ℤ, pos, negsuc, ◌-ℤ◌, ◌+ℤ◌}
use lib.Signed.{mag}
use mir.Syntax.{Width, w64}
use mir.Val.{Fits, SFits, to_z, of_z, hbits, bits}
use mir.ValLaws.{to_z-of_z, to_z_pos}
use borrow.Author.Tests.{lt-ltb, le-ltb}
use Rattle.words.specs.Numbers.{digits}
use Rattle.words.specs.Signed.{half, complemented, signed, shifted}
use Rattle.words.proofs.Cases.{lt_or_ge}
use Rattle.words.proofs.SignedLaws.{less_below, less_from, signed_complemented, signed_below, signed_from}
use Rattle.cell.specs.Writing.{signed_form, none, bytes}

-- ---- reading: the machine's own signed number of a width is the definition's

pub machine_signed : (w : Width) (top n : ℕ) → 2 ^ hbits w ≡ top → 2 ^ bits w ≡ top + top → n < top + top
    → to_z w n ≡ signed top n
machine_signed w top n h k l =
    ⊎_elim
    (λ (b : n < top). rw (h, lt-ltb n top b, signed_below top n b))
    (λ (b : top ≤ n). rw (h, k, le-ltb n top b, signed_from top n b))
    (lt_or_ge n top)

-- how far a number less the top bit reaches
mag_sub : (n top most : ℕ) → top ≤ most → n < top + most → mag (pos n -ℤ pos top) < most
mag_sub n top most h k =
    ⊎_elim
    (λ (l : n < top). rw (less_below n top l) (omega arith))
    (λ (l : top ≤ n). rw (less_from n top l) (omega arith))
    (lt_or_ge n top)

-- what `(n as i64 - top) as iW` asks, and what it is
module _ (w : Width) (n top : ℕ) (small : n < top + top) (half : 2 ^ hbits w ≡ top) (narrow : top ≤ 2 ^ 62) where
  wide : SFits w64 (pos n -ℤ pos top)
  wide = record { sfits = mag_sub n top (2 ^ 63) (omega arith) (omega arith) }

  fits : SFits w (pos n -ℤ pos top)
  fits = record { sfits = mag_sub n top (2 ^ hbits w) (omega arith) (omega arith) }

  plain : to_z w64 n ≡ pos n
  plain = to_z_pos w64 n (omega arith)

  pub sub_fits : SFits w64 (to_z w64 n -ℤ pos top)
  sub_fits = rw plain wide

  pub cast_fits : SFits w (to_z w64 (of_z w64 (to_z w64 n -ℤ pos top)))
  cast_fits = rw (plain, to_z-of_z w64 (pos n -ℤ pos top) wide) fits

  pub cast_is : to_z w (of_z w (to_z w64 (of_z w64 (to_z w64 n -ℤ pos top)))) ≡ signed top (complemented top n)
  cast_is =
      rw (plain, to_z-of_z w64 (pos n -ℤ pos top) wide, to_z-of_z w (pos n -ℤ pos top) fits)
      (sym (signed_complemented top n small))

-- ---- writing: z and the top bit added

plus_is : (z : ℤ) (top : ℕ) → mag z < top → z +ℤ pos top ≡ pos (shifted top z)
plus_is (pos m) top h = refl
plus_is (negsuc m) top h = rw (le-ltb top (suc m) h)

shift_lt : (z : ℤ) (top : ℕ) → mag z < top → shifted top z < top + top
shift_lt (pos m) top h = omega arith
shift_lt (negsuc m) top h = omega arith

-- what `(z as i64 + top) as u64` asks, and what it is
module _ (w : Width) (z : ℤ) (top : ℕ) (fits : SFits w z) (half : 2 ^ hbits w ≡ top) (narrow : top ≤ 2 ^ 62) where
  widened : to_z w (of_z w z) ≡ z
  widened = to_z-of_z w z fits

  fits_wide : SFits w64 z
  fits_wide = record { sfits = omega (arith, fits.sfits) }

  pub wide_fits : SFits w64 (to_z w (of_z w z))
  wide_fits = rw widened fits_wide

  sum_is : to_z w64 (of_z w64 (to_z w (of_z w z))) +ℤ pos top ≡ pos (shifted top z)
  sum_is = rw (widened, to_z-of_z w64 z fits_wide) (plus_is z top (omega (arith, fits.sfits)))

  sum_small : SFits w64 (pos (shifted top z))
  sum_small = record { sfits = omega (arith, shift_lt z top (omega (arith, fits.sfits))) }

  pub sum_fits : SFits w64 (to_z w64 (of_z w64 (to_z w (of_z w z))) +ℤ pos top)
  sum_fits = rw sum_is sum_small

  pub total : to_z w64 (of_z w64 (to_z w64 (of_z w64 (to_z w (of_z w z))) +ℤ pos top)) ≡ pos (shifted top z)
  total = rw sum_is (to_z-of_z w64 (pos (shifted top z)) sum_small)

  pub total_fits : Fits w64 (shifted top z)
  total_fits = record { fits = omega (arith, shift_lt z top (omega (arith, fits.sfits))) }

-- the stored form in v bytes, by the bits of z: minus the top bit has none
pub form_none : (w : Width) (v : ℕ) (z : ℤ) (top : ℕ) → SFits w z → 2 ^ hbits w ≡ top → 2 ^ bits w ≡ top + top
    → half v ≡ top → of_z w z ≡ top → none ≡ signed_form v z
unfolding signed_form
form_none w v (pos m) top s h k same e = absurd (omega (arith, s.sfits))
form_none w v (negsuc m) top s h k same e = rw (same, le-ltb (suc m) top (omega (arith, s.sfits)))

pub form_is : (w : Width) (v : ℕ) (z : ℤ) (top : ℕ) → SFits w z → 2 ^ hbits w ≡ top → 2 ^ bits w ≡ top + top
    → half v ≡ top → (of_z w z ≡ top → ⊥)
    → bytes (digits v (shifted top z)) ≡ signed_form v z
unfolding signed_form
form_is w v (pos m) top s h k same e = rw (same, lt-ltb m top (omega (arith, s.sfits)))
form_is w v (negsuc m) top s h k same e =
    rw (same, lt-ltb (suc m) top (lt_of_le-ne (omega (arith, s.sfits)) (λ q. e (omega arith))))

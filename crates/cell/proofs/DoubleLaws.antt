-- Laws of a double's bits: which of them are finite, and that they tell what the double is. Assumes nothing.
use mathlib.Core.Path.{◌≡◌, refl, sym, ap, ◌∙◌, subst}
use mathlib.Core.Bool.{Bool, true, false, not, cond, true≢false}
use Prim.Native.Nat.{ℕ, zero, suc, ◌+◌, ◌/◌, ◌%◌, ◌≤◌, ◌<◌}
use native.Mathlib.Omega.{arith}
use lib.Dec.{T, eqb, leb, ltb}
use lib.Ieee.{Float, nan, inf, fin, odd, of_fields, of_bits, to_bits, nan_bits, is_nan, fits, ne, binary64}
use lib.Ieee.Compare.{differs_from_itself}
use lib.Ieee.Bits.{of_bits-to_bits, to_bits-lt}
use lib.Ieee.Scale.{finite}
use borrow.Author.Tests.{eq-eqb, ne_eqb, ltb-true, ltb-false}
use Rattle.words.specs.Signed.{half}

-- ---- which bits are finite

-- those of infinity
abbrev pub infinity_bits : ℕ
infinity_bits = 0x7FF0000000000000

odd_finite : (d : ℕ) (s : Bool) (q k l : ℕ) → finite (odd d s q k l) ≡ true
unfolding odd
odd_finite d s zero k l = refl
odd_finite d s (suc q) k l = refl

-- by the exponent's field
fields_finite : (s : Bool) (x t : ℕ) → (x ≡ 2047 → ⊥) → finite (of_fields binary64 s x t) ≡ true
unfolding of_fields
fields_finite s zero t h = odd_finite 53 s t 0 1074
fields_finite s (suc x) t h = rw (ne_eqb (suc x) 2047 h) (odd_finite 53 s (4503599627370496 + t) x 1074)

fields_not : (s : Bool) (x t : ℕ) → x ≡ 2047 → finite (of_fields binary64 s x t) ≡ false
unfolding of_fields
fields_not s zero t h = absurd (omega arith)
fields_not s (suc x) t h = rw (eq-eqb (suc x) 2047 h) (last (eqb t 0))
  where
    last : (b : Bool) → finite (cond b (lib.Ieee.inf s) lib.Ieee.nan) ≡ false
    last true = refl
    last false = refl

pub finite_below : (b : ℕ) → b % half 8 < infinity_bits → finite (of_bits binary64 b) ≡ true
unfolding of_bits
finite_below b h =
    fields_finite (leb (half 8) b) (b % half 8 / 4503599627370496) (b % 4503599627370496)
    (omega arith)

pub finite_from : (b : ℕ) → infinity_bits ≤ b % half 8 → finite (of_bits binary64 b) ≡ false
unfolding of_bits
finite_from b h =
    fields_not (leb (half 8) b) (b % half 8 / 4503599627370496) (b % 4503599627370496)
    (omega arith)

-- without the sign, finite bits are those below 7FF0 and six zero bytes
pub finite_is : (b : ℕ) → ltb (b % half 8) infinity_bits ≡ finite (of_bits binary64 b)
finite_is b = go (ltb (b % half 8) infinity_bits) refl
  where
    go : (t : Bool) → ltb (b % half 8) infinity_bits ≡ t → t ≡ finite (of_bits binary64 b)
    go true e = sym (finite_below b (ltb-true (b % half 8) infinity_bits e))
    go false e = sym (finite_from b (ltb-false (b % half 8) infinity_bits e))

-- finite bits are no not-a-number's
pub finite_bits : (b : ℕ) → finite (of_bits binary64 b) ≡ true → T (not (nan_bits binary64 b))
unfolding nan_bits
finite_bits b f =
    let h = ltb-true (b % half 8) infinity_bits (finite_is b ∙ f) in
    rw (ne_eqb (b % half 8 / 4503599627370496) 2047 (omega arith)) tt

-- a not-a-number is what differs from itself, and is not finite
pub nan_infinite : (x : Float) → ne x x ≡ true → finite x ≡ false
nan_infinite x h = rw (differs_from_itself x (subst T (sym h) tt))

pub not_nan : (x : Float) → ne x x ≡ false → T (not (is_nan x))
unfolding is_nan ne
not_nan nan h = true≢false h
not_nan (inf s) h = tt
not_nan (fin s m e) h = tt

-- a finite number is no not-a-number
pub finite_number : (x : Float) → finite x ≡ true → T (not (is_nan x))
unfolding is_nan
finite_number nan e = true≢false (sym e)
finite_number (inf s) e = tt
finite_number (fin s m e) h = tt

-- ---- a double and its bits

module _ (x : Float) (f : fits binary64 x ≡ true) where
  -- a double of the format is that of its bits
  pub of_bits_lem : of_bits binary64 (to_bits binary64 x) ≡ x
  of_bits_lem = of_bits-to_bits binary64 x (subst T (sym f) tt)

  -- so its bits tell whether it is finite
  pub finite_by_bits : (b : Bool) → b ≡ finite (of_bits binary64 (to_bits binary64 x)) → finite x ≡ b
  finite_by_bits b h = ap finite (sym of_bits_lem) ∙ sym h

  pub bits_small : to_bits binary64 x < half 8 + half 8
  bits_small = to_bits-lt binary64 x (subst T (sym f) tt)

-- Which of two stored numbers means the lesser double: the lesser one, but for the two zeros, which are neighbours.
-- Assumes nothing.
use Prim.Native.Nat.{ℕ, zero, suc, ◌+◌, ◌-◌, ◌*◌, ◌/◌, ◌%◌, ◌^◌, ◌≤◌, ◌<◌}
use mathlib.Core.Path.{◌≡◌, refl, ◌∙◌, subst}
use mathlib.Core.Bool.{Bool, true, false}
use mathlib.Core.Logic.{◌⊎◌, inl, inr, ⊎_elim}
use native.Mathlib.Nat.{mul-lt-mul_of_pos_right, mul-one, pow-suc}
use native.Mathlib.Omega.{arith}
use lib.Dec.{leb, lit<}
use lib.Pow.{pow_pos}
use lib.Ieee.{lt, odd, of_fields, of_bits, binary64}
use lib.Ieee.Exact.{HasValue, odd_sign}
use lib.Ieee.Scale.{finite}
use borrow.Author.Tests.{lt-ltb, le-leb, lt-leb, ltb-true, ne_eqb}
use Rattle.words.specs.Signed.{half}
use Rattle.words.proofs.Cases.{lt_or_ge}
use Rattle.cell.specs.Doubles.{all_complemented, meant_bits, double_of}
use Rattle.cell.proofs.DoubleLaws.{infinity_bits, finite_is}
use Rattle.cell.proofs.ExactLaws.{lt_of_values}
use Rattle.cell.proofs.StoredLaws.{meant_from, meant_below}

-- ---- the size of a double, counted in the least one that is above 0, which is 2 ^ -1074

-- what the lowest bit of the exponent's field counts for
abbrev field_bit : ℕ
field_bit = 0x0010000000000000

-- by the exponent's field and the digits
size_with : ℕ → ℕ → ℕ
size_with zero d = d
size_with (suc x) d = (field_bit + d) * 2 ^ x

-- by the bits without the sign
pub size : ℕ → ℕ
size b = size_with (b / field_bit) (b % field_bit)

digit_more : (x d : ℕ) → size_with x d < size_with x (d + 1)
unfolding size_with
digit_more zero d = omega arith
digit_more (suc x) d =
    mul-lt-mul_of_pos_right {m = field_bit + d} {n = field_bit + (d + 1)} (omega arith) (pow_pos x)

field_more : (x : ℕ) → size_with x (field_bit - 1) < size_with (suc x) 0
unfolding size_with
field_more zero = lit< tt
field_more (suc x) = let p = pow_pos x in let e = pow-suc 2 x in omega arith

-- the next bits are of a larger one
one_more : (b : ℕ) → size b < size (suc b)
unfolding size
one_more b =
    ⊎_elim
    (λ (l : b % field_bit < field_bit - 1).
    let q : suc b / field_bit ≡ b / field_bit = omega arith in
    let r : suc b % field_bit ≡ b % field_bit + 1 = omega arith in
    rw (q, r) (digit_more (b / field_bit) (b % field_bit)))
    (λ (l : field_bit - 1 ≤ b % field_bit).
    let q : suc b / field_bit ≡ suc (b / field_bit) = omega arith in
    let r : suc b % field_bit ≡ 0 = omega arith in
    let d : b % field_bit ≡ field_bit - 1 = omega arith in
    rw (q, r, d) (field_more (b / field_bit)))
    (lt_or_ge (b % field_bit) (field_bit - 1))

-- so it grows with the bits
size_grows : (a b : ℕ) → a < b → size a < size b
size_grows a zero l = absurd (omega arith)
size_grows a (suc b) l =
    ⊎_elim
    (λ (m : a < b). let h = size_grows a b m in let k = one_more b in omega arith)
    (λ (m : b ≤ a). let e : a ≡ b = omega arith in rw e (one_more b))
    (lt_or_ge a b)

-- ---- the exact value of bits

-- 2047 is the field of infinities and not-a-numbers
fields_value : (s : Bool) (x d : ℕ) → (x ≡ 2047 → ⊥) → HasValue (of_fields binary64 s x d) s (size_with x d) (2 ^ 1074)
unfolding of_fields size_with
fields_value s zero d h =
    subst (λ (z : ℕ). HasValue (odd 53 s d 0 1074) s z (2 ^ 1074)) (mul-one d) (odd_sign 53 s d 0 1074)
fields_value s (suc x) d h = rw (ne_eqb (suc x) 2047 h) (odd_sign 53 s (field_bit + d) x 1074)

bits_value : (b : ℕ) → b % half 8 < infinity_bits →
    HasValue (of_bits binary64 b) (leb (half 8) b) (size (b % half 8)) (2 ^ 1074)
unfolding of_bits size
bits_value b h =
    let r : b % field_bit ≡ b % half 8 % field_bit = omega arith in
    rw r (fields_value (leb (half 8) b) (b % half 8 / field_bit) (b % half 8 % field_bit) (omega arith))

-- ---- the exact value of a stored number, by its top bit

module _ (n : ℕ) (h : n < 256 ^ 8) (f : finite (double_of 8 n) ≡ true) where
  bits_finite : meant_bits (half 8) n % half 8 < infinity_bits
  unfolding double_of
  bits_finite = ltb-true _ infinity_bits (finite_is (meant_bits (half 8) n) ∙ f)

  pub value_from : half 8 ≤ n → HasValue (double_of 8 n) false (size (n - half 8)) (2 ^ 1074)
  unfolding double_of
  value_from l =
      let e = meant_from (half 8) n l in
      let b = bits_finite in
      let r : (n - half 8) % half 8 ≡ n - half 8 = omega arith in
      let s : leb (half 8) (n - half 8) ≡ false = lt-leb (half 8) (n - half 8) (omega arith) in
      rw e (rw (r, s) at (bits_value (n - half 8) (rw e at b)))

  pub value_below : n < half 8 → HasValue (double_of 8 n) true (size (half 8 - 1 - n)) (2 ^ 1074)
  unfolding double_of
  value_below l =
      let e = meant_below (half 8) n l in
      let b = bits_finite in
      let r : all_complemented (half 8) n % half 8 ≡ half 8 - 1 - n = omega arith in
      let s : leb (half 8) (all_complemented (half 8) n) ≡ true =
      le-leb (half 8) (all_complemented (half 8) n) (omega arith) in
      rw e (rw (r, s) at (bits_value (all_complemented (half 8) n) (rw e at b)))

-- ---- the order

-- two sizes add up to more than 0, or the bits of both are 0
some_size : (a b : ℕ) → (0 < size a + size b) ⊎ ((a ≡ 0) × (b ≡ 0))
some_size zero zero = inr (refl, refl)
some_size zero (suc b) = let g = size_grows 0 (suc b) (omega arith) in inl (omega arith)
some_size (suc a) b = let g = size_grows 0 (suc a) (omega arith) in inl (omega arith)

-- the lesser of two stored numbers means the lesser double, or they are the two zeros
pub double_order : (m n : ℕ) → m < n → n < 256 ^ 8 → finite (double_of 8 m) ≡ true → finite (double_of 8 n) ≡ true →
    (lt (double_of 8 m) (double_of 8 n) ≡ true) ⊎ ((m ≡ half 8 - 1) × (n ≡ half 8))
double_order m n l h f g =
    ⊎_elim
    (λ (p : n < half 8).
    inl (lt_of_values true true _ _ (2 ^ 1074) (pow_pos 1074) (double_of 8 m) (double_of 8 n)
    (value_below m (omega arith) f (omega arith)) (value_below n h g p)
    ∙ lt-ltb _ _ (size_grows (half 8 - 1 - n) (half 8 - 1 - m) (omega arith))))
    (λ (p : half 8 ≤ n). ⊎_elim
    (λ (q : m < half 8).
    ⊎_elim
    (λ (z : 0 < size (half 8 - 1 - m) + size (n - half 8)).
    inl (lt_of_values true false _ _ (2 ^ 1074) (pow_pos 1074) (double_of 8 m) (double_of 8 n)
    (value_below m (omega arith) f q) (value_from n h g p) ∙ lt-ltb 0 _ z))
    (λ (z : (half 8 - 1 - m ≡ 0) × (n - half 8 ≡ 0)). inr (omega (arith, z.0), omega (arith, z.1)))
    (some_size (half 8 - 1 - m) (n - half 8)))
    (λ (q : half 8 ≤ m).
    inl (lt_of_values false false _ _ (2 ^ 1074) (pow_pos 1074) (double_of 8 m) (double_of 8 n)
    (value_from m (omega arith) f q) (value_from n h g p)
    ∙ lt-ltb _ _ (size_grows (m - half 8) (n - half 8) (omega arith))))
    (lt_or_ge m (half 8)))
    (lt_or_ge n (half 8))

-- The digits that the kit's functions write are a number's text, and how long texts are. Assumes nothing.
use Prim.Native.Nat.{ℕ, zero, suc, ◌+◌, ◌-◌, ◌*◌, ◌/◌, ◌%◌, ◌^◌, ◌≤◌, ◌<◌}
use mathlib.Core.Path.{◌≡◌, refl, sym, ap, ◌∙◌, subst}
use mathlib.Core.Logic.{⊎_elim}
use mathlib.Core.Bool.{true, false, true≢false}
use mathlib.Core.List.{[], ◌∷◌, ◌++◌}
use native.Mathlib.Nat.{pow-suc}
use native.Mathlib.Omega.{arith}
use lib.Dec.{lit≤}
use lib.IntN.{ℤ, pos, negsuc}
use lib.ListN.{length, length-append}
use lib.Signed.{lt_z}
use borrow.Author.Tests.{lt-ltb, le-ltb, le-leb, lt-leb}
use Rattle.std.specs.Prelude.{unsigned_abs}
use Rattle.words.proofs.Cases.{lt_or_ge}
use Rattle.io.specs.Digits.{hex_digit_ascii, last_digits, IsDigitCount}
use Rattle.buffer.specs.Text.{places_in, decimal, minus, signed_text, shifted_text, hex_text}

pub length_digits : (b k n : ℕ) → length (last_digits b k n) ≡ k
length_digits b zero n = refl
length_digits b (suc k) n =
    let e = length-append (last_digits b k (n / b)) (hex_digit_ascii (n % b) ∷ []) in
    let h = length_digits b k (n / b) in
    e ∙ omega (arith, h)

-- ten more of every count below ten
pow_ten : (k : ℕ) → 10 ≤ 10 ^ suc k
pow_ten zero = omega arith
pow_ten (suc k) = let h = pow_ten k in subst (λ (x : ℕ). 10 ≤ x) (sym (pow-suc 10 (suc k))) (omega (arith, h))

-- of a number with more than one digit: the least with as many
least_with : (n k : ℕ) → IsDigitCount 10 1 n (suc (suc k)) → 10 ^ suc k ≤ n
least_with n k f =
    let e : suc (suc k) - 1 ≡ suc k = omega arith in
    subst (λ (x : ℕ). 10 ^ x ≤ n) e (f.2 (omega arith))

-- a number below ten has one digit
one_place : (n k : ℕ) → IsDigitCount 10 1 n k → n < 10 → 1 ≡ k
one_place n zero f l = absurd (omega (arith, f.0))
one_place n (suc zero) f l = refl
one_place n (suc (suc k)) f l = let h = pow_ten k in let q = least_with n k f in absurd (omega (arith, h, q, l))

-- any other has one more than its tenth
shorter : (n k : ℕ) → IsDigitCount 10 1 n k → 10 ≤ n → (j : ℕ) × (k ≡ suc j) × IsDigitCount 10 1 (n / 10) j
shorter n zero f l = absurd (omega (arith, f.0))
shorter n (suc zero) f l = absurd (omega (arith, f.1))
shorter n (suc (suc k)) f l =
    let a : n < 10 ^ suc k * 10 = subst (λ (x : ℕ). n < x) (pow-suc 10 (suc k)) f.1 in
    let b : 10 ^ k * 10 ≤ n = subst (λ (x : ℕ). x ≤ n) (pow-suc 10 k) (least_with n k f) in
    let e : k ≡ suc k - 1 = omega arith in
    let c : 10 ^ k ≤ n / 10 = omega (arith, b) in
    (suc k, refl, (omega arith, omega (arith, a), λ _. subst (λ (x : ℕ). 10 ^ x ≤ n / 10) e c))

-- the digits counted are the fewest
places_are : (most n k : ℕ) → IsDigitCount 10 1 n k → n < 10 ^ suc most → places_in most n ≡ k
unfolding places_in
places_are zero n k f l = one_place n k f l
places_are (suc most) n k f l =
    ⊎_elim
    (λ (b : n < 10). rw (lt-ltb n 10 b) (one_place n k f b))
    (λ (b : 10 ≤ n).
    let q = shorter n k f b in
    let a : n < 10 ^ suc most * 10 = subst (λ (x : ℕ). n < x) (pow-suc 10 (suc most)) l in
    rw (le-ltb n 10 b) (ap suc (places_are most (n / 10) q.0 q.2 (omega (arith, a))) ∙ sym q.1))
    (lt_or_ge n 10)

-- a number of 64 bits
abbrev pub most64 : ℕ
most64 = 18446744073709551616

pub decimal_is : (n k : ℕ) → n < most64 → IsDigitCount 10 1 n k → last_digits 10 k n ≡ decimal n
unfolding decimal
decimal_is n k l f = ap (λ (j : ℕ). last_digits 10 j n) (sym (places_are 19 n k f (omega (arith, l))))

hex_grows : (j : ℕ) → most64 ≤ 16 ^ (16 + j)
hex_grows zero = lit≤ tt
hex_grows (suc j) =
    let h = hex_grows j in
    let e : 16 + suc j ≡ suc (16 + j) = omega arith in
    subst (λ (x : ℕ). most64 ≤ x) (sym (ap (λ (x : ℕ). 16 ^ x) e ∙ pow-suc 16 (16 + j))) (omega (arith, h))

sixteen : (n k : ℕ) → n < most64 → IsDigitCount 16 16 n k → k ≡ 16
sixteen n k l f =
    ⊎_elim
    (λ (b : k < 17). omega (arith, f.0, b))
    (λ (b : 17 ≤ k).
    let e : k - 1 ≡ 16 + (k - 17) = omega arith in
    let h = hex_grows (k - 17) in
    let q : 16 ^ (16 + (k - 17)) ≤ n = subst (λ (x : ℕ). 16 ^ x ≤ n) e (f.2 (omega arith)) in
    absurd (omega (arith, h, q, l)))
    (lt_or_ge k 17)

pub hex_is : (n k : ℕ) → n < most64 → IsDigitCount 16 16 n k → last_digits 16 k n ≡ hex_text n
unfolding hex_text
hex_is n k l f = ap (λ (j : ℕ). last_digits 16 j n) (sixteen n k l f)

-- ---- how long texts are

places_most : (most n : ℕ) → places_in most n ≤ suc most
unfolding places_in
places_most zero n = omega arith
places_most (suc most) n =
    let h = places_most most (n / 10) in
    ⊎_elim
    (λ (b : n < 10). rw (lt-ltb n 10 b) (omega arith))
    (λ (b : 10 ≤ n). rw (le-ltb n 10 b) (omega (arith, h)))
    (lt_or_ge n 10)

pub decimal_most : (n : ℕ) → length (decimal n) ≤ 20
unfolding decimal
decimal_most n = let h = places_most 19 n in let e = length_digits 10 (places_in 19 n) n in omega (arith, h, e)

pub signed_most : (z : ℤ) → length (signed_text z) ≤ 21
unfolding signed_text
signed_most (pos n) = omega (arith, decimal_most n)
signed_most (negsuc n) = omega (arith, decimal_most (suc n))

pub hex_long : (n : ℕ) → length (hex_text n) ≡ 16
unfolding hex_text
hex_long n = length_digits 16 16 n

-- ---- a signed number, by its sign and its size

plain_size : (z : ℤ) → lt_z z (pos 0) ≡ false → decimal (unsigned_abs z) ≡ signed_text z
unfolding signed_text
plain_size (pos n) l = refl
plain_size (negsuc n) l = absurd (true≢false l)

minus_size : (z : ℤ) → lt_z z (pos 0) ≡ true → minus ∷ [] ++ decimal (unsigned_abs z) ≡ signed_text z
unfolding signed_text
minus_size (pos n) l = absurd (true≢false (sym l ∙ le-ltb n 0 (omega arith)))
minus_size (negsuc n) l = refl

-- `y` is z, as the code tests it
module _ {y : ℤ} (z : ℤ) (n : ℕ) (same : y ≡ z) (size : n ≡ unsigned_abs y) where
  pub signed_plain : lt_z y (pos 0) ≡ false → decimal n ≡ signed_text z
  signed_plain l = ap decimal size ∙ plain_size y l ∙ ap signed_text same

  pub signed_minus : lt_z y (pos 0) ≡ true → minus ∷ [] ++ decimal n ≡ signed_text z
  signed_minus l = ap (λ (k : ℕ). minus ∷ decimal k) size ∙ minus_size y l ∙ ap signed_text same

-- ---- a signed number, by what it is with `top` added

module _ (top n : ℕ) where
  pub shifted_plain : top ≤ n → decimal (n - top) ≡ shifted_text top n
  unfolding shifted_text
  shifted_plain l = rw (le-leb top n l)

  pub shifted_minus : n < top → minus ∷ [] ++ decimal (top - n) ≡ shifted_text top n
  unfolding shifted_text
  shifted_minus l = rw (lt-leb top n l)

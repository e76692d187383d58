-- IEEE's less and equal of two doubles are those of their exact values, as fractions over one denominator; of two
-- doubles, at most one of less, equal and greater holds. Assumes nothing.
use Prim.Native.Nat.{ℕ, ◌+◌, ◌*◌, ◌<◌}
use mathlib.Core.Path.{◌≡◌, refl, sym, ap, ◌∙◌}
use mathlib.Core.Bool.{Bool, true, false, not, ◌&&◌, and-false, true≢false}
use native.Mathlib.Nat.{add-mul, eq_of_mul-eq-mul_right, lt_of_mul-lt-mul_right, mul_assoc, mul_comm}
use native.Mathlib.Nat.{mul-lt-mul_of_pos_right, mul-pos, mul_right_comm, zero-mul}
use native.Mathlib.Omega.{arith}
use lib.Dec.{eqb, ltb}
use lib.IntN.{ℤ}
use lib.Ieee.{Float, nan, inf, fin, up, down, below, level, lt, eq, ne}
use lib.Ieee.Exact.{HasValue}
use lib.Ieee.Fits.{down_pos}
use lib.Ieee.Scale.{finite}
use borrow.Author.Tests.{lt-ltb, le-ltb, ltb-true, eq-eqb, ne_eqb}
use Rattle.words.proofs.Cases.{compared}
use Rattle.cell.proofs.DoubleLaws.{nan_infinite}

-- two numbers compare as two others of which they are the same multiple
same_tests : (x y a b c d : ℕ) → 0 < c → 0 < d → x * c ≡ a * d → y * c ≡ b * d →
    (ltb x y ≡ ltb a b) × (eqb x y ≡ eqb a b)
same_tests x y a b c d some more p q =
    compared x y
    (λ l.
    let m : x * c < y * c = mul-lt-mul_of_pos_right l some in
    let k : a < b = lt_of_mul-lt-mul_right d (omega arith) in
    (lt-ltb x y l ∙ sym (lt-ltb a b k), ne_eqb x y (omega arith) ∙ sym (ne_eqb a b (omega arith))))
    (λ e.
    let k : a ≡ b = eq_of_mul-eq-mul_right d more a b (sym p ∙ ap (λ (z : ℕ). z * c) e ∙ q) in
    (le-ltb x y (omega arith) ∙ sym (le-ltb a b (omega arith)), eq-eqb x y e ∙ sym (eq-eqb a b k)))
    (λ l.
    let m : y * c < x * c = mul-lt-mul_of_pos_right l some in
    let k : b < a = lt_of_mul-lt-mul_right d (omega arith) in (
      le-ltb x y (omega arith) ∙ sym (le-ltb a b (omega arith)),
      ne_eqb x y (omega arith) ∙ sym (ne_eqb a b (omega arith)),
    ))

-- so do signed ones
module _ (x y a b c d : ℕ) (some : 0 < c) (more : 0 < d) (p : x * c ≡ a * d) (q : y * c ≡ b * d) where
  abbrev none : 0 * c ≡ 0 * d
  none = zero-mul c ∙ sym (zero-mul d)

  below_same : (s t : Bool) → below s x t y ≡ below s a t b
  below_same false false = (same_tests x y a b c d some more p q).0
  below_same false true = refl
  below_same true false =
      (same_tests 0 (x + y) 0 (a + b) c d some more none
      (add-mul x y c ∙ rw (p, q) (sym (add-mul a b d)))).0
  below_same true true = (same_tests y x b a c d some more q p).0

  level_same : (s t : Bool) → level s x t y ≡ level s a t b
  level_same s t = rw ((same_tests x y a b c d some more p q).1, (same_tests x 0 a 0 c d some more p none).1)

-- ---- the exact values of two doubles: a / c and b / c, with their signs

module _ (s t : Bool) (a b c : ℕ) (some : 0 < c) where
  -- IEEE compares them each times the other's denominator
  module _ (m n : ℕ) (e d : ℤ) (p : m * up e * c ≡ a * down e) (q : n * up d * c ≡ b * down d) where
    abbrev x : ℕ
    x = m * up e * down d

    abbrev y : ℕ
    y = n * up d * down e

    exactly : (below s x t y ≡ below s a t b) × (level s x t y ≡ level s a t b)
    exactly =
        let z = down e * down d in
        let more : 0 < z = mul-pos (down_pos e) (down_pos d) in
        let k : x * c ≡ a * z =
        mul_right_comm (m * up e) (down d) c ∙ ap (λ (i : ℕ). i * down d) p ∙ mul_assoc a (down e) (down d) in
        let l : y * c ≡ b * z =
        mul_right_comm (n * up d) (down e) c ∙ ap (λ (i : ℕ). i * down e) q ∙ mul_assoc b (down d) (down e)
        ∙ ap (λ (i : ℕ). b * i) (mul_comm (down d) (down e)) in
        (below_same x y a b c z some more k l s t, level_same x y a b c z some more k l s t)

  pub lt_of_values : (x y : Float) → HasValue x s a c → HasValue y t b c → lt x y ≡ below s a t b
  unfolding lt
  lt_of_values nan y p q = absurd p
  lt_of_values (inf r) y p q = absurd p
  lt_of_values (fin r m e) nan p q = absurd q
  lt_of_values (fin r m e) (inf u) p q = absurd q
  lt_of_values (fin r m e) (fin u n d) p q = rw (p.0, q.0) (exactly m n e d p.1 q.1).0

  pub eq_of_values : (x y : Float) → HasValue x s a c → HasValue y t b c → eq x y ≡ level s a t b
  unfolding eq
  eq_of_values nan y p q = absurd p
  eq_of_values (inf r) y p q = absurd p
  eq_of_values (fin r m e) nan p q = absurd q
  eq_of_values (fin r m e) (inf u) p q = absurd q
  eq_of_values (fin r m e) (fin u n d) p q = rw (p.0, q.0) (exactly m n e d p.1 q.1).1

-- ---- less, equal and greater exclude each other

-- not greater, and not equal either way round
abbrev pub Excluded : Bool → Bool → Bool → Type 0
Excluded greater equal turned = (greater ≡ false) × (equal ≡ false) × (turned ≡ false)

not_both : (a b : ℕ) → 0 < a + b → (eqb a b && eqb a 0) ≡ false
not_both a b h =
    compared a 0 (λ l. absurd (omega arith)) (λ e. rw (ne_eqb a b (omega arith)))
    (λ l. rw (ne_eqb a 0 (omega arith)) (and-false (eqb a b)))

below_excludes : (s t : Bool) (a b : ℕ) → below s a t b ≡ true →
    Excluded (below t b s a) (level s a t b) (level t b s a)
below_excludes false false a b h =
    let l = ltb-true a b h in
    (le-ltb b a (omega arith), rw (ne_eqb a b (omega arith)), rw (ne_eqb b a (omega arith)))
below_excludes false true a b h = absurd (true≢false (sym h))
below_excludes true false a b h =
    let l = ltb-true 0 (a + b) h in
    (refl, not_both a b l, not_both b a (omega arith))
below_excludes true true a b h =
    let l = ltb-true b a h in
    (le-ltb a b (omega arith), rw (ne_eqb a b (omega arith)), rw (ne_eqb b a (omega arith)))

pub lt_excludes : (x y : Float) → lt x y ≡ true → Excluded (lt y x) (eq x y) (eq y x)
unfolding lt eq
lt_excludes nan y h = absurd (true≢false (sym h))
lt_excludes (inf s) nan h = absurd (true≢false (sym h))
lt_excludes (inf true) (inf true) h = absurd (true≢false (sym h))
lt_excludes (inf true) (inf false) h = (refl, refl, refl)
lt_excludes (inf false) (inf t) h = absurd (true≢false (sym h))
lt_excludes (inf s) (fin t n d) h = (rw h, refl, refl)
lt_excludes (fin s m e) nan h = absurd (true≢false (sym h))
lt_excludes (fin s m e) (inf true) h = absurd (true≢false (sym h))
lt_excludes (fin s m e) (inf false) h = (refl, refl, refl)
lt_excludes (fin s m e) (fin t n d) h = below_excludes s t (m * up e * down d) (n * up d * down e) h

-- a finite double is equal to itself
pub finite_itself : (x : Float) → finite x ≡ true → eq x x ≡ true
unfolding ne
finite_itself x h = go (eq x x) refl
  where
    go : (b : Bool) → eq x x ≡ b → b ≡ true
    go true e = refl
    go false e = absurd (true≢false (sym h ∙ nan_infinite x (ap not e)))

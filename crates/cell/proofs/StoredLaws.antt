-- Request 02's rule for number and currency: the bits that a stored number means and the number that bits are stored as
-- undo each other, and so do a finite double and its stored number; which stored numbers mean a finite double; which
-- doubles have a stored form. Assumes nothing.
use Prim.Native.Nat.{ℕ, suc, ◌+◌, ◌-◌, ◌%◌, ◌^◌, ◌≤◌, ◌<◌}
use mathlib.Core.Path.{◌≡◌, refl, ap, ◌∙◌, subst}
use mathlib.Core.Bool.{Bool, true, false, not, ◌&&◌}
use mathlib.Core.Logic.{⊎_elim}
use native.Mathlib.Omega.{arith}
use lib.Dec.{T, leb}
use lib.Ieee.{Float, fits, of_bits, to_bits, binary64}
use lib.Ieee.Bits.{of_bits-fits, to_bits-of_bits, nan_bits_is, is_true}
use lib.Ieee.Scale.{finite}
use borrow.Author.Tests.{le-leb, lt-leb, leb-true, leb-false, ltb-true}
use Rattle.words.specs.Numbers.{digits}
use Rattle.words.specs.Signed.{half}
use Rattle.words.proofs.Cases.{lt_or_ge}
use Rattle.cell.specs.Doubles.{all_complemented, meant_bits, stored_bits, double_of, stored_double}
use Rattle.cell.specs.Writing.{number_form, none, bytes}
use Rattle.cell.proofs.DoubleLaws.{infinity_bits, finite_is, finite_below, finite_from, finite_bits, of_bits_lem}
use Rattle.cell.proofs.DoubleLaws.{bits_small, finite_number, nan_infinite, not_nan, finite_by_bits}

-- ---- bits, once over what the top bit counts for

module _ (top n : ℕ) where
  pub meant_from : top ≤ n → meant_bits top n ≡ n - top
  unfolding meant_bits
  meant_from h = rw (le-leb top n h)

  pub meant_below : n < top → meant_bits top n ≡ all_complemented top n
  unfolding meant_bits
  meant_below h = rw (lt-leb top n h)

  pub stored_from : top ≤ n → stored_bits top n ≡ all_complemented top n
  unfolding stored_bits
  stored_from h = rw (le-leb top n h)

  pub stored_below : n < top → stored_bits top n ≡ n + top
  unfolding stored_bits
  stored_below h = rw (lt-leb top n h)

-- by the top bit
module _ (top n : ℕ) (h : n < top + top) where
  meant_lt : meant_bits top n < top + top
  meant_lt =
      ⊎_elim
      (λ (l : n < top). rw (meant_below top n l) (omega arith))
      (λ (l : top ≤ n). rw (meant_from top n l) (omega arith))
      (lt_or_ge n top)

  stored_lt : stored_bits top n < top + top
  stored_lt =
      ⊎_elim
      (λ (l : n < top). rw (stored_below top n l) (omega arith))
      (λ (l : top ≤ n). rw (stored_from top n l) (omega arith))
      (lt_or_ge n top)

  pub stored_meant : stored_bits top (meant_bits top n) ≡ n
  stored_meant =
      ⊎_elim
      (λ (l : n < top).
      rw (meant_below top n l, stored_from top (all_complemented top n) (omega arith)) (omega arith))
      (λ (l : top ≤ n). rw (meant_from top n l, stored_below top (n - top) (omega arith)) (omega arith))
      (lt_or_ge n top)

  pub meant_stored : meant_bits top (stored_bits top n) ≡ n
  meant_stored =
      ⊎_elim
      (λ (l : n < top). rw (stored_below top n l, meant_from top (n + top) (omega arith)) (omega arith))
      (λ (l : top ≤ n).
      rw (stored_from top n l, meant_below top (all_complemented top n) (omega arith)) (omega arith))
      (lt_or_ge n top)

-- nothing is stored as 0 but bits that are all 1
stored_some : (top b : ℕ) → suc b < top + top → 0 < stored_bits top b
stored_some top b h =
    ⊎_elim
    (λ (l : b < top). rw (stored_below top b l) (omega arith))
    (λ (l : top ≤ b). rw (stored_from top b l) (omega arith))
    (lt_or_ge b top)

-- ---- a double and the number that it is stored as

module _ (x : Float) (f : fits binary64 x ≡ true) where
  -- the number that it is stored as means it
  pub double_of_stored : double_of 8 (stored_double 8 x) ≡ x
  unfolding double_of stored_double
  double_of_stored = rw (meant_stored (half 8) (to_bits binary64 x) (bits_small x f)) (of_bits_lem x f)

  pub stored_wide : stored_double 8 x < 256 ^ 8
  unfolding stored_double
  stored_wide = stored_lt (half 8) (to_bits binary64 x) (bits_small x f)

  -- a finite double is not stored as 0, which is the blank
  pub stored_no_blank : finite x ≡ true → 0 < stored_double 8 x
  unfolding stored_double
  stored_no_blank h =
      let l = ltb-true (to_bits binary64 x % half 8) infinity_bits
      (finite_is (to_bits binary64 x) ∙ ap finite (of_bits_lem x f) ∙ h) in
      let m = bits_small x f in
      stored_some (half 8) (to_bits binary64 x) (omega arith)

-- what a number means is a double of the format
pub double_fits : (w n : ℕ) → fits binary64 (double_of w n) ≡ true
unfolding double_of
double_fits w n = is_true (fits binary64 (double_of w n)) (of_bits-fits binary64 (meant_bits (half w) n))

-- a number whose double is finite is what that double is stored as
pub stored_of_double : (n : ℕ) → n < 256 ^ 8 → finite (double_of 8 n) ≡ true → stored_double 8 (double_of 8 n) ≡ n
unfolding double_of stored_double
stored_of_double n h f =
    rw (to_bits-of_bits binary64 b (meant_lt (half 8) n h)
    (subst (λ (t : Bool). T (not t)) (nan_bits_is binary64 b) (finite_bits b f)))
    (stored_meant (half 8) n h)
  where
    b : ℕ
    b = meant_bits (half 8) n

-- ---- which stored numbers mean a finite double

-- the least of them, which means the least finite double, and the greatest
abbrev pub least_stored : ℕ
least_stored = 0x0010000000000000

abbrev pub most_stored : ℕ
most_stored = 0xFFEFFFFFFFFFFFFF

module _ (n : ℕ) (h : n < 256 ^ 8) where
  abbrev bits : ℕ
  bits = meant_bits (half 8) n

  stored_inside : least_stored ≤ n → n ≤ most_stored → bits % half 8 < infinity_bits
  stored_inside l m =
      ⊎_elim
      (λ (k : n < half 8). rw (meant_below (half 8) n k) (omega arith))
      (λ (k : half 8 ≤ n). rw (meant_from (half 8) n k) (omega arith))
      (lt_or_ge n (half 8))

  stored_under : n < least_stored → infinity_bits ≤ bits % half 8
  stored_under l = rw (meant_below (half 8) n (omega arith)) (omega arith)

  stored_over : most_stored < n → infinity_bits ≤ bits % half 8
  stored_over l = rw (meant_from (half 8) n (omega arith)) (omega arith)

  -- those from the one to the other, without a gap
  pub finite_stored : finite (double_of 8 n) ≡ (leb least_stored n && leb n most_stored)
  unfolding double_of
  finite_stored = go (leb least_stored n) (leb n most_stored) refl refl
    where
      go : (p q : Bool) → leb least_stored n ≡ p → leb n most_stored ≡ q
          → finite (of_bits binary64 bits) ≡ (p && q)
      go true true e f = finite_below bits (stored_inside (leb-true least_stored n e) (leb-true n most_stored f))
      go true false e f = finite_from bits (stored_over (leb-false n most_stored f))
      go false q e f = finite_from bits (stored_under (leb-false least_stored n e))

-- ---- the stored form

-- every finite double has one
pub finite_form : (w : ℕ) (x : Float) → finite x ≡ true → number_form w x ≡ bytes (digits w (stored_double w x))
unfolding number_form
finite_form w x h = rw h

-- and no other
pub infinite_form : (w : ℕ) (x : Float) → finite x ≡ false → number_form w x ≡ none
unfolding number_form
infinite_form w x h = rw h

-- the number that a finite double is stored as
pub ruleset stored = (finite_number, stored_from, stored_below)

-- which doubles have a form
pub ruleset forms = (nan_infinite, not_nan, finite_by_bits, finite_form, infinite_form)

-- Less and equal of amounts exclude each other, so that it is enough to know that what comes earlier is less. Assumes
-- nothing.
use Prim.Native.Nat.{ℕ}
use mathlib.Core.Path.{◌≡◌, refl, sym, ◌∙◌}
use mathlib.Core.Bool.{true, false, true≢false}
use mathlib.Core.List.{List}
use mathlib.Core.Logic.{◌⊎◌, inl, inr, ⊎_elim}
use native.Mathlib.Omega.{arith}
use lib.IntN.{ℤ, pos, negsuc}
use lib.Signed.{lt_z}
use lib.Ieee.{lt, eq}
use borrow.Author.Tests.{le-ltb, ltb-true}
use Rattle.words.specs.Order.{NotLater, order}
use Rattle.std.specs.declared.cmp.Ordering.TheVariants.{Less}
use Rattle.words.proofs.Cases.{apart}
use Rattle.words.proofs.OrderLaws.{not_later_cases, order_cases}
use Rattle.cell.specs.Amounts.{Amount, whole, LessThan, wholes, doubles, blank_whole, blank_double}
use Rattle.cell.specs.Amounts.{EqualTo, same_whole, same_double}
use Rattle.cell.specs.Amounts.{AtMost, negative_zero, positive_zero, TwoZeros, OrderedAs, WholesOrderedAs}
use Rattle.cell.proofs.ExactLaws.{lt_excludes}

-- ---- less, equal and greater exclude each other

not_greater : (x y : ℤ) → lt_z x y ≡ true → lt_z y x ≡ false
not_greater (pos m) (pos n) h = let l = ltb-true m n h in le-ltb n m (omega arith)
not_greater (pos m) (negsuc n) h = absurd (true≢false (sym h))
not_greater (negsuc m) (pos n) h = refl
not_greater (negsuc m) (negsuc n) h = let l = ltb-true n m h in le-ltb m n (omega arith)

less_not_greater : {x y : Amount} → LessThan x y → LessThan y x → ⊥
less_not_greater (wholes {x} {y} h) (wholes k) = true≢false (sym k ∙ not_greater x y h)
less_not_greater (doubles {x} {y} h) (doubles k) = true≢false (sym k ∙ (lt_excludes x y h).0)
less_not_greater (blank_whole {z}) k = elim k [ ]
less_not_greater (blank_double {y}) k = elim k [ ]

pub less_not_equal : {x y : Amount} → LessThan x y → EqualTo x y → ⊥
less_not_equal (wholes {x} h) same_whole = true≢false (sym h ∙ not_greater x x h)
less_not_equal (doubles {x} {y} h) (same_double k) = true≢false (sym k ∙ (lt_excludes x y h).1)
less_not_equal (blank_whole {z}) k = elim k [ ]
less_not_equal (blank_double {y}) k = elim k [ ]

greater_not_equal : {x y : Amount} → LessThan y x → EqualTo x y → ⊥
greater_not_equal (wholes {x} h) same_whole = true≢false (sym h ∙ not_greater x x h)
greater_not_equal (doubles {x} {y} h) (same_double k) = true≢false (sym k ∙ (lt_excludes x y h).2)
greater_not_equal (blank_whole {z}) k = elim k [ ]
greater_not_equal (blank_double {y}) k = elim k [ ]

-- the two zeros are equal, and neither is less
zeros_equal : {x y : Amount} {a b : List ℕ} → TwoZeros x y a b → EqualTo x y
unfolding eq
zeros_equal z = rw (z.negative, z.positive) (same_double refl)

not_less : LessThan positive_zero negative_zero → ⊥
unfolding lt
not_less (doubles h) = true≢false (sym h)

zeros_not_less : {x y : Amount} {a b : List ℕ} → TwoZeros x y a b → LessThan y x → ⊥
zeros_not_less z h = not_less (rw (z.negative, z.positive) at h)

-- but not the same
two_zeros : negative_zero ≡ positive_zero → ⊥
two_zeros e = let b : true ≡ false = cc in true≢false b

-- ---- both ways

-- what comes earlier is less, or the two are the zeros
abbrev pub EarlierLess : Amount → Amount → List ℕ → List ℕ → Type 0
EarlierLess x y a b = order a b ≡ Less → LessThan x y ⊎ TwoZeros x y a b

-- that is enough, said of both cells
pub ordered : (x y : Amount) (a b : List ℕ) → EarlierLess x y a b → EarlierLess y x b a →
    (a ≡ b → (x ≡ y) × EqualTo x y) → OrderedAs x y a b
ordered x y a b up down same =
    record {
      less =
          λ h. order_cases a b (λ o. o) (λ e. absurd (less_not_equal h (same e).1))
          (λ o. ⊎_elim (λ k. absurd (less_not_greater h k)) (λ z. absurd (zeros_not_less z h)) (down o));
      equal =
          λ h. order_cases a b
          (λ o. ⊎_elim (λ k. absurd (less_not_equal k h)) (λ z. inr (inl z)) (up o))
          (λ e. inl e)
          (λ o. ⊎_elim (λ k. absurd (greater_not_equal k h)) (λ z. inr (inr z)) (down o));
      earlier = up;
      same = same;
    }

-- what is not later is not greater
pub ordered_at_most : {x y : Amount} {a b : List ℕ} → OrderedAs x y a b → NotLater a b → AtMost x y
ordered_at_most o h =
    not_later_cases _ _ h (λ l. ⊎_elim (λ k. inl k) (λ z. inr (zeros_equal z)) (o.earlier l)) (λ e. inr (o.same e).1)

-- zero is later than negative zero
pub zero_later : {x y : Amount} {a b : List ℕ} → OrderedAs x y a b → x ≡ positive_zero → y ≡ negative_zero →
    NotLater a b → ⊥
zero_later o e f h =
    not_later_cases _ _ h
    (λ l. ⊎_elim (λ k. not_less (rw (e, f) at k)) (λ z. two_zeros (sym z.negative ∙ e)) (o.earlier l))
    (λ s. two_zeros (sym f ∙ sym (o.same s).0 ∙ e))

-- no whole number is one of the two zeros
module _ {x y : ℤ} {a b : List ℕ} (o : OrderedAs (whole x) (whole y) a b) where
  no_zero : {X : Type 0} (z : ℤ) → whole z ≡ negative_zero → X
  no_zero z e = apart cc

  pub wholes_plainly : WholesOrderedAs x y a b
  wholes_plainly =
      record {
        less = λ h. o.less (wholes h);
        equal = λ e. ⊎_elim (λ i. i)
            (λ z. ⊎_elim (λ k. no_zero x k.negative) (λ k. no_zero y k.negative) z) (o.equal (rw e same_whole));
        earlier = λ l. ⊎_elim less (λ k. no_zero x k.negative) (o.earlier l);
        same = λ e. let i = (o.same e).0 in cc;
      }
    where
      less : LessThan (whole x) (whole y) → lt_z x y ≡ true
      less (wholes h) = h

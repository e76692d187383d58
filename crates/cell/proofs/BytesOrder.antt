-- Request 03 of bytes: two cells of as many bytes are ordered as their amounts, whole numbers once over the width,
-- doubles, and both with the blank. Assumes nothing.
use Prim.Native.Nat.{ℕ, suc, ◌+◌, ◌-◌, ◌^◌, ◌≤◌, ◌<◌}
use mathlib.Core.Path.{◌≡◌, refl, sym, ap, ◌∙◌}
use mathlib.Core.Bool.{Bool, true, false, cond}
use mathlib.Core.List.{List}
use mathlib.Core.Logic.{◌⊎◌, inl, inr, ⊎_elim}
use native.Mathlib.Omega.{arith}
use lib.IntN.{ℤ}
use lib.Ieee.{Float, of_bits, of_fields, odd}
use lib.Ieee.Scale.{finite}
use lib.ListN.{length}
use lib.Seq.{take_all}
use Rattle.words.specs.Numbers.{Bytes, big}
use Rattle.words.specs.Order.{order, range}
use Rattle.words.specs.Signed.{half, complemented, signed}
use Rattle.words.specs.Zeros.{all_zero}
use Rattle.std.specs.declared.cmp.Ordering.TheVariants.{Less}
use Rattle.words.proofs.NumberLaws.{big_lt}
use Rattle.words.proofs.NumberOrder.{earlier_number, same_number}
use Rattle.words.proofs.Ranges.{range_length}
use Rattle.words.proofs.SignedLaws.{half_twice, signed_order}
use Rattle.words.proofs.ZeroLaws.{zeros_number, some_number}
use Rattle.cell.specs.Amounts.{Amount, blank, whole, double, LessThan, blank_whole, blank_double, wholes}
use Rattle.cell.specs.Amounts.{doubles, EqualTo, blanks, same_whole, same_double, JustBefore, negative_zero}
use Rattle.cell.specs.Amounts.{positive_zero, TwoZeros, OrderedAs, WholesOrderedAs, unless_blank}
use Rattle.cell.specs.Doubles.{meant_bits, double_of}
use Rattle.cell.specs.Reading.{signed_at, double_at}
use Rattle.cell.proofs.DoubleOrder.{double_order}
use Rattle.cell.proofs.ExactLaws.{finite_itself}
use Rattle.cell.proofs.AmountLaws.{EarlierLess, ordered, wholes_plainly}

-- ---- two cells by the number of their bytes

-- an amount is a number: a whole one, or a finite double
data IsNumber : Amount → Type 0 where
  any_whole : {z : ℤ} → IsNumber (whole z)
  finite_double : {x : Float} → finite x ≡ true → IsNumber (double x)

number_equal : {x : Amount} → IsNumber x → EqualTo x x
number_equal any_whole = same_whole
number_equal (finite_double {x} f) = same_double (finite_itself x f)

number_blank : {x : Amount} → IsNumber x → LessThan blank x
number_blank any_whole = blank_whole
number_blank (finite_double f) = blank_double

-- the amount x of a cell whose bytes are the number n: blank where that is 0, else what it means
data Reads (means : ℕ → Amount) (n : ℕ) (x : Amount) : Type 0 where
  reads_blank : n ≡ 0 → x ≡ blank → Reads means n x
  reads_number : 0 < n → x ≡ means n → IsNumber x → Reads means n x

-- numbers that follow each other mean the two zeros
abbrev ZeroNumbers : (ℕ → Amount) → ℕ → ℕ → Type 0
ZeroNumbers means m n = (means m ≡ negative_zero) × (means n ≡ positive_zero) × (n ≡ suc m)

-- of two numbers of w bytes the lesser means less, or they mean the zeros
abbrev KeepsOrder : ℕ → (ℕ → Amount) → Type 0
KeepsOrder w means =
    (m n : ℕ) → m < n → n < 256 ^ w → IsNumber (means m) → IsNumber (means n) →
    LessThan (means m) (means n) ⊎ ZeroNumbers means m n

module _ (s t : List ℕ) (at to w : ℕ) (bytes : Bytes s) (others : Bytes t) (k : at + w ≤ length s)
    (l : to + w ≤ length t) where
  abbrev a : List ℕ
  a = range s at w

  abbrev b : List ℕ
  b = range t to w

  abbrev m : ℕ
  m = big s at w

  abbrev n : ℕ
  n = big t to w

  -- no bytes stand between those of a number and those of the next
  next_number : n ≡ suc m → order a b ≡ Less → JustBefore a b
  next_number e o =
      record {
        earlier = o;
        none_between =
            λ c all long p q.
            let wide : length c ≡ w = long ∙ range_length s at w k in
            let f : range c 0 w ≡ c = take_all w c (omega arith) in
            let i = earlier_number s c at 0 w bytes all k (omega arith) (rw f p) in
            let j = earlier_number c t 0 to w all others (omega arith) l (rw f q) in
            omega arith;
      }

  module _ (means : ℕ → Amount) (keeps : KeepsOrder w means) (x y : Amount) where
    cells_earlier_less : Reads means m x → Reads means n y → EarlierLess x y a b
    cells_earlier_less p q o = go p q (earlier_number s t at to w bytes others k l o)
      where
        go : Reads means m x → Reads means n y → m < n → LessThan x y ⊎ TwoZeros x y a b
        go (reads_blank e i) (reads_blank f j) h = absurd (omega arith)
        go (reads_blank e i) (reads_number f j c) h = inl (rw i (number_blank c))
        go (reads_number e i c) (reads_blank f j) h = absurd (omega arith)
        go (reads_number e i c) (reads_number f j d) h =
            ⊎_elim
            (λ (g : LessThan (means m) (means n)). inl (rw (i, j) g))
            (λ (z : ZeroNumbers means m n).
            inr (record { negative = i ∙ z.0; positive = j ∙ z.1; neighbours = next_number z.2 o }))
            (keeps m n h (big_lt t to w others) (rw i at c) (rw j at d))

    cells_same : Reads means m x → Reads means n y → a ≡ b → (x ≡ y) × EqualTo x y
    cells_same p q e = go p q (same_number s t at to w bytes others k l e)
      where
        go : Reads means m x → Reads means n y → m ≡ n → (x ≡ y) × EqualTo x y
        go (reads_blank e i) (reads_blank f j) h = (i ∙ sym j, rw (i, j) blanks)
        go (reads_blank e i) (reads_number f j c) h = absurd (omega arith)
        go (reads_number e i c) (reads_blank f j) h = absurd (omega arith)
        go (reads_number e i c) (reads_number f j d) h =
            let g : x ≡ y = i ∙ ap means h ∙ sym j in (g, rw (← g) (number_equal c))

-- two cells of w bytes whose amounts are told by their numbers in the same way
both_ordered : (s t : List ℕ) (at to w : ℕ) → Bytes s → Bytes t → at + w ≤ length s → to + w ≤ length t →
    (means : ℕ → Amount) → KeepsOrder w means → (x y : Amount) → Reads means (big s at w) x →
    Reads means (big t to w) y → OrderedAs x y (range s at w) (range t to w)
both_ordered s t at to w bytes others k l means keeps x y p q =
    ordered x y (range s at w) (range t to w)
    (cells_earlier_less s t at to w bytes others k l means keeps x y p q)
    (cells_earlier_less t s to at w others bytes l k means keeps y x q p)
    (cells_same s t at to w bytes others k l means keeps x y p q)

-- the amount of w bytes by their number
reads_at : (means : ℕ → Amount) (s : List ℕ) (at w : ℕ) → (all_zero s at w ≡ false → IsNumber (means (big s at w))) →
    Reads means (big s at w) (unless_blank s at w (means (big s at w)))
reads_at means s at w h = go (all_zero s at w) refl
  where
    go : (b : Bool) → all_zero s at w ≡ b → Reads means (big s at w) (cond b blank (means (big s at w)))
    go true e = reads_blank (zeros_number s at w e) refl
    go false e = reads_number (some_number s at w e) refl (h e)

-- ---- whole numbers, once over the width

-- what a number of w bytes means
abbrev whole_of : ℕ → ℕ → Amount
whole_of w n = whole (signed (half w) (complemented (half w) n))

whole_keeps : (w : ℕ) → 1 ≤ w → KeepsOrder w (whole_of w)
whole_keeps w some m n l h c d = let e = half_twice w some in inl (wholes (signed_order (half w) m n l (omega arith)))

-- ---- doubles

abbrev number_of : ℕ → Amount
number_of n = double (double_of 8 n)

is_finite : {x : Float} → IsNumber (double x) → finite x ≡ true
is_finite (finite_double f) = f

double_keeps : KeepsOrder 8 number_of
unfolding double_of meant_bits of_bits of_fields odd
double_keeps m n l h c d =
    ⊎_elim
    (λ k. inl (doubles k))
    (λ (z : (m ≡ half 8 - 1) × (n ≡ half 8)).
    inr (ap number_of z.0, ap number_of z.1, omega (arith, z.0, z.1)))
    (double_order m n l h (is_finite c) (is_finite d))

-- ---- two cells, with the blank

module _ (s t : List ℕ) (at to : ℕ) (bytes : Bytes s) (others : Bytes t) where
  -- of w bytes, as whole numbers
  pub wholes_ordered : (w : ℕ) → 1 ≤ w → at + w ≤ length s → to + w ≤ length t →
      OrderedAs (unless_blank s at w (whole (signed_at s at w))) (unless_blank t to w (whole (signed_at t to w)))
      (range s at w) (range t to w)
  wholes_ordered w some k l =
      both_ordered s t at to w bytes others k l (whole_of w) (whole_keeps w some) _ _
      (reads_at (whole_of w) s at w (λ _. any_whole)) (reads_at (whole_of w) t to w (λ _. any_whole))

  -- without the blank
  pub whole_numbers_ordered : (w : ℕ) → 1 ≤ w → at + w ≤ length s → to + w ≤ length t → all_zero s at w ≡ false →
      all_zero t to w ≡ false → WholesOrderedAs (signed_at s at w) (signed_at t to w) (range s at w) (range t to w)
  whole_numbers_ordered w some k l y z = wholes_plainly (rw (y, z) at (wholes_ordered w some k l))

  -- of eight bytes, as doubles that are finite
  pub doubles_ordered : at + 8 ≤ length s → to + 8 ≤ length t →
      (all_zero s at 8 ≡ false → finite (double_at s at 8) ≡ true) →
      (all_zero t to 8 ≡ false → finite (double_at t to 8) ≡ true) →
      OrderedAs (unless_blank s at 8 (double (double_at s at 8))) (unless_blank t to 8 (double (double_at t to 8)))
      (range s at 8) (range t to 8)
  doubles_ordered k l f g =
      both_ordered s t at to 8 bytes others k l number_of double_keeps _ _
      (reads_at number_of s at 8 (λ z. finite_double (f z))) (reads_at number_of t to 8 (λ z. finite_double (g z)))

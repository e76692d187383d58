-- The cells of one kind that are numbers stand together in the order of bytes: one between two of them has a meaning.
-- Assumes nothing.
use Prim.Native.Nat.{ℕ, ◌+◌, ◌-◌, ◌^◌, ◌≤◌, ◌<◌}
use mathlib.Core.Path.{◌≡◌, refl, sym, ◌∙◌}
use mathlib.Core.Bool.{true, false}
use mathlib.Core.List.{List}
use mathlib.Core.Logic.{⊎_elim}
use native.Mathlib.Omega.{arith}
use lib.Dec.{leb}
use lib.ListN.{length}
use borrow.Author.Tests.{le-leb, leb-true}
use Rattle.std.specs.Prelude.{Ok}
use Rattle.cell.specs.Values.{Cell}
use Rattle.words.specs.Numbers.{Bytes, big}
use Rattle.words.specs.Order.{NotLater, range}
use Rattle.words.specs.Signed.{half, complemented, signed}
use Rattle.words.specs.Zeros.{all_zero}
use Rattle.words.proofs.Cases.{lt_or_ge}
use Rattle.words.proofs.Conjunctions.{both}
use Rattle.words.proofs.NumberLaws.{big_lt}
use Rattle.words.proofs.NumberOrder.{not_later_number}
use Rattle.words.proofs.ZeroLaws.{some_number, number_some}
use Rattle.header.specs.Kinds.{Permitted}
use Rattle.header.specs.declared.kind.FieldKind.{FieldKind}
use Rattle.cell.specs.Amounts.{blank, amount_of, Compared, dates, shorts, longs, numbers, LessThan, blanks}
use Rattle.cell.specs.Doubles.{double_of}
use Rattle.cell.specs.Reading.{least_date, most_date, signed_at, date_cell, number_cell, value_at, cell_at, HasMeaning}
use Rattle.cell.specs.declared.value.Value.{Value}
use Rattle.cell.specs.declared.value.Value.TheVariants as Val
use Rattle.cell.proofs.Exits.{no_cell}
use Rattle.cell.proofs.AmountLaws.{less_not_equal}
use Rattle.cell.proofs.Inverse.{read_number}
use Rattle.cell.proofs.ReadingLaws.{date_negative, date_early, date_late, date_is, cell_value}
use Rattle.cell.proofs.RoundTrip.{read_as}
use Rattle.cell.proofs.StoredLaws.{least_stored, most_stored, finite_stored}

-- ---- the stored numbers of days

abbrev date_of : ℕ → Cell
date_of i = date_cell (signed (half 4) (complemented (half 4) i))

date_limits : (i : ℕ) → i < 256 ^ 4 → HasMeaning (date_of i) → (half 4 + least_date ≤ i) × (i ≤ half 4 + most_date)
date_limits i h r =
    ⊎_elim
    (λ (b : i < half 4). no_cell (date_negative i b ∙ r.1))
    (λ (b : half 4 ≤ i).
    ⊎_elim
    (λ (c : i - half 4 < least_date). no_cell (date_early i h b c ∙ r.1))
    (λ (c : least_date ≤ i - half 4).
    ⊎_elim
    (λ (d : most_date < i - half 4). no_cell (date_late i h b d ∙ r.1))
    (λ (d : i - half 4 ≤ most_date). (omega arith, omega arith))
    (lt_or_ge most_date (i - half 4)))
    (lt_or_ge (i - half 4) least_date))
    (lt_or_ge i (half 4))

-- ---- by the numbers of three cells, the second between the others

module _ (l m n : ℕ) (p : l ≤ m) (q : m ≤ n) where
  -- days
  date_between : n < 256 ^ 4 → HasMeaning (date_of l) → HasMeaning (date_of n) → HasMeaning (date_of m)
  date_between h x y =
      let i = (date_limits l (omega arith) x).0 in
      let j = (date_limits n h y).1 in
      (Val.Date (m - half 4), sym (date_is m (omega arith) (omega arith) (omega arith) (omega arith)))

  -- doubles
  number_between : n < 256 ^ 8 → HasMeaning (number_cell (double_of 8 l)) → HasMeaning (number_cell (double_of 8 n)) →
      HasMeaning (number_cell (double_of 8 m))
  unfolding number_cell
  number_between h x y =
      let i = both {a = leb least_stored l} {b = leb l most_stored}
      (sym (finite_stored l (omega arith)) ∙ (read_number (double_of 8 l) x.0 x.1).1) in
      let j = both {a = leb least_stored n} {b = leb n most_stored}
      (sym (finite_stored n h) ∙ (read_number (double_of 8 n) y.0 y.1).1) in
      let a = leb-true least_stored l i.0 in
      let b = leb-true n most_stored j.1 in (
        Val.Number (double_of 8 m),
        rw (
          finite_stored m (omega arith),
          le-leb least_stored m (omega arith),
          le-leb m most_stored (omega arith),
        ),
      )

-- ---- by bytes

-- a cell that is a number is not blank
not_blank : (kind : FieldKind) (s : List ℕ) (at w : ℕ) (v : Value) → cell_at kind s at w ≡ Ok v →
    LessThan blank (amount_of v) → all_zero s at w ≡ false
unfolding amount_of
not_blank kind s at w v h l =
    ⊎_elim
    (λ (c : (all_zero s at w ≡ true) × (v ≡ Val.Blank)). absurd (less_not_equal (rw c.1 at l) blanks))
    (λ (c : (all_zero s at w ≡ false) × (value_at kind s at w ≡ Ok v)). c.0)
    (read_as kind s at w v h).1

module _ (s r t : List ℕ) (at on to w : ℕ) (bytes : Bytes s) (more : Bytes r) (others : Bytes t) (i : at + w ≤ length s)
    (j : on + w ≤ length r) (k : to + w ≤ length t) where
  -- by the kind, where none of them is blank
  value_between : (kind : FieldKind) → Compared kind → Permitted kind w → big s at w ≤ big r on w →
      big r on w ≤ big t to w → HasMeaning (value_at kind s at w) → HasMeaning (value_at kind t to w) →
      HasMeaning (value_at kind r on w)
  unfolding Permitted value_at
  value_between kind dates p l m x y =
      rw p (date_between (big s at 4) (big r on 4) (big t to 4) (rw p at l) (rw p at m) (big_lt t to 4 others)
      (rw p at x) (rw p at y))
  value_between kind shorts p l m x y = (Val.Short (signed_at r on w), refl)
  value_between kind longs p l m x y = (Val.Long (signed_at r on w), refl)
  value_between kind numbers p l m x y =
      rw p (number_between (big s at 8) (big r on 8) (big t to 8) (rw p at l) (rw p at m) (big_lt t to 8 others)
      (rw p at x) (rw p at y))

  -- a cell that stands between two of its kind, of which the first is a number, reads as a value if these do
  pub between_reads : (kind : FieldKind) → Compared kind → Permitted kind w →
      NotLater (range s at w) (range r on w) → NotLater (range r on w) (range t to w) → (v : Value) →
      cell_at kind s at w ≡ Ok v → LessThan blank (amount_of v) → HasMeaning (cell_at kind t to w) →
      HasMeaning (cell_at kind r on w)
  between_reads kind e p f g v x h y =
      let z = not_blank kind s at w v x h in
      let l = not_later_number s r at on w bytes more i j f in
      let m = not_later_number r t on to w more others j k g in
      let n = some_number s at w z in
      let o = number_some r on w (omega arith) in
      let q = number_some t to w (omega arith) in
      let u = value_between kind e p l m (v, cell_value kind s at w z ∙ x) (rw (← cell_value kind t to w q) at y) in
      rw (← cell_value kind r on w o) u

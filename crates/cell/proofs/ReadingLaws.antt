-- The definition of reading, one law for each answer. Assumes nothing.
use mathlib.Core.Path.{◌≡◌, refl, sym, ap, ◌∙◌}
use mathlib.Core.Bool.{true, false, not, true≢false, and-false}
use mathlib.Core.List.{List}
use Prim.Native.Nat.{ℕ, ◌+◌, ◌-◌, ◌^◌, ◌≤◌, ◌<◌}
use native.Mathlib.Omega.{arith}
use borrow.Author.Tests.{le-leb, lt-leb}
use lib.IntN.{pos}
use lib.Ieee.{Float}
use lib.Ieee.Scale.{finite}
use Rattle.std.specs.Prelude.{None, Result, Ok, Err}
use Rattle.header.specs.Refusals.{kept}
use Rattle.words.specs.Numbers.{Bytes, big}
use Rattle.words.specs.Signed.{half, complemented, signed}
use Rattle.words.specs.Zeros.{all_zero, before_zero}
use Rattle.words.proofs.NumberLaws.{big_lt}
use Rattle.words.proofs.ZeroLaws.{before_most}
use Rattle.words.proofs.SignedLaws.{signed_complemented, less_below, less_from}
use Rattle.header.specs.declared.refusal.Refusal.{Refusal}
use Rattle.header.specs.declared.refusal.Refusal.TheVariants.{NoMeaning, BlobCell, BadArgument}
use Rattle.header.specs.Kinds.{is_blob, Permitted}
use Rattle.header.specs.Header.{header_refusal}
use Rattle.header.specs.Numbers.{field_is, numbers_of}
use Rattle.header.specs.declared.Header.{Header}
use Rattle.header.specs.declared.kind.FieldKind.{FieldKind}
use Rattle.header.specs.declared.kind.FieldKind.TheVariants as Kin
use Rattle.header.specs.Answers.{header_first, header_answer}
use Rattle.header.proofs.VerdictLaws.{unless_kept}
use Rattle.header.proofs.AcceptedLaws.{read_numbers, first_kept, first_refused}
use Rattle.blocks.specs.Shape.{shape_of}
use Rattle.cell.specs.Values.{Cell, answer_of}
use Rattle.cell.specs.Doubles.{double_of}
use Rattle.cell.specs.Locating.{field_at, place_at, BothSteps}
use Rattle.cell.specs.Reading.{least_date, most_date, date_cell, number_cell, logical_cell, text_with}
use Rattle.cell.specs.Reading.{value_at, cell_at}
use Rattle.cell.specs.Reading.{place_cell, field_cell, block_cell, cell_of, read_of}
use Rattle.cell.specs.declared.value.Value.TheVariants as Val
use Rattle.cell.proofs.DoubleLaws.{finite_bits}

-- ---- dates

module _ (n : ℕ) where
  pub date_negative : n < half 4 → Err NoMeaning ≡ date_cell (signed (half 4) (complemented (half 4) n))
  unfolding date_cell
  date_negative h = rw (signed_complemented (half 4) n (omega arith), less_below n (half 4) h)

  module _ (small : n < 256 ^ 4) (h : half 4 ≤ n) where
    day : signed (half 4) (complemented (half 4) n) ≡ pos (n - half 4)
    day = signed_complemented (half 4) n (omega arith) ∙ less_from n (half 4) h

    pub date_early : n - (half 4) < least_date → Err NoMeaning ≡ date_cell (signed (half 4) (complemented (half 4) n))
    unfolding date_cell
    date_early l = rw (day, lt-leb least_date (n - half 4) l)

    pub date_late : most_date < n - (half 4) → Err NoMeaning ≡ date_cell (signed (half 4) (complemented (half 4) n))
    unfolding date_cell
    date_late l = rw (day, le-leb least_date (n - half 4) (omega arith), lt-leb (n - half 4) most_date l)

    pub date_is : least_date ≤ n - (half 4) → n - (half 4) ≤ most_date
        → Ok (Val.Date (n - half 4)) ≡ date_cell (signed (half 4) (complemented (half 4) n))
    unfolding date_cell
    date_is l m = rw (day, le-leb least_date (n - half 4) l, le-leb (n - half 4) most_date m)

-- each case of a date
pub ruleset dates = (date_negative, date_early, date_late, date_is)

-- ---- numbers

module _ (x : Float) where
  pub number_refused : finite x ≡ false → Err NoMeaning ≡ number_cell x
  unfolding number_cell
  number_refused e = rw e

  pub number_is : finite x ≡ true → Ok (Val.Number x) ≡ number_cell x
  unfolding number_cell
  number_is e = rw e

-- each case of a number, and that no not-a-number is asked for
pub ruleset numbers = (finite_bits, number_refused, number_is)

-- ---- text

module _ (s : List ℕ) (at w l : ℕ) where
  pub text_refused : all_zero s (at + l) (w - l) ≡ false → Err NoMeaning ≡ text_with s at w l
  unfolding text_with
  text_refused e = rw e

  pub text_is : all_zero s (at + l) (w - l) ≡ true → Ok (Val.Text at l) ≡ text_with s at w l
  unfolding text_with
  text_is e = rw e

-- each case of a text
pub ruleset texts = (text_refused, text_is, before_most)

-- a number that was read in w bytes is below that power
pub number_below : (s : List ℕ) (at w : ℕ) → Bytes s → (n : ℕ) → n ≡ big s at w → n < 256 ^ w
number_below s at w bytes n f = rw f (big_lt s at w bytes)

-- ---- a cell, by its kind

blob_value : (s : List ℕ) (at w : ℕ) (k : FieldKind) → is_blob k ≡ true → Err BlobCell ≡ value_at k s at w
unfolding is_blob value_at
blob_value s at w Kin.Text e = absurd (true≢false (sym e))
blob_value s at w Kin.Date e = absurd (true≢false (sym e))
blob_value s at w Kin.Short e = absurd (true≢false (sym e))
blob_value s at w Kin.Long e = absurd (true≢false (sym e))
blob_value s at w Kin.Number e = absurd (true≢false (sym e))
blob_value s at w Kin.Logical e = absurd (true≢false (sym e))
blob_value s at w Kin.Blob e = refl

module _ (kind : FieldKind) (s : List ℕ) (at w : ℕ) where
  pub cell_blob : is_blob kind ≡ true → Err BlobCell ≡ cell_at kind s at w
  unfolding cell_at
  cell_blob e = rw e (blob_value s at w kind e)

  pub cell_blank : is_blob kind ≡ false → all_zero s at w ≡ true → Ok Val.Blank ≡ cell_at kind s at w
  unfolding cell_at
  cell_blank e z = rw (e, z)

  -- bytes that are not all zero mean what their kind says
  pub cell_value : all_zero s at w ≡ false → value_at kind s at w ≡ cell_at kind s at w
  unfolding cell_at
  cell_value z = rw (z, and-false (not (is_blob kind)))

module _ (s : List ℕ) (at w : ℕ) (z : all_zero s at w ≡ false) where
  pub cell_text_lem : text_with s at w (before_zero s at w) ≡ cell_at Kin.Text s at w
  unfolding value_at
  cell_text_lem = cell_value Kin.Text s at w z

  pub cell_date : Permitted Kin.Date w → (n : ℕ) → n ≡ big s at 4
      → date_cell (signed (half 4) (complemented (half 4) n)) ≡ cell_at Kin.Date s at w
  unfolding Permitted value_at
  cell_date p n f =
      rw f
      (ap (λ (v : ℕ). date_cell (signed (half v) (complemented (half v) (big s at v)))) (sym p)
      ∙ cell_value Kin.Date s at w z)

  pub cell_short : Permitted Kin.Short w → (n : ℕ) → n ≡ big s at 2
      → Ok (Val.Short (signed (half 2) (complemented (half 2) n))) ≡ cell_at Kin.Short s at w
  unfolding Permitted value_at
  cell_short p n f =
      rw f
      (ap {B = Cell} (λ (v : ℕ). Ok (Val.Short (signed (half v) (complemented (half v) (big s at v))))) (sym p)
      ∙ cell_value Kin.Short s at w z)

  pub cell_long : Permitted Kin.Long w → (n : ℕ) → n ≡ big s at 4
      → Ok (Val.Long (signed (half 4) (complemented (half 4) n))) ≡ cell_at Kin.Long s at w
  unfolding Permitted value_at
  cell_long p n f =
      rw f
      (ap {B = Cell} (λ (v : ℕ). Ok (Val.Long (signed (half v) (complemented (half v) (big s at v))))) (sym p)
      ∙ cell_value Kin.Long s at w z)

  pub cell_number : Permitted Kin.Number w → (n : ℕ) → n ≡ big s at 8
      → number_cell (double_of 8 n) ≡ cell_at Kin.Number s at w
  unfolding Permitted value_at
  cell_number p n f =
      rw f (ap (λ (v : ℕ). number_cell (double_of v (big s at v))) (sym p) ∙ cell_value Kin.Number s at w z)

  pub cell_logical : Permitted Kin.Logical w → (n : ℕ) → n ≡ big s at 1 → logical_cell n ≡ cell_at Kin.Logical s at w
  unfolding Permitted value_at
  cell_logical p n f = rw f (ap (λ (v : ℕ). logical_cell (big s at v)) (sym p) ∙ cell_value Kin.Logical s at w z)

-- each case of a cell
pub ruleset cells =
    (cell_blob, cell_blank, cell_text_lem, cell_date, cell_short, cell_long, cell_number, cell_logical)

-- ---- by block, place and field

module _ (t : List ℕ) (h : Header) (b p f : ℕ) where
  pub block_missing : field_at t h b f ≡ None → Err BadArgument ≡ block_cell t h b p f
  unfolding block_cell field_cell
  block_missing e = rw e

  module _ (kind : FieldKind) (width offset : ℕ) (e : field_at t h b f ≡ field_is kind width offset) where
    pub block_refused : (r : Refusal) → place_at t (shape_of h) b p offset ≡ Err r → Err r ≡ block_cell t h b p f
    unfolding block_cell field_cell place_cell
    block_refused r q = rw (e, q)

    pub block_cell_lem : (at : ℕ) → place_at t (shape_of h) b p offset ≡ Ok at
        → cell_at kind t at width ≡ block_cell t h b p f
    unfolding block_cell field_cell place_cell
    block_cell_lem at r = rw (e, r)

module _ (t : List ℕ) (b p f : ℕ) where
  pub cell_accepted : header_refusal t ≡ kept → block_cell t (numbers_of t) b p f ≡ cell_of t b p f
  unfolding cell_of header_first
  cell_accepted e = sym (unless_kept (header_refusal t) Err (block_cell t (numbers_of t) b p f) e)

  -- a cell that both steps find means what its bytes mean
  pub steps_cell : header_refusal t ≡ kept → (kind : FieldKind) (width at : ℕ)
      → BothSteps t (numbers_of t) b p f kind width at → cell_at kind t at width ≡ cell_of t b p f
  steps_cell right kind width at c =
      block_cell_lem t (numbers_of t) b p f kind width c.offset c.field at c.place ∙ cell_accepted right

  -- of a header that was read as r
  module _ (r : Result Header Refusal) (read : r ≡ header_answer t) where
    pub cell_refused : {x : Refusal} → r ≡ Err x → Err x ≡ cell_of t b p f
    unfolding cell_of
    cell_refused e = sym (first_refused t r read Err (block_cell t (numbers_of t) b p f) e)

    pub cell_read : {h : Header} → r ≡ Ok h → block_cell t h b p f ≡ cell_of t b p f
    unfolding cell_of
    cell_read e =
        ap (λ (h : Header). block_cell t h b p f) (read_numbers t r read e)
        ∙ sym (first_kept t r read Err (block_cell t (numbers_of t) b p f) e)

  -- the cell is the definition's, and so are its number and value
  pub answers : (c : Cell) → c ≡ cell_of t b p f → (c ≡ cell_of t b p f) × (answer_of t c ≡ read_of t b p f)
  unfolding read_of
  answers c e = (e, ap (answer_of t) e)

-- No number that isn't finite gets through: none is read, none is written, and a cell that stores one is refused with
-- 11, by its bytes and by block, place and field, zeros apart, which are blank. Every finite one is read and written.
-- Assumes nothing.
use mathlib.Core.Path.{◌≡◌, refl, sym, ap, ◌∙◌}
use mathlib.Core.Bool.{Bool, true, false, cond, ◌&&◌, true≢false}
use mathlib.Core.List.{List, ◌++◌}
use mathlib.Core.Logic.{⊎_elim}
use Prim.Native.Nat.{ℕ, ◌≤◌}
use native.Mathlib.Omega.{arith}
use lib.Dec.{leb}
use lib.ListN.{length, drop}
use lib.Ieee.{Float, nan, of_bits, of_fields}
use lib.Ieee.Scale.{finite}
use Rattle.std.specs.Prelude.{Some, Ok, Err}
use Rattle.header.specs.Refusals
use Rattle.header.specs.Refusals.{kept}
use Rattle.words.specs.Numbers.{Bytes, big, digits}
use Rattle.words.specs.Zeros.{all_zero, before_zero}
use Rattle.words.proofs.NumberLaws.{big_lt}
use Rattle.words.proofs.ZeroLaws.{zeros_number}
use Rattle.header.specs.declared.refusal.Refusal.TheVariants.{NoMeaning}
use Rattle.header.specs.Kinds.{kind_of, is_blob, Permitted}
use Rattle.header.specs.declared.kind.FieldKind.{FieldKind}
use Rattle.header.specs.declared.kind.FieldKind.TheVariants as Kin
use Rattle.header.specs.declared.Header.{Header}
use Rattle.header.specs.Header.{header_refusal}
use Rattle.header.specs.Numbers.{numbers_of}
use Rattle.cell.specs.Values.{nothing, blank, number, content_of, answer_of}
use Rattle.cell.specs.Doubles.{meant_bits, double_of, stored_double}
use Rattle.cell.specs.Locating.{BothSteps}
use Rattle.cell.specs.Reading.{signed_at, double_at, number_cell, value_at, cell_at, cell_of, read_of, Stands}
use Rattle.cell.specs.Writing.{bytes, number_form, form_of, of_kind, put_form, write_of}
use Rattle.cell.specs.declared.value.Value.TheVariants as Val
use Rattle.cell.proofs.Exits.{no_cell}
use Rattle.cell.proofs.ReadingLaws.{cell_blank, cell_value, steps_cell}
use Rattle.cell.proofs.PlaceLaws.{stands}
use Rattle.cell.proofs.StoredLaws.{least_stored, most_stored, finite_stored, finite_form, infinite_form}
use Rattle.cell.proofs.WritingLaws.{write_form}
use Rattle.cell.proofs.Inverse.{no_form, read_date, read_number, read_logical, read_text}
use Rattle.cell.proofs.RoundTrip.{read_as, wrote, write_is, meaningless_form}

module _ (x : Float) where
  -- by the kind: the other kinds read as other cases
  value_finite : (kind : FieldKind) (s : List ℕ) (at w : ℕ) → value_at kind s at w ≡ Ok (Val.Number x) → finite x ≡ true
  unfolding value_at
  value_finite Kin.Text s at w h =
      let q = (read_text s at w (before_zero s at w) (Val.Number x) h).0 in
      let z : ◌≡◌ {A = ℕ} 0 1 = cc in
      absurd (omega arith)
  value_finite Kin.Date s at w h =
      let q = (read_date (signed_at s at w) (Val.Number x) h).1 in
      let z : ◌≡◌ {A = ℕ} 0 1 = cc in
      absurd (omega arith)
  value_finite Kin.Short s at w h = let z : ◌≡◌ {A = ℕ} 0 1 = cc in absurd (omega arith)
  value_finite Kin.Long s at w h = let z : ◌≡◌ {A = ℕ} 0 1 = cc in absurd (omega arith)
  value_finite Kin.Number s at w h =
      let q = read_number (double_at s at w) (Val.Number x) h in
      let e : x ≡ double_at s at w = let k = q.0 in cc in
      ap finite e ∙ q.1
  value_finite Kin.Logical s at w h =
      let q = (read_logical (big s at w) (Val.Number x) h).1 in
      let z : ◌≡◌ {A = ℕ} 0 1 = cc in
      absurd (omega arith)
  value_finite Kin.Blob s at w h = no_cell h

  -- a number that a cell's bytes mean is finite
  pub cell_finite : (kind : FieldKind) (s : List ℕ) (at w : ℕ) → cell_at kind s at w ≡ Ok (Val.Number x) →
      finite x ≡ true
  cell_finite kind s at w h =
      ⊎_elim
      (λ (c : (all_zero s at w ≡ true) × (Val.Number x ≡ Val.Blank)).
      let e = c.1 in
      let z : ◌≡◌ {A = ℕ} 0 1 = cc in
      absurd (omega arith))
      (λ (c : (all_zero s at w ≡ false) × (value_at kind s at w ≡ Ok (Val.Number x))). value_finite kind s at w c.1)
      (read_as kind s at w (Val.Number x) h).1

  -- a number that stands in a table is finite
  pub stands_finite : (t : List ℕ) (h : Header) (b p f : ℕ) → Stands t h b p f (Val.Number x) → finite x ≡ true
  stands_finite t h b p f s = cell_finite s.kind t s.at s.width s.means

  -- a number that is read is finite
  pub read_finite : (t : List ℕ) (b p f : ℕ) → cell_of t b p f ≡ Ok (Val.Number x) → finite x ≡ true
  read_finite t b p f e = stands_finite t (numbers_of t) b p f (stands t b p f (Val.Number x) e)

  form_finite : (w : ℕ) (s : List ℕ) → number_form w x ≡ bytes s → finite x ≡ true
  form_finite w s h = go (finite x) refl
    where
      go : (t : Bool) → finite x ≡ t → t ≡ true
      go true e = refl
      go false e = no_form (sym (infinite_form w x e) ∙ h)

  -- a number that is written is finite
  pub written_finite : (code w : ℕ) (buffer out : List ℕ) → write_of code w (number x) buffer ≡ (kept, out)
      → finite x ≡ true
  unfolding form_of
  written_finite code w buffer out h = let r = wrote code w (number x) buffer out h in form_finite w r.1 r.6

-- zeros would be a not-a-number
pub zeros_nan : (s : List ℕ) (at w : ℕ) → Permitted Kin.Number w → all_zero s at w ≡ true → double_at s at w ≡ nan
unfolding Permitted double_of meant_bits of_bits of_fields
zeros_nan s at w p z =
    rw (zeros_number s at w z, p)

-- a number cell by its bytes
module _ (s : List ℕ) (at w : ℕ) where
  -- a finite number that they mean is read: the blank hides none
  pub finite_cell : Permitted Kin.Number w → finite (double_at s at w) ≡ true
      → cell_at Kin.Number s at w ≡ Ok (Val.Number (double_at s at w))
  unfolding value_at number_cell
  finite_cell p f = go (all_zero s at w) refl
    where
      go : (z : Bool) → all_zero s at w ≡ z → cell_at Kin.Number s at w ≡ Ok (Val.Number (double_at s at w))
      go true z = absurd (true≢false (sym f ∙ ap finite (zeros_nan s at w p z)))
      go false z = sym (cell_value Kin.Number s at w z) ∙ rw f

  -- another number is refused with 11, zeros apart
  pub infinite_refused : all_zero s at w ≡ false → finite (double_at s at w) ≡ false
      → cell_at Kin.Number s at w ≡ Err NoMeaning
  unfolding value_at number_cell
  infinite_refused z f = sym (cell_value Kin.Number s at w z) ∙ rw f

  -- so the number of the bytes tells all: blank, a number from the least that is stored to the greatest, or 11
  pub number_range : Permitted Kin.Number w → Bytes s
      → cell_at Kin.Number s at w
      ≡ cond (all_zero s at w) (Ok Val.Blank)
      (cond (leb least_stored (big s at w) && leb (big s at w) most_stored) (Ok (Val.Number (double_at s at w)))
      (Err NoMeaning))
  unfolding Permitted cell_at value_at number_cell is_blob
  number_range p b = rw (p, finite_stored (big s at 8) (big_lt s at 8 b))

-- a number cell by block, place and field of a table whose header keeps rules 1 to 7
module _ (t : List ℕ) (b p f width at : ℕ) (right : header_refusal t ≡ kept)
    (c : BothSteps t (numbers_of t) b p f Kin.Number width at) where
  found : cell_at Kin.Number t at width ≡ cell_of t b p f
  found = steps_cell t b p f right Kin.Number width at c

  -- bytes that are no finite number's are refused with 11; blank comes first, so they are not to be all zero
  pub infinite_cell : all_zero t at width ≡ false → finite (double_at t at width) ≡ false
      → cell_of t b p f ≡ Err NoMeaning
  infinite_cell z i = sym found ∙ infinite_refused t at width z i

  pub infinite_read : all_zero t at width ≡ false → finite (double_at t at width) ≡ false
      → read_of t b p f ≡ (Refusals.number NoMeaning, nothing)
  unfolding read_of answer_of
  infinite_read z i = ap (answer_of t) (infinite_cell z i)

  -- bytes that are all zero are the blank, whatever double they would mean
  pub zeros_cell : all_zero t at width ≡ true → cell_of t b p f ≡ Ok Val.Blank
  unfolding is_blob
  zeros_cell z = sym (cell_blank Kin.Number t at width refl z ∙ found)

  pub zeros_read : all_zero t at width ≡ true → read_of t b p f ≡ (0, blank)
  unfolding read_of answer_of content_of
  zeros_read z = ap (answer_of t) (zeros_cell z)

-- ---- written: every finite number, and no other

module _ (x : Float) (code w : ℕ) (buffer : List ℕ) where
  module _ (k : kind_of code w ≡ Some Kin.Number) (room : w ≤ length buffer) where
    -- a finite number always has a stored form, negative zero too
    pub finite_written : finite x ≡ true
        → write_of code w (number x) buffer ≡ (kept, digits w (stored_double w x) ++ drop w buffer)
    unfolding is_blob of_kind form_of
    finite_written f =
        write_is code Kin.Number w (number x) (digits w (stored_double w x)) buffer k refl refl room (finite_form w x f)

    -- a number that isn't finite is not written: 11, and the buffer as it was
    pub infinite_unwritten : finite x ≡ false → write_of code w (number x) buffer ≡ (Err NoMeaning, buffer)
    unfolding is_blob of_kind form_of put_form
    infinite_unwritten f =
        sym (write_form code w (number x) buffer Kin.Number k refl refl room) ∙ rw (infinite_form w x f)

  -- 11 for a number that is offered means that it isn't finite
  pub meaningless_infinite : (out : List ℕ) → write_of code w (number x) buffer ≡ (Err NoMeaning, out)
      → finite x ≡ false
  unfolding form_of
  meaningless_infinite out h = go (finite x) refl
    where
      go : (t : Bool) → finite x ≡ t → t ≡ false
      go true e = no_form (sym (meaningless_form code w (number x) buffer out h) ∙ finite_form w x e)
      go false e = refl

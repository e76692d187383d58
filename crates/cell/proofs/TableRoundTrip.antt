-- The round trips by block, place and field of a table: a cell means the same wherever its bytes stand, so a written
-- value is read where it stands in a table; and a cell that is read, written by its field's stored pair, gives its
-- bytes. Assumes nothing.
use mathlib.Core.Path.{◌≡◌, refl, sym, ap, ◌∙◌}
use mathlib.Core.Bool.{Bool, true, false, cond, not, ◌&&◌}
use mathlib.Core.List.{List, ◌++◌}
use Prim.Native.Nat.{ℕ, ◌+◌, ◌-◌, ◌*◌, ◌≤◌, ◌<◌}
use native.Mathlib.Nat.{zero-add}
use native.Mathlib.Omega.{arith}
use lib.Dec.{eqb}
use lib.IntN.{ℤ, pos, negsuc}
use lib.Ieee.{Float}
use lib.Ieee.Scale.{finite}
use lib.ListN.{length, take, drop}
use lib.Seq.{get_or-take}
use borrow.Author.Tests.{le-leb}
use Rattle.std.specs.Prelude.{Some, Ok, Err}
use Rattle.header.specs.Refusals.{kept}
use Rattle.words.specs.Numbers.{byte, Bytes, big}
use Rattle.words.specs.Order.{range}
use Rattle.words.specs.Zeros.{all_zero, before_zero}
use Rattle.words.proofs.NumberLaws.{big_same}
use Rattle.words.proofs.Ranges.{range_byte, range_same}
use Rattle.words.proofs.ZeroLaws.{before_most, before_same, zero_same}
use Rattle.header.specs.declared.refusal.Refusal.TheVariants.{NoMeaning}
use Rattle.header.specs.Kinds.{kind_of, is_blob}
use Rattle.header.specs.Fields.{width_at, width_sum}
use Rattle.header.specs.Header.{header_refusal}
use Rattle.header.specs.Numbers.{field_is, numbers_of, field_of}
use Rattle.header.specs.declared.kind.FieldKind.{FieldKind}
use Rattle.header.specs.declared.kind.FieldKind.TheVariants as Kin
use Rattle.header.proofs.AcceptedLaws.{accepted}
use Rattle.blocks.specs.Shape.{shape_of, has_block, record_at}
use Rattle.blocks.specs.Counts.{count_in}
use Rattle.cell.specs.Values.{Cell, Content, text, Held, content_of, answer_of}
use Rattle.cell.specs.Locating.{field_at, place_at}
use Rattle.cell.specs.Reading.{false_byte, true_byte, is_date, signed_at, double_at, date_cell, number_cell}
use Rattle.cell.specs.Reading.{logical_cell, text_with, value_at, cell_at, cell_of, read_of}
use Rattle.cell.specs.Writing.{write_of}
use Rattle.cell.specs.declared.value.Value.{Value}
use Rattle.cell.specs.declared.value.Value.TheVariants as Val
use Rattle.cell.proofs.ReadingLaws.{block_cell_lem, cell_accepted}
use Rattle.cell.proofs.LocatingLaws.{field_of_block, place_there, located}
use Rattle.cell.proofs.PlaceLaws.{stands}
use Rattle.cell.proofs.RoundTrip.{wrote, write_rest, write_then_read, read_then_write}

-- ---- an answer that holds no text is the same over any bytes

module _ (s t : List ℕ) where
  abbrev Same : Cell → Type 0
  Same c = answer_of s c ≡ answer_of t c

  same_if : (b : Bool) (c d : Cell) → Same c → Same d → Same (cond b c d)
  same_if true c d h k = h
  same_if false c d h k = k

  date_same : (z : ℤ) → Same (date_cell z)
  unfolding date_cell answer_of content_of
  date_same (pos d) = same_if (is_date d) (Ok (Val.Date d)) (Err NoMeaning) refl refl
  date_same (negsuc d) = refl

  number_same : (x : Float) → Same (number_cell x)
  unfolding number_cell answer_of content_of
  number_same x = same_if (finite x) (Ok (Val.Number x)) (Err NoMeaning) refl refl

  logical_same : (n : ℕ) → Same (logical_cell n)
  unfolding logical_cell answer_of content_of
  logical_same n =
      same_if (eqb n false_byte) (Ok (Val.Logical false))
      (cond (eqb n true_byte) (Ok (Val.Logical true)) (Err NoMeaning)) refl
      (same_if (eqb n true_byte) (Ok (Val.Logical true)) (Err NoMeaning) refl refl)

-- ---- the same bytes, at two offsets

module _ (s t : List ℕ) (at to w : ℕ) (k : at + w ≤ length s) (l : to + w ≤ length t)
    (h : (i : ℕ) → i < w → byte s (at + i) ≡ byte t (to + i)) where
  same_number : big s at w ≡ big t to w
  same_number = big_same s t at to w h

  same_zeros : all_zero s at w ≡ all_zero t to w
  same_zeros = zero_same s t at to w h

  same_length : before_zero s at w ≡ before_zero t to w
  same_length = before_same s t at to w h

  -- a text of so many bytes
  text_at : (n : ℕ) → n ≤ w → answer_of s (text_with s at w n) ≡ answer_of t (text_with t to w n)
  unfolding text_with answer_of content_of
  text_at n m = rw tail (go (all_zero t (to + n) (w - n)))
    where
      tail : all_zero s (at + n) (w - n) ≡ all_zero t (to + n) (w - n)
      tail =
          zero_same s t (at + n) (to + n) (w - n)
          (λ i j.
          let a : at + n + i ≡ at + (n + i) = omega arith in
          let b : to + n + i ≡ to + (n + i) = omega arith in
          rw (a, b) (h (n + i) (omega arith)))

      go : (b : Bool)
          → answer_of s (cond b (Ok (Val.Text at n)) (Err NoMeaning))
          ≡ answer_of t (cond b (Ok (Val.Text to n)) (Err NoMeaning))
      go true =
          rw (le-leb (at + n) (length s) (omega arith), le-leb (to + n) (length t) (omega arith))
          (ap {B = ℕ × Content} (λ (r : List ℕ). (0, text r))
          (range_same s t at to n (omega arith) (omega arith) (λ i j. h i (omega arith))))
      go false = refl

  value_same : (kind : FieldKind) → answer_of s (value_at kind s at w) ≡ answer_of t (value_at kind t to w)
  unfolding value_at answer_of content_of
  value_same Kin.Text = rw same_length (text_at (before_zero t to w) (before_most t to w))
  value_same Kin.Date = rw same_number (date_same s t (signed_at t to w))
  value_same Kin.Short = rw same_number
  value_same Kin.Long = rw same_number
  value_same Kin.Number = rw same_number (number_same s t (double_at t to w))
  value_same Kin.Logical = rw same_number (logical_same s t (big t to w))
  value_same Kin.Blob = refl

  -- a cell means the same wherever its bytes stand
  pub cell_same : (kind : FieldKind) → answer_of s (cell_at kind s at w) ≡ answer_of t (cell_at kind t to w)
  unfolding cell_at answer_of content_of
  cell_same kind = rw same_zeros (go (not (is_blob kind) && all_zero t to w))
    where
      go : (b : Bool)
          → answer_of s (cond b (Ok Val.Blank) (value_at kind s at w))
          ≡ answer_of t (cond b (Ok Val.Blank) (value_at kind t to w))
      go true = refl
      go false = value_same kind

-- ---- a written value in a table

-- a value that was written, and whose bytes stand as the cell of a field of that kind and width, is
-- what reading by block, place and field answers
pub write_then_table : (code w : ℕ) (c : Content) (buffer out : List ℕ) → Held c
    → write_of code w c buffer ≡ (kept, out)
    → (t : List ℕ) (b p f : ℕ) (kind : FieldKind) (offset n : ℕ) → header_refusal t ≡ kept
    → has_block (shape_of (numbers_of t)) b ≡ true → field_of t (numbers_of t) f ≡ field_is kind w offset
    → count_in t (shape_of (numbers_of t)) b ≡ Some n → p < n → kind_of code w ≡ Some kind
    → range t (record_at (shape_of (numbers_of t)) b p + offset) w ≡ take w out → read_of t b p f ≡ (0, c)
unfolding read_of
write_then_table code w c buffer out held e t b p f kind offset n zero here field count place k same =
    let g = shape_of (numbers_of t) in
    let at = record_at g b p + offset in
    let found : field_at t (numbers_of t) b f ≡ field_is kind w offset =
    sym (field_of_block t (numbers_of t) b f here) ∙ field in
    let placed : place_at t g b p offset ≡ Ok at = sym (place_there t g b p offset n count place) in
    let inside = (located t (numbers_of t) (accepted t zero) b f kind w offset found p at placed).inside in
    let r = write_then_read code w c buffer out held e in
    let i : kind ≡ r.0 = let j = r.1 in cc in
    let long = (write_rest code w c buffer kept out e).1 in
    let room : 0 + w ≤ length out = omega (arith, (wrote code w c buffer out e).5, long) in
    let front : (j : ℕ) → j < w → byte (take w out) j ≡ byte out (0 + j) =
    λ j m. get_or-take w out j 0 m ∙ ap (byte out) (sym (zero-add j)) in
    let bytes : (j : ℕ) → j < w → byte t (at + j) ≡ byte out (0 + j) =
    λ j m. sym (range_byte t at w j m) ∙ ap (λ (l : List ℕ). byte l j) same ∙ front j m in
    let read = block_cell_lem t (numbers_of t) b p f kind w offset found at placed in
    ap (answer_of t) (sym (read ∙ cell_accepted t b p f zero))
    ∙ cell_same t out at 0 w inside room bytes kind
    ∙ ap (λ (l : FieldKind). answer_of out (cell_at l out 0 w)) i
    ∙ r.2

-- ---- a cell of a table, written again

-- the cell at a block, place and field of a table that reads as a value, written by its field's stored pair, gives its
-- bytes: those behind the fields before it in its record
pub table_then_write : (t : List ℕ) (b p f : ℕ) (v : Value) (buffer : List ℕ) → Bytes t → cell_of t b p f ≡ Ok v
    → (let area = (numbers_of t).area in
    let width = width_at t area (f - 1) in
    let at = record_at (shape_of (numbers_of t)) b p + width_sum t area (f - 1) in
    width ≤ length buffer
    → write_of (byte t (area + 2 * (f - 1))) width (content_of t v) buffer
    ≡ (kept, range t at width ++ drop width buffer))
table_then_write t b p f v buffer all e fit =
    let s = stands t b p f v e in
    let l = s.located in
    let k = l.wide in
    let a = l.begins in
    let code = byte t ((numbers_of t).area + 2 * (f - 1)) in
    rw (← k, ← a)
    (read_then_write code s.kind s.width t s.at v buffer l.stored all l.inside s.means (rw k fit))

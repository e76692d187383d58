-- What reading and writing a cell refuse with: each refusal stands at a rule of the definition. Assumes nothing.
use Prim.Native.Nat.{ℕ, ◌+◌, ◌-◌}
use mathlib.Core.Path.{◌≡◌, refl}
use mathlib.Core.Bool.{true, not, ◌&&◌}
use mathlib.Core.List.{List, [], ◌∷◌, ◌++◌}
use lib.Dec.{eqb, leb, ltb}
use lib.IntN.{ℤ, pos, negsuc}
use lib.Ieee.Scale.{finite}
use lib.ListN.{length}
use Rattle.std.specs.Prelude.{Option, Some, None, Result, Ok, Err}
use Rattle.words.specs.Numbers.{big}
use Rattle.words.specs.Zeros.{all_zero, before_zero}
use Rattle.words.proofs.Cases.{either}
use Rattle.header.specs.Refusals.{Verdict, number, one_of, among, header_refusals}
use Rattle.header.specs.declared.refusal.Refusal.{Refusal}
use Rattle.header.specs.declared.refusal.Refusal.TheVariants.{NoMeaning, BlobCell, BadArgument, WrongCount}
use Rattle.header.specs.Kinds.{kind_of, is_blob}
use Rattle.header.specs.Numbers.{numbers_of}
use Rattle.header.specs.declared.Header.{Header}
use Rattle.header.specs.declared.kind.FieldKind.{FieldKind}
use Rattle.header.specs.declared.kind.FieldKind.TheVariants as Kin
use Rattle.header.specs.declared.field.Field.{Field}
use Rattle.header.proofs.RefusalLaws.{one_of_front}
use Rattle.header.proofs.AcceptedLaws.{first_among}
use Rattle.blocks.specs.Shape.{shape_of}
use Rattle.blocks.specs.Counts.{count_in}
use Rattle.blocks.specs.declared.Shape.{Shape}
use Rattle.cell.specs.Values.{Cell, Content}
use Rattle.cell.specs.Locating.{field_at, place_with, place_at, place_refusals}
use Rattle.cell.specs.Reading.{signed_at, is_date, date_cell, double_at, number_cell, false_byte, true_byte}
use Rattle.cell.specs.Reading.{logical_cell, text_with, value_at, cell_at, place_cell, field_cell, block_cell}
use Rattle.cell.specs.Reading.{cell_refusals, cell_of}
use Rattle.cell.specs.Writing.{Form, none, bytes, form_of, of_kind, put_form, put_value, write_kind, write_stored}
use Rattle.cell.specs.Writing.{write_of, write_refusals}
use Rattle.cell.specs.declared.value.Value.{Value}
use Rattle.cell.specs.declared.value.Value.TheVariants as Val

-- ---- reading: what holds of every value and of each of these refusals, holds of the answer

-- locating
module _ (Holds : Result ℕ Refusal → Type 0) (found : (at : ℕ) → Holds (Ok at))
    (refused : (r : Refusal) → one_of place_refusals r ≡ true → Holds (Err r)) where
  with_holds : (g : Shape) (b p offset : ℕ) (n : Option ℕ) → Holds (place_with g b p offset n)
  unfolding place_with one_of number
  with_holds g b p offset None = refused WrongCount refl
  with_holds g b p offset (Some n) = either Holds (ltb p n) _ _ (found _) (refused BadArgument refl)

  pub place_holds : (t : List ℕ) (g : Shape) (b p offset : ℕ) → Holds (place_at t g b p offset)
  unfolding place_at
  place_holds t g b p offset = with_holds g b p offset (count_in t g b)

-- the bytes: a value or 11, and 12 of a blob
module _ (Holds : Cell → Type 0) (is : (v : Value) → Holds (Ok v)) (meaningless : Holds (Err NoMeaning)) where
  date_holds : (z : ℤ) → Holds (date_cell z)
  unfolding date_cell
  date_holds (pos d) = either Holds (is_date d) _ _ (is (Val.Date d)) meaningless
  date_holds (negsuc d) = meaningless

  value_holds : (kind : FieldKind) → (is_blob kind ≡ true → Holds (Err BlobCell)) → (s : List ℕ) (at w : ℕ)
      → Holds (value_at kind s at w)
  unfolding value_at text_with number_cell logical_cell is_blob
  value_holds Kin.Text blob s at w =
      let l = before_zero s at w in
      either Holds (all_zero s (at + l) (w - l)) _ _ (is (Val.Text at l)) meaningless
  value_holds Kin.Date blob s at w = date_holds (signed_at s at w)
  value_holds Kin.Short blob s at w = is (Val.Short (signed_at s at w))
  value_holds Kin.Long blob s at w = is (Val.Long (signed_at s at w))
  value_holds Kin.Number blob s at w = either Holds (finite (double_at s at w)) _ _ (is _) meaningless
  value_holds Kin.Logical blob s at w =
      either Holds (eqb (big s at w) false_byte) _ _ (is _)
      (either Holds (eqb (big s at w) true_byte) _ _ (is _) meaningless)
  value_holds Kin.Blob blob s at w = blob refl

  pub cell_at_holds : (kind : FieldKind) → (is_blob kind ≡ true → Holds (Err BlobCell)) → (s : List ℕ) (at w : ℕ)
      → Holds (cell_at kind s at w)
  unfolding cell_at
  cell_at_holds kind blob s at w =
      either Holds (not (is_blob kind) && all_zero s at w) _ _ (is Val.Blank) (value_holds kind blob s at w)

-- locating, then the bytes
module _ (Holds : Cell → Type 0) (is : (v : Value) → Holds (Ok v))
    (refused : (r : Refusal) → one_of cell_refusals r ≡ true → Holds (Err r)) where
  field_holds : (t : List ℕ) (g : Shape) (b p : ℕ) (f : Option Field) → Holds (field_cell t g b p f)
  unfolding field_cell place_cell one_of number
  field_holds t g b p (Some d) =
      place_holds (λ (a : Result ℕ Refusal). Holds (place_cell t d.kind d.width a)) (λ at.
      cell_at_holds Holds is (refused NoMeaning refl) d.kind (λ e. refused BlobCell refl) t at d.width)
      (λ r w. refused r (one_of_front r place_refusals (BlobCell ∷ NoMeaning ∷ []) w)) t g b p d.offset
  field_holds t g b p None = refused BadArgument refl

  pub cell_holds : (t : List ℕ) (h : Header) (b p f : ℕ) → Holds (block_cell t h b p f)
  unfolding block_cell
  cell_holds t h b p f = field_holds t (shape_of h) b p (field_at t h b f)

-- 1 to 7, then 13, 9, 12, 11
pub read_refusals : (t : List ℕ) (b p f : ℕ) → among (header_refusals ++ cell_refusals) (cell_of t b p f) ≡ true
unfolding cell_of among
read_refusals t b p f =
    first_among t cell_refusals (block_cell t (numbers_of t) b p f) (λ a.
    cell_holds (λ (c : Cell). among cell_refusals c ≡ true) (λ v. refl) (λ r w. w) t (numbers_of t) b p f)

-- ---- writing

abbrev Among : Verdict × List ℕ → Type 0
Among answer = among write_refusals answer.0 ≡ true

put_among : (w : ℕ) (s : Form) (buffer : List ℕ) → Among (put_form w s buffer)
unfolding put_form among one_of number
put_among w none buffer = refl
put_among w (bytes s) buffer = refl

stored_among : (k : Option FieldKind) (w : ℕ) (c : Content) (buffer : List ℕ) → Among (write_stored k w c buffer)
unfolding write_stored write_kind put_value among one_of number
stored_among None w c buffer = refl
stored_among (Some kind) w c buffer =
    either Among (is_blob kind) _ _ refl
    (either Among (of_kind c kind) _ _
    (either Among (leb w (length buffer)) _ _ (put_among w (form_of w c) buffer) refl) refl)

-- 13, 12, 14, 11
pub write_refusals_lem : (code w : ℕ) (c : Content) (buffer : List ℕ) →
    among write_refusals (write_of code w c buffer).0 ≡ true
unfolding write_of
write_refusals_lem code w c buffer = stored_among (kind_of code w) w c buffer

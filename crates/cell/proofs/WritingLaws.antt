-- The definition of writing, one law for each form and each answer. Assumes nothing.
use mathlib.Core.Path.{◌≡◌, ap, subst}
use mathlib.Core.Bool.{Bool, true, false}
use mathlib.Core.List.{List, ◌++◌}
use Prim.Native.Nat.{ℕ, ◌+◌, ◌-◌, ◌≤◌, ◌<◌}
use native.Mathlib.Nat.{le_antisymm, zero-add}
use native.Mathlib.Omega.{arith}
use lib.ListN.{length, replicate}
use borrow.Author.Tests.{le-leb, lt-leb, eq-eqb, ne_eqb}
use lib.IntN.{ℤ}
use lib.Ieee.{Float}
use Rattle.std.specs.Prelude.{Option, Some, None, Err}
use Rattle.words.specs.Numbers.{digits}
use Rattle.words.specs.Order.{range}
use Rattle.words.specs.Zeros.{before_zero}
use Rattle.words.proofs.DigitLaws.{digits_zero}
use Rattle.words.proofs.Ranges.{range_length, range_byte}
use Rattle.words.proofs.ZeroLaws.{before_same, before_most, none_zero}
use Rattle.header.specs.declared.kind.FieldKind.{FieldKind}
use Rattle.header.specs.Kinds.{kind_of, is_blob, Permitted}
use Rattle.header.specs.declared.refusal.Refusal.TheVariants.{BlobCell, BadArgument, ShortBuffer}
use Rattle.cell.specs.Values.{Content, short, long, date, number, logical, content_of}
use Rattle.cell.specs.Writing.{none, bytes, signed_form, date_form, number_form, logical_byte, text_form}
use Rattle.cell.specs.Writing.{form_of, of_kind, put_form, put_value, write_kind, write_stored, write_of}
use Rattle.cell.proofs.ValueKinds.{own, same_width}
use Rattle.cell.specs.Steps.{coded_form, OfWidth}
use Rattle.cell.specs.declared.value.Value.{Value}
use Rattle.cell.specs.declared.value.Value.TheVariants as Val

-- ---- a number's form, by the case of the value

module _ (s : List ℕ) (v : Value) (w : ℕ) (o : OfWidth (content_of s v) w) where
  -- the width, where the value is of one kind
  width : (c : Content) → content_of s v ≡ c → (kind : FieldKind) × Permitted (own c kind) w
  width c e = let q = subst (λ (d : Content). OfWidth d w) e o in (q.0, same_width c q.0 w q.1 q.2)

  pub form_blank : v ≡ Val.Blank → coded_form w (Some 0) ≡ form_of w (content_of s v)
  unfolding content_of form_of coded_form
  form_blank e = rw e (ap bytes (digits_zero w))

  pub form_short : (z : ℤ) → v ≡ Val.Short z → (k : Option ℕ) → coded_form 2 k ≡ signed_form 2 z
      → coded_form w k ≡ form_of w (content_of s v)
  unfolding content_of form_of own Permitted
  form_short z e k f = let q : w ≡ 2 = (width (short z) (ap (content_of s) e)).1 in rw (e, q) f

  pub form_long : (z : ℤ) → v ≡ Val.Long z → (k : Option ℕ) → coded_form 4 k ≡ signed_form 4 z
      → coded_form w k ≡ form_of w (content_of s v)
  unfolding content_of form_of own Permitted
  form_long z e k f = let q : w ≡ 4 = (width (long z) (ap (content_of s) e)).1 in rw (e, q) f

  pub form_date : (d : ℕ) → v ≡ Val.Date d → (k : Option ℕ) → coded_form 4 k ≡ date_form 4 d
      → coded_form w k ≡ form_of w (content_of s v)
  unfolding content_of form_of own Permitted
  form_date d e k f = let q : w ≡ 4 = (width (date d) (ap (content_of s) e)).1 in rw (e, q) f

  pub form_number : (x : Float) → v ≡ Val.Number x → (k : Option ℕ) → coded_form 8 k ≡ number_form 8 x
      → coded_form w k ≡ form_of w (content_of s v)
  unfolding content_of form_of own Permitted
  form_number x e k f = let q : w ≡ 8 = (width (number x) (ap (content_of s) e)).1 in rw (e, q) f

  pub form_logical : (b : Bool) → v ≡ Val.Logical b → (k : Option ℕ)
      → coded_form 1 k ≡ bytes (digits 1 (logical_byte b)) → coded_form w k ≡ form_of w (content_of s v)
  unfolding content_of form_of own Permitted
  form_logical b e k f =
      let q : w ≡ 1 = (width (logical b) (ap (content_of s) e)).1 in rw (e, q) f

-- the form of a text that is lent
pub form_text : (s : List ℕ) (v : Value) (w start len : ℕ) → v ≡ Val.Text start len → start + len ≤ length s
    → text_form w (range s start len) ≡ form_of w (content_of s v)
unfolding content_of form_of
form_text s v w start len e h = rw (e, le-leb (start + len) (length s) h)

-- each case of a value's form
pub ruleset forms = (form_blank, form_short, form_long, form_date, form_number, form_logical)

-- ---- a text's form

module _ (s : List ℕ) (start len w : ℕ) (inside : start + len ≤ length s) where
  part_zero : before_zero (range s start len) 0 len ≡ before_zero s start len
  part_zero = before_same (range s start len) s 0 start len (λ i l. rw zero-add (range_byte s start len i l))

  pub text_empty : len < 1 → none ≡ text_form w (range s start len)
  unfolding text_form
  text_empty h = rw (range_length s start len inside, lt-leb 1 len h)

  pub text_long : 1 ≤ len → w < len → none ≡ text_form w (range s start len)
  unfolding text_form
  text_long h l = rw (range_length s start len inside, le-leb 1 len h, lt-leb len w l)

  pub text_zero : 1 ≤ len → len ≤ w → before_zero s start len < len → none ≡ text_form w (range s start len)
  unfolding text_form
  text_zero h l z =
      rw (
        range_length s start len inside,
        le-leb 1 len h,
        le-leb len w l,
        none_zero (range s start len) len,
        part_zero,
        ne_eqb (before_zero s start len) len (omega arith),
      )

  pub text_fits : 1 ≤ len → len ≤ w → len ≤ before_zero s start len
      → bytes (range s start len ++ replicate (w - len) 0) ≡ text_form w (range s start len)
  unfolding text_form
  text_fits h l z =
      rw (
        range_length s start len inside,
        le-leb 1 len h,
        le-leb len w l,
        none_zero (range s start len) len,
        part_zero,
        eq-eqb (before_zero s start len) len (le_antisymm (before_most s start len) z),
      )

-- each case of a text's form
pub ruleset text_forms = (text_empty, text_long, text_zero, text_fits)

-- ---- the answer

module _ (code w : ℕ) (c : Content) (buffer : List ℕ) where
  pub write_unknown : kind_of code w ≡ None → (Err BadArgument, buffer) ≡ write_of code w c buffer
  unfolding write_of write_stored
  write_unknown e = rw e

  module _ (kind : FieldKind) (e : kind_of code w ≡ Some kind) where
    pub write_blob : is_blob kind ≡ true → (Err BlobCell, buffer) ≡ write_of code w c buffer
    unfolding write_of write_stored write_kind
    write_blob b = rw (e, b)

    module _ (plain : is_blob kind ≡ false) where
      pub write_other : of_kind c kind ≡ false → (Err BadArgument, buffer) ≡ write_of code w c buffer
      unfolding write_of write_stored write_kind
      write_other f = rw (e, plain, f)

      pub write_short : of_kind c kind ≡ true → length buffer < w → (Err ShortBuffer, buffer) ≡ write_of code w c buffer
      unfolding write_of write_stored write_kind put_value
      write_short f h = rw (e, plain, f, lt-leb w (length buffer) h)

      pub write_form : of_kind c kind ≡ true → w ≤ length buffer
          → put_form w (form_of w c) buffer ≡ write_of code w c buffer
      unfolding write_of write_stored write_kind put_value
      write_form f h = rw (e, plain, f, le-leb w (length buffer) h)

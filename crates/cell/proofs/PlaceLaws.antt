-- A cell that reads as a value stands inside the table, and its text is a part of it. Assumes nothing.
use mathlib.Core.Path.{◌≡◌, refl, ap, ◌∙◌, subst}
use mathlib.Core.Bool.{not, ◌&&◌}
use mathlib.Core.List.{List}
use Prim.Native.Nat.{ℕ, ◌+◌, ◌-◌, ◌≤◌}
use native.Mathlib.Omega.{arith}
use lib.Dec.{eqb}
use lib.ListN.{length}
use borrow.Author.Tests.{le-leb}
use lib.IntN.{ℤ, pos, negsuc}
use lib.Ieee.Scale.{finite}
use Rattle.std.specs.Prelude.{Option, Some, None, Result, Ok, Err}
use Rattle.header.specs.declared.refusal.Refusal.{Refusal}
use Rattle.words.specs.Numbers.{big}
use Rattle.words.specs.Order.{range}
use Rattle.words.specs.declared.part.Part.{Part}
use Rattle.words.specs.Zeros.{all_zero, before_zero}
use Rattle.words.proofs.Cases.{either}
use Rattle.words.proofs.ZeroLaws.{before_most}
use Rattle.header.specs.Kinds.{is_blob, Permitted}
use Rattle.header.specs.Numbers.{field_is, numbers_of}
use Rattle.header.specs.Rules.{Accepted}
use Rattle.header.specs.declared.kind.FieldKind.{FieldKind}
use Rattle.header.specs.declared.kind.FieldKind.TheVariants as Kin
use Rattle.header.specs.declared.field.Field.{Field}
use Rattle.header.proofs.AcceptedLaws.{first_holds}
use Rattle.header.specs.declared.Header.{Header}
use Rattle.blocks.specs.Shape.{shape_of}
use Rattle.cell.specs.Values.{Cell, content_of, answer_of, text_of, value_part, part_of, no_part}
use Rattle.cell.specs.Locating.{field_at, place_at}
use Rattle.cell.specs.Reading.{false_byte, true_byte, signed_at, double_at, text_with, date_cell, number_cell}
use Rattle.cell.specs.Reading.{logical_cell, is_date, value_at, cell_at, place_cell, field_cell, block_cell}
use Rattle.cell.specs.Reading.{cell_of, read_of, text_start, Stands}
use Rattle.cell.specs.declared.value.Value.{Value}
use Rattle.cell.specs.declared.value.Value.TheVariants as Val
use Rattle.cell.proofs.Exits.{no_cell}
use Rattle.cell.proofs.LocatingLaws.{located}

-- behind 1 to 7
module _ (t : List ℕ) (h : Header) (a : Accepted t h) (b p f : ℕ) (v : Value) where
  by_place : (kind : FieldKind) (width offset : ℕ) → field_at t h b f ≡ field_is kind width offset
      → (a : Result ℕ Refusal) → place_at t (shape_of h) b p offset ≡ a → place_cell t kind width a ≡ Ok v
      → Stands t h b p f v
  unfolding place_cell
  by_place kind width offset e (Err x) r m = no_cell m
  by_place kind width offset e (Ok at) r m =
      record {
        kind = kind;
        width = width;
        at = at;
        located = located t h a b f kind width offset e p at r;
        means = m;
      }

  by_field : (d : Option Field) → field_at t h b f ≡ d → field_cell t (shape_of h) b p d ≡ Ok v → Stands t h b p f v
  unfolding field_cell
  by_field None e m = no_cell m
  by_field (Some d) e m = by_place d.kind d.width d.offset e (place_at t (shape_of h) b p d.offset) refl m

  pub stands_in : block_cell t h b p f ≡ Ok v → Stands t h b p f v
  unfolding block_cell
  stands_in m = by_field (field_at t h b f) refl m

-- a cell that reads as a value stands inside the table
pub stands : (t : List ℕ) (b p f : ℕ) (v : Value) → cell_of t b p f ≡ Ok v → Stands t (numbers_of t) b p f v
unfolding cell_of
stands t b p f v =
    first_holds t Err (block_cell t (numbers_of t) b p f)
    (λ (c : Cell). c ≡ Ok v → Stands t (numbers_of t) b p f v) (λ r l m. no_cell m)
    (λ a m. stands_in t (numbers_of t) a b p f v m)

-- ---- the part that a text is

-- where a part ends
abbrev pub ends : Cell → ℕ
ends c = (part_of c).start + (part_of c).len

-- a part ends no later than the w bytes at an offset, and is no longer
abbrev Within : ℕ → ℕ → Cell → Type 0
Within at w c = (ends c ≤ at + w) × ((part_of c).len ≤ w)

date_within : (z : ℤ) (at w : ℕ) → Within at w (date_cell z)
unfolding date_cell part_of value_part
date_within (pos d) at w =
    either (Within at w) (is_date d) _ _ (omega arith, omega arith) (omega arith, omega arith)
date_within (negsuc d) at w = (omega arith, omega arith)

value_within : (kind : FieldKind) (s : List ℕ) (at w : ℕ) → Within at w (value_at kind s at w)
unfolding value_at text_with number_cell logical_cell part_of value_part
value_within Kin.Text s at w =
    let m = before_most s at w in
    either (Within at w) (all_zero s (at + before_zero s at w) (w - before_zero s at w)) _ _ (omega (arith, m), m)
    (omega arith, omega arith)
value_within Kin.Date s at w = date_within (signed_at s at w) at w
value_within Kin.Short s at w = (omega arith, omega arith)
value_within Kin.Long s at w = (omega arith, omega arith)
value_within Kin.Number s at w =
    either (Within at w) (finite (double_at s at w)) _ _ (omega arith, omega arith) (omega arith, omega arith)
value_within Kin.Logical s at w =
    either (Within at w) (eqb (big s at w) false_byte) _ _ (omega arith, omega arith)
    (either (Within at w) (eqb (big s at w) true_byte) _ _ (omega arith, omega arith) (omega arith, omega arith))
value_within Kin.Blob s at w = (omega arith, omega arith)

-- a text is within its cell
cell_within : (kind : FieldKind) (s : List ℕ) (at w : ℕ) → Within at w (cell_at kind s at w)
unfolding cell_at part_of value_part
cell_within kind s at w =
    either (Within at w) (not (is_blob kind) && all_zero s at w) _ _ (omega arith, omega arith)
    (value_within kind s at w)

stands_within : {t : List ℕ} {h : Header} {b p f : ℕ} {v : Value} (s : Stands t h b p f v) →
    Within s.at s.width (Ok v)
stands_within {t} s = subst (Within s.at s.width) s.means (cell_within s.kind t s.at s.width)

-- a field is at most 255 bytes wide
wide_most : (kind : FieldKind) (w : ℕ) → Permitted kind w → w ≤ 255
unfolding Permitted
wide_most Kin.Text w h = h.1
wide_most Kin.Date w h = omega (arith, h)
wide_most Kin.Short w h = omega (arith, h)
wide_most Kin.Long w h = omega (arith, h)
wide_most Kin.Number w h = omega (arith, h)
wide_most Kin.Logical w h = omega (arith, h)
wide_most Kin.Blob w h = omega (arith, h.1)

-- a text ends inside the table, and is no longer than its field
module _ (t : List ℕ) (h : Header) (a : Accepted t h) (b p f : ℕ) where
  pub inside_in : ends (block_cell t h b p f) ≤ length t
  unfolding part_of
  inside_in = go (block_cell t h b p f) refl
    where
      go : (c : Cell) → block_cell t h b p f ≡ c → ends c ≤ length t
      go (Err r) e = omega arith
      go (Ok v) e = let s = stands_in t h a b p f v e in omega (arith, (stands_within s).0, s.located.inside)

  pub most_in : (part_of (block_cell t h b p f)).len ≤ 255
  unfolding part_of
  most_in = go (block_cell t h b p f) refl
    where
      go : (c : Cell) → block_cell t h b p f ≡ c → (part_of c).len ≤ 255
      go (Err r) e = omega arith
      go (Ok v) e =
          let s = stands_in t h a b p f v e in
          omega (arith, (stands_within s).1, wide_most s.kind s.width s.located.permitted)

pub part_inside : (t : List ℕ) (b p f : ℕ) → ends (cell_of t b p f) ≤ length t
unfolding cell_of part_of
part_inside t b p f =
    first_holds t Err (block_cell t (numbers_of t) b p f) (λ (c : Cell). ends c ≤ length t)
    (λ r l. omega arith) (λ a. inside_in t (numbers_of t) a b p f)

part_text : (s : List ℕ) (c : Cell) → ends c ≤ length s
    → range s (part_of c).start (part_of c).len ≡ text_of (answer_of s c).1
unfolding part_of value_part answer_of content_of text_of
part_text s (Err r) h = refl
part_text s (Ok Val.Blank) h = refl
part_text s (Ok (Val.Short z)) h = refl
part_text s (Ok (Val.Long z)) h = refl
part_text s (Ok (Val.Date d)) h = refl
part_text s (Ok (Val.Number x)) h = refl
part_text s (Ok (Val.Logical b)) h = refl
part_text s (Ok (Val.Text start len)) h = rw (le-leb (start + len) (length s) h)

-- and its bytes are the part's
pub text_bytes : (t : List ℕ) (b p f : ℕ)
    → range t (part_of (cell_of t b p f)).start (part_of (cell_of t b p f)).len ≡ text_of (read_of t b p f).1
unfolding read_of
text_bytes t b p f = part_text t (cell_of t b p f) (part_inside t b p f)

-- a part that is handed out as a cell's text: it ends inside the table, and its bytes and its start are the text's
pub record HandedOut (t : List ℕ) (b p f start len : ℕ) : Type 0 where
  pub inside : start + len ≤ length t
  pub bytes : range t start len ≡ text_of (read_of t b p f).1
  pub begins : start ≡ text_start t b p f

-- the part that the cell's text is
handed_out : (t : List ℕ) (b p f : ℕ) (part : Part) → part_of (cell_of t b p f) ≡ part
    → HandedOut t b p f part.start part.len
handed_out t b p f part e =
    subst (λ (q : Part). HandedOut t b p f q.start q.len) e
    (record { inside = part_inside t b p f; bytes = text_bytes t b p f; begins = refl })

-- no text: the empty part
no_text : (v : Value) → ((start len : ℕ) → v ≡ Val.Text start len → ⊥) → value_part v ≡ no_part
unfolding value_part
no_text Val.Blank other = refl
no_text (Val.Short z) other = refl
no_text (Val.Long z) other = refl
no_text (Val.Date d) other = refl
no_text (Val.Number x) other = refl
no_text (Val.Logical b) other = refl
no_text (Val.Text start len) other = absurd (other start len refl)

module _ (t : List ℕ) (b p f : ℕ) where
  pub text_handed_out : (start len : ℕ) → cell_of t b p f ≡ Ok (Val.Text start len) → HandedOut t b p f start len
  unfolding part_of value_part
  text_handed_out start len e = handed_out t b p f (record { start = start; len = len }) (ap part_of e)

  -- nothing of a cell that is refused, and of a value that is no text
  pub refused_handed_out : {r : Refusal} → cell_of t b p f ≡ Err r → HandedOut t b p f 0 0
  unfolding part_of
  refused_handed_out e = handed_out t b p f no_part (ap part_of e)

  pub other_handed_out : (v : Value) → cell_of t b p f ≡ Ok v → ((start len : ℕ) → v ≡ Val.Text start len → ⊥)
      → HandedOut t b p f 0 0
  unfolding part_of
  other_handed_out v e other = handed_out t b p f no_part (ap part_of e ∙ no_text v other)

-- The same bytes there, the same answer: a cell means what its bytes mean, so two tables with the same blocks, fields
-- and counts answer the same wherever their bytes of the cell are the same. Assumes nothing.
use Prim.Native.Nat.{ℕ, ◌+◌, ◌-◌, ◌*◌, ◌≤◌}
use mathlib.Core.Path.{◌≡◌, refl, sym, ap, ◌∙◌}
use mathlib.Core.List.{List}
use native.Mathlib.Omega.{arith}
use Rattle.std.specs.Prelude.{Option, Some, None, Result, Ok, Err}
use Rattle.header.specs.Refusals.{kept}
use Rattle.header.specs.declared.refusal.Refusal.{Refusal}
use Rattle.words.specs.Numbers.{byte}
use Rattle.words.specs.Order.{range}
use Rattle.words.specs.Zeros.{all_zero, before_zero}
use Rattle.words.proofs.Cases.{apart}
use Rattle.words.proofs.SameLaws.{same_byte, same_part, same_big, same_zeros, same_before, same_inside}
use Rattle.words.proofs.ZeroLaws.{before_most}
use Rattle.header.specs.Header.{header_refusal}
use Rattle.header.specs.Numbers.{field_is, numbers_of}
use Rattle.header.specs.Rules.{Accepted}
use Rattle.header.specs.declared.Header.{Header}
use Rattle.header.specs.declared.kind.FieldKind.{FieldKind}
use Rattle.header.specs.declared.kind.FieldKind.TheVariants as Kin
use Rattle.header.specs.declared.field.Field.{Field}
use Rattle.header.proofs.KindLaws.{known_width}
use Rattle.header.proofs.AcceptedLaws.{accepted}
use Rattle.blocks.specs.Shape.{shape_of}
use Rattle.blocks.specs.Counts.{count_in}
use Rattle.blocks.specs.declared.Shape.{Shape}
use Rattle.blocks.proofs.ShapeLaws.{has_block_lem}
use Rattle.cell.specs.Values.{Cell, answer_of}
use Rattle.cell.specs.Locating.{field_at, place_with, place_at, BothSteps, SamePlaces}
use Rattle.cell.specs.Reading.{text_with, value_at, cell_at, place_cell, field_cell, block_cell, cell_of, read_of}
use Rattle.cell.proofs.LocatingLaws.{field_found, located}
use Rattle.cell.proofs.ReadingLaws.{cell_accepted}
use Rattle.cell.proofs.TableRoundTrip.{cell_same}

-- ---- a cell, by its bytes

module _ (s t : List ℕ) (at w : ℕ) (h : range s at w ≡ range t at w) where
  text_there : (l : ℕ) → l ≤ w → text_with s at w l ≡ text_with t at w l
  unfolding text_with
  text_there l m =
      let tail : all_zero s (at + l) (w - l) ≡ all_zero t (at + l) (w - l) =
      same_zeros s t (at + l) (at + l) (w - l) (same_part s t at at w h l (w - l) (omega arith)) in
      rw tail

  value_there : (kind : FieldKind) → value_at kind s at w ≡ value_at kind t at w
  unfolding value_at
  value_there Kin.Text = rw (same_before s t at at w h) (text_there (before_zero t at w) (before_most t at w))
  value_there Kin.Date = rw (same_big s t at at w h)
  value_there Kin.Short = rw (same_big s t at at w h)
  value_there Kin.Long = rw (same_big s t at at w h)
  value_there Kin.Number = rw (same_big s t at at w h)
  value_there Kin.Logical = rw (same_big s t at at w h)
  value_there Kin.Blob = refl

  -- the same bytes at an offset are the same cell there: of a text, the same start and length
  pub cell_there : (kind : FieldKind) → cell_at kind s at w ≡ cell_at kind t at w
  unfolding cell_at
  cell_there kind = rw (same_zeros s t at at w h, value_there kind)

-- ---- both steps, in two tables

module _ (t u : List ℕ) (g : Shape) where
  -- the same count, the same place
  pub place_same : (b p offset : ℕ) → count_in u g b ≡ count_in t g b
      → place_at u g b p offset ≡ place_at t g b p offset
  unfolding place_at
  place_same b p offset e = ap (place_with g b p offset) e

module _ {t u : List ℕ} {h k : Header} (same : SamePlaces t h u k) where
  -- the other way round
  pub places_back : SamePlaces u k t h
  places_back =
      record {
        shape = sym same.shape;
        fields = λ f. sym (same.fields f);
        counts = λ b low high. rw same.shape (sym (same.counts b low (rw (← same.shape) high)));
      }

  -- step 1
  pub step_field : (b f : ℕ) → field_at u k b f ≡ field_at t h b f
  unfolding field_at
  step_field b f = rw (same.shape, same.fields f)

  -- step 2, of a block of the file
  pub step_place : (b p offset : ℕ) → 1 ≤ b → b ≤ (shape_of h).blocks
      → place_at u (shape_of k) b p offset ≡ place_at t (shape_of h) b p offset
  step_place b p offset low high =
      rw same.shape (place_same t u (shape_of h) b p offset (same.counts b low high))

  -- step 2, behind step 1
  pub step_next : (b p f : ℕ) (kind : FieldKind) (width offset : ℕ) → field_at t h b f ≡ field_is kind width offset
      → place_at u (shape_of k) b p offset ≡ place_at t (shape_of h) b p offset
  step_next b p f kind width offset e =
      let q = has_block_lem (shape_of h) b (field_found t h b f kind width offset e).0 in
      step_place b p offset q.0 q.1

  -- what both steps find in one they find in the other
  pub both_same : (b p f : ℕ) (kind : FieldKind) (width at : ℕ) → BothSteps t h b p f kind width at
      → BothSteps u k b p f kind width at
  both_same b p f kind width at c =
      record {
        offset = c.offset;
        field = step_field b f ∙ c.field;
        place = step_next b p f kind width c.offset c.field ∙ c.place;
      }

  -- ---- the two answers

  module _ (b p f : ℕ) where
    -- what a refusal has with itself, and what the bytes of a located cell have, the two answers have
    module _ (Alike : Cell → Cell → Type 0) (refused : (r : Refusal) → Alike (Err r) (Err r))
        (there : (kind : FieldKind) (width at : ℕ) → BothSteps t h b p f kind width at
        → Alike (cell_at kind u at width) (cell_at kind t at width)) where
      by_place : (kind : FieldKind) (width offset : ℕ) → field_at t h b f ≡ field_is kind width offset
          → (a : Result ℕ Refusal) → place_at t (shape_of h) b p offset ≡ a
          → Alike (place_cell u kind width a) (place_cell t kind width a)
      unfolding place_cell
      by_place kind width offset e (Err x) r = refused x
      by_place kind width offset e (Ok at) r =
          there kind width at (record { offset = offset; field = e; place = r })

      by_field : (d : Option Field) → field_at t h b f ≡ d
          → Alike (field_cell u (shape_of k) b p d) (field_cell t (shape_of h) b p d)
      unfolding field_cell
      by_field None e = refused _
      by_field (Some d) e =
          rw (step_next b p f d.kind d.width d.offset e)
          (by_place d.kind d.width d.offset e (place_at t (shape_of h) b p d.offset) refl)

      pub block_alike : Alike (block_cell u k b p f) (block_cell t h b p f)
      unfolding block_cell
      block_alike = rw (step_field b f) (by_field (field_at t h b f) refl)

    -- where a located cell's bytes are the same
    module _ (bytes : (kind : FieldKind) (width at : ℕ) → BothSteps t h b p f kind width at
        → range u at width ≡ range t at width) where
      -- the same cell: of a text, the same start and length
      pub block_same : block_cell u k b p f ≡ block_cell t h b p f
      block_same =
          block_alike (λ (c d : Cell). c ≡ d) (λ r. refl) (λ kind width at c.
          cell_there u t at width (bytes kind width at c) kind)

      -- the same number and value: of a text, the same bytes
      pub answer_same : Accepted t h → answer_of u (block_cell u k b p f) ≡ answer_of t (block_cell t h b p f)
      unfolding answer_of
      answer_same a =
          block_alike (λ (c d : Cell). answer_of u c ≡ answer_of t d) (λ r. refl) (λ kind width at c.
          let l = located t h a b f kind width c.offset c.field p at c.place in
          let e = bytes kind width at c in
          let some = known_width (byte t (h.area + 2 * (f - 1))) width (λ z. apart (cc l.stored)) in
          cell_same u t at at width (same_inside u t at at width e some l.inside) l.inside
          (same_byte u t at at width e) kind)

-- ---- by block, place and field of two tables that keep rules 1 to 7

module _ (t u : List ℕ) (right : header_refusal t ≡ kept) (also : header_refusal u ≡ kept)
    (same : SamePlaces t (numbers_of t) u (numbers_of u)) (b p f : ℕ)
    (bytes : (kind : FieldKind) (width at : ℕ) → BothSteps t (numbers_of t) b p f kind width at
    → range u at width ≡ range t at width) where
  pub cell_of_same : cell_of u b p f ≡ cell_of t b p f
  cell_of_same = sym (cell_accepted u b p f also) ∙ block_same same b p f bytes ∙ cell_accepted t b p f right

  pub read_same : read_of u b p f ≡ read_of t b p f
  unfolding read_of
  read_same =
      ap (answer_of u) (sym (cell_accepted u b p f also))
      ∙ answer_same same b p f bytes (accepted t right)
      ∙ ap (answer_of t) (cell_accepted t b p f right)

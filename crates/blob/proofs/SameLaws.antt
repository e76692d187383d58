-- The same places and the same bytes of a blob's cell: the same blob, of the same bytes. Assumes nothing.
use mathlib.Core.Path.{◌≡◌, refl, ap, ◌∙◌}
use mathlib.Core.Bool.{Bool, true, false, cond, ◌&&◌}
use mathlib.Core.List.{List}
use Rattle.std.specs.Prelude.{Option, Some, None, Result, Ok, Err}
use Prim.Native.Nat.{ℕ, ◌+◌, ◌≤◌}
use native.Mathlib.Nat.{add-zero}
use native.Mathlib.Omega.{arith}
use lib.Dec.{eqb, leb}
use borrow.Author.Tests.{leb-true}
use Rattle.words.specs.Order.{range}
use Rattle.words.specs.Zeros.{all_zero}
use Rattle.words.proofs.SameLaws.{same_part, same_little, same_zeros}
use Rattle.header.specs.declared.refusal.Refusal.{Refusal}
use Rattle.header.specs.declared.refusal.Refusal.TheVariants.{UnfitBlob}
use Rattle.header.specs.Kinds.{is_blob, Permitted}
use Rattle.header.specs.Header.{header_refusal}
use Rattle.header.specs.Refusals.{kept}
use Rattle.header.specs.Numbers.{field_is, numbers_of}
use Rattle.header.specs.Answers.{header_first}
use Rattle.header.specs.Rules.{Accepted}
use Rattle.header.specs.declared.Header.{Header}
use Rattle.header.specs.declared.kind.FieldKind.{FieldKind}
use Rattle.header.specs.declared.kind.FieldKind.TheVariants as Kin
use Rattle.header.specs.declared.field.Field.{Field}
use Rattle.header.proofs.AcceptedLaws.{accepted}
use Rattle.header.proofs.KindLaws.{blob_kind}
use Rattle.header.proofs.VerdictLaws.{unless_kept}
use Rattle.blocks.specs.Shape.{shape_of}
use Rattle.cell.specs.Locating.{field_at, place_at, BothSteps, SamePlaces}
use Rattle.cell.proofs.LocatingLaws.{located}
use Rattle.cell.proofs.SameLaws.{step_field, step_next}
use Rattle.blob.specs.Leader.{behind_leader, leader_size, offset_at, length_at}
use Rattle.blob.specs.Mb.{low_byte, base_of, on_unit, mb_block_size, block_inside, stated_at}
use Rattle.blob.specs.Blob.{Answer, part, body_with, body_of, blob_at, place_blob, field_blob, block_blob, blob_of}
use Rattle.blob.specs.Blob.{blob_bytes}
use Rattle.blob.specs.declared.mb.Stated.{Stated}
use Rattle.blob.specs.declared.answer.Blob.TheVariants.{Blank, InTable, InMb}

-- two answers over two tables are the same, of the same bytes
abbrev pub Alike : List ℕ → List ℕ → List ℕ → Answer → Answer → Type 0
Alike t u mb x y = (x ≡ y) × (blob_bytes u mb x ≡ blob_bytes t mb y)

-- a blob in the MB file has the same bytes, whatever the table
module _ (t u mb : List ℕ) where
  alike_if : (b : Bool) (x y : Answer) → Alike t u mb x x → Alike t u mb y y → Alike t u mb (cond b x y) (cond b x y)
  alike_if true x y p q = p
  alike_if false x y p q = q

  with_alike : (base len : ℕ) (s : Option Stated) → Alike t u mb (body_with mb base len s) (body_with mb base len s)
  unfolding body_with blob_bytes
  with_alike base len (Some s) =
      alike_if (eqb s.len len && leb (s.begin + s.len) (mb_block_size mb base))
      (Ok (InMb (part (base + s.begin) s.len))) (Err UnfitBlob)
      (refl, refl) (refl, refl)
  with_alike base len None = (refl, refl)

  body_alike : (offset len : ℕ) → Alike t u mb (body_of mb offset len) (body_of mb offset len)
  unfolding body_of blob_bytes
  body_alike offset len =
      let base = base_of offset in
      alike_if (on_unit base && block_inside mb base) (body_with mb base len (stated_at mb base (low_byte offset)))
      (Err UnfitBlob) (with_alike base len (stated_at mb base (low_byte offset))) (refl, refl)

-- ---- by the w bytes of the cell

module _ (t u mb : List ℕ) (at w : ℕ) (wide : behind_leader ≤ w) (h : range u at w ≡ range t at w) where
  offset_there : offset_at u at w ≡ offset_at t at w
  offset_there =
      same_little u t (at + leader_size w) (at + leader_size w) 4
      (same_part u t at at w h (leader_size w) 4 (omega arith))

  length_there : length_at u at w ≡ length_at t at w
  length_there =
      let e : at + leader_size w + 4 ≡ at + (leader_size w + 4) = omega arith in
      same_little u t (at + leader_size w + 4) (at + leader_size w + 4) 4
      (rw e (same_part u t at at w h (leader_size w + 4) 4 (omega arith)))

  pub blob_there : Alike t u mb (blob_at u mb at w) (blob_at t mb at w)
  unfolding blob_at blob_bytes
  blob_there = rw (same_zeros u t at at w h, length_there, offset_there) (go (all_zero t at w))
    where
      by : (b : Bool) → leb (length_at t at w) (leader_size w) ≡ b →
          Alike t u mb
          (cond b (Ok (InTable (part at (length_at t at w)))) (body_of mb (offset_at t at w) (length_at t at w)))
          (cond b (Ok (InTable (part at (length_at t at w)))) (body_of mb (offset_at t at w) (length_at t at w)))
      by true e =
          let l = leb-true (length_at t at w) (leader_size w) e in
          (refl, rw add-zero at (same_part u t at at w h 0 (length_at t at w) (omega arith)))
      by false e = body_alike t u mb (offset_at t at w) (length_at t at w)

      go : (z : Bool) →
          (let rest : Answer = cond (leb (length_at t at w) (leader_size w)) (Ok (InTable (part at (length_at t at w))))
          (body_of mb (offset_at t at w) (length_at t at w)) in
          Alike t u mb (cond z (Ok Blank) rest) (cond z (Ok Blank) rest))
      go true = (refl, refl)
      go false = by (leb (length_at t at w) (leader_size w)) refl

-- ---- by block, place and field

module _ {t u : List ℕ} {h k : Header} (same : SamePlaces t h u k) (a : Accepted t h) (mb : List ℕ) (b p f : ℕ)
    (bytes : (width at : ℕ) → BothSteps t h b p f Kin.Blob width at → range u at width ≡ range t at width) where
  by_place : (width offset : ℕ) → field_at t h b f ≡ field_is Kin.Blob width offset → (r : Result ℕ Refusal) →
      place_at t (shape_of h) b p offset ≡ r → Alike t u mb (place_blob u mb width r) (place_blob t mb width r)
  unfolding place_blob blob_bytes Permitted
  by_place width offset e (Err n) r = (refl, refl)
  by_place width offset e (Ok at) r =
      let l = located t h a b f Kin.Blob width offset e p at r in
      blob_there t u mb at width l.permitted.0 (bytes width at (record { offset = offset; field = e; place = r }))

  by_kind : (kind : FieldKind) (width offset : ℕ) → field_at t h b f ≡ field_is kind width offset → (z : Bool) →
      is_blob kind ≡ z → Alike t u mb (field_blob u mb (shape_of k) b p (field_is kind width offset))
      (field_blob t mb (shape_of h) b p (field_is kind width offset))
  unfolding field_blob blob_bytes
  by_kind kind width offset e false z = rw z (refl, refl)
  by_kind kind width offset e true z =
      rw (z, step_next same b p f kind width offset e)
      (by_place width offset (e ∙ ap (λ (x : FieldKind). field_is x width offset) (blob_kind kind z))
      (place_at t (shape_of h) b p offset) refl)

  by_field : (d : Option Field) → field_at t h b f ≡ d →
      Alike t u mb (field_blob u mb (shape_of k) b p d) (field_blob t mb (shape_of h) b p d)
  unfolding field_blob blob_bytes
  by_field None e = (refl, refl)
  by_field (Some d) e = by_kind d.kind d.width d.offset e (is_blob d.kind) refl

  pub block_same : Alike t u mb (block_blob u mb k b p f) (block_blob t mb h b p f)
  unfolding block_blob
  block_same = rw (step_field same b f) (by_field (field_at t h b f) refl)

-- of two tables that keep rules 1 to 7
pub blob_same : (t u : List ℕ) (keeps : header_refusal t ≡ kept) (also : header_refusal u ≡ kept)
    (same : SamePlaces t (numbers_of t) u (numbers_of u)) (mb : List ℕ) (b p f : ℕ)
    → ((width at : ℕ) → BothSteps t (numbers_of t) b p f Kin.Blob width at → range u at width ≡ range t at width)
    → Alike t u mb (blob_of u mb b p f) (blob_of t mb b p f)
unfolding blob_of header_first
blob_same t u keeps also same mb b p f bytes =
    rw (
      unless_kept (header_refusal u) Err (block_blob u mb (numbers_of u) b p f) also,
      unless_kept (header_refusal t) Err (block_blob t mb (numbers_of t) b p f) keeps,
    )
    (block_same same (accepted t keeps) mb b p f bytes)

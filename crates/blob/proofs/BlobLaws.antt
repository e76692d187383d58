-- A blob by its body, its cell, and block, place and field: one law for each answer. Assumes nothing.
use mathlib.Core.Path.{◌≡◌, sym, ap, ◌∙◌, subst}
use mathlib.Core.Bool.{Bool, true, false, cond, ◌&&◌, and-false}
use mathlib.Core.List.{List}
use Rattle.std.specs.Prelude.{Option, Some, None, Result, Ok, Err}
use Prim.Native.Nat.{ℕ, ◌+◌, ◌%◌, ◌≤◌, ◌<◌}
use lib.Dec.{eqb, leb}
use lib.ListN.{length}
use borrow.Author.Tests.{eq-eqb, ne_eqb, le-leb, lt-leb}
use Rattle.words.specs.Zeros.{all_zero}
use Rattle.words.specs.declared.part.Part.{Part}
use Rattle.header.specs.declared.refusal.Refusal.{Refusal}
use Rattle.header.specs.declared.refusal.Refusal.TheVariants.{BadArgument, UnfitBlob}
use Rattle.header.specs.Kinds.{is_blob, Permitted}
use Rattle.header.specs.Numbers.{field_is, numbers_of}
use Rattle.header.specs.Answers.{header_answer}
use Rattle.header.specs.declared.Header.{Header}
use Rattle.header.specs.declared.kind.FieldKind.{FieldKind}
use Rattle.header.proofs.AcceptedLaws.{first_kept, first_refused, read_numbers}
use Rattle.header.proofs.KindLaws.{blob_kind}
use Rattle.blocks.specs.Shape.{shape_of}
use Rattle.cell.specs.Locating.{field_at, place_at}
use Rattle.blob.specs.Leader.{behind_leader, leader_size, offset_at, length_at}
use Rattle.blob.specs.Mb.{stated_is, low_byte, base_of, mb_unit, on_unit, units_at, mb_block_size, stated_at}
use Rattle.blob.specs.Blob.{Answer, part, body_with, body_of, blob_at, place_blob, field_blob, block_blob, blob_of}
use Rattle.blob.specs.Steps.{size_in}
use Rattle.blob.specs.declared.mb.Stated.{Stated}
use Rattle.blob.specs.declared.answer.Blob.TheVariants.{Blank, InTable, InMb}
use Rattle.blob.proofs.MbLaws.{size_none, size_some}

-- ---- two parts that are the same begin and end alike

part_same : {p q : Part} → p ≡ q → (p.start ≡ q.start) × (p.len ≡ q.len)
part_same e = (ap (λ (r : Part). r.start) e, ap (λ (r : Part). r.len) e)

pub in_table_same : {p q : Part} → ◌≡◌ {A = Answer} (Ok (InTable p)) (Ok (InTable q)) →
    (p.start ≡ q.start) × (p.len ≡ q.len)
in_table_same e = part_same cc

pub in_mb_same : {p q : Part} → ◌≡◌ {A = Answer} (Ok (InMb p)) (Ok (InMb q)) → (p.start ≡ q.start) × (p.len ≡ q.len)
in_mb_same e = part_same cc

-- ---- the body

module _ (mb : List ℕ) (offset len : ℕ) where
  abbrev base : ℕ
  base = base_of offset

  pub body_off : (base % mb_unit ≡ 0 → ⊥) → Err UnfitBlob ≡ body_of mb offset len
  unfolding body_of
  body_off h = rw (ne_eqb (base % mb_unit) 0 h)

  pub body_outside : size_in mb base ≡ None → Err UnfitBlob ≡ body_of mb offset len
  unfolding body_of
  body_outside z = rw (size_none mb base z, and-false (on_unit base))

  module _ (k : base % mb_unit ≡ 0) where
    pub body_inside : 1 ≤ units_at mb base → base + mb_block_size mb base ≤ length mb →
        body_with mb base len (stated_at mb base (low_byte offset)) ≡ body_of mb offset len
    unfolding body_of
    body_inside u l =
        rw (
          eq-eqb (base % mb_unit) 0 k,
          le-leb 1 (units_at mb base) u,
          le-leb (base + mb_block_size mb base) (length mb) l,
        )

    module _ {size : ℕ} (s : size_in mb base ≡ Some size) where
      body_with_lem : (d : Option Stated) → stated_at mb base (low_byte offset) ≡ d →
          body_with mb base len d ≡ body_of mb offset len
      body_with_lem d e =
          let p = size_some mb base s in ap (body_with mb base len) (sym e) ∙ body_inside p.0 p.1

      pub body_nothing : stated_at mb base (low_byte offset) ≡ None → Err UnfitBlob ≡ body_of mb offset len
      unfolding body_with
      body_nothing e = body_with_lem None e

      -- what it states is taken where the length is the same and the blob ends inside the block
      module _ (begin its : ℕ) (e : stated_at mb base (low_byte offset) ≡ stated_is begin its) where
        tested : (b : Bool) → (eqb its len && leb (begin + its) size) ≡ b
            → cond b (Ok (InMb (part (base + begin) its))) (Err UnfitBlob) ≡ body_of mb offset len
        unfolding body_with
        tested b h =
            let q : (eqb its len && leb (begin + its) (mb_block_size mb base)) ≡ b =
            ap (λ (n : ℕ). eqb its len && leb (begin + its) n) (sym (size_some mb base s).2) ∙ h in
            ap (λ (b : Bool). cond b (Ok (InMb (part (base + begin) its))) (Err UnfitBlob)) (sym q)
            ∙ body_with_lem (stated_is begin its) e

        pub body_fits : (eqb its len && leb (begin + its) size) ≡ true →
            Ok (InMb (part (base + begin) its)) ≡ body_of mb offset len
        body_fits h = tested true h

        pub body_unfit : (eqb its len && leb (begin + its) size) ≡ false → Err UnfitBlob ≡ body_of mb offset len
        body_unfit h = tested false h

-- ---- the cell

-- a blob's cell has room for what stands behind the leader
pub blob_width : (kind : FieldKind) (w : ℕ) → is_blob kind ≡ true → Permitted kind w → behind_leader ≤ w
unfolding Permitted
blob_width kind w k p = (subst (λ (q : FieldKind). Permitted q w) (blob_kind kind k) p).0

module _ (t mb : List ℕ) (at w : ℕ) where
  pub blob_blank : all_zero t at w ≡ true → Ok Blank ≡ blob_at t mb at w
  unfolding blob_at
  blob_blank z = rw z

  module _ (z : all_zero t at w ≡ false) where
    pub blob_leader : length_at t at w ≤ leader_size w → Ok (InTable (part at (length_at t at w))) ≡ blob_at t mb at w
    unfolding blob_at
    blob_leader l = rw (z, le-leb (length_at t at w) (leader_size w) l)

    pub blob_body : leader_size w < length_at t at w →
        body_of mb (offset_at t at w) (length_at t at w) ≡ blob_at t mb at w
    unfolding blob_at
    blob_body l = rw (z, lt-leb (length_at t at w) (leader_size w) l)

-- ---- block, place and field

module _ (t mb : List ℕ) (h : Header) (b p f : ℕ) where
  pub block_missing : field_at t h b f ≡ None → Err BadArgument ≡ block_blob t mb h b p f
  unfolding block_blob field_blob
  block_missing e = rw e

  module _ (kind : FieldKind) (width offset : ℕ) (e : field_at t h b f ≡ field_is kind width offset) where
    pub block_other : is_blob kind ≡ false → Err BadArgument ≡ block_blob t mb h b p f
    unfolding block_blob field_blob
    block_other k = rw (e, k)

    module _ (k : is_blob kind ≡ true) where
      pub block_refused : (n : Refusal) → place_at t (shape_of h) b p offset ≡ Err n
          → Err n ≡ block_blob t mb h b p f
      unfolding block_blob field_blob place_blob
      block_refused n r = rw (e, k, r)

      pub block_blob_lem : (at : ℕ) → place_at t (shape_of h) b p offset ≡ Ok at
          → blob_at t mb at width ≡ block_blob t mb h b p f
      unfolding block_blob field_blob place_blob
      block_blob_lem at r = rw (e, k, r)

-- ---- 1 to 7 first, by what reading the header answered

module _ (t mb : List ℕ) (b p f : ℕ) (r : Result Header Refusal) (read : r ≡ header_answer t) where
  pub blob_refused : {x : Refusal} → r ≡ Err x → Err x ≡ blob_of t mb b p f
  unfolding blob_of
  blob_refused e = sym (first_refused t r read Err (block_blob t mb (numbers_of t) b p f) e)

  pub blob_found : {h : Header} → r ≡ Ok h → block_blob t mb h b p f ≡ blob_of t mb b p f
  unfolding blob_of
  blob_found e =
      ap (λ (h : Header). block_blob t mb h b p f) (read_numbers t r read e)
      ∙ sym (first_kept t r read Err (block_blob t mb (numbers_of t) b p f) e)

-- By an offset and a length: a part of the MB file exactly when the rules hold, the part that they say; else 18.
-- Assumes nothing.
use mathlib.Core.Path.{◌≡◌, refl, sym, ap, ◌∙◌}
use mathlib.Core.Bool.{Bool, true, false, cond, ◌&&◌}
use mathlib.Core.Logic.{◌⊎◌, inl, inr, ⊎_elim}
use mathlib.Core.List.{List}
use Rattle.std.specs.Prelude.{Option, Some, None, Ok, Err}
use Prim.Native.Nat.{ℕ, ◌+◌, ◌%◌, ◌≤◌, ◌<◌}
use native.Mathlib.Omega.{arith}
use lib.Dec.{eqb, leb, ltb}
use lib.ListN.{length}
use borrow.Author.Tests.{eqb-true, leb-true, ltb-true, eq-eqb, le-leb}
use Rattle.words.proofs.Conjunctions.{both}
use Rattle.words.proofs.Cases.{apart, either}
use Rattle.words.specs.declared.part.Part.{Part}
use Rattle.header.specs.declared.refusal.Refusal.TheVariants.{UnfitBlob}
use Rattle.blob.specs.Mb.{stated_is, low_byte, base_of, mb_unit, on_unit, block_kind, units_at, mb_block_size}
use Rattle.blob.specs.Mb.{block_inside}
use Rattle.blob.specs.Mb.{own_low_byte, own_kind, own_head, own_length, own_stated, sub_kind, entries, entry_place}
use Rattle.blob.specs.Mb.{entry_begin}
use Rattle.blob.specs.Mb.{entry_length, entry_used, entry_blob, entry_stated, stated_at}
use Rattle.blob.specs.Blob.{Answer, part, body_with, body_of}
use Rattle.blob.specs.Rules.{OwnBlock, SubBlock, BlobRules}
use Rattle.blob.specs.declared.mb.Stated.{Stated}
use Rattle.blob.specs.declared.answer.Blob.TheVariants.{InMb}
use Rattle.blob.proofs.MbLaws.{stated_same, own_states, entry_states, low_own, low_entry, entry_used_lem, used_gives}
use Rattle.blob.proofs.MbLaws.{used_takes}
use Rattle.blob.proofs.BlobLaws.{in_mb_same, body_inside}

-- ---- what a block states

module _ (mb : List ℕ) (base low begin len : ℕ) where
  abbrev States : Type 0
  States = OwnBlock mb base low begin len ⊎ SubBlock mb base low begin len

  own_gives : low ≡ own_low_byte → own_stated mb base ≡ stated_is begin len → States
  unfolding own_stated
  own_gives l = go (eqb (block_kind mb base) own_kind) refl
    where
      go : (b : Bool) → eqb (block_kind mb base) own_kind ≡ b
          → cond b (stated_is own_head (own_length mb base)) None ≡ stated_is begin len → States
      go false k e = apart cc
      go true k e =
          let p = stated_same e in
          inl (record { own = l; kind = eqb-true (block_kind mb base) own_kind k; begins = sym p.0; states = sym p.1 })

  entry_gives : low < entries → entry_stated mb base low ≡ stated_is begin len → States
  unfolding entry_stated entry_blob
  entry_gives l = go (eqb (block_kind mb base) sub_kind) refl (entry_used mb (entry_place base low)) refl
    where
      go : (b : Bool) → eqb (block_kind mb base) sub_kind ≡ b → (u : Bool) → entry_used mb (entry_place base low) ≡ u
          → cond b
          (cond u (stated_is (entry_begin mb (entry_place base low)) (entry_length mb (entry_place base low))) None)
          None
          ≡ stated_is begin len → States
      go false k u w e = apart cc
      go true k false w e = apart cc
      go true k true w e =
          let a = entry_place base low in
          let g = used_gives mb a w in
          let p = stated_same e in
          inr
          (record {
            number = l;
            kind = eqb-true (block_kind mb base) sub_kind k;
            begins = sym p.0;
            some = g.0;
            least = g.1;
            most = g.2;
            states = sym p.1;
            behind = omega (arith, g.3, p.0);
          })

  pub stated_gives : stated_at mb base low ≡ stated_is begin len → States
  unfolding stated_at
  stated_gives = go (eqb low own_low_byte) refl (ltb low entries) refl
    where
      go : (b : Bool) → eqb low own_low_byte ≡ b → (c : Bool) → ltb low entries ≡ c
          → cond b (own_stated mb base) (cond c (entry_stated mb base low) None) ≡ stated_is begin len → States
      go true k c l e = own_gives (eqb-true low own_low_byte k) e
      go false k true l e = entry_gives (ltb-true low entries l) e
      go false k false l e = apart cc

  own_takes : OwnBlock mb base low begin len → stated_at mb base low ≡ stated_is begin len
  own_takes r = sym (rw (r.begins, r.states) (own_states mb base r.kind ∙ low_own mb base low r.own))

  entry_takes : SubBlock mb base low begin len → stated_at mb base low ≡ stated_is begin len
  entry_takes r =
      let a = entry_place base low in
      let u = used_takes mb a r.some r.least r.most (omega (arith, r.begins, r.behind)) in
      sym
      (rw (r.begins, r.states)
      (entry_used_lem mb a u ∙ entry_states mb base low r.kind ∙ low_entry mb base low r.number))

  pub stated_takes : States → stated_at mb base low ≡ stated_is begin len
  stated_takes = ⊎_elim own_takes entry_takes

-- ---- the body

module _ (mb : List ℕ) (offset len : ℕ) where
  abbrev base : ℕ
  base = base_of offset

  abbrev Gives : ℕ → ℕ → Type 0
  Gives start its = (its ≡ len) × (begin : ℕ) × (start ≡ base + begin) × BlobRules mb offset len begin

  with_gives : base % mb_unit ≡ 0 → 1 ≤ units_at mb base → base + mb_block_size mb base ≤ length mb
      → (d : Option Stated) → stated_at mb base (low_byte offset) ≡ d → (start its : ℕ)
      → body_with mb base len d ≡ Ok (InMb (part start its)) → Gives start its
  unfolding body_with
  with_gives k u l None s start its e = apart cc
  with_gives k u l (Some d) s start its e =
      go (eqb d.len len && leb (d.begin + d.len) (mb_block_size mb base)) refl e
    where
      go : (b : Bool) → (eqb d.len len && leb (d.begin + d.len) (mb_block_size mb base)) ≡ b
          → cond b (Ok (InMb (part (base + d.begin) d.len))) (Err UnfitBlob) ≡ Ok (InMb (part start its))
          → Gives start its
      go false t e = apart cc
      go true t e =
          let p = both t in
          let q : d.len ≡ len = eqb-true d.len len p.0 in
          let i = leb-true (d.begin + d.len) (mb_block_size mb base) p.1 in
          let r = in_mb_same e in (
            sym r.1 ∙ q,
            d.begin,
            sym r.0,
            record {
              multiple = k;
              units = u;
              block = l;
              stated =
                  stated_gives mb base (low_byte offset) d.begin len
                  (s ∙ ap {B = Option Stated} (λ (m : ℕ). stated_is d.begin m) q);
              inside = omega (arith, i, q);
            },
          )

  pub body_gives : (start its : ℕ) → body_of mb offset len ≡ Ok (InMb (part start its)) → Gives start its
  unfolding body_of
  body_gives start its = go (on_unit base && block_inside mb base) refl
    where
      go : (b : Bool) → (on_unit base && block_inside mb base) ≡ b
          → cond b (body_with mb base len (stated_at mb base (low_byte offset))) (Err UnfitBlob)
          ≡ Ok (InMb (part start its)) → Gives start its
      go false t e = apart cc
      go true t e =
          let p = both t in
          let q = both p.1 in
          with_gives (eqb-true (base % mb_unit) 0 p.0) (leb-true 1 (units_at mb base) q.0)
          (leb-true (base + mb_block_size mb base) (length mb) q.1) (stated_at mb base (low_byte offset)) refl start its
          e

  with_fits : (begin : ℕ) → begin + len ≤ mb_block_size mb base
      → body_with mb base len (stated_is begin len) ≡ Ok (InMb (part (base + begin) len))
  unfolding body_with
  with_fits begin l = rw (eq-eqb len len refl, le-leb (begin + len) (mb_block_size mb base) l)

  pub body_takes : (begin : ℕ) → BlobRules mb offset len begin →
      body_of mb offset len ≡ Ok (InMb (part (base + begin) len))
  body_takes begin r =
      sym (body_inside mb offset len r.multiple r.units r.block)
      ∙ ap (body_with mb base len) (stated_takes mb base (low_byte offset) begin len r.stated)
      ∙ with_fits begin r.inside

  -- what holds of every part of the MB file and of 18, holds of the body
  module _ (Holds : Answer → Type 0) (mb_part : (p : Part) → Holds (Ok (InMb p)))
      (unfit : Holds (Err UnfitBlob)) where
    with_holds : (d : Option Stated) → Holds (body_with mb base len d)
    unfolding body_with
    with_holds None = unfit
    with_holds (Some s) =
        either Holds (eqb s.len len && leb (s.begin + s.len) (mb_block_size mb base)) _ _ (mb_part _) unfit

    pub body_holds : Holds (body_of mb offset len)
    unfolding body_of
    body_holds =
        either Holds (on_unit base && block_inside mb base) _ _ (with_holds (stated_at mb base (low_byte offset))) unfit

-- What an answer tells of the cell: it is located in a field of blobs, and its bytes give the answer. A blob is a part
-- of the MB file exactly when its length is more than the leader and the rules hold, and it is the part that they say;
-- it is refused with 18 exactly when the length is more than the leader and they do not hold. Assumes nothing.
use mathlib.Core.Path.{◌≡◌, refl, sym, ap, ◌∙◌}
use mathlib.Core.Bool.{Bool, true, false, cond}
use mathlib.Core.List.{List}
use Rattle.std.specs.Prelude.{Option, Some, None, Result, Ok, Err}
use Prim.Native.Nat.{ℕ, ◌+◌, ◌≤◌, ◌<◌}
use native.Mathlib.Omega.{arith}
use lib.Dec.{leb}
use borrow.Author.Tests.{leb-true, leb-false}
use Rattle.words.specs.Numbers.{long}
use Rattle.words.specs.Zeros.{all_zero}
use Rattle.words.proofs.Cases.{apart}
use Rattle.words.proofs.ZeroLaws.{zero_little}
use Rattle.header.specs.Refusals.{kept, number, one_of, header_refusals}
use Rattle.header.specs.declared.refusal.Refusal.{Refusal}
use Rattle.header.specs.declared.refusal.Refusal.TheVariants.{BadArgument, UnfitBlob}
use Rattle.header.specs.Kinds.{is_blob}
use Rattle.header.specs.Header.{header_refusal}
use Rattle.header.specs.Numbers.{field_is, numbers_of}
use Rattle.header.specs.Answers.{header_first}
use Rattle.header.specs.Rules.{Accepted}
use Rattle.header.specs.declared.Header.{Header}
use Rattle.header.specs.declared.kind.FieldKind.{FieldKind}
use Rattle.header.specs.declared.kind.FieldKind.TheVariants as Kin
use Rattle.header.specs.declared.field.Field.{Field}
use Rattle.header.proofs.KindLaws.{blob_kind}
use Rattle.header.proofs.RefusalLaws.{one_of_not}
use Rattle.header.proofs.AcceptedLaws.{first_only, accepted}
use Rattle.header.proofs.VerdictLaws.{unless_kept}
use Rattle.blocks.specs.Shape.{shape_of}
use Rattle.cell.specs.Locating.{field_at, place_at, place_refusals, BothSteps}
use Rattle.cell.proofs.LocatingLaws.{located}
use Rattle.cell.proofs.RefusalLaws.{place_holds}
use Rattle.blob.specs.Leader.{behind_leader, leader_size, offset_at, length_at}
use Rattle.blob.specs.Blob.{Answer, part, body_of, blob_at, place_blob, field_blob, block_blob, blob_of}
use Rattle.blob.specs.Rules.{Body, Unfit}
use Rattle.blob.specs.declared.answer.Blob.TheVariants.{Blank, InTable, InMb}
use Rattle.blob.proofs.BlobLaws.{in_table_same, blob_body, block_blob_lem, blob_width}
use Rattle.blob.proofs.RuleLaws.{body_gives, body_takes, body_holds}

-- ---- two refusals, and two answers that are apart

pub refused_with_lem : {m n : Refusal} → ◌≡◌ {A = Answer} (Err m) (Err n) → m ≡ n
refused_with_lem e = cc

unfit_apart : {n : Refusal} {start len : ℕ} → ◌≡◌ {A = Answer} (Err n) (Ok (InMb (part start len))) → ⊥
unfit_apart e = apart cc

place_refused_with : {m n : Refusal} → ◌≡◌ {A = Result ℕ Refusal} (Err m) (Err n) → m ≡ n
place_refused_with e = cc

-- ---- by the cell's bytes

module _ (t mb : List ℕ) (at w : ℕ) where
  abbrev cases : Bool → Bool → Answer
  cases z l =
      cond z (Ok Blank)
      (cond l (Ok (InTable (part at (length_at t at w)))) (body_of mb (offset_at t at w) (length_at t at w)))

  -- a part of the table is so much of the leader
  pub at_table : (start len : ℕ) → blob_at t mb at w ≡ Ok (InTable (part start len)) →
      (start ≡ at) × (len ≤ leader_size w)
  unfolding blob_at
  at_table start len = go (all_zero t at w) (leb (length_at t at w) (leader_size w)) refl
    where
      go : (z l : Bool) → leb (length_at t at w) (leader_size w) ≡ l → cases z l ≡ Ok (InTable (part start len))
          → (start ≡ at) × (len ≤ leader_size w)
      go true l m e = apart cc
      go false true m e =
          let q = in_table_same e in
          (sym q.0, omega (arith, leb-true (length_at t at w) (leader_size w) m, q.1))
      go false false m e =
          body_holds mb (offset_at t at w) (length_at t at w)
          (λ (x : Answer). x ≡ Ok (InTable (part start len)) → (start ≡ at) × (len ≤ leader_size w))
          (λ s q. apart cc) (λ q. apart cc) e

  -- any other answer but blank is the body's, and the length is more than the leader
  pub at_body : (x : Answer) → (Ok Blank ≡ x → ⊥) → ((start len : ℕ) → Ok (InTable (part start len)) ≡ x → ⊥)
      → blob_at t mb at w ≡ x
      → (leader_size w < length_at t at w) × (body_of mb (offset_at t at w) (length_at t at w) ≡ x)
  unfolding blob_at
  at_body x blank table = go (all_zero t at w) (leb (length_at t at w) (leader_size w)) refl
    where
      go : (z l : Bool) → leb (length_at t at w) (leader_size w) ≡ l → cases z l ≡ x
          → (leader_size w < length_at t at w) × (body_of mb (offset_at t at w) (length_at t at w) ≡ x)
      go true l m e = absurd (blank e)
      go false true m e = absurd (table at (length_at t at w) e)
      go false false m e = (leb-false (length_at t at w) (leader_size w) m, e)

  -- a cell all of zeros has length 0
  zero_length : behind_leader ≤ w → all_zero t at w ≡ true → length_at t at w ≡ 0
  zero_length l z =
      let e : at + (leader_size w + 4) ≡ at + leader_size w + 4 = omega arith in
      ap (λ (i : ℕ). long t i) (sym e) ∙ zero_little t at w (leader_size w + 4) 4 z (omega (arith, l))

  pub long_body : behind_leader ≤ w → leader_size w < length_at t at w →
      blob_at t mb at w ≡ body_of mb (offset_at t at w) (length_at t at w)
  long_body l m = go (all_zero t at w) refl
    where
      go : (z : Bool) → all_zero t at w ≡ z → blob_at t mb at w ≡ body_of mb (offset_at t at w) (length_at t at w)
      go true z = absurd (omega (arith, zero_length l z, m))
      go false z = sym (blob_body t mb at w z m)

-- ---- by block, place and field

module _ (t mb : List ℕ) (h : Header) (b p f : ℕ) where
  -- the cell of an answer that locating does not refuse with
  abbrev Of : Answer → Type 0
  Of x = (w : ℕ) × (at : ℕ) × BothSteps t h b p f Kin.Blob w at × (blob_at t mb at w ≡ x)

  module _ (x : Answer) (other : (n : Refusal) → one_of place_refusals n ≡ true → Err n ≡ x → ⊥) where
    missing : Err BadArgument ≡ x → Of x
    unfolding one_of number
    missing e = absurd (other BadArgument refl e)

    by_place : (w offset : ℕ) → field_at t h b f ≡ field_is Kin.Blob w offset → (r : Result ℕ Refusal)
        → place_at t (shape_of h) b p offset ≡ r → ((n : Refusal) → r ≡ Err n → one_of place_refusals n ≡ true)
        → place_blob t mb w r ≡ x → Of x
    unfolding place_blob
    by_place w offset e (Err n) r among m = absurd (other n (among n refl) m)
    by_place w offset e (Ok at) r among m = (w, at, record { offset = offset; field = e; place = r }, m)

    by_kind : (kind : FieldKind) (w offset : ℕ) → field_at t h b f ≡ field_is kind w offset → (k : Bool)
        → is_blob kind ≡ k
        → cond k (place_blob t mb w (place_at t (shape_of h) b p offset)) (Err BadArgument) ≡ x → Of x
    by_kind kind w offset e false k m = missing m
    by_kind kind w offset e true k m =
        by_place w offset (rw (blob_kind kind k) at e) (place_at t (shape_of h) b p offset) refl
        (place_holds (λ (r : Result ℕ Refusal). (n : Refusal) → r ≡ Err n → one_of place_refusals n ≡ true)
        (λ at n q. apart cc) (λ m w n q. rw (place_refused_with q) at w) t (shape_of h) b p offset) m

    by_field : (d : Option Field) → field_at t h b f ≡ d → field_blob t mb (shape_of h) b p d ≡ x → Of x
    unfolding field_blob
    by_field None e m = missing m
    by_field (Some d) e m = by_kind d.kind d.width d.offset e (is_blob d.kind) refl m

    pub block_gives : block_blob t mb h b p f ≡ x → Of x
    unfolding block_blob
    block_gives m = by_field (field_at t h b f) refl m

  -- and the blob of a located cell is the one of its bytes
  pub block_takes : (w at : ℕ) → BothSteps t h b p f Kin.Blob w at → blob_at t mb at w ≡ block_blob t mb h b p f
  unfolding is_blob
  block_takes w at c = block_blob_lem t mb h b p f Kin.Blob w c.offset c.field refl at c.place

-- ---- exactly when

module _ (t mb : List ℕ) (h : Header) (a : Accepted t h) (b p f : ℕ) where
  -- the cell is wide enough
  wide : (w at : ℕ) → BothSteps t h b p f Kin.Blob w at → behind_leader ≤ w
  unfolding is_blob
  wide w at c =
      blob_width Kin.Blob w refl
      (located t h a b f Kin.Blob w c.offset c.field p at c.place).permitted

  pub body_in : (start len : ℕ) → block_blob t mb h b p f ≡ Ok (InMb (part start len)) → Body t mb h b p f start len
  body_in start len e =
      let o = block_gives t mb h b p f (Ok (InMb (part start len))) (λ n w q. apart cc) e in
      let w = o.0 in
      let at = o.1 in
      let q = at_body t mb at w (Ok (InMb (part start len))) (λ z. apart cc) (λ s n z. apart cc) o.3 in
      let g = body_gives mb (offset_at t at w) (length_at t at w) start len q.1 in
      record {
        width = w;
        at = at;
        begin = g.1;
        cell = record { cell = o.2; long = q.0 };
        rules = g.3;
        starts = g.2;
        whole = g.0;
      }

  pub in_body : (start len : ℕ) → Body t mb h b p f start len → block_blob t mb h b p f ≡ Ok (InMb (part start len))
  in_body start len r =
      let w = r.width in
      let at = r.at in
      let c = r.cell.cell in
      rw (r.starts, r.whole)
      (sym (block_takes t mb h b p f w at c)
      ∙ long_body t mb at w (wide w at c) r.cell.long
      ∙ body_takes mb (offset_at t at w) (length_at t at w) r.begin r.rules)

  pub unfit_in : block_blob t mb h b p f ≡ Err UnfitBlob → Unfit t mb h b p f
  unfolding one_of number
  unfit_in e =
      let o = block_gives t mb h b p f (Err UnfitBlob)
      (λ n w q. one_of_not n place_refusals UnfitBlob w refl (refused_with_lem q)) e in
      let w = o.0 in
      let at = o.1 in
      let q = at_body t mb at w (Err UnfitBlob) (λ z. apart cc) (λ s n z. apart cc) o.3 in
      record {
        width = w;
        at = at;
        cell = record { cell = o.2; long = q.0 };
        unfit = λ begin r. unfit_apart (sym q.1 ∙ body_takes mb (offset_at t at w) (length_at t at w) begin r);
      }

  pub in_unfit : Unfit t mb h b p f → block_blob t mb h b p f ≡ Err UnfitBlob
  in_unfit r =
      let w = r.width in
      let at = r.at in
      let c = r.cell.cell in
      let o = offset_at t at w in
      let n = length_at t at w in
      sym (block_takes t mb h b p f w at c)
      ∙ long_body t mb at w (wide w at c) r.cell.long
      ∙ body_holds mb o n (λ (x : Answer). body_of mb o n ≡ x → body_of mb o n ≡ Err UnfitBlob)
      (λ q e. let g = body_gives mb o n q.start q.len e in absurd (r.unfit g.1 g.3)) (λ e. e) refl

-- of the call: 1 to 7 are kept
module _ (t mb : List ℕ) (b p f : ℕ) where
  abbrev others : Answer
  others = block_blob t mb (numbers_of t) b p f

  kept_is : header_refusal t ≡ kept → blob_of t mb b p f ≡ others
  unfolding blob_of header_first
  kept_is e = unless_kept (header_refusal t) Err others e

  pub mb_gives : (start len : ℕ) → blob_of t mb b p f ≡ Ok (InMb (part start len))
      → (header_refusal t ≡ kept) × Body t mb (numbers_of t) b p f start len
  unfolding blob_of
  mb_gives start len e =
      let k = first_only t Err others (Ok (InMb (part start len))) (λ n w q. apart cc) e in
      (k.0, body_in t mb (numbers_of t) (accepted t k.0) b p f start len k.1)

  pub mb_takes : (start len : ℕ) → header_refusal t ≡ kept → Body t mb (numbers_of t) b p f start len
      → blob_of t mb b p f ≡ Ok (InMb (part start len))
  mb_takes start len e r = kept_is e ∙ in_body t mb (numbers_of t) (accepted t e) b p f start len r

  pub unfit_gives : blob_of t mb b p f ≡ Err UnfitBlob → (header_refusal t ≡ kept) × Unfit t mb (numbers_of t) b p f
  unfolding blob_of one_of number header_refusals
  unfit_gives e =
      let k = first_only t Err others (Err UnfitBlob)
      (λ n w q. one_of_not n header_refusals UnfitBlob w refl (refused_with_lem q)) e in
      (k.0, unfit_in t mb (numbers_of t) (accepted t k.0) b p f k.1)

  pub unfit_takes : header_refusal t ≡ kept → Unfit t mb (numbers_of t) b p f → blob_of t mb b p f ≡ Err UnfitBlob
  unfit_takes e r = kept_is e ∙ in_unfit t mb (numbers_of t) (accepted t e) b p f r

-- A blob that is found is inside its file, as its cell or its block is; a refusal hands out no part. Assumes nothing.
use mathlib.Core.Path.{◌≡◌, refl}
use mathlib.Core.List.{List, []}
use Rattle.std.specs.Prelude.{Ok, Err}
use Prim.Native.Nat.{ℕ, ◌+◌, ◌-◌, ◌≤◌}
use native.Mathlib.Omega.{arith}
use lib.ListN.{length, take, drop}
use Rattle.words.specs.Order.{behind}
use Rattle.words.specs.declared.part.Part.{Part}
use Rattle.header.specs.declared.refusal.Refusal.{Refusal}
use Rattle.words.proofs.Cases.{apart}
use Rattle.header.specs.Numbers.{numbers_of}
use Rattle.header.specs.Rules.{Accepted}
use Rattle.header.specs.declared.Header.{Header}
use Rattle.header.specs.declared.kind.FieldKind.TheVariants as Kin
use Rattle.header.proofs.AcceptedLaws.{first_holds}
use Rattle.cell.proofs.LocatingLaws.{located}
use Rattle.blob.specs.Blob.{Answer, block_blob, blob_of, neither, part_numbers, find_numbers, blob_bytes, blob_address}
use Rattle.blob.specs.declared.answer.Blob.TheVariants.{Blank, InTable, InMb}
use Rattle.blob.proofs.FindLaws.{at_table, block_gives, body_in}

module _ (t mb : List ℕ) (h : Header) (a : Accepted t h) (b p f : ℕ) (q : Part) where
  pub table_within : block_blob t mb h b p f ≡ Ok (InTable q) → q.start + q.len ≤ length t
  table_within e =
      let o = block_gives t mb h b p f (Ok (InTable q)) (λ n w q. apart cc) e in
      let w = o.0 in
      let at = o.1 in
      let c = o.2 in
      let s = at_table t mb at w q.start q.len o.3 in
      let l = located t h a b f Kin.Blob w c.offset c.field p at c.place in
      omega (arith, s.0, s.1, l.inside)

  pub mb_within : block_blob t mb h b p f ≡ Ok (InMb q) → q.start + q.len ≤ length mb
  mb_within e =
      let r = body_in t mb h a b p f q.start q.len e in
      omega (arith, r.starts, r.whole, r.rules.inside, r.rules.block)

-- of the call
module _ (t mb : List ℕ) (b p f : ℕ) (q : Part) where
  abbrev others : Answer
  others = block_blob t mb (numbers_of t) b p f

  pub table_inside : blob_of t mb b p f ≡ Ok (InTable q) → q.start + q.len ≤ length t
  unfolding blob_of
  table_inside =
      first_holds t Err others (λ (x : Answer). x ≡ Ok (InTable q) → q.start + q.len ≤ length t) (λ n w e. apart cc)
      (λ a. table_within t mb (numbers_of t) a b p f q)

  pub mb_inside : blob_of t mb b p f ≡ Ok (InMb q) → q.start + q.len ≤ length mb
  unfolding blob_of
  mb_inside =
      first_holds t Err others (λ (x : Answer). x ≡ Ok (InMb q) → q.start + q.len ≤ length mb) (λ n w e. apart cc)
      (λ a. mb_within t mb (numbers_of t) a b p f q)

-- what is read: the answer's bytes, and where they stand
module _ (t mb : List ℕ) (table file : ℕ × ℕ) (x : Answer) where
  -- bytes and an address are those of the answer
  abbrev Reads : List ℕ → ℕ × ℕ → Type 0
  Reads bytes address = (bytes ≡ blob_bytes t mb x) × (address ≡ blob_address table file x)

  pub blank_part : x ≡ Ok Blank → Reads [] (behind table 0)
  unfolding blob_bytes blob_address
  blank_part e = (rw e refl, rw e refl)

  pub refused_part : (n : Refusal) → x ≡ Err n → Reads [] (behind table 0)
  unfolding blob_bytes blob_address
  refused_part n e = (rw e refl, rw e refl)

  pub table_part : (q : Part) → x ≡ Ok (InTable q)
      → Reads (take (q.start + q.len - q.start) (drop q.start t)) (behind table q.start)
  unfolding blob_bytes blob_address
  table_part q e =
      let l : q.start + q.len - q.start ≡ q.len = omega arith in (rw (e, l) refl, rw e refl)

  pub mb_part : (q : Part) → x ≡ Ok (InMb q)
      → Reads (take (q.start + q.len - q.start) (drop q.start mb)) (behind file q.start)
  unfolding blob_bytes blob_address
  mb_part q e =
      let l : q.start + q.len - q.start ≡ q.len = omega arith in (rw (e, l) refl, rw e refl)

-- ---- a refusal hands out no part: no file, no start, no length, no bytes

pub refused_no_part : (t mb : List ℕ) (b p f : ℕ) → ((find_numbers t mb b p f).0 ≡ 0 → ⊥) →
    (find_numbers t mb b p f ≡ ((find_numbers t mb b p f).0, neither, 0, 0))
    × (blob_bytes t mb (blob_of t mb b p f) ≡ [])
unfolding part_numbers blob_bytes
refused_no_part t mb b p f h = go (blob_of t mb b p f) h
  where
    go : (x : Answer) → ((part_numbers x).0 ≡ 0 → ⊥) →
        (part_numbers x ≡ ((part_numbers x).0, neither, 0, 0)) × (blob_bytes t mb x ≡ [])
    go (Ok Blank) k = absurd (k refl)
    go (Ok (InTable q)) k = absurd (k refl)
    go (Ok (InMb q)) k = absurd (k refl)
    go (Err r) k = (refl, refl)

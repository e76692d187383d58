-- A blob's numbers, case by case. Assumes nothing.
use Rattle.std.proofs.Common.{◌≡◌, ℕ, ◌≤◌, List, [], ◌∷◌, length, drop, set, refl, not-suc-le-zero, arith}
use Rattle.std.specs.Prelude.{Ok, Err}
use Rattle.words.specs.declared.part.Part.{Part}
use Rattle.header.specs.declared.refusal.Refusal.{Refusal}
use Rattle.blob.specs.Blob.{Answer, neither, in_table, in_mb, part_numbers}
use Rattle.blob.specs.declared.answer.Blob.{Blob}
use Rattle.blob.specs.declared.answer.Blob.TheVariants.{Blank, InTable, InMb}
use Rattle.numbers.specs.Lent.{cleared}
use Rattle.numbers.specs.Blob.{part_count, of_file, with_part, blob_given}

-- start and length, put where the first two numbers were
set_two : (lent : List ℕ) (start len : ℕ) → part_count ≤ length lent
    → set (set lent 0 start) 1 len ≡ start ∷ len ∷ drop part_count lent
set_two [] start len l = absurd (not-suc-le-zero l)
set_two (x ∷ []) start len l = absurd (omega (arith, l))
set_two (x ∷ y ∷ rest) start len l = refl

pub put_part : (lent : List ℕ) (file start len : ℕ) → part_count ≤ length lent
    → (of_file file, set (set lent 0 start) 1 len) ≡ with_part lent file start len
put_part lent file start len l = rw (set_two lent start len l)

module _ (lent : List ℕ) (x : Answer) where
  pub given_blank : (b : Blob) → x ≡ Ok b → b ≡ Blank → with_part lent neither 0 0 ≡ blob_given lent x
  unfolding blob_given
  given_blank b e f = rw (e, f)

  pub given_table : (b : Blob) (part : Part) → x ≡ Ok b → b ≡ InTable part →
      with_part lent in_table part.start part.len ≡ blob_given lent x
  unfolding blob_given
  given_table b part e f = rw (e, f)

  pub given_mb : (b : Blob) (part : Part) → x ≡ Ok b → b ≡ InMb part →
      with_part lent in_mb part.start part.len ≡ blob_given lent x
  unfolding blob_given
  given_mb b part e f = rw (e, f)

  pub given_refusal : (r : Refusal) → x ≡ Err r → cleared lent r ≡ blob_given lent x
  unfolding blob_given
  given_refusal r e = rw e

-- what is put in lent numbers are the numbers of the answer, where that is no refusal
pub given_numbers : (lent : List ℕ) (x : Answer) → ((r : Refusal) → x ≡ Err r → ⊥)
    → let p = part_numbers x in (p.0 ≡ 0) × (blob_given lent x ≡ with_part lent p.1 p.2 p.3)
unfolding blob_given part_numbers
given_numbers lent (Ok Blank) k = (refl, refl)
given_numbers lent (Ok (InTable part)) k = (refl, refl)
given_numbers lent (Ok (InMb part)) k = (refl, refl)
given_numbers lent (Err r) k = absurd (k r refl)

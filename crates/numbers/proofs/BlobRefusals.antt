-- Which numbers asking for a blob answers, and what a refusal leaves; and that the part is inside the file that the
-- answer names. Assumes nothing.
use Rattle.std.proofs.Common.{◌≡◌, ℕ, ◌+◌, ◌≤◌, true, List, [], ◌∷◌, ◌++◌, length, get_or, refl, true≢false, arith}
use Rattle.std.specs.Prelude.{Ok, Err}
use Rattle.header.specs.Refusals.{number, one_of, header_refusals}
use Rattle.header.specs.declared.refusal.Refusal.{Refusal}
use Rattle.header.specs.declared.refusal.Refusal.TheVariants.{ShortBuffer}
use Rattle.header.specs.Numbers.{numbers_of}
use Rattle.header.specs.Rules.{Accepted}
use Rattle.header.proofs.RefusalLaws.{one_of_back}
use Rattle.blob.specs.Blob.{Answer, block_blob, blob_refusals, in_table, in_mb}
use Rattle.blob.specs.declared.answer.Blob.TheVariants.{Blank, InTable, InMb}
use Rattle.blob.proofs.RefusalLaws.{blob_holds}
use Rattle.blob.proofs.PartLaws.{table_within, mb_within}
use Rattle.numbers.specs.Lent.{cleared, numbered, is_one}
use Rattle.numbers.specs.Blob.{part_count, of_file, blob_given, blob_files, blob_numbers, RefusesBlob}
use Rattle.numbers.proofs.LentLaws.{number_small, one_numbered, one_behind, room_holds}

-- 1 to 7, 14, 13, 9, 18
abbrev own_refusals : List Refusal
own_refusals = header_refusals ++ ShortBuffer ∷ blob_refusals

own_refusal : (r : Refusal) → one_of blob_refusals r ≡ true → one_of own_refusals r ≡ true
own_refusal r w =
    one_of_back r header_refusals (ShortBuffer ∷ blob_refusals) (one_of_back r (ShortBuffer ∷ []) blob_refusals w)

module _ (lent : List ℕ) where
  abbrev Right : Answer → Type 0
  Right x = RefusesBlob own_refusals lent (blob_given lent x)

  refused : (r : Refusal) → one_of own_refusals r ≡ true → Right (Err r)
  unfolding blob_given cleared
  refused r w =
      record {
        number_right = one_behind blob_files (numbered own_refusals) (number r) (one_numbered own_refusals r w);
        zeros = λ h. refl;
      }

  given : (t mb : List ℕ) (b p f : ℕ) → Right (block_blob t mb (numbers_of t) b p f)
  unfolding blob_given is_one
  given t mb b p f =
      blob_holds Right
      (record { number_right = refl; zeros = λ h. absurd (true≢false h) })
      (λ part. record { number_right = refl; zeros = λ h. absurd (true≢false h) })
      (λ part. record { number_right = refl; zeros = λ h. absurd (true≢false h) })
      (λ r w. refused r (own_refusal r w)) t mb (numbers_of t) b p f

pub blob_refuses : (t mb : List ℕ) (b p f : ℕ) (lent : List ℕ) →
    RefusesBlob (header_refusals ++ ShortBuffer ∷ blob_refusals) lent (blob_numbers t mb b p f lent)
unfolding blob_numbers
blob_refuses t mb b p f lent =
    room_holds t (length lent) part_count (block_blob t mb (numbers_of t) b p f) blob_refusals (Right lent)
    (refused lent) (λ a. given lent t mb b p f)

-- ---- the part

-- start and length, the first two numbers, are of a part of the file that the answer names
pub record InFile (t mb : List ℕ) (answer : ℕ × List ℕ) : Type 0 where
  pub from_table : answer.0 ≡ of_file in_table → get_or answer.1 0 0 + get_or answer.1 1 0 ≤ length t
  pub from_mb : answer.0 ≡ of_file in_mb → get_or answer.1 0 0 + get_or answer.1 1 0 ≤ length mb

module _ (t mb lent : List ℕ) (b p f : ℕ) where
  -- a refusal names none
  refused_in : (r : Refusal) → InFile t mb (blob_given lent (Err r))
  unfolding blob_given cleared
  refused_in r =
      record {
        from_table = λ e. absurd (omega (arith, e, number_small r));
        from_mb = λ e. absurd (omega (arith, e, number_small r));
      }

  given_in : Accepted t (numbers_of t) → (x : Answer) → block_blob t mb (numbers_of t) b p f ≡ x
      → InFile t mb (blob_given lent x)
  unfolding blob_given
  given_in a (Ok Blank) e =
      record { from_table = λ z. absurd (omega (arith, z)); from_mb = λ z. absurd (omega (arith, z)) }
  given_in a (Ok (InTable part)) e =
      record {
        from_table = λ z. table_within t mb (numbers_of t) a b p f part e;
        from_mb = λ z. absurd (omega (arith, z));
      }
  given_in a (Ok (InMb part)) e =
      record {
        from_table = λ z. absurd (omega (arith, z));
        from_mb = λ z. mb_within t mb (numbers_of t) a b p f part e;
      }
  given_in a (Err r) e = refused_in r

  pub part_in_file : InFile t mb (blob_numbers t mb b p f lent)
  unfolding blob_numbers
  part_in_file =
      room_holds t (length lent) part_count (block_blob t mb (numbers_of t) b p f) blob_refusals
      (λ (x : Answer). InFile t mb (blob_given lent x)) (λ r w. refused_in r)
      (λ a. given_in a (block_blob t mb (numbers_of t) b p f) refl)

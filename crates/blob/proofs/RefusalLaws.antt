-- With which refusals asking for a blob refuses: each stands at a rule of the definition. 12 is none of them. Assumes
-- nothing.
use Prim.Native.Nat.{ℕ}
use mathlib.Core.Path.{◌≡◌, refl}
use mathlib.Core.Bool.{true}
use mathlib.Core.List.{List, [], ◌∷◌, ◌++◌}
use Rattle.std.specs.Prelude.{Option, Some, None, Result, Ok, Err}
use lib.Dec.{leb}
use Rattle.words.specs.Zeros.{all_zero}
use Rattle.words.proofs.Cases.{either}
use Rattle.header.specs.Refusals.{number, one_of, among, header_refusals}
use Rattle.words.specs.declared.part.Part.{Part}
use Rattle.header.specs.declared.refusal.Refusal.{Refusal}
use Rattle.header.specs.declared.refusal.Refusal.TheVariants.{BadArgument, UnfitBlob}
use Rattle.header.specs.Kinds.{is_blob}
use Rattle.header.specs.Numbers.{numbers_of}
use Rattle.header.specs.declared.Header.{Header}
use Rattle.header.specs.declared.field.Field.{Field}
use Rattle.header.proofs.RefusalLaws.{one_of_front}
use Rattle.header.proofs.AcceptedLaws.{first_among}
use Rattle.blocks.specs.Shape.{shape_of}
use Rattle.blocks.specs.declared.Shape.{Shape}
use Rattle.cell.specs.Locating.{field_at, place_refusals}
use Rattle.cell.proofs.RefusalLaws.{place_holds}
use Rattle.blob.specs.Leader.{leader_size, offset_at, length_at}
use Rattle.blob.specs.Blob.{Answer, blob_at, place_blob, field_blob, block_blob, blob_refusals, blob_of}
use Rattle.blob.specs.declared.answer.Blob.TheVariants.{Blank, InTable, InMb}
use Rattle.blob.proofs.RuleLaws.{body_holds}

-- what holds of a blank, of every part and of every refusal with one of these, holds of the answer
module _ (Holds : Answer → Type 0) (blank : Holds (Ok Blank)) (table : (q : Part) → Holds (Ok (InTable q)))
    (mb_part : (q : Part) → Holds (Ok (InMb q)))
    (refused : (r : Refusal) → one_of blob_refusals r ≡ true → Holds (Err r)) where
  unfit : Holds (Err UnfitBlob)
  unfolding one_of number
  unfit = refused UnfitBlob refl

  missing : Holds (Err BadArgument)
  unfolding one_of number
  missing = refused BadArgument refl

  at_holds : (t mb : List ℕ) (at w : ℕ) → Holds (blob_at t mb at w)
  unfolding blob_at
  at_holds t mb at w =
      either Holds (all_zero t at w) _ _ blank
      (either Holds (leb (length_at t at w) (leader_size w)) _ _ (table _)
      (body_holds mb (offset_at t at w) (length_at t at w) Holds mb_part unfit))

  field_holds : (t mb : List ℕ) (g : Shape) (b p : ℕ) (d : Option Field) → Holds (field_blob t mb g b p d)
  unfolding field_blob place_blob
  field_holds t mb g b p None = missing
  field_holds t mb g b p (Some d) =
      either Holds (is_blob d.kind) _ _
      (place_holds (λ (r : Result ℕ Refusal). Holds (place_blob t mb d.width r)) (λ at. at_holds t mb at d.width)
      (λ r k. refused r (one_of_front r place_refusals (UnfitBlob ∷ []) k)) t g b p d.offset) missing

  pub blob_holds : (t mb : List ℕ) (h : Header) (b p f : ℕ) → Holds (block_blob t mb h b p f)
  unfolding block_blob
  blob_holds t mb h b p f = field_holds t mb (shape_of h) b p (field_at t h b f)

-- 1 to 7, then 13, 9, 18
pub find_refusals : (t mb : List ℕ) (b p f : ℕ) → among (header_refusals ++ blob_refusals) (blob_of t mb b p f) ≡ true
unfolding blob_of among
find_refusals t mb b p f =
    first_among t blob_refusals (block_blob t mb (numbers_of t) b p f)
    (λ a. blob_holds (λ (x : Answer). among blob_refusals x ≡ true) refl (λ q. refl) (λ q. refl) (λ r w. w) t mb
    (numbers_of t) b p f)

-- The kind of a pair that is known, by its code alone. Assumes nothing.
use Rattle.std.proofs.Common.{◌≡◌, ℕ, Bool, true, false, cond, ◌&&◌, eqb, leb, sym, refl, ◌∙◌, subst, ne_eqb}
use Rattle.header.specs.Kinds.{kinds, permit, kind_in, kind_of}
use Rattle.header.specs.declared.kind.FieldKind.{FieldKind}
use Rattle.header.specs.declared.kind.FieldKind.TheVariants.{Blob}
use Rattle.std.specs.Prelude.{Option, Some, None}

-- a row that permits the width has its kind
permitted : (kind : FieldKind) (width least most : ℕ) → (permit kind width least most ≡ None → ⊥) →
    Some kind ≡ permit kind width least most
unfolding permit
permitted kind width least most = go (leb least width && leb width most)
  where
    go : (b : Bool) → (cond b (Some kind) None ≡ None → ⊥) → Some kind ≡ cond b (Some kind) None
    go true h = refl
    go false h = absurd (h refl)

module _ (code width : ℕ) (known : kind_of code width ≡ None → ⊥) where
  -- the code of a row
  pub by_row : (kind : FieldKind) (least most : ℕ) → kind_of code width ≡ permit kind width least most →
      Some kind ≡ kind_of code width
  by_row kind least most e = permitted kind width least most (λ u. known (e ∙ u)) ∙ sym e

-- what is known is a blob's
abbrev OnlyBlob : Option FieldKind → Type 0
OnlyBlob k = (k ≡ None → ⊥) → Some Blob ≡ k

one_row : (b : Bool) (width least most : ℕ) (rest : Option FieldKind) → OnlyBlob rest →
    OnlyBlob (cond b (permit Blob width least most) rest)
one_row true width least most rest r = permitted Blob width least most
one_row false width least most rest r = r

no_row : OnlyBlob None
no_row h = absurd (h refl)

-- every other code of the table is one of the five of blobs
pub by_rest : (code width : ℕ) → (kind_of code width ≡ None → ⊥) →
    (code ≡ 0x01 → ⊥) → (code ≡ 0x02 → ⊥) → (code ≡ 0x03 → ⊥) → (code ≡ 0x04 → ⊥) → (code ≡ 0x05 → ⊥) →
    (code ≡ 0x06 → ⊥) → (code ≡ 0x09 → ⊥) → Some Blob ≡ kind_of code width
unfolding kind_of kind_in kinds
by_rest code width known text date short long currency number logical =
    subst OnlyBlob
    (sym (simp (
      ne_eqb code 0x01 text,
      ne_eqb code 0x02 date,
      ne_eqb code 0x03 short,
      ne_eqb code 0x04 long,
      ne_eqb code 0x05 currency,
      ne_eqb code 0x06 number,
      ne_eqb code 0x09 logical,
    )))
    (one_row (eqb code 0x0C) width 11 250 _
    (one_row (eqb code 0x0D) width 10 250 _
    (one_row (eqb code 0x0E) width 10 250 _
    (one_row (eqb code 0x0F) width 10 250 _ (one_row (eqb code 0x10) width 10 250 _ no_row)))))
    known

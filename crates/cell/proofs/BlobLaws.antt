-- Blob cells, blank ones too, are 12 where no MB file is lent: read, and written whatever the value. So no cell that
-- reads as a value is a blob's. Assumes nothing.
use Prim.Native.Nat.{ℕ}
use mathlib.Core.Path.{◌≡◌, refl, sym, ap, ◌∙◌}
use mathlib.Core.Bool.{false}
use mathlib.Core.List.{List}
use Rattle.std.specs.Prelude.{Some, Err}
use Rattle.header.specs.Refusals.{kept, number}
use Rattle.header.specs.declared.refusal.Refusal.TheVariants.{BlobCell}
use Rattle.header.specs.Kinds.{kind_of, is_blob}
use Rattle.header.specs.Header.{header_refusal}
use Rattle.header.specs.Numbers.{numbers_of}
use Rattle.header.specs.declared.Header.{Header}
use Rattle.header.specs.declared.kind.FieldKind.TheVariants.{Blob}
use Rattle.cell.specs.Values.{Content, nothing, answer_of}
use Rattle.cell.specs.Locating.{BothSteps}
use Rattle.cell.specs.Reading.{block_cell, read_of, Stands}
use Rattle.cell.specs.Writing.{write_of}
use Rattle.cell.specs.declared.value.Value.{Value}
use Rattle.cell.proofs.ReadingLaws.{cell_blob, block_cell_lem, cell_accepted}
use Rattle.cell.proofs.RoundTrip.{read_as}
use Rattle.cell.proofs.WritingLaws.{write_blob}

module _ (t : List ℕ) (b p f width at : ℕ) where
  pub blob_cell_lem : (h : Header) → BothSteps t h b p f Blob width at → block_cell t h b p f ≡ Err BlobCell
  unfolding is_blob
  blob_cell_lem h c =
      sym (cell_blob Blob t at width refl ∙ block_cell_lem t h b p f Blob width c.offset c.field at c.place)

  pub blob_read : header_refusal t ≡ kept → BothSteps t (numbers_of t) b p f Blob width at
      → read_of t b p f ≡ (number BlobCell, nothing)
  unfolding read_of answer_of
  blob_read k c = ap (answer_of t) (sym (cell_accepted t b p f k) ∙ blob_cell_lem (numbers_of t) c)

pub blob_written : (code w : ℕ) (c : Content) (buffer : List ℕ) → kind_of code w ≡ Some Blob
    → write_of code w c buffer ≡ (Err BlobCell, buffer)
unfolding is_blob
blob_written code w c buffer e = sym (write_blob code w c buffer Blob e refl)

pub stands_no_blob : {t : List ℕ} {h : Header} {b p f : ℕ} {v : Value} (s : Stands t h b p f v)
    → is_blob s.kind ≡ false
stands_no_blob {t} {v = v} s = (read_as s.kind t s.at s.width v s.means).0

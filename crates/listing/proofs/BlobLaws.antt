-- A blob cell, a blank one too, is printed as the refusal 12. Assumes nothing.
use Prim.Native.Nat.{ℕ}
use mathlib.Core.Path.{◌≡◌, ap}
use mathlib.Core.List.{List, ◌∷◌}
use Rattle.header.specs.Refusals.{number}
use Rattle.header.specs.declared.refusal.Refusal.TheVariants.{BlobCell}
use Rattle.header.specs.declared.Header.{Header}
use Rattle.header.specs.declared.kind.FieldKind.TheVariants.{Blob}
use Rattle.cell.specs.Values.{Cell, answer_of}
use Rattle.cell.specs.Locating.{BothSteps}
use Rattle.cell.specs.Reading.{block_cell}
use Rattle.cell.proofs.BlobLaws.{blob_cell_lem}
use Rattle.buffer.specs.Text.{decimal}
use Rattle.listing.specs.Listing.{bang, cell_text}

pub blob_printed : (t : List ℕ) (h : Header) (b p f width at : ℕ) → BothSteps t h b p f Blob width at
    → cell_text (answer_of t (block_cell t h b p f)) ≡ bang ∷ decimal (number BlobCell)
unfolding cell_text answer_of
blob_printed t h b p f width at c = ap (λ (x : Cell). cell_text (answer_of t x)) (blob_cell_lem t b p f width at h c)

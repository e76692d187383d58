-- Which refusals a listing may say instead of records: 14 for a long table, or the table check's. Assumes nothing.
use Prim.Native.Nat.{ℕ}
use mathlib.Core.Path.{◌≡◌, refl}
use mathlib.Core.Bool.{true}
use mathlib.Core.List.{List, [], ◌∷◌}
use lib.Dec.{ltb}
use lib.ListN.{length}
use Rattle.std.specs.Prelude.{Err}
use Rattle.words.proofs.Cases.{either}
use Rattle.header.specs.Refusals.{Verdict, number, one_of, among}
use Rattle.header.specs.declared.refusal.Refusal.TheVariants.{ShortBuffer}
use Rattle.header.specs.Header.{most_blocks}
use Rattle.header.proofs.RefusalLaws.{among_back}
use Rattle.table.specs.Table.{table_answer, table_refusals}
use Rattle.table.proofs.RefusalLaws.{table_refusals_lem}
use Rattle.listing.specs.Listing.{most_bytes, list_answer, list_refusals}

-- 14, then the table check's
pub list_refusals_lem : (t : List ℕ) → among list_refusals (list_answer t) ≡ true
unfolding number one_of among list_refusals list_answer
list_refusals_lem t =
    either (λ (v : Verdict). among list_refusals v ≡ true) (ltb most_bytes (length t)) (Err ShortBuffer)
    (table_answer t most_blocks) refl
    (among_back (table_answer t most_blocks) (ShortBuffer ∷ []) table_refusals (table_refusals_lem t most_blocks))

-- Which refusals a scan answers: the table check's or 13, or it answers a record or absent. Assumes nothing.
use Rattle.std.specs.Prelude.{Option, Result, Err}
use Prim.Native.Nat.{ℕ}
use mathlib.Core.Path.{◌≡◌, refl}
use mathlib.Core.Bool.{true}
use mathlib.Core.List.{List, [], ◌∷◌}
use Rattle.words.proofs.Cases.{either}
use Rattle.header.specs.Refusals.{kept, number, one_of, among}
use Rattle.header.specs.declared.refusal.Refusal.{Refusal}
use Rattle.header.specs.declared.refusal.Refusal.TheVariants.{BadArgument}
use Rattle.header.specs.Numbers.{numbers_of}
use Rattle.header.specs.declared.Header.{Header}
use Rattle.header.proofs.RefusalLaws.{unless_among}
use Rattle.table.specs.Table.{table_answer, table_refusals, table_first}
use Rattle.table.proofs.CheckLaws.{table_kept}
use Rattle.table.proofs.RefusalLaws.{table_refusals_lem}
use Rattle.lookup.specs.Sought.{key_fits}
use Rattle.lookup.specs.declared.found.Found.{Found}
use Rattle.scan.specs.Scan.{scan_in, scan_of, scan_refusals}

module _ (t key : List ℕ) where
  in_among : (h : Header) → among (BadArgument ∷ []) (scan_in t h key) ≡ true
  unfolding scan_in among one_of number
  in_among h =
      either (λ (r : Result (Option Found) Refusal). among (BadArgument ∷ []) r ≡ true) (key_fits h key) _ _ refl refl

  module _ (room : ℕ) where
    -- the table check's, then 13
    pub scan_refusals_lem : among scan_refusals (scan_of t key room) ≡ true
    unfolding scan_refusals scan_of table_first
    scan_refusals_lem =
        unless_among table_refusals (BadArgument ∷ []) (table_answer t room) (scan_in t (numbers_of t) key)
        (table_refusals_lem t room) (λ e. in_among (numbers_of t))

    -- over an accepted table only 13
    pub accepted_refusals : table_answer t room ≡ kept → among (BadArgument ∷ []) (scan_of t key room) ≡ true
    unfolding scan_of
    accepted_refusals e = rw (table_kept t room Err (scan_in t (numbers_of t) key) e) (in_among (numbers_of t))

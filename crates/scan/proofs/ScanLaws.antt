-- What scanning answers, one law for each case. Assumes nothing.
use Rattle.std.specs.Prelude.{Option, Result, Ok, Err}
use Prim.Native.Nat.{ℕ}
use mathlib.Core.Path.{◌≡◌, ap, ◌∙◌}
use mathlib.Core.Bool.{true, false}
use mathlib.Core.List.{List}
use native.Mathlib.Omega.{arith}
use Rattle.header.specs.Refusals.{kept}
use Rattle.header.specs.declared.refusal.Refusal.{Refusal}
use Rattle.header.specs.declared.refusal.Refusal.TheVariants.{BadArgument}
use Rattle.header.specs.Numbers.{numbers_of}
use Rattle.header.specs.declared.Header.{Header}
use Rattle.blocks.specs.Shape.{shape_of}
use Rattle.blocks.specs.declared.Shape.{Shape}
use Rattle.table.specs.Records.{records_of}
use Rattle.table.specs.Table.{table_answer}
use Rattle.table.specs.Rules.{AcceptedTable}
use Rattle.table.proofs.CheckLaws.{table_kept, table_refused}
use Rattle.table.proofs.GoodChainLaws.{good_begins}
use Rattle.lookup.specs.Found.{lookup_of}
use Rattle.lookup.specs.Sought.{key_fits, first_with}
use Rattle.lookup.specs.declared.found.Found.{Found}
use Rattle.lookup.proofs.KeyLaws.{fits_gives}
use Rattle.scan.specs.Scan.{scan_in, scan_of, scan_lookup}
use Rattle.scan.specs.Steps.{Searchable, found_from}

module _ (t key : List ℕ) (room : ℕ) where
  pub scan_refused : {r : Refusal} → table_answer t room ≡ Err r → scan_of t key room ≡ Err r
  unfolding scan_of
  scan_refused e = table_refused t room (λ (s : Refusal). Err s) (scan_in t (numbers_of t) key) e

  module _ (e : table_answer t room ≡ kept) where
    pub scan_unfit : key_fits (numbers_of t) key ≡ false → scan_of t key room ≡ Err BadArgument
    unfolding scan_of scan_in
    scan_unfit f = table_kept t room (λ (s : Refusal). Err s) (scan_in t (numbers_of t) key) e ∙ rw f

    pub scan_first : key_fits (numbers_of t) key ≡ true →
        scan_of t key room ≡ Ok (first_with t (shape_of (numbers_of t)) key (records_of t (numbers_of t)))
    unfolding scan_of scan_in
    scan_first f = table_kept t room (λ (s : Refusal). Err s) (scan_in t (numbers_of t) key) e ∙ rw f

  -- an answer has the numbers of the definition's
  pub scans : (r : Result (Option Found) Refusal) → r ≡ scan_of t key room →
      (r ≡ scan_of t key room) × (lookup_of r ≡ scan_lookup t key room)
  unfolding scan_lookup
  scans r e = (e, ap lookup_of e)

-- ---- behind an accepted table check; g and b are the shape and the first block that its header gives

module _ (t : List ℕ) (h : Header) (g : Shape) (b : ℕ) (e : g ≡ shape_of h) (f : b ≡ h.first) where
  -- the records from the first block on are those of the table
  pub first_all : (key : List ℕ) → found_from t g key b ≡ first_with t (shape_of h) key (records_of t h)
  unfolding shape_of
  first_all key = rw (e, f)

  pub searchable : AcceptedTable t h → (key : List ℕ) → key_fits h key ≡ true → Searchable t g b key
  unfolding shape_of
  searchable a key k =
      rw (e, f) (record {
        short = omega (arith, (fits_gives h key k).1, a.header.key_most);
        chain = good_begins t h a;
      })

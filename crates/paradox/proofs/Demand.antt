-- Demand 3 of the packed numbers: once the pair check answers 0, the walk's number is the scan's with its index
-- blocks read added, and neither is a refusal. Assumes nothing.
use Prim.Native.Nat.{ℕ, ◌+◌, ◌*◌, ◌≤◌}
use mathlib.Core.Path.{◌≡◌, ap, ◌∙◌}
use mathlib.Core.List.{List}
use native.Mathlib.Omega.{arith}
use lib.ListN.{length}
use Rattle.header.specs.Refusals.{answer_number}
use Rattle.header.specs.Numbers.{numbers_of}
use Rattle.lookup.specs.Found.{Lookup}
use Rattle.scan.specs.Scan.{scan_lookup}
use Rattle.index.specs.Walk.{walk_numbers}
use Rattle.pair.specs.Pair.{pair_answer}
use Rattle.pair.proofs.Demand.{demand_3}
use Rattle.numbers.proofs.LentLaws.{zero_kept}
use Rattle.paradox.specs.Packing.{packed, refusal_in}

-- the index blocks read are added to a lookup's other bits
reads_added : (l : Lookup) (reads : ℕ) → packed l reads ≡ packed l 0 + 0x1000000000000 * reads
unfolding packed
reads_added l reads = omega arith

-- a lookup that is no refusal is none when it is packed
no_refusal : (l : Lookup) (reads : ℕ) → l.refusal ≡ 0 → refusal_in (packed l reads) ≡ 0
unfolding packed refusal_in
no_refusal l reads e = omega (arith, e)

module _ (t x key : List ℕ) (room room₂ : ℕ) (pair : answer_number (pair_answer t x room) ≡ 0)
    (marks : (numbers_of t).blocks ≤ room₂) (size : length key ≡ (numbers_of t).key_length) where
  abbrev walked : ℕ
  walked = packed (walk_numbers t x key).0 (walk_numbers t x key).1

  abbrev scanned : ℕ
  scanned = packed (scan_lookup t key room₂) 0

  pub demand_3_packed : (walked ≡ scanned + 0x1000000000000 * (walk_numbers t x key).1) × (refusal_in walked ≡ 0)
      × (refusal_in scanned ≡ 0)
  demand_3_packed =
      let a = demand_3 t x key room room₂ (zero_kept (pair_answer t x room) pair) marks size in
      let same = ap (λ (l : Lookup). packed l (walk_numbers t x key).1) a.same in (
        same ∙ reads_added (scan_lookup t key room₂) (walk_numbers t x key).1,
        ap refusal_in same ∙ no_refusal (scan_lookup t key room₂) (walk_numbers t x key).1 a.finds.accepted,
        no_refusal (scan_lookup t key room₂) 0 a.finds.accepted,
      )

-- Which refusals the packed answers of scan and walk have: those of the lookups, as each is of 8 bits; and that a
-- refusal is its number and nothing else. Assumes nothing.
use Prim.Native.Nat.{ℕ}
use mathlib.Core.Path.{◌≡◌, refl}
use mathlib.Core.Bool.{true}
use mathlib.Core.List.{List, ◌∷◌}
use native.Mathlib.Omega.{arith}
use Rattle.std.specs.Prelude.{Option, Some, None, Result, Ok, Err}
use Rattle.header.specs.Refusals.{answer_number}
use Rattle.header.specs.declared.refusal.Refusal.{Refusal}
use Rattle.lookup.specs.Found.{Lookup, lookup_of}
use Rattle.lookup.specs.Rules.{NoPlace}
use Rattle.lookup.specs.declared.found.Found.{Found}
use Rattle.scan.specs.Scan.{scan_of, scan_lookup, scan_refusals}
use Rattle.scan.proofs.KeyLaws.{scan_no_place}
use Rattle.scan.proofs.RefusalLaws.{scan_refusals_lem}
use Rattle.index.specs.Walk.{found_of, reads_of, walk_of, walked_numbers, walk_numbers, walk_refusals}
use Rattle.index.specs.declared.walking.Walked.{Walked}
use Rattle.index.proofs.ReadsLaws.{walk_no_place}
use Rattle.index.proofs.RefusalLaws.{walk_refusals_lem}
use Rattle.numbers.specs.Lent.{numbered, is_one}
use Rattle.numbers.proofs.LentLaws.{number_small, among_numbered}
use Rattle.paradox.specs.Packing.{packed, refusal_in, packed_scan, packed_walk}

-- ---- an answer's number comes back from the packed one

comes_back : (a : Result (Option Found) Refusal) (reads : ℕ) →
    refusal_in (packed (lookup_of a) reads) ≡ answer_number a
unfolding packed refusal_in lookup_of answer_number
comes_back (Ok (Some found)) reads = omega arith
comes_back (Ok None) reads = omega arith
comes_back (Err r) reads = omega (arith, number_small r)

-- a walk has the number of what it found
walk_number : (w : Result Walked Refusal) → answer_number (found_of w) ≡ answer_number w
unfolding found_of answer_number
walk_number (Ok w) = refl
walk_number (Err r) = refl

-- ---- the two lookups

pub packed_scan_refusals : (t key : List ℕ) (room : ℕ) →
    is_one (0 ∷ numbered scan_refusals) (refusal_in (packed_scan t key room)) ≡ true
unfolding scan_lookup
packed_scan_refusals t key room =
    rw (comes_back (scan_of t key room) 0)
    (among_numbered scan_refusals (scan_of t key room) (scan_refusals_lem t key room))

pub packed_walk_refusals : (t x key : List ℕ) →
    is_one (0 ∷ numbered walk_refusals) (refusal_in (packed_walk t x key)) ≡ true
unfolding walk_numbers walked_numbers
packed_walk_refusals t x key =
    let w = walk_of t x key in
    rw (comes_back (found_of w) (reads_of w), walk_number w)
    (among_numbered walk_refusals w (walk_refusals_lem t x key))

-- ---- a refusal is its number and nothing else

-- of a lookup without a place, and no index blocks read, the packed number is the refusal's
number_only : (l : Lookup) (reads : ℕ) → NoPlace l → reads ≡ 0 → packed l reads ≡ l.refusal
unfolding packed
number_only l reads (f, b, p) r = omega (arith, f, b, p, r)

-- a lookup whose packed number has a refusal is refused
was_refused : (l : Lookup) (reads : ℕ) → (refusal_in (packed l reads) ≡ 0 → ⊥) → l.refusal ≡ 0 → ⊥
unfolding packed refusal_in
was_refused l reads h e = h (omega (arith, e))

pub packed_scan_refused : (t key : List ℕ) (room : ℕ) → (refusal_in (packed_scan t key room) ≡ 0 → ⊥) →
    packed_scan t key room ≡ (scan_lookup t key room).refusal
packed_scan_refused t key room h =
    let l = scan_lookup t key room in
    number_only l 0 (scan_no_place t key room (was_refused l 0 h)) refl

pub packed_walk_refused : (t x key : List ℕ) → (refusal_in (packed_walk t x key) ≡ 0 → ⊥) →
    packed_walk t x key ≡ (walk_numbers t x key).0.refusal
packed_walk_refused t x key h =
    let l = (walk_numbers t x key).0 in
    let reads = (walk_numbers t x key).1 in
    let w = walk_no_place t x key (was_refused l reads h) in
    number_only l reads w.0 w.1

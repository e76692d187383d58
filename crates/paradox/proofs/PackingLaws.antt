-- Unpacking gives each part back, and what `pack` adds up is the packing. Assumes nothing.
use Prim.Native.Nat.{ℕ, ◌+◌, ◌*◌, ◌<◌}
use mathlib.Core.Path.{◌≡◌, sym, subst}
use native.Mathlib.Omega.{arith}
use Rattle.std.specs.Prelude.{Option, Some, None, Result, Ok, Err}
use Rattle.header.specs.Refusals.{number}
use Rattle.header.specs.declared.refusal.Refusal.{Refusal}
use Rattle.lookup.specs.Found.{Lookup, lookup_of}
use Rattle.lookup.specs.declared.found.Found.{Found}
use Rattle.index.specs.Walk.{found_of, reads_of, walked_numbers}
use Rattle.index.specs.declared.walking.Walked.{Walked}
use Rattle.numbers.proofs.LentLaws.{number_small}
use Rattle.paradox.specs.Packing.{packed, refusal_in, found_in, block_in, place_in, reads_in, Unpacked}

-- each part of a number of five parts, of 8, 8, 16, 16 and 16 bits
pub unpacks : (l : Lookup) (reads : ℕ) → l.refusal < 256 → l.found < 256 → l.block < 65536 → l.place < 65536 →
    reads < 65536 → Unpacked (packed l reads) l reads
unfolding packed refusal_in found_in block_in place_in reads_in
unpacks l reads a b c d e =
    record {
      refusal = omega arith;
      found = omega arith;
      block = omega arith;
      place = omega arith;
      reads_back = omega arith;
    }

-- a number is the packing of an answer, and the answer's parts come back from it
abbrev Holds : ℕ → Lookup → ℕ → Type 0
Holds n l reads = (n ≡ packed l reads) × Unpacked n l reads

abbrev pub Packs : ℕ → Result (Option Found) Refusal → ℕ → Type 0
Packs n f reads = Holds n (lookup_of f) reads

module _ (f g : Result (Option Found) Refusal) (reads n : ℕ) (known : f ≡ g) (is : n ≡ packed (lookup_of g) reads) where
  as_known : Unpacked (packed (lookup_of g) reads) (lookup_of g) reads → Packs n f reads
  as_known u =
      subst (λ (x : Result (Option Found) Refusal). Packs n x reads) (sym known)
      (is, subst (λ (m : ℕ). Unpacked m (lookup_of g) reads) (sym is) u)

-- ---- case by case

module _ (f : Result (Option Found) Refusal) (reads : ℕ) (few : reads < 256) where
  pub found_packs : (o : Option Found) (found : Found) → f ≡ Ok o → o ≡ Some found → found.block < 65536
      → found.place < 65536
      → Packs (0x100 + 0x10000 * found.block + 0x100000000 * found.place + 0x1000000000000 * reads) f reads
  unfolding packed lookup_of
  found_packs o found known is b p =
      as_known f (Ok (Some found)) reads _ (rw is at known) (omega arith)
      (unpacks (lookup_of (Ok (Some found))) reads (omega arith) (omega arith) b p (omega arith))

  pub absent_packs : (o : Option Found) → f ≡ Ok o → o ≡ None → Packs (0x1000000000000 * reads) f reads
  unfolding packed lookup_of
  absent_packs o known is =
      as_known f (Ok None) reads _ (rw is at known) (omega arith)
      (unpacks (lookup_of (Ok None)) reads (omega arith) (omega arith) (omega arith) (omega arith) (omega arith))

  pub refused_packs : (r : Refusal) (n : ℕ) → f ≡ Err r → n ≡ number r → Packs (n + 0x1000000000000 * reads) f reads
  unfolding packed lookup_of
  refused_packs r n known is =
      let l = number_small r in
      as_known f (Err r) reads _ known (omega (arith, is))
      (unpacks (lookup_of (Err r)) reads l (omega arith) (omega arith) (omega arith) (omega arith))

-- ---- the answers of the two lookups, in document 01's numbers

pub scan_packs : (n : ℕ) (f : Result (Option Found) Refusal) (l : Lookup) → lookup_of f ≡ l → Packs n f 0 → Holds n l 0
scan_packs n f l e p = subst (λ (x : Lookup). Holds n x 0) e p

pub walk_packs : (n : ℕ) (w : Result Walked Refusal) (q : Lookup × ℕ) → walked_numbers w ≡ q
    → Packs n (found_of w) (reads_of w) → Holds n q.0 q.1
unfolding walked_numbers
walk_packs n w q e p = subst (λ (x : Lookup × ℕ). Holds n x.0 x.1) e p

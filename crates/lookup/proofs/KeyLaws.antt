-- A key that fits a table, and what the first record with a key is: the one at some index that has it, or none has it.
-- Assumes nothing.
use Rattle.std.specs.Prelude.{Option, None}
use Prim.Native.Nat.{ℕ, zero, suc, ◌≤◌, ◌<◌}
use mathlib.Core.Path.{◌≡◌, refl, sym, ◌∙◌}
use mathlib.Core.Bool.{Bool, true, false, cond, false≢true}
use mathlib.Core.List.{List, [], ◌∷◌}
use native.Mathlib.Nat.{not-suc-le-zero, le_of_suc-le-suc}
use native.Mathlib.Omega.{arith}
use lib.Dec.{eqb, leb}
use lib.ListN.{length, get_or}
use borrow.Author.Tests.{eq-eqb, eqb-true, le-leb, leb-true}
use Rattle.words.proofs.Conjunctions.{both, join}
use Rattle.words.proofs.OrderLaws.{same_gives, same_takes}
use Rattle.header.specs.declared.Header.{Header}
use Rattle.blocks.specs.declared.Shape.{Shape}
use Rattle.table.specs.Records.{Position}
use Rattle.table.specs.Keys.{key_at}
use Rattle.lookup.specs.Found.{found_at}
use Rattle.lookup.specs.Sought.{key_fits, is_sought, first_with}
use Rattle.lookup.specs.declared.found.Found.{Found}

-- ---- 13

pub fits_gives : (h : Header) (key : List ℕ) → key_fits h key ≡ true →
    (1 ≤ h.key_fields) × (length key ≡ h.key_length)
unfolding key_fits
fits_gives h key e =
    let p = both {a = leb 1 h.key_fields} {b = eqb (length key) h.key_length} e in
    (leb-true 1 h.key_fields p.0, eqb-true (length key) h.key_length p.1)

pub fits_takes : (h : Header) (key : List ℕ) → 1 ≤ h.key_fields → length key ≡ h.key_length → key_fits h key ≡ true
unfolding key_fits
fits_takes h key keyed long = join (le-leb 1 h.key_fields keyed) (eq-eqb (length key) h.key_length long)

-- ---- the test of a key is its equality

module _ (t : List ℕ) (g : Shape) (key : List ℕ) where
  key_gives : (p : Position) → is_sought t g key p ≡ true → key_at t g (length key) p ≡ key
  key_gives p e = same_gives (key_at t g (length key) p) key e

  key_takes : (p : Position) → key_at t g (length key) p ≡ key → is_sought t g key p ≡ true
  key_takes p e = same_takes (key_at t g (length key) p) key e

  -- ---- what the first of some records with the key is

  -- the one at an index has the key and is the answer, or none has it
  pub data Looked (ps : List Position) (r : Option Found) : Type 0 where
    finds : (p : Position) (i : ℕ) → i < length ps → get_or ps i p ≡ p → key_at t g (length key) p ≡ key →
        r ≡ found_at p.block p.place → Looked ps r
    misses : ((i : ℕ) (d : Position) → i < length ps → key_at t g (length key) (get_or ps i d) ≡ key → ⊥) → r ≡ None →
        Looked ps r

  later : (p : Position) (ps : List Position) (r : Option Found) → is_sought t g key p ≡ false → Looked ps r →
      Looked (p ∷ ps) r
  later p ps r e (finds q i l there same at) = finds q (suc i) (omega arith) there same at
  later p ps r e (misses h none) = misses go none
    where
      go : (i : ℕ) (d : Position) → i < length (p ∷ ps) → key_at t g (length key) (get_or (p ∷ ps) i d) ≡ key → ⊥
      go zero d l k = false≢true (sym e ∙ key_takes p k)
      go (suc i) d l k = h i d (le_of_suc-le-suc l) k

  pub looked : (ps : List Position) → Looked ps (first_with t g key ps)
  unfolding first_with
  looked [] = misses (λ i d l k. absurd (not-suc-le-zero l)) refl
  looked (p ∷ ps) = go (is_sought t g key p) refl (looked ps)
    where
      go : (c : Bool) → is_sought t g key p ≡ c → Looked ps (first_with t g key ps) →
          Looked (p ∷ ps) (cond c (found_at p.block p.place) (first_with t g key ps))
      go true e w = finds p 0 (omega arith) refl (key_gives p e) refl
      go false e w = later p ps (first_with t g key ps) e w

-- Pieces put into a buffer one behind the other are one piece. Assumes nothing.
use Prim.Native.Nat.{ℕ, suc, ◌+◌, ◌≤◌, ◌<◌}
use mathlib.Core.Path.{◌≡◌, refl, sym, ap, ◌∙◌, subst}
use mathlib.Core.List.{List, [], ◌∷◌, ◌++◌}
use native.Mathlib.Nat.{add-zero}
use native.Mathlib.Omega.{arith}
use lib.ListN.{length, get_or, set, take, drop, length-append}
use lib.Seq.{sets, sets-eq, length-sets, take-suc, length-take-le}
use Rattle.io.specs.Counts.{IsPrefixLen}
use Rattle.buffer.specs.Pieces.{Room, Wrote, AtFront}

-- a piece and then another, stored from an offset on
pub sets_append : {A : Type 0} (l : List A) (i : ℕ) (a b : List A) →
    sets l i (a ++ b) ≡ sets (sets l i a) (i + length a) b
sets_append l i [] b = ap (λ (k : ℕ). sets l k b) (sym (add-zero i))
sets_append l i (x ∷ a) b =
    let e : suc i + length a ≡ i + suc (length a) = omega arith in
    sets_append (set l i x) (suc i) a b ∙ ap (λ (k : ℕ). sets (sets (set l i x) (suc i) a) k b) e

module _ {s : List ℕ} {i : ℕ} (p q : List ℕ) where
  pub wrote_then : {m e : List ℕ} {j k : ℕ} → Wrote s i p m j → Wrote m j q e k → Wrote s i (p ++ q) e k
  wrote_then {m} {e} {j} {k} a b =
      let l = length-append p q in
      record {
        puts = b.puts
            ∙ ap (λ (x : List ℕ). sets x j q) a.puts
            ∙ ap (λ (x : ℕ). sets (sets s i p) x q) a.ends
            ∙ sym (sets_append s i p q);
        ends = omega (arith, a.ends, b.ends, l);
      }

  -- room for both is room for the first, and then for the second
  pub room_first_lem : Room s i (p ++ q) → Room s i p
  room_first_lem r = let l = length-append p q in record { fits = omega (arith, r.fits, l) }

  pub room_then : {m : List ℕ} {j : ℕ} → Room s i (p ++ q) → Wrote s i p m j → Room m j q
  room_then {m} {j} r a =
      let l = length-append p q in
      let n : length m ≡ length s = ap length a.puts ∙ length-sets s i p in
      record { fits = omega (arith, r.fits, l, n, a.ends) }

-- putting changes no length
pub wrote_length : {s : List ℕ} {i : ℕ} {p m : List ℕ} {j : ℕ} → Wrote s i p m j → length m ≡ length s
wrote_length {s} {i} {p} w = ap length w.puts ∙ length-sets s i p

-- a piece by another name
module _ {s : List ℕ} {i : ℕ} {p q : List ℕ} (same : p ≡ q) where
  pub room_as : Room s i q → Room s i p
  room_as r = subst (Room s i) (sym same) r

  pub wrote_as : {e : List ℕ} {k : ℕ} → Wrote s i p e k → Wrote s i q e k
  wrote_as {e} {k} w = subst (λ (x : List ℕ). Wrote s i x e k) same w

pub front_as : {s p q e : List ℕ} {k : ℕ} → p ≡ q → AtFront s p e k → AtFront s q e k
front_as {s} {p} {q} {e} {k} same w = subst (λ (x : List ℕ). AtFront s x e k) same w

-- nothing is put by the empty piece
pub wrote_nothing : (s : List ℕ) (i : ℕ) → Wrote s i [] s i
wrote_nothing s i = record { puts = refl; ends = sym (add-zero i) }

-- one item more of a copy
pub copy_step : {A : Type 0} (s piece : List A) (at i : ℕ) (x : A) → i < length piece → get_or piece i x ≡ x →
    set (sets s at (take i piece)) (at + i) x ≡ sets s at (take (i + 1) piece)
copy_step s piece at i x l is =
    let e : length (take i piece) ≡ i = length-take-le i piece (omega arith) in
    let f : i + 1 ≡ suc i = omega arith in
    ap (λ (k : ℕ). set (sets s at (take i piece)) (at + k) x) (sym e)
    ∙ sym (sets_append s at (take i piece) (x ∷ []))
    ∙ rw (f, take-suc piece i x l, is)

-- a piece put at offset 0 is at the front, and its bytes are counted
pub at_front : (s piece e : List ℕ) (n : ℕ) → length piece ≤ length s → Wrote s 0 piece e n
    → IsPrefixLen n e × AtFront s piece e n
at_front s piece e n l w =
    let same = wrote_length w in
    let z : n ≡ length piece = omega (arith, w.ends) in
    let k : n ≤ length e = omega (arith, same, z, l) in
    let o : 0 + length piece ≡ length piece = omega arith in (
      (k, sym (length-take-le n e k)),
      record {
        counts = z;
        whole = w.puts ∙ sets-eq piece s 0 (omega (arith, l)) ∙ ap (λ (j : ℕ). piece ++ drop j s) o;
      },
    )

-- No two records of an accepted table with key fields have the same key. Assumes nothing.
use Prim.Native.Nat.{ℕ, zero, suc, ◌≤◌, ◌<◌}
use mathlib.Core.Path.{◌≡◌, refl, sym, ap, ◌∙◌}
use mathlib.Core.List.{List, [], ◌∷◌, map}
use mathlib.Core.Logic.{⊎_elim}
use native.Mathlib.Nat.{not-suc-le-zero, le_of_suc-le-suc}
use native.Mathlib.Omega.{arith}
use lib.ListN.{length, get_or, length-map, get_or-map}
use Rattle.words.specs.Order.{order}
use Rattle.std.specs.declared.cmp.Ordering.TheVariants.{Less}
use Rattle.words.proofs.Cases.{lt_or_ge}
use Rattle.words.proofs.OrderLaws.{order_refl, less≢same}
use Rattle.header.specs.declared.Header.{Header}
use Rattle.blocks.specs.Shape.{shape_of}
use Rattle.blocks.specs.declared.Shape.{Shape}
use Rattle.table.specs.Records.{Position, records_of}
use Rattle.table.specs.Keys.{key_at, keys_of}
use Rattle.table.specs.Rules.{AcceptedTable}

-- what stands at an index of a list does not depend on what counts as standing behind its end
pub any_default : {A : Type 0} (xs : List A) (i : ℕ) (c d : A) → i < length xs → get_or xs i c ≡ get_or xs i d
any_default [] i c d l = absurd (not-suc-le-zero l)
any_default (x ∷ xs) zero c d l = refl
any_default (x ∷ xs) (suc i) c d l = any_default xs i c d (le_of_suc-le-suc l)

-- a key of the list of keys is that of the record at its index
key_there : (t : List ℕ) (g : Shape) (n : ℕ) (ps : List Position) (i : ℕ) (d : Position) → i < length ps →
    get_or (map (key_at t g n) ps) i [] ≡ key_at t g n (get_or ps i d)
key_there t g n ps i d l =
    any_default (map (key_at t g n) ps) i [] (key_at t g n d) (rw length-map l) ∙ get_or-map (key_at t g n) ps i d

module _ (t : List ℕ) (h : Header) (a : AcceptedTable t h) (keyed : 1 ≤ h.key_fields) where
  -- the key of record i
  abbrev key : ℕ → Position → List ℕ
  key i d = key_at t (shape_of h) h.key_length (get_or (records_of t h) i d)

  -- of two records the earlier has the lesser key
  pub earlier_less : (i j : ℕ) (c d : Position) → i < j → j < length (records_of t h) → order (key i c) (key j d) ≡ Less
  earlier_less i j c d l m =
      let k : i < length (records_of t h) = omega arith in
      let n : j < length (keys_of t h) = rw length-map m in
      rw (
        ← (key_there t (shape_of h) h.key_length (records_of t h) i c k),
        ← (key_there t (shape_of h) h.key_length (records_of t h) j d m),
      ) (a.ascending keyed i j l n)

  apart : (i j : ℕ) (c d : Position) → i < j → j < length (records_of t h) → key i c ≡ key j d → ⊥
  apart i j c d l m e =
      less≢same (sym (earlier_less i j c d l m) ∙ ap (λ (k : List ℕ). order k (key j d)) e ∙ order_refl (key j d))

  -- records with one key are one record
  pub key_once : (i j : ℕ) (c d : Position) → i < length (records_of t h) → j < length (records_of t h) →
      key i c ≡ key j d → i ≡ j
  key_once i j c d l m e =
      ⊎_elim
      (λ (k : i < j). absurd (apart i j c d k m e))
      (λ (k : j ≤ i). ⊎_elim (λ (n : j < i). absurd (apart j i d c n l (sym e))) (λ (n : i ≤ j). omega arith)
      (lt_or_ge j i))
      (lt_or_ge i j)

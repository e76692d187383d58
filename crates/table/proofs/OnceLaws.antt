-- Every record of an accepted table stands once in the list of its records. Assumes nothing.
use Prim.Native.Nat.{ℕ, zero, suc, ◌+◌, ◌≤◌, ◌<◌}
use mathlib.Core.Path.{◌≡◌, refl, sym, ap, ◌∙◌}
use mathlib.Core.Bool.{Bool, true, false, cond, ◌&&◌}
use mathlib.Core.List.{List, [], ◌∷◌, ◌++◌}
use mathlib.Core.Logic.{⊎_elim}
use native.Mathlib.Nat.{zero-add}
use native.Mathlib.Omega.{arith}
use lib.Dec.{eqb}
use borrow.Author.Tests.{eqb-true, eqb-false, ne_eqb}
use Rattle.words.proofs.Cases.{lt_or_ge}
use Rattle.header.specs.declared.Header.{Header}
use Rattle.blocks.specs.Shape.{shape_of}
use Rattle.blocks.specs.Counts.{count_in}
use Rattle.blocks.specs.declared.Shape.{Shape}
use Rattle.chain.specs.Chain.{times}
use Rattle.chain.specs.Links.{used_of}
use Rattle.table.specs.Records.{Position, held, places_from, records_in, records_of, comes}
use Rattle.table.specs.Rules.{AcceptedTable}

module _ (p : Position) where
  comes_append : (xs ys : List Position) → comes p (xs ++ ys) ≡ comes p xs + comes p ys
  unfolding comes
  comes_append [] ys = sym (zero-add (comes p ys))
  comes_append (x ∷ xs) ys = omega (arith, comes_append xs ys)

  -- ---- among the places of one block

  -- not in another block
  places_other : (b place n : ℕ) → eqb b p.block ≡ false → comes p (places_from b place n) ≡ 0
  unfolding comes places_from
  places_other b place zero e = refl
  places_other b place (suc n) e = rw (e, places_other b (suc place) n e)

  one_more : (c : Bool) → cond (c && false) 1 0 + 0 ≡ 0
  one_more true = refl
  one_more false = refl

  -- not where every place is another
  places_not : (b place n : ℕ) → ((i : ℕ) → i < n → place + i ≡ p.place → ⊥) → comes p (places_from b place n) ≡ 0
  unfolding comes places_from
  places_not b place zero h = refl
  places_not b place (suc n) h =
      rw (
        places_not b (suc place) n (λ i l e. h (suc i) (omega arith) (omega arith)),
        ne_eqb place p.place (λ e. h 0 (omega arith) (omega arith)),
      )
      (one_more (eqb b p.block))

  places_once : (b place n : ℕ) → eqb b p.block ≡ true → place ≤ p.place → p.place < place + n →
      comes p (places_from b place n) ≡ 1
  unfolding comes places_from
  places_once b place zero e l m = absurd (omega arith)
  places_once b place (suc n) e l m = go (eqb place p.place) refl (places_once b (suc place) n e)
    where
      go : (c : Bool) → eqb place p.place ≡ c →
          (suc place ≤ p.place → p.place < suc place + n → comes p (places_from b (suc place) n) ≡ 1)
          → cond (eqb b p.block && eqb place p.place) 1 0 + comes p (places_from b (suc place) n) ≡ 1
      go true f ih = let q = eqb-true place p.place f in rw (e, f, places_not b (suc place) n (λ i k y. omega arith))
      go false f ih = let q = eqb-false place p.place f in rw (e, f, ih (omega arith) (omega arith))

  -- ---- among the records of some blocks

  module _ (t : List ℕ) (g : Shape) where
    abbrev many : ℕ
    many = held (count_in t g p.block)

    -- a record that its block counts stands there as often as its block is one of them
    comes_times : p.place < many → (bs : List ℕ) → comes p (records_in t g bs) ≡ times p.block bs
    unfolding comes records_in times
    comes_times l [] = refl
    comes_times l (b ∷ bs) =
        comes_append (places_from b 0 (held (count_in t g b))) (records_in t g bs)
        ∙ rw (comes_times l bs) (ap (λ (n : ℕ). n + times p.block bs) (go (eqb b p.block) refl))
      where
        go : (c : Bool) → eqb b p.block ≡ c → comes p (places_from b 0 (held (count_in t g b))) ≡ cond c 1 0
        go true e =
            places_once b 0 (held (count_in t g b)) e (omega arith)
            (rw (ap (λ (x : ℕ). held (count_in t g x)) (eqb-true b p.block e)) (omega arith))
        go false e = places_other b 0 (held (count_in t g b)) e

    -- any other does not stand there
    comes_never : many ≤ p.place → (bs : List ℕ) → comes p (records_in t g bs) ≡ 0
    unfolding comes records_in
    comes_never l [] = refl
    comes_never l (b ∷ bs) =
        comes_append (places_from b 0 (held (count_in t g b))) (records_in t g bs)
        ∙ rw (comes_never l bs, go (eqb b p.block) refl)
      where
        go : (c : Bool) → eqb b p.block ≡ c → comes p (places_from b 0 (held (count_in t g b))) ≡ 0
        go true e =
            places_not b 0 (held (count_in t g b)) (λ i k y. let q = ap (λ (x : ℕ). held (count_in t g x))
            (eqb-true b p.block e) in omega arith)
        go false e = places_other b 0 (held (count_in t g b)) e

  -- ---- in an accepted table

  module _ (t : List ℕ) (h : Header) (a : AcceptedTable t h) where
    -- a record that a used block counts stands once in the list
    pub record_once : times p.block (used_of t h) ≡ 1 → p.place < held (count_in t (shape_of h) p.block) →
        comes p (records_of t h) ≡ 1
    record_once e l = comes_times t (shape_of h) l (used_of t h) ∙ e

    -- and none stands there twice
    pub record_no_more : comes p (records_of t h) ≤ 1
    record_no_more =
        ⊎_elim
        (λ l. rw (comes_times t (shape_of h) l (used_of t h)) (a.once p.block))
        (λ l. rw (comes_never t (shape_of h) l (used_of t h)) (omega arith))
        (lt_or_ge p.place (held (count_in t (shape_of h) p.block)))

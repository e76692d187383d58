-- Lists of block numbers: a test of every number, how often a number stands in a list, the marks of n blocks. Assumes
-- nothing.
use Prim.Native.Nat.{ℕ, zero, suc, ◌<◌, suc-le-suc}
use mathlib.Core.Path.{◌≡◌, refl, ◌∙◌}
use mathlib.Core.Bool.{Bool, true}
use mathlib.Core.List.{List, [], ◌∷◌, ◌++◌}
use mathlib.Core.Logic.{⊎_elim}
use native.Mathlib.Omega.{arith}
use native.Mathlib.Nat.{not-suc-le-zero, le_of_suc-le-suc, eq-or-lt_of_le}
use lib.ListN.{length, get_or, length-append, get_or-append}
use lib.Seq.{get_or_at}
use Rattle.words.proofs.Conjunctions.{both, join}
use Rattle.chain.specs.Chain.{every}
use Rattle.chain.specs.Marks.{mark_of, marks_of}

-- ---- a test of every number is the test at each index

module _ (test : ℕ → Bool) where
  pub every_gives : (bs : List ℕ) → every test bs ≡ true → (i : ℕ) → i < length bs → test (get_or bs i 0) ≡ true
  unfolding every
  every_gives [] e i h = absurd (not-suc-le-zero h)
  every_gives (b ∷ bs) e zero h = (both {a = test b} {b = every test bs} e).0
  every_gives (b ∷ bs) e (suc i) h = every_gives bs (both {a = test b} {b = every test bs} e).1 i (le_of_suc-le-suc h)

  pub every_takes : (bs : List ℕ) → ((i : ℕ) → i < length bs → test (get_or bs i 0) ≡ true) → every test bs ≡ true
  unfolding every
  every_takes [] k = refl
  every_takes (b ∷ bs) k = join (k 0 (omega arith)) (every_takes bs (λ i h. k (suc i) (suc-le-suc h)))

-- ---- the marks of n blocks

pub marks_length : (n : ℕ) (used : List ℕ) → length (marks_of n used) ≡ n
unfolding marks_of
marks_length zero used = refl
marks_length (suc n) used =
    length-append (marks_of n used) (mark_of used (suc n) ∷ []) ∙ rw (marks_length n used) (omega arith)

pub mark_at : (n : ℕ) (used : List ℕ) (i : ℕ) → i < n → get_or (marks_of n used) i 0 ≡ mark_of used (suc i)
unfolding marks_of
mark_at zero used i h = absurd (not-suc-le-zero h)
mark_at (suc n) used i h =
    ⊎_elim at_end_lem (λ l. before_end l (mark_at n used i l)) (eq-or-lt_of_le {n = i} {m = n} (omega arith))
  where
    at_end_lem : i ≡ n → get_or (marks_of n used ++ (mark_of used (suc n) ∷ [])) i 0 ≡ mark_of used (suc i)
    at_end_lem e = rw e (get_or_at (marks_of n used) (mark_of used (suc n)) [] 0 n (marks_length n used))

    before_end : i < n → get_or (marks_of n used) i 0 ≡ mark_of used (suc i) →
        get_or (marks_of n used ++ (mark_of used (suc n) ∷ [])) i 0 ≡ mark_of used (suc i)
    before_end l e = get_or-append (marks_of n used) (mark_of used (suc n) ∷ []) 0 i (rw marks_length l) ∙ e

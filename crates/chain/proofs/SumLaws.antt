-- Every number of a list is one of n blocks: how often it has each of them adds up to its length. Assumes nothing.
use Prim.Native.Nat.{ℕ, zero, suc, ◌+◌, ◌≤◌, ◌<◌}
use mathlib.Core.Path.{◌≡◌, refl, ◌∙◌}
use mathlib.Core.Bool.{Bool, true, false, cond}
use mathlib.Core.List.{List, [], ◌∷◌}
use native.Mathlib.Omega.{arith}
use lib.ListN.{length}
use lib.Dec.{eqb}
use borrow.Author.Tests.{eqb-true, eqb-false, ne_eqb}
use Rattle.words.proofs.Conjunctions.{both}
use Rattle.blocks.specs.Shape.{in_file}
use Rattle.blocks.proofs.ShapeLaws.{in_file_lem}
use Rattle.chain.specs.Chain.{every, times}

-- the numbers of the first n indexes added up
unfoldable sum : (ℕ → ℕ) → ℕ → ℕ
sum f zero = 0
sum f (suc n) = sum f n + f n

sum_none : (f : ℕ → ℕ) (n : ℕ) → ((i : ℕ) → i < n → f i ≡ 0) → sum f n ≡ 0
unfolding sum
sum_none f zero h = refl
sum_none f (suc n) h = omega (arith, sum_none f n (λ i l. h i (omega arith)), h n (omega arith))

sum_ones : (f : ℕ → ℕ) (n : ℕ) → ((i : ℕ) → i < n → f i ≡ 1) → sum f n ≡ n
unfolding sum
sum_ones f zero h = refl
sum_ones f (suc n) h = omega (arith, sum_ones f n (λ i l. h i (omega arith)), h n (omega arith))

sum_most : (f : ℕ → ℕ) (n : ℕ) → ((i : ℕ) → i < n → f i ≤ 1) → sum f n ≤ n
unfolding sum
sum_most f zero h = omega arith
sum_most f (suc n) h = omega (arith, sum_most f n (λ i l. h i (omega arith)), h n (omega arith))

sum_both : (f g : ℕ → ℕ) (n : ℕ) → sum (λ (i : ℕ). f i + g i) n ≡ sum f n + sum g n
unfolding sum
sum_both f g zero = refl
sum_both f g (suc n) = omega (arith, sum_both f g n)

-- 1 at block b, 0 at every other
abbrev is : ℕ → ℕ → ℕ
is b i = cond (eqb b (suc i)) 1 0

sum_is : (b n : ℕ) → 1 ≤ b → b ≤ n → sum (is b) n ≡ 1
unfolding sum
sum_is b zero low high = absurd (omega arith)
sum_is b (suc n) low high = go (eqb b (suc n)) refl (sum_is b n low)
  where
    go : (t : Bool) → eqb b (suc n) ≡ t → (b ≤ n → sum (is b) n ≡ 1) → sum (is b) n + is b n ≡ 1
    go true e ih =
        let q : b ≡ suc n = eqb-true b (suc n) e in
        let z : sum (is b) n ≡ 0 = sum_none (is b) n (λ i l. rw (ne_eqb b (suc i) (λ f. omega (arith, f, q, l)))) in
        rw (e, z)
    go false e ih = rw (e, ih (omega (arith, low, high, eqb-false b (suc n) e)))

times_sum : (n : ℕ) (bs : List ℕ) → every (in_file n) bs ≡ true → sum (λ (i : ℕ). times (suc i) bs) n ≡ length bs
unfolding every times
times_sum n [] e = sum_none (λ (i : ℕ). 0) n (λ i l. refl)
times_sum n (b ∷ bs) e =
    let p = both {a = in_file n b} {b = every (in_file n) bs} e in
    let q = in_file_lem n b p.0 in
    sum_both (is b) (λ (i : ℕ). times (suc i) bs) n ∙ rw (sum_is b n q.0 q.1, times_sum n bs p.1) (omega arith)

-- a list that has no block twice is no longer than there are blocks
pub once_most : (n : ℕ) (bs : List ℕ) → every (in_file n) bs ≡ true → ((i : ℕ) → i < n → times (suc i) bs ≤ 1) →
    length bs ≤ n
once_most n bs e h = omega (arith, sum_most (λ (i : ℕ). times (suc i) bs) n h, times_sum n bs e)

-- two lists that have every block once between them are as long as there are blocks
pub once_length : (n : ℕ) (us vs : List ℕ) → every (in_file n) us ≡ true → every (in_file n) vs ≡ true
    → ((i : ℕ) → i < n → times (suc i) us + times (suc i) vs ≡ 1) → length us + length vs ≡ n
once_length n us vs e f h =
    let s = sum_both (λ (i : ℕ). times (suc i) us) (λ (i : ℕ). times (suc i) vs) n in
    let o = sum_ones (λ (i : ℕ). times (suc i) us + times (suc i) vs) n h in
    omega (arith, s, o, times_sum n us e, times_sum n vs f)

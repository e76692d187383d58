-- Byte order is a strict total order: same exactly when equal, antisymmetric, transitive. Assumes nothing.
use Prim.Native.Nat.{ℕ, ◌<◌}
use mathlib.Core.Path.{◌≡◌, refl, sym, ap, ◌∙◌}
use mathlib.Core.List.{List, [], ◌∷◌, ◌++◌}
use mathlib.Core.Bool.{Bool, true, false, cond, false≢true}
use native.Mathlib.Nat.{le_antisymm}
use native.Mathlib.Omega.{arith}
use lib.Dec.{ltb}
use lib.ListN.{length}
use borrow.Author.Tests.{ltb-true, ltb-false, lt-ltb, le-ltb, eq-eqb, ne_eqb}
use Rattle.words.proofs.Cases.{compared}
use Rattle.words.specs.Order.{is_at_most, is_less, is_same, NotLater, order}
use Rattle.std.specs.Cmp.Lexicographic.{slice_cmp}
use Rattle.std.specs.Ordering.{is_ne, nat_cmp, ordering_then}
use Rattle.std.specs.declared.cmp.Ordering.{Ordering}
use Rattle.std.specs.declared.cmp.Ordering.TheVariants.{Less, Equal, Greater}

pub more≢less : Greater ≡ Less → ⊥
more≢less e = let z : ◌≡◌ {A = ℕ} 0 1 = cc in omega arith

pub more≢same : Greater ≡ Equal → ⊥
more≢same e = let z : ◌≡◌ {A = ℕ} 0 1 = cc in omega arith

pub less≢same : Less ≡ Equal → ⊥
less≢same e = let z : ◌≡◌ {A = ℕ} 0 1 = cc in omega arith

-- ---- what the tests of an order say

pub is_less_lem : (o : Ordering) → is_less o ≡ true → o ≡ Less
is_less_lem Less e = refl
is_less_lem Equal e = absurd (false≢true e)
is_less_lem Greater e = absurd (false≢true e)

pub is_same_lem : (o : Ordering) → is_same o ≡ true → o ≡ Equal
is_same_lem Less e = absurd (false≢true e)
is_same_lem Equal e = refl
is_same_lem Greater e = absurd (false≢true e)

pub at_most : (o : Ordering) → is_at_most o ≡ true → o ≡ Greater → ⊥
at_most o e f = false≢true (rw f at e)

pub not_at_most : (o : Ordering) → is_at_most o ≡ false → o ≡ Greater
not_at_most Less e = absurd (false≢true (sym e))
not_at_most Equal e = absurd (false≢true (sym e))
not_at_most Greater e = refl

-- ---- an order that decides, or leaves it to another

pub then_ne : (o r : Ordering) → is_ne o ≡ true → ordering_then o r ≡ o
then_ne Less r e = refl
then_ne Equal r e = absurd (false≢true e)
then_ne Greater r e = refl

pub then_eq : (o r : Ordering) → is_ne o ≡ false → ordering_then o r ≡ r
then_eq Less r e = absurd (false≢true (sym e))
then_eq Equal r e = refl
then_eq Greater r e = absurd (false≢true (sym e))

-- ---- the order of two ranges

-- what the first bytes of two ranges tell
data First (x y : ℕ) : Bool → Bool → Type 0 where
  below : x < y → First x y true false
  above : y < x → First x y false true
  level : x ≡ y → First x y false false

first : (x y : ℕ) → First x y (ltb x y) (ltb y x)
first x y = go (ltb x y) refl (ltb y x) refl
  where
    go : (p : Bool) → ltb x y ≡ p → (q : Bool) → ltb y x ≡ q → First x y p q
    go true e true f = absurd (omega (arith, ltb-true x y e, ltb-true y x f))
    go true e false f = below (ltb-true x y e)
    go false e true f = above (ltb-true y x f)
    go false e false f = level (le_antisymm (ltb-false y x f) (ltb-false x y e))

pub order_rest : (x : ℕ) (xs ys : List ℕ) → order (x ∷ xs) (x ∷ ys) ≡ order xs ys
unfolding order
order_rest x xs ys = let e : ltb x x ≡ false = le-ltb x x (omega arith) in rw e

-- std's order of two slices of bytes
pub slices_order : (a b : List ℕ) → slice_cmp nat_cmp a b ≡ order a b
unfolding order
slices_order [] [] = refl
slices_order [] (y ∷ ys) = refl
slices_order (x ∷ xs) [] = refl
slices_order (x ∷ xs) (y ∷ ys) =
    rw (slices_order xs ys)
    (compared x y
    (λ l. rw (lt-ltb x y l))
    (λ e. rw (le-ltb x y (omega arith), le-ltb y x (omega arith), eq-eqb x y e))
    (λ l. rw (le-ltb x y (omega arith), ne_eqb x y (omega arith), lt-ltb y x l)))

-- equal ranges compare as the same
pub order_refl : (a : List ℕ) → order a a ≡ Equal
unfolding order
order_refl [] = refl
order_refl (x ∷ xs) = order_rest x xs xs ∙ order_refl xs

-- ranges that compare as the same are equal
pub order_same : (a b : List ℕ) → order a b ≡ Equal → a ≡ b
unfolding order
order_same [] [] h = refl
order_same [] (y ∷ ys) h = absurd (less≢same h)
order_same (x ∷ xs) [] h = absurd (more≢same h)
order_same (x ∷ xs) (y ∷ ys) h = go (first x y) h (order_same xs ys)
  where
    go : {p q : Bool} → First x y p q → cond p Less (cond q Greater (order xs ys)) ≡ Equal →
        (order xs ys ≡ Equal → xs ≡ ys) → ◌≡◌ {A = List ℕ} (x ∷ xs) (y ∷ ys)
    go (below l) w ih = absurd (less≢same w)
    go (above l) w ih = absurd (more≢same w)
    go (level e) w ih = let r : xs ≡ ys = ih w in cc

-- the test says so of two ranges exactly when they are equal
pub same_gives : (a b : List ℕ) → is_same (order a b) ≡ true → a ≡ b
same_gives a b e = order_same a b (is_same_lem (order a b) e)

pub same_takes : (a b : List ℕ) → a ≡ b → is_same (order a b) ≡ true
same_takes a b e = rw (e, order_refl)

-- turning the two ranges round turns the order round
unfoldable pub turned : Ordering → Ordering
turned Less = Greater
turned Equal = Equal
turned Greater = Less

pub order_turned : (a b : List ℕ) → order b a ≡ turned (order a b)
unfolding order turned
order_turned [] [] = refl
order_turned [] (y ∷ ys) = refl
order_turned (x ∷ xs) [] = refl
order_turned (x ∷ xs) (y ∷ ys) = go (first x y) (order_turned xs ys)
  where
    go : {p q : Bool} → First x y p q → order ys xs ≡ turned (order xs ys) →
        cond q Less (cond p Greater (order ys xs)) ≡ turned (cond p Less (cond q Greater (order xs ys)))
    go (below l) ih = refl
    go (above l) ih = refl
    go (level e) ih = ih

-- two ranges are not each less than the other
pub order_antisymm : (a b : List ℕ) → order a b ≡ Less → order b a ≡ Less → ⊥
unfolding turned
order_antisymm a b p q = more≢less (rw p at (sym (order_turned a b)) ∙ q)

-- a range that is not at most another is greater
pub above_less : (a b : List ℕ) → is_at_most (order a b) ≡ false → order b a ≡ Less
unfolding turned
above_less a b e = order_turned a b ∙ ap turned (not_at_most (order a b) e)

-- what holds where a range is less than another, where they are the same and where it is greater, holds
pub order_cases : {X : Type 0} (a b : List ℕ) → (order a b ≡ Less → X) → (a ≡ b → X) → (order b a ≡ Less → X) → X
unfolding turned
order_cases {X} a b less same more = go (order a b) refl
  where
    go : (o : Ordering) → order a b ≡ o → X
    go Less e = less e
    go Equal e = same (order_same a b e)
    go Greater e = more (order_turned a b ∙ ap turned e)

-- so of a range that is not later
pub not_later_cases : {X : Type 0} (a b : List ℕ) → NotLater a b → (order a b ≡ Less → X) → (a ≡ b → X) → X
unfolding turned
not_later_cases a b h less same =
    order_cases a b less same (λ l. absurd (at_most (order a b) h (order_turned b a ∙ ap turned l)))

pub less_trans : (a b c : List ℕ) → order a b ≡ Less → order b c ≡ Less → order a c ≡ Less
unfolding order
less_trans [] [] c p q = absurd (less≢same (sym p))
less_trans [] (y ∷ ys) [] p q = absurd (more≢less q)
less_trans [] (y ∷ ys) (z ∷ zs) p q = refl
less_trans (x ∷ xs) [] c p q = absurd (more≢less p)
less_trans (x ∷ xs) (y ∷ ys) [] p q = absurd (more≢less q)
less_trans (x ∷ xs) (y ∷ ys) (z ∷ zs) p q = go (less_trans xs ys zs) (first x y) p (first y z) q
  where
    go : (order xs ys ≡ Less → order ys zs ≡ Less → order xs zs ≡ Less) → {p q : Bool} → First x y p q →
        cond p Less (cond q Greater (order xs ys)) ≡ Less → {r s : Bool} → First y z r s →
        cond r Less (cond s Greater (order ys zs)) ≡ Less → order (x ∷ xs) (z ∷ zs) ≡ Less
    go ih (above l) w g v = absurd (more≢less w)
    go ih (below l) w (above m) v = absurd (more≢less v)
    go ih (level l) w (above m) v = absurd (more≢less v)
    go ih (below l) w (below m) v = rw (lt-ltb x z (omega arith))
    go ih (below l) w (level m) v = rw (lt-ltb x z (omega arith))
    go ih (level l) w (below m) v = rw (lt-ltb x z (omega arith))
    go ih (level l) w (level m) v = rw (l, m) (order_rest z xs zs ∙ ih w v)

-- of two ranges that begin with as many bytes each, the bytes that the lesser begins with are not later
pub front_not_later : (a b xs ys : List ℕ) → length a ≡ length b → order (a ++ xs) (b ++ ys) ≡ Less → NotLater a b
unfolding order
front_not_later [] [] xs ys e h = refl
front_not_later [] (y ∷ b) xs ys e h = absurd (omega arith)
front_not_later (x ∷ a) [] xs ys e h = absurd (omega arith)
front_not_later (x ∷ a) (y ∷ b) xs ys e h = go (first x y) h (front_not_later a b xs ys (omega arith))
  where
    go : {p q : Bool} → First x y p q → cond p Less (cond q Greater (order (a ++ xs) (b ++ ys))) ≡ Less →
        (order (a ++ xs) (b ++ ys) ≡ Less → NotLater a b) →
        is_at_most (cond p Less (cond q Greater (order a b))) ≡ true
    go (below l) w ih = refl
    go (above l) w ih = absurd (more≢less w)
    go (level l) w ih = ih w

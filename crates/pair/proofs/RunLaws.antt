-- Records whose keys ascend. Of two runs of them, one after the other, the second one's first key tells which of the
-- two can hold a key: the second where that first key is at most the one sought, else the first. Assumes nothing.
use Prim.Native.Nat.{ℕ, suc, ◌<◌, suc-le-suc}
use mathlib.Core.Path.{◌≡◌, refl, sym, ap, ◌∙◌}
use mathlib.Core.Bool.{Bool, true, false}
use mathlib.Core.List.{List, [], ◌∷◌, ◌++◌}
use native.Mathlib.Omega.{arith}
use lib.ListN.{length, get_or}
use Rattle.std.specs.Prelude.{is_some, None}
use Rattle.words.specs.Order.{is_at_most, order}
use Rattle.std.specs.declared.cmp.Ordering.TheVariants.{Less}
use Rattle.words.proofs.OrderLaws.{less≢same, at_most, order_refl, same_gives, turned, order_turned, above_less}
use Rattle.words.proofs.OrderLaws.{less_trans}
use Rattle.blocks.specs.declared.Shape.{Shape}
use Rattle.table.specs.Records.{Position}
use Rattle.table.specs.Keys.{key_at}
use Rattle.lookup.specs.Sought.{is_sought, first_with}
use Rattle.lookup.proofs.FirstLaws.{first_miss}

-- ---- a property of every element of a list

abbrev pub All : {A : Type 0} → (A → Type 0) → List A → Type 0
All P [] = Unit {0}
All P (a ∷ us) = P a × All P us

pub all_append : {A : Type 0} (P : A → Type 0) (us vs : List A) → All P (us ++ vs) → All P us × All P vs
all_append P [] vs h = (tt, h)
all_append P (a ∷ us) vs h = let r = all_append P us vs h.1 in ((h.0, r.0), r.1)

all_map : {A : Type 0} (P Q : A → Type 0) (us : List A) → ((a : A) → P a → Q a) → All P us → All Q us
all_map P Q [] f h = tt
all_map P Q (a ∷ us) f h = (f a h.0, all_map P Q us f h.1)

-- it is the property of what stands at each index
all_takes : {A : Type 0} (P : A → Type 0) (us : List A) → ((i : ℕ) (d : A) → i < length us → P (get_or us i d)) →
    All P us
all_takes P [] h = tt
all_takes P (a ∷ us) h = (h 0 a (omega arith), all_takes P us (λ i d l. h (suc i) d (suc-le-suc l)))

-- ---- records whose keys of n bytes ascend

module _ (t : List ℕ) (g : Shape) (n : ℕ) where
  -- a record has a lesser key than another
  abbrev Before : Position → Position → Type 0
  Before p q = order (key_at t g n p) (key_at t g n q) ≡ Less

  -- every record has a lesser key than every later one
  abbrev pub Ascends : List Position → Type 0
  Ascends [] = Unit {0}
  Ascends (p ∷ ps) = All (Before p) ps × Ascends ps

  -- they do where of records at two indexes the earlier has the lesser key
  pub ascends_takes : (ps : List Position) →
      ((i j : ℕ) (c d : Position) → i < j → j < length ps → Before (get_or ps i c) (get_or ps j d)) → Ascends ps
  ascends_takes [] h = tt
  ascends_takes (p ∷ ps) h = (
    all_takes (Before p) ps (λ j d l. h 0 (suc j) p d (omega arith) (suc-le-suc l)),
    ascends_takes ps (λ i j c d l m. h (suc i) (suc j) c d (suc-le-suc l) (suc-le-suc m)),
  )

  -- each of two runs ascends, and every record of the first has a lesser key than every one of the second
  pub ascends_append : (us vs : List Position) → Ascends (us ++ vs) →
      Ascends us × Ascends vs × All (λ (a : Position). All (Before a) vs) us
  ascends_append [] vs h = (tt, h, tt)
  ascends_append (a ∷ us) vs h =
      let r = ascends_append us vs h.1 in
      let s = all_append (Before a) us vs h.0 in
      ((s.0, r.0), r.1, (s.1, r.2))

  -- the first of some records has a key
  pub record Starts (ps : List Position) (f : List ℕ) : Type 0 where
    pub first : Position
    pub rest : List Position
    pub split : ps ≡ first ∷ rest
    pub key : key_at t g n first ≡ f

  pub starts_append : (us vs : List Position) (f : List ℕ) → Starts us f → Starts (us ++ vs) f
  starts_append us vs f s =
      record {
        first = s.first;
        rest = s.rest ++ vs;
        split = ap (λ (ps : List Position). ps ++ vs) s.split;
        key = s.key;
      }

-- ---- the first record with a key

module _ (t : List ℕ) (g : Shape) (key : List ℕ) where
  -- a record has another key than the one sought
  abbrev Other : Position → Type 0
  Other p = key_at t g (length key) p ≡ key → ⊥

  -- and so it is not the answer
  not_sought : (p : Position) → Other p → is_sought t g key p ≡ false
  not_sought p other = go (is_sought t g key p) refl
    where
      go : (b : Bool) → is_sought t g key p ≡ b → is_sought t g key p ≡ false
      go true e = absurd (other (same_gives (key_at t g (length key) p) key e))
      go false e = e

  -- where every record has another key, the key is absent
  others_absent : (ps : List Position) → All Other ps → first_with t g key ps ≡ None
  unfolding first_with
  others_absent [] h = refl
  others_absent (p ∷ ps) h = rw (not_sought p h.0) (others_absent ps h.1)

  -- where the key is absent from the second run, the first one decides
  rest_absent : (us vs : List Position) → first_with t g key vs ≡ None →
      first_with t g key (us ++ vs) ≡ first_with t g key us
  unfolding first_with
  rest_absent [] vs e = e
  rest_absent (p ∷ us) vs e = rw (rest_absent us vs e)

  -- a key that is less than one at most the one sought is another
  earlier_other : (a f : List ℕ) → is_at_most (order f key) ≡ true → order a f ≡ Less → a ≡ key → ⊥
  unfolding turned
  earlier_other a f m l e =
      at_most (order f key) m (order_turned key f ∙ ap turned (ap (λ (k : List ℕ). order k f) (sym e) ∙ l))

  -- a key that is greater than the one sought is another
  later_other : (a : List ℕ) → order key a ≡ Less → a ≡ key → ⊥
  later_other a l e = less≢same (sym l ∙ ap (order key) e ∙ order_refl key)

  module _ (us vs : List Position) (f : List ℕ) (ascends : Ascends t g (length key) (us ++ vs))
      (starts : Starts t g (length key) vs f) where
    -- the first record of the second run
    abbrev p : Position
    p = starts.first

    -- the second run decides from its first key on
    pub second_run : is_at_most (order f key) ≡ true → first_with t g key (us ++ vs) ≡ first_with t g key vs
    second_run m =
        first_miss t g key vs us (ap is_some (others_absent us
        (all_map (λ (a : Position). All (Before t g (length key) a) vs) Other us other
        (ascends_append t g (length key) us vs ascends).2)))
      where
        other : (a : Position) → All (Before t g (length key) a) vs → Other a
        other a h =
            earlier_other (key_at t g (length key) a) f m (let l = (rw starts.split at h).0 in rw (← starts.key) l)

    -- the first run decides before it
    pub first_run : is_at_most (order f key) ≡ false → first_with t g key (us ++ vs) ≡ first_with t g key us
    first_run m =
        rest_absent us vs (ap (first_with t g key) starts.split
        ∙ others_absent (p ∷ starts.rest) (
          later_other (key_at t g (length key) p) least,
          all_map (Before t g (length key) p) Other starts.rest other after,
        ))
      where
        least : order key (key_at t g (length key) p) ≡ Less
        least = above_less (key_at t g (length key) p) key (rw starts.key m)

        other : (a : Position) → Before t g (length key) p a → Other a
        other a l =
            later_other (key_at t g (length key) a)
            (less_trans key (key_at t g (length key) p) (key_at t g (length key) a) least l)

        after : All (Before t g (length key) p) starts.rest
        after = (rw starts.split at (ascends_append t g (length key) us vs ascends).1).0

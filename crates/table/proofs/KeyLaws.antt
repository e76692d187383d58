-- Keys passed one after another, a record at a time and a block at a time: what they come to, and where the last one
-- stands. Assumes nothing.
use Prim.Native.Nat.{ℕ, zero, suc, ◌+◌, ◌-◌, ◌≤◌, ◌<◌}
use mathlib.Core.Path.{◌≡◌, refl, sym, ap, ◌∙◌}
use mathlib.Core.Bool.{Bool, true, false, cond, ◌&&◌}
use mathlib.Core.List.{List, [], ◌∷◌, map, foldl}
use native.Mathlib.Nat.{sub-zero}
use native.Mathlib.Numerals.{add-one}
use native.Mathlib.Omega.{arith}
use lib.Dec.{eqb}
use lib.ListN.{length}
use borrow.Author.Tests.{eq-eqb, ne_eqb}
use Rattle.words.specs.Order.{is_less, order, range}
use Rattle.words.proofs.Cases.{cond_same}
use Rattle.blocks.specs.Shape.{record_at}
use Rattle.blocks.specs.declared.Shape.{Shape}
use Rattle.table.specs.Records.{Position, places_from}
use Rattle.table.specs.Keys.{key_at, ascend_from, ascend}
use Rattle.table.specs.Steps.{next_key, keys_after, run_after, is_ordered, KeyInside, last, unordered}
use Rattle.table.specs.declared.keys.Keys.{Keys}
use Rattle.table.specs.declared.keys.Keys.TheVariants.{Empty, Last, Unordered}

module _ (t : List ℕ) (g : Shape) (key b : ℕ) where
  -- ---- the records of a block from a place up to a count

  keys_unordered : (place n : ℕ) → keys_after t g key b place n Unordered ≡ Unordered
  unfolding keys_after next_key
  keys_unordered place zero = refl
  keys_unordered place (suc n) = keys_unordered (suc place) n

  pub keys_end : (place count : ℕ) (keys : Keys) → count ≤ place →
      keys_after t g key b place (count - place) keys ≡ keys
  unfolding keys_after
  keys_end place count keys h = let e : count - place ≡ 0 = omega arith in rw e

  keys_more : (place count : ℕ) (keys : Keys) → place < count →
      keys_after t g key b place (count - place) keys ≡ keys_after t g key b (place + 1) (count - (place + 1))
      (next_key t key keys (record_at g b place))
  unfolding keys_after
  keys_more place count keys h = let e : count - place ≡ suc (count - (place + 1)) = omega arith in rw (e, add-one)

  module _ (place count last : ℕ) (h : place < count) where
    pub keys_less : is_less (order (range t last key) (range t (record_at g b place) key)) ≡ true →
        keys_after t g key b place (count - place) (Last last) ≡ keys_after t g key b (place + 1) (count - (place + 1))
        (Last (record_at g b place))
    unfolding next_key
    keys_less l = rw (keys_more place count (Last last) h, l)

    pub keys_broken : is_less (order (range t last key) (range t (record_at g b place) key)) ≡ false →
        keys_after t g key b place (count - place) (Last last) ≡ Unordered
    unfolding next_key
    keys_broken l = rw (keys_more place count (Last last) h, l) (keys_unordered (place + 1) (count - (place + 1)))

  -- ---- all records of a block

  -- of key length 0 no key is looked at
  pub run_keyless : (n : ℕ) (keys : Keys) → key ≡ 0 → run_after t g key b n keys ≡ keys
  unfolding run_after
  run_keyless n keys e = rw (eq-eqb key 0 e)

  pub run_empty : (n : ℕ) (keys : Keys) → n ≡ 0 → run_after t g key b n keys ≡ keys
  unfolding run_after keys_after
  run_empty n keys e = rw e (cond_same (eqb key 0) keys)

  module _ (e : key ≡ 0 → ⊥) (n : ℕ) where
    run_keyed : (keys : Keys) → run_after t g key b n keys ≡ keys_after t g key b 0 n keys
    unfolding run_after
    run_keyed keys = rw (ne_eqb key 0 e)

    pub run_first : (n ≡ 0 → ⊥) → run_after t g key b n Empty ≡ keys_after t g key b 1 (n - 1) (Last (record_at g b 0))
    unfolding next_key
    run_first h =
        run_keyed Empty ∙ ap (λ (m : ℕ). keys_after t g key b 0 m Empty) (sym (sub-zero n))
        ∙ keys_more 0 n Empty (omega arith)

    pub run_last : (at : ℕ) → run_after t g key b n (Last at) ≡ keys_after t g key b 0 (n - 0) (Last at)
    run_last at = rw (sub-zero n) (run_keyed (Last at))

    pub run_unordered : run_after t g key b n Unordered ≡ Unordered
    run_unordered = run_keyed Unordered ∙ keys_unordered 0 n

-- ---- any records

-- the keys passed, with those of some records
abbrev pub passed : List ℕ → Shape → ℕ → Keys → List Position → Keys
passed t g key keys ps = foldl (λ (k : Keys) (p : Position). next_key t key k (record_at g p.block p.place)) keys ps

-- keys strictly ascend, and from the last one passed on
unfoldable pub ascend_after : List ℕ → ℕ → Keys → List (List ℕ) → Bool
ascend_after t key Empty keys = ascend keys
ascend_after t key (Last at) keys = ascend_from (range t at key) keys
ascend_after t key Unordered keys = false

module _ (t : List ℕ) (g : Shape) (key : ℕ) where
  places_passed : (b place n : ℕ) (keys : Keys) →
      keys_after t g key b place n keys ≡ passed t g key keys (places_from b place n)
  unfolding keys_after places_from
  places_passed b place zero keys = refl
  places_passed b place (suc n) keys = places_passed b (suc place) n (next_key t key keys (record_at g b place))

  pub run_passed : (b n : ℕ) (keys : Keys) → (key ≡ 0 → ⊥) →
      run_after t g key b n keys ≡ passed t g key keys (places_from b 0 n)
  run_passed b n keys e = run_keyed t g key b e n keys ∙ places_passed b 0 n keys

  -- keys that were passed are in order exactly when they ascend
  pub passed_ascend : (ps : List Position) (keys : Keys) →
      is_ordered (passed t g key keys ps) ≡ ascend_after t key keys (map (key_at t g key) ps)
  unfolding is_ordered next_key ascend_after ascend ascend_from
  passed_ascend [] Empty = refl
  passed_ascend [] (Last at) = refl
  passed_ascend [] Unordered = refl
  passed_ascend (p ∷ ps) Empty = passed_ascend ps (Last (record_at g p.block p.place))
  passed_ascend (p ∷ ps) (Last at) = go (is_less (order (range t at key) (key_at t g key p))) (passed_ascend ps)
    where
      go : (less : Bool) → ((keys : Keys) →
          is_ordered (passed t g key keys ps) ≡ ascend_after t key keys (map (key_at t g key) ps)) →
          is_ordered (passed t g key (cond less (Last (record_at g p.block p.place)) Unordered)
          ps) ≡ (less && ascend_from (key_at t g key p) (map (key_at t g key) ps))
      go true ih = ih (Last (record_at g p.block p.place))
      go false ih = ih Unordered
  passed_ascend (p ∷ ps) Unordered = passed_ascend ps Unordered

-- ---- where keys stand

pub last_inside : (t : List ℕ) (key at : ℕ) → KeyInside t key (Last at) → at + key ≤ length t
last_inside t key at (last h) = h

module _ (t : List ℕ) (g : Shape) (key : ℕ) where
  next_inside : (keys : Keys) (at : ℕ) → at + key ≤ length t → KeyInside t key (next_key t key keys at)
  unfolding next_key
  next_inside Empty at h = last h
  next_inside (Last before) at h = go (is_less (order (range t before key) (range t at key)))
    where
      go : (less : Bool) → KeyInside t key (cond less (Last at) Unordered)
      go true = last h
      go false = unordered
  next_inside Unordered at h = unordered

  keys_inside : (b place n : ℕ) (keys : Keys) → ((i : ℕ) → i < place + n → record_at g b i + key ≤ length t) →
      KeyInside t key keys → KeyInside t key (keys_after t g key b place n keys)
  unfolding keys_after
  keys_inside b place zero keys h k = k
  keys_inside b place (suc n) keys h k =
      keys_inside b (suc place) n (next_key t key keys (record_at g b place)) (λ i l. h i (omega arith))
      (next_inside keys (record_at g b place) (h place (omega arith)))

  -- behind a block whose records are inside the table the last key passed is inside it
  pub run_stays : (b n : ℕ) (keys : Keys) → ((i : ℕ) → i < n → record_at g b i + key ≤ length t) →
      KeyInside t key keys → KeyInside t key (run_after t g key b n keys)
  unfolding run_after
  run_stays b n keys h k = go (eqb key 0)
    where
      go : (c : Bool) → KeyInside t key (cond c keys (keys_after t g key b 0 n keys))
      go true = k
      go false = keys_inside b 0 n keys (λ i l. h i (omega arith)) k

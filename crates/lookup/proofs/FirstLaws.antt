-- The first record with a key: in a block place by place, and in one list of records behind another. Assumes nothing.
use Prim.Native.Nat.{ℕ, suc, ◌+◌, ◌-◌, ◌≤◌, ◌<◌}
use mathlib.Core.Path.{◌≡◌, refl, sym, ◌∙◌}
use mathlib.Core.Bool.{Bool, true, false, cond, false≢true}
use mathlib.Core.List.{List, [], ◌∷◌, ◌++◌}
use native.Mathlib.Numerals.{add-one}
use native.Mathlib.Omega.{arith}
use Rattle.blocks.specs.declared.Shape.{Shape}
use Rattle.table.specs.Records.{Position, places_from}
use Rattle.lookup.specs.Found.{found_at}
use Rattle.lookup.specs.Sought.{is_sought, first_with}
use Rattle.std.specs.Option.{is_some}
use Rattle.std.specs.Prelude.{None}

module _ (t : List ℕ) (g : Shape) (key : List ℕ) where
  -- ---- the records of a block from a place up to a count

  module _ (b place count : ℕ) where
    pub places_none : count ≤ place → first_with t g key (places_from b place (count - place)) ≡ None
    unfolding places_from first_with
    places_none l = let e : count - place ≡ 0 = omega arith in rw e

    module _ (l : place < count) where
      abbrev here : Position
      here = record { block = b; place = place }

      places_on : first_with t g key (places_from b place (count - place)) ≡ cond (is_sought t g key here)
          (found_at b place) (first_with t g key (places_from b (place + 1) (count - (place + 1))))
      unfolding places_from first_with
      places_on = let e : count - place ≡ suc (count - (place + 1)) = omega arith in rw (e, add-one)

      pub places_hit : is_sought t g key here ≡ true →
          first_with t g key (places_from b place (count - place)) ≡ found_at b place
      places_hit h = places_on ∙ rw h

      pub places_miss : is_sought t g key here ≡ false →
          first_with t g key (places_from b place (count - place))
          ≡ first_with t g key (places_from b (place + 1) (count - (place + 1)))
      places_miss h = places_on ∙ rw h

  -- ---- one list behind another

  module _ (qs : List Position) where
    pub first_hit : (ps : List Position) → is_some (first_with t g key ps) ≡ true →
        first_with t g key (ps ++ qs) ≡ first_with t g key ps
    unfolding first_with
    first_hit [] e = absurd (false≢true e)
    first_hit (p ∷ ps) e = go (is_sought t g key p) e (first_hit ps)
      where
        go : (c : Bool) → is_some (cond c (found_at p.block p.place) (first_with t g key ps)) ≡ true
            → (is_some (first_with t g key ps) ≡ true → first_with t g key (ps ++ qs) ≡ first_with t g key ps)
            → cond c (found_at p.block p.place) (first_with t g key (ps ++ qs)) ≡ cond c (found_at p.block p.place)
            (first_with t g key ps)
        go true f ih = refl
        go false f ih = ih f

    pub first_miss : (ps : List Position) → is_some (first_with t g key ps) ≡ false →
        first_with t g key (ps ++ qs) ≡ first_with t g key qs
    unfolding first_with
    first_miss [] e = refl
    first_miss (p ∷ ps) e = go (is_sought t g key p) e (first_miss ps)
      where
        go : (c : Bool) → is_some (cond c (found_at p.block p.place) (first_with t g key ps)) ≡ false
            → (is_some (first_with t g key ps) ≡ false → first_with t g key (ps ++ qs) ≡ first_with t g key qs)
            → cond c (found_at p.block p.place) (first_with t g key (ps ++ qs)) ≡ first_with t g key qs
        go true f ih = absurd (false≢true (sym f))
        go false f ih = ih f

-- The two steps of locating: one law for each answer, what an answer tells, and that a located cell is inside the
-- table. Assumes nothing.
use mathlib.Core.Path.{◌≡◌, refl, sym, ap, ◌∙◌}
use mathlib.Core.Bool.{Bool, true, false, cond}
use mathlib.Core.List.{List}
use Prim.Native.Nat.{ℕ, ◌+◌, ◌≤◌, ◌<◌}
use native.Mathlib.Omega.{arith}
use lib.Dec.{ltb}
use borrow.Author.Tests.{ltb-true, lt-ltb, le-ltb}
use Rattle.std.specs.Prelude.{Option, Some, None, Ok, Err}
use Rattle.header.specs.Numbers.{field_is}
use Rattle.header.specs.declared.refusal.Refusal.TheVariants.{WrongCount, BadArgument}
use Rattle.header.specs.Numbers.{field_of}
use Rattle.header.specs.Rules.{Accepted}
use Rattle.header.specs.declared.Header.{Header}
use Rattle.header.specs.declared.kind.FieldKind.{FieldKind}
use Rattle.header.proofs.AcceptedLaws.{field_bounds}
use Rattle.blocks.specs.Shape.{shape_of, has_block, record_at, Sound}
use Rattle.blocks.specs.Counts.{count_in}
use Rattle.blocks.specs.declared.Shape.{Shape}
use Rattle.blocks.proofs.ShapeLaws.{sound, shape_size, has_block_lem}
use Rattle.blocks.proofs.CountLaws.{record_in_file}
use Rattle.cell.specs.Locating.{field_at, place_with, place_at, Located}

-- ---- step 1

module _ (t : List ℕ) (h : Header) (b f : ℕ) where
  pub field_no_block : has_block (shape_of h) b ≡ false → None ≡ field_at t h b f
  unfolding field_at
  field_no_block e = rw e

  pub field_of_block : has_block (shape_of h) b ≡ true → field_of t h f ≡ field_at t h b f
  unfolding field_at
  field_of_block e = rw e

  -- a field that is found is the table's, and the block is in the file
  pub field_found : (kind : FieldKind) (width offset : ℕ) → field_at t h b f ≡ field_is kind width offset
      → (has_block (shape_of h) b ≡ true) × (field_of t h f ≡ field_is kind width offset)
  unfolding field_at
  field_found kind width offset e = go (has_block (shape_of h) b) refl e
    where
      go : (here : Bool) → has_block (shape_of h) b ≡ here
          → cond here (field_of t h f) None ≡ field_is kind width offset
          → (has_block (shape_of h) b ≡ true) × (field_of t h f ≡ field_is kind width offset)
      go true here e = (here, e)
      go false here e = let z : ◌≡◌ {A = ℕ} 0 1 = cc in absurd (omega arith)

-- ---- step 2

module _ (t : List ℕ) (g : Shape) (b p offset : ℕ) where
  pub place_bad : count_in t g b ≡ None → Err WrongCount ≡ place_at t g b p offset
  unfolding place_at place_with
  place_bad k = rw k

  module _ (n : ℕ) (k : count_in t g b ≡ Some n) where
    pub place_short : n ≤ p → Err BadArgument ≡ place_at t g b p offset
    unfolding place_at place_with
    place_short l = rw (k, le-ltb p n l)

    pub place_there : p < n → Ok (record_at g b p + offset) ≡ place_at t g b p offset
    unfolding place_at place_with
    place_there l = rw (k, lt-ltb p n l)

  -- a place that is found is below the block's count
  pub place_found : (at : ℕ) → place_at t g b p offset ≡ Ok at
      → (n : ℕ) × (count_in t g b ≡ Some n) × (p < n) × (record_at g b p + offset ≡ at)
  unfolding place_at place_with
  place_found at e = by (count_in t g b) refl e
    where
      go : (n : ℕ) → count_in t g b ≡ Some n → (l : Bool) → ltb p n ≡ l
          → cond l (Ok (record_at g b p + offset)) (Err BadArgument) ≡ Ok at
          → (n : ℕ) × (count_in t g b ≡ Some n) × (p < n) × (record_at g b p + offset ≡ at)
      go n k true l e = (n, k, ltb-true p n l, cc)
      go n k false l e = let z : ◌≡◌ {A = ℕ} 0 1 = cc in absurd (omega arith)

      by : (k : Option ℕ) → count_in t g b ≡ k → place_with g b p offset k ≡ Ok at
          → (n : ℕ) × (count_in t g b ≡ Some n) × (p < n) × (record_at g b p + offset ≡ at)
      by None k e = let z : ◌≡◌ {A = ℕ} 0 1 = cc in absurd (omega arith)
      by (Some n) k e = go n k (ltb p n) refl e

-- ---- both steps, over an accepted table

module _ (t : List ℕ) (h : Header) (a : Accepted t h) (b f : ℕ) (kind : FieldKind) (width offset : ℕ)
    (e : field_at t h b f ≡ field_is kind width offset) where
  -- step 1 gives what step 2 asks
  pub block_found : (1 ≤ b) × (b ≤ (shape_of h).blocks) × Sound t (shape_of h)
  block_found =
      let q = has_block_lem (shape_of h) b (field_found t h b f kind width offset e).0 in
      (q.0, q.1, sound t h a)

  -- a located cell is inside the table: its field inside the record, the record inside the block, the block inside
  -- the file
  pub located : (p at : ℕ) → place_at t (shape_of h) b p offset ≡ Ok at → Located t h b p f kind width at
  located p at r =
      let g = shape_of h in
      let q = block_found in
      let c = place_found t g b p offset at r in
      let d = field_bounds t h a f kind width offset (field_found t h b f kind width offset e).1 in
      let within = record_in_file t g q.2 b c.0 c.1 q.0 q.1 p c.2 in
      record {
        wide = d.wide;
        stored = d.stored;
        permitted = d.permitted;
        begins = sym c.3 ∙ ap (λ (o : ℕ). record_at g b p + o) d.starts;
        inside = omega (arith, within, d.inside, shape_size h, c.3);
      }

-- each case of step 2, and that its sum does not wrap
pub ruleset places = (place_bad, place_short, place_there, record_in_file)

-- Where a located cell of an accepted table is, and what it does not overlap: the header, the heads of the blocks,
-- other records, the keys of the records, and every other cell. Assumes nothing.
use Prim.Native.Nat.{ℕ, ◌+◌, ◌≤◌, ◌<◌}
use mathlib.Core.Path.{◌≡◌}
use mathlib.Core.List.{List}
use mathlib.Core.Logic.{◌⊎◌, inl, inr, ⊎_elim}
use native.Mathlib.Omega.{arith}
use Rattle.std.specs.Prelude.{Some}
use Rattle.words.proofs.Cases.{compared}
use Rattle.header.specs.Header.{block_head}
use Rattle.header.specs.Rules.{Accepted}
use Rattle.header.specs.declared.Header.{Header}
use Rattle.header.specs.declared.kind.FieldKind.{FieldKind}
use Rattle.header.proofs.AcceptedLaws.{field_bounds, behind_key, fields_apart}
use Rattle.blocks.specs.Shape.{shape_of, block_at, record_at}
use Rattle.blocks.specs.Counts.{count_in}
use Rattle.blocks.proofs.ShapeLaws.{sound, blocks_apart}
use Rattle.blocks.proofs.CountLaws.{record_inside, records_apart}
use Rattle.cell.specs.Locating.{BothSteps, InBlock}
use Rattle.cell.proofs.LocatingLaws.{field_found, place_found, block_found}

module _ (t : List ℕ) (h : Header) (a : Accepted t h) where
  -- where a located cell is
  pub in_block : (b p f : ℕ) (kind : FieldKind) (width at : ℕ) → BothSteps t h b p f kind width at
      → InBlock t h b p f width at
  unfolding shape_of
  in_block b p f kind width at c =
      let g = shape_of h in
      let q = block_found t h a b f kind width c.offset c.field in
      let n = place_found t g b p c.offset at c.place in
      let e = (field_found t h b f kind width c.offset c.field).1 in
      let d = field_bounds t h a f kind width c.offset e in
      let within = record_inside t g q.2 b n.0 n.1 p n.2 in
      record {
        low = q.0;
        high = q.1;
        count = n.0;
        counted = n.1;
        below = n.2;
        in_record = omega (arith, n.3);
        record_end = omega (arith, n.3, d.inside);
        behind_head = omega (arith, n.3);
        block_end = omega (arith, n.3, d.inside, within);
        behind_key = λ l. omega (arith, n.3, behind_key t h a f kind width c.offset e l);
      }

-- two pairs of numbers are the same, or not
same_or_other : (b c p q : ℕ) → ((b ≡ c) × (p ≡ q)) ⊎ (b ≡ c → p ≡ q → ⊥)
same_or_other b c p q =
    compared b c
    (λ l. inr (λ x y. omega arith))
    (λ e. compared p q (λ l. inr (λ x y. omega arith)) (λ i. inl (e, i)) (λ l. inr (λ x y. omega arith)))
    (λ l. inr (λ x y. omega arith))

module _ (t : List ℕ) (h : Header) (a : Accepted t h) (b p f : ℕ) (kind : FieldKind) (width at : ℕ)
    (c : BothSteps t h b p f kind width at) where
  here : InBlock t h b p f width at
  here = in_block t h a b p f kind width at c

  -- a located cell is behind the header
  pub header_apart : h.header_size ≤ at
  unfolding shape_of
  header_apart = omega (arith, here.behind_head)

  -- it is apart from every block's head
  pub head_apart : (block : ℕ) → 1 ≤ block
      → (block_at (shape_of h) block + block_head ≤ at) ⊎ (at + width ≤ block_at (shape_of h) block)
  unfolding shape_of
  head_apart block low =
      compared block b
      (λ l. inl (omega (arith, blocks_apart (shape_of h) block b low l, here.behind_head, a.size_most)))
      (λ e. inl (rw e here.behind_head))
      (λ l. inr (omega (arith, blocks_apart (shape_of h) b block here.low l, here.block_end)))

  -- from every counted record but its own
  pub record_apart : (block place n : ℕ) → 1 ≤ block → count_in t (shape_of h) block ≡ Some n → place < n
      → (b ≡ block → p ≡ place → ⊥)
      → (record_at (shape_of h) block place + h.record_size ≤ at) ⊎ (at + width ≤ record_at (shape_of h) block place)
  unfolding shape_of
  record_apart block place n low counted below other =
      let i = here in
      ⊎_elim (λ l. inr (omega (arith, l, i.record_end))) (λ l. inl (omega (arith, l, i.in_record)))
      (records_apart t (shape_of h) (sound t h a) b i.count p block n place i.low i.counted i.below
      low counted below other)

  -- and, where its field is no key field, from every counted record's key
  pub key_apart : h.key_fields < f → (block place n : ℕ) → 1 ≤ block → count_in t (shape_of h) block ≡ Some n
      → place < n
      → (record_at (shape_of h) block place + h.key_length ≤ at) ⊎ (at + width ≤ record_at (shape_of h) block place)
  key_apart behind block place n low counted below =
      ⊎_elim
      (λ (e : (b ≡ block) × (p ≡ place)). inl (rw (← e.0, ← e.1) (here.behind_key behind)))
      (λ other. ⊎_elim (λ l. inl (omega (arith, l, a.key_most))) inr
      (record_apart block place n low counted below other))
      (same_or_other b block p place)

  -- cells at another block, place or field don't overlap
  pub cells_apart : (block place field : ℕ) (other : FieldKind) (wide to : ℕ)
      → BothSteps t h block place field other wide to → (b ≡ block → p ≡ place → f ≡ field → ⊥)
      → (at + width ≤ to) ⊎ (to + wide ≤ at)
  cells_apart block place field other wide to d different =
      let i = in_block t h a block place field other wide to d in
      ⊎_elim
      (λ (e : (b ≡ block) × (p ≡ place)).
      let m = (place_found t (shape_of h) b p c.offset at c.place).3 in
      let n = (place_found t (shape_of h) block place d.offset to d.place).3 in
      let k : record_at (shape_of h) b p + d.offset ≡ to = rw (e.0, e.1) n in
      ⊎_elim (λ l. inl (omega (arith, l, m, k))) (λ l. inr (omega (arith, l, m, k)))
      (fields_apart t h a f kind width c.offset (field_found t h b f kind width c.offset c.field).1
      field other wide d.offset (field_found t h block field other wide d.offset d.field).1
      (different e.0 e.1)))
      (λ x. ⊎_elim (λ l. inr (omega (arith, l, i.record_end))) (λ l. inl (omega (arith, l, i.in_record)))
      (record_apart block place i.count i.low i.counted i.below x))
      (same_or_other b block p place)

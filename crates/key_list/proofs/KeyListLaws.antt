-- In a table that the check accepts, whose first key field is compared, the records in chain order are in the order of
-- their first cells. Assumes nothing.
use Rattle.std.specs.Prelude.{Ok}
use Prim.Native.Nat.{ℕ, ◌+◌, ◌≤◌}
use mathlib.Core.Path.{◌≡◌, sym, ap, ◌∙◌}
use mathlib.Core.List.{List}
use mathlib.Core.Logic.{◌⊎◌}
use native.Mathlib.Nat.{add-zero, zero-add}
use native.Mathlib.Omega.{arith}
use lib.ListN.{get_or}
use Rattle.words.specs.Numbers.{Bytes}
use Rattle.words.specs.Order.{NotLater, order, range}
use Rattle.std.specs.declared.cmp.Ordering.TheVariants.{Less}
use Rattle.words.proofs.Ranges.{range_front_not_later}
use Rattle.header.specs.Fields.{width_sum}
use Rattle.header.specs.Refusals.{kept}
use Rattle.header.specs.Header.{header_refusal}
use Rattle.header.specs.Numbers.{numbers_of}
use Rattle.header.specs.declared.Header.{Header}
use Rattle.header.proofs.AcceptedLaws.{accepted_takes, field_bounds, in_key}
use Rattle.blocks.specs.Shape.{shape_of, record_at}
use Rattle.blocks.specs.Counts.{count_in}
use Rattle.blocks.specs.declared.Shape.{Shape}
use Rattle.blocks.proofs.ShapeLaws.{shape_blocks, block_there}
use Rattle.blocks.proofs.CountLaws.{not_bad_records}
use Rattle.cell.specs.Amounts.{blank, amount_of, LessThan, AtMost, negative_zero, positive_zero, TwoZeros, OrderedAs}
use Rattle.cell.specs.Locating.{cell_start, field_width, BothSteps}
use Rattle.cell.specs.Reading.{HasMeaning}
use Rattle.cell.specs.declared.value.Value.{Value}
use Rattle.cell.specs.declared.value.Value.TheVariants as Val
use Rattle.cell.proofs.AmountLaws.{ordered_at_most, zero_later}
use Rattle.cell.proofs.CellOrder.{BytesMean, blank_before, blank_zeros, zeros_blank, cell_there, read_ordered}
use Rattle.cell.proofs.LocatingLaws.{field_of_block, place_there}
use Rattle.cell.proofs.UnbrokenLaws.{between_reads}
use Rattle.chain.specs.Links.{used_of}
use Rattle.table.specs.Records.{Position, held, records_of}
use Rattle.table.specs.Rules.{Counted, AcceptedTable}
use Rattle.table.specs.Table.{table_answer}
use Rattle.table.proofs.RecordLaws.{record_where}
use Rattle.table.proofs.RuleLaws.{accepted_table, table_gives}
use Rattle.table.proofs.UniqueLaws.{earlier_less}
use Rattle.cursor.specs.Cursor.{start_of}
use Rattle.cursor.specs.Rules.{Gives}
use Rattle.cursor.proofs.Stepping.{stepping}
use Rattle.key_list.specs.KeyList.{ComparedKey, Before, first_cell, first_bytes, ByFirstCell}

module _ (t : List ℕ) (bytes : Bytes t) (room : ℕ) (accepts : table_answer t room ≡ kept) (k : ComparedKey t) where
  abbrev h : Header
  h = numbers_of t

  abbrev g : Shape
  g = shape_of (numbers_of t)

  table : AcceptedTable t (numbers_of t)
  table = accepted_table t room accepts

  header_kept : header_refusal t ≡ kept
  header_kept = accepted_takes t (table_gives t room accepts).header

  -- ---- the first cell of a record

  -- both steps find it
  its_steps : (p : Position) → Counted t g (used_of t h) p →
      BothSteps t h p.block p.place 1 k.kind k.width (record_at g p.block p.place + k.offset)
  unfolding held
  its_steps p c =
      let e = c.block_there in
      let i = table.inside c.index c.inside in
      let n = not_bad_records (count_in t g (get_or (used_of t h) c.index 0)) (table.counts c.index c.inside) in
      let l = c.place_below in
      let low : 1 ≤ p.block = omega (arith, e, i.0) in
      let high : p.block ≤ g.blocks = omega (arith, e, i.1, shape_blocks h) in
      record {
        offset = k.offset;
        field = sym (field_of_block t h p.block 1 (block_there g p.block low high)) ∙ k.field;
        place = sym (place_there t g p.block p.place k.offset n.0 (rw e n.1) (rw n.1 at l));
      }

  -- so its bytes mean what reading it answers
  its_cell : (p : Position) → Counted t g (used_of t h) p →
      BytesMean t p.block p.place 1 k.kind (first_cell t p)
  its_cell p c =
      cell_there t p.block p.place 1 header_kept k.kind k.width (record_at g p.block p.place + k.offset)
      (its_steps p c)

  -- it begins its record, and so its key
  first_start : (p : Position) → cell_start t p.block p.place 1 ≡ record_at g p.block p.place
  unfolding width_sum
  first_start p = add-zero (record_at g p.block p.place)

  first_in_key : field_width t 1 ≤ h.key_length
  first_in_key =
      let d = field_bounds t h table.header 1 k.kind k.width k.offset k.field in
      let l = in_key t h table.header 1 k.kind k.width k.offset k.field k.keyed in
      omega (arith, d.wide, l)

  only_width : h.key_fields ≡ 1 → h.key_length ≡ field_width t 1
  unfolding width_sum
  only_width o = table.header.key_length ∙ ap (width_sum t h.area) o ∙ zero-add (field_width t 1)

  -- ---- two records

  module _ (p q : Position) (b : Before (records_of t h) p q) where
    first_counted : Counted t g (used_of t h) p
    first_counted =
        let i = b.inside in
        let l = b.earlier in
        rw (← b.first_is) (record_where t g (used_of t h) b.first p (omega arith))

    second_counted : Counted t g (used_of t h) q
    second_counted = rw (← b.second_is) (record_where t g (used_of t h) b.second q b.inside)

    -- the bytes of their keys
    keys_ascend_lem :
        order (range t (cell_start t p.block p.place 1) h.key_length)
        (range t (cell_start t q.block q.place 1) h.key_length) ≡ Less
    keys_ascend_lem =
        rw (first_start p, first_start q)
        (rw (b.first_is, b.second_is) at
        (earlier_less t h table k.keyed b.first b.second p q b.earlier b.inside))

    -- the bytes of their first cells, with which the keys begin
    cells_ascend : NotLater (first_bytes t p) (first_bytes t q)
    cells_ascend =
        range_front_not_later t t (cell_start t p.block p.place 1) (cell_start t q.block q.place 1)
        (field_width t 1) h.key_length first_in_key (its_cell p first_counted).0 (its_cell q second_counted).0
        keys_ascend_lem

    -- before a blank is a blank
    before_blank : first_cell t q ≡ Ok Val.Blank → first_cell t p ≡ Ok Val.Blank
    before_blank e =
        let x = its_cell p first_counted in
        let y = its_cell q second_counted in
        let from = cell_start t p.block p.place 1 in
        let to = cell_start t q.block q.place 1 in
        let z = blank_zeros k.kind k.compared t to (field_width t 1) (y.2 ∙ e) in
        sym x.2
        ∙ zeros_blank k.kind k.compared t from (field_width t 1)
        (blank_before t t from to (field_width t 1) bytes bytes x.0 y.0 cells_ascend z)

    module _ (v w : Value) (e : first_cell t p ≡ Ok v) (f : first_cell t q ≡ Ok w) where
      amounts : OrderedAs (amount_of v) (amount_of w) (first_bytes t p) (first_bytes t q)
      amounts =
          read_ordered t t bytes bytes k.kind k.compared p.block p.place 1 k.width k.offset k.field
          q.block q.place 1 k.width k.offset k.field v w e f

      not_greater : AtMost (amount_of v) (amount_of w)
      not_greater = ordered_at_most amounts cells_ascend

      zero_last : amount_of v ≡ positive_zero → amount_of w ≡ negative_zero → ⊥
      zero_last i j = zero_later amounts i j cells_ascend

      -- with one key field the cell is the key
      only_key : h.key_fields ≡ 1 →
          LessThan (amount_of v) (amount_of w)
          ⊎ TwoZeros (amount_of v) (amount_of w) (first_bytes t p) (first_bytes t q)
      only_key o = amounts.earlier (rw (← only_width o) keys_ascend_lem)

  -- ---- three records

  between : (p q r : Position) → Before (records_of t h) p q → Before (records_of t h) q r → (v w : Value) →
      first_cell t p ≡ Ok v → first_cell t r ≡ Ok w → LessThan blank (amount_of v) → HasMeaning (first_cell t q)
  between p q r a b v w e f n =
      let x = its_cell p (first_counted p q a) in
      let y = its_cell q (second_counted p q a) in
      let z = its_cell r (second_counted q r b) in
      let o = between_reads t t t (cell_start t p.block p.place 1) (cell_start t q.block q.place 1)
      (cell_start t r.block r.place 1) (field_width t 1) bytes bytes bytes x.0 y.0 z.0 k.kind
      k.compared x.1 (cells_ascend p q a) (cells_ascend q r b) v (x.2 ∙ e) n (w, z.2 ∙ f) in
      (o.0, sym y.2 ∙ o.1)

  -- ---- the list

  pub key_list : ByFirstCell t (records_of t h)
  key_list =
      record {
        ascends = not_greater;
        negative_zero_first = zero_last;
        strictly = λ o p q b v w e f. only_key p q b v w e f o;
        blanks_first = before_blank;
        unbroken = between;
      }

  -- it is the list that stepping gives
  pub stepped_key_list : (ps : List Position) → Gives t (start_of t) ps → ByFirstCell t ps
  stepped_key_list ps gives = rw ((stepping t room accepts).exactly ps gives) key_list

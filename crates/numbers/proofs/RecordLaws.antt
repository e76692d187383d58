-- A record's cells: by block and place as the definition has them, and by the place where it begins. Assumes nothing.
use Rattle.std.proofs.Common.{◌≡◌, ℕ, zero, suc, ◌+◌, ◌-◌, ◌*◌, ◌<◌, ◌≤◌, Bool, true, false, cond, List, length, sym}
use Rattle.std.proofs.Common.{refl, ap, ◌∙◌, subst, arith, length-append}
use Rattle.words.proofs.Cases.{apart}
use Rattle.header.specs.Refusals.{kept}
use Rattle.header.specs.declared.refusal.Refusal.{Refusal}
use Rattle.header.specs.declared.refusal.Refusal.TheVariants.{BadArgument, ShortBuffer}
use Rattle.header.specs.Header.{header_refusal}
use Rattle.header.specs.Answers.{header_answer}
use Rattle.header.specs.Fields.{width_at, kind_at, width_sum}
use Rattle.header.specs.Numbers.{field_with, field_is, numbers_of}
use Rattle.header.specs.Rules.{Accepted}
use Rattle.header.specs.declared.Header.{Header}
use Rattle.header.specs.declared.kind.FieldKind.{FieldKind}
use Rattle.std.specs.Prelude.{Option, Some, None, Result, Ok, Err}
use Rattle.header.proofs.AcceptedLaws.{accepted, read_numbers, field_here}
use Rattle.blocks.specs.Shape.{shape_of, has_block, record_at}
use Rattle.blocks.specs.declared.Shape.{Shape}
use Rattle.blocks.proofs.ShapeLaws.{has_block_lem}
use Rattle.cell.specs.Values.{Cell}
use Rattle.cell.specs.Locating.{field_at, place_at}
use Rattle.cell.specs.Reading.{cell_at, block_cell}
use Rattle.cell.specs.declared.value.Value.TheVariants as Val
use Rattle.cell.proofs.LocatingLaws.{field_of_block, place_there, place_found, located}
use Rattle.cell.proofs.ReadingLaws.{block_cell_lem}
use Rattle.cell.proofs.Finite.{cell_finite}
use Rattle.buffer.specs.Pieces.{Room, Wrote}
use Rattle.buffer.proofs.PieceLaws.{wrote_then, wrote_length, wrote_as, wrote_nothing}
use Rattle.numbers.specs.Lent.{cleared, given}
use Rattle.numbers.specs.Cells.{cell_list, cells_list, record_place, record_given, record_in, record_numbers}
use Rattle.numbers.specs.Steps.{Finite, FiniteCell, pair_cell, stored_cell, cells_from, Inside, run_given, run_at}
use Rattle.numbers.specs.Steps.{run_in, run_answer}
use Rattle.numbers.specs.declared.run.Run.{Run}
use Rattle.numbers.proofs.LentLaws.{same_refusal, put_in_front, room_short, room_kept, room_back, room_on, room_other}
use Rattle.numbers.proofs.CellLaws.{cell_four}

-- ---- where a record begins

module _ (t : List ℕ) (g : Shape) (b p : ℕ) where
  pub no_block : has_block g b ≡ false → Err BadArgument ≡ record_place t g b p
  unfolding record_place
  no_block e = rw e

  pub in_block : has_block g b ≡ true → place_at t g b p 0 ≡ record_place t g b p
  unfolding record_place
  in_block e = rw e

-- what finding it asks and answers
pub ruleset places = (no_block, in_block, has_block_lem)

-- ---- a cell by its pair

module _ (t : List ℕ) (at width : ℕ) (k : Option FieldKind) where
  pub pair_known : (kind : FieldKind) → k ≡ Some kind → cell_at kind t at width ≡ pair_cell t at width k
  unfolding pair_cell
  pair_known kind e = rw e

-- and it is finite
pub pair_finite : (t : List ℕ) (at width : ℕ) (k : Option FieldKind) (c : Cell) →
    c ≡ pair_cell t at width k → FiniteCell c
unfolding FiniteCell Finite pair_cell
pair_finite t at width k (Err r) e = tt
pair_finite t at width k (Ok Val.Blank) e = tt
pair_finite t at width k (Ok (Val.Short z)) e = tt
pair_finite t at width k (Ok (Val.Long z)) e = tt
pair_finite t at width k (Ok (Val.Date d)) e = tt
pair_finite t at width (Some kind) (Ok (Val.Number x)) e = cell_finite x kind t at width (sym e)
pair_finite t at width None (Ok (Val.Number x)) e = apart cc
pair_finite t at width k (Ok (Val.Logical l)) e = tt
pair_finite t at width k (Ok (Val.Text start len)) e = tt

-- ---- the cells put one behind another

-- each has four numbers
pub run_length : (t : List ℕ) (area at n : ℕ) → length (cells_from t area at n) ≡ 4 * n
unfolding cells_from
run_length t area at zero = refl
run_length t area at (suc n) =
    let l = length-append (cells_from t area at n) (cell_list (stored_cell t area at n)) in
    let f = cell_four (stored_cell t area at n) in
    omega (arith, l, f, run_length t area at n)

-- after so many fields: where the next cell begins, and what is put
pub record Going (t : List ℕ) (area n start : ℕ) (lent cells : List ℕ) (at end field : ℕ) : Type 0 where
  pub few : field ≤ n
  pub here : at ≡ start + width_sum t area field
  pub put : Wrote lent 0 (cells_from t area start field) cells end

pub run_begins : (t : List ℕ) (area n start : ℕ) (lent : List ℕ) → Going t area n start lent lent start 0 0
unfolding cells_from width_sum
run_begins t area n start lent =
    record {
      few = omega arith;
      here = omega arith;
      put = wrote_nothing lent 0;
    }

module _ (t : List ℕ) (area n start : ℕ) (lent cells : List ℕ) (at end field : ℕ)
    (g : Going t area n start lent cells at end field) where
  pub run_room : field < n → 4 * n ≤ length lent → (its : List ℕ) → length its ≡ 4 → Room cells end its
  run_room l m its f =
      let k = wrote_length g.put in
      let e = run_length t area start field in
      record { fits = omega (arith, k, e, g.put.ends, f) }

  pub run_inside : Inside t area n start → field < n → at + width_at t area field ≤ length t
  run_inside i l = omega (arith, g.here, i.cells field l)

  -- the cell of the next field, where the run stands
  pub run_cell : (c : Cell) → c ≡ pair_cell t at (width_at t area field) (kind_at t area field)
      → c ≡ stored_cell t area start field
  run_cell c e = e ∙ ap (λ (a : ℕ). pair_cell t a (width_at t area field) (kind_at t area field)) g.here

  pub run_more : field < n → (c : Cell) (its out : List ℕ) (behind : ℕ) → c ≡ stored_cell t area start field
      → its ≡ cell_list c → Wrote cells end its out behind
      → Going t area n start lent out (at + width_at t area field) behind (field + 1)
  unfolding cells_from width_sum
  run_more l c its out behind is e w =
      let s : field + 1 ≡ suc field = omega arith in
      let q = wrote_then (cells_from t area start field) (cell_list (stored_cell t area start field)) g.put
      (wrote_as (e ∙ ap cell_list is) w) in
      rw s
      (record {
        few = omega arith;
        here = omega (arith, g.here);
        put = q;
      })

  pub run_ends : n ≤ field → 4 * n ≤ length lent → ◌≡◌ {A = ℕ × List ℕ} (0, cells) (run_given t area n start lent)
  run_ends l m =
      let s : field ≡ n = omega (arith, g.few) in
      let e = run_length t area start n in
      let w : Wrote lent 0 (cells_from t area start n) cells end = rw (← s) g.put in
      put_in_front lent cells (cells_from t area start n) end (omega (arith, e)) w

-- ---- a record of an accepted table that is found

module _ (t : List ℕ) (h : Header) (a : Accepted t h) (b p at : ℕ)
    (found : record_place t (shape_of h) b p ≡ Ok at) where
  its_block : (has_block (shape_of h) b ≡ true) × (place_at t (shape_of h) b p 0 ≡ Ok at)
  unfolding record_place
  its_block = go (has_block (shape_of h) b) refl found
    where
      go : (here : Bool) → has_block (shape_of h) b ≡ here
          → cond here (place_at t (shape_of h) b p 0) (Err BadArgument) ≡ Ok at
          → (has_block (shape_of h) b ≡ true) × (place_at t (shape_of h) b p 0 ≡ Ok at)
      go true e f = (e, f)
      go false e f = let z : ◌≡◌ {A = ℕ} 0 1 = cc in absurd (omega arith)

  -- the cell at an offset of the record
  at_offset : (offset : ℕ) → place_at t (shape_of h) b p offset ≡ Ok (at + offset)
  at_offset offset =
      let q = place_found t (shape_of h) b p 0 at its_block.1 in
      let e : record_at (shape_of h) b p + offset ≡ at + offset = omega (arith, q.3) in
      sym (place_there t (shape_of h) b p offset q.0 q.1 q.2) ∙ ap Ok e

  module _ (f : ℕ) (l : f < h.fields) where
    its_field : (kind : FieldKind) → kind_at t h.area f ≡ Some kind
        → field_at t h b (suc f) ≡ field_is kind (width_at t h.area f) (width_sum t h.area f)
    unfolding field_with
    its_field kind k =
        let e : suc f - 1 ≡ f = omega arith in
        let w = width_at t h.area f in
        let o = width_sum t h.area f in
        let i : field_with (kind_at t h.area f) w o ≡ field_is kind w o = rw k in
        sym (field_of_block t h b (suc f) its_block.0)
        ∙ field_here t h (suc f) (omega arith) (omega arith)
        ∙ ap (λ (j : ℕ). field_with (kind_at t h.area j) (width_at t h.area j) (width_sum t h.area j)) e
        ∙ i

    -- it is what reading it by block, place and field gives, and inside the table
    same_cell : (stored_cell t h.area at f ≡ block_cell t h b p (suc f))
        × (at + width_sum t h.area f + width_at t h.area f ≤ length t)
    unfolding pair_cell
    same_cell = go (kind_at t h.area f) refl
      where
        go : (k : Option FieldKind) → kind_at t h.area f ≡ k
            → (pair_cell t (at + width_sum t h.area f) (width_at t h.area f) k ≡ block_cell t h b p (suc f))
            × (at + width_sum t h.area f + width_at t h.area f ≤ length t)
        go None k = absurd (a.pairs f l k)
        go (Some kind) k =
            let w = width_at t h.area f in
            let o = width_sum t h.area f in
            let e = its_field kind k in (
              block_cell_lem t h b p (suc f) kind w o e (at + o) (at_offset o),
              (located t h a b (suc f) kind w o e p (at + o) (at_offset o)).inside,
            )

  -- the cells by the place are those by block and place
  same_run : (n : ℕ) → n ≤ h.fields → cells_from t h.area at n ≡ cells_list t h b p n
  unfolding cells_from cells_list
  same_run zero l = refl
  same_run (suc n) l = rw (same_run n (omega arith), (same_cell n (omega arith)).0)

  pub record_inside : Inside t h.area h.fields at
  record_inside =
      record {
        pairs = omega (arith, a.area_inside, a.whole);
        known = a.pairs;
        cells = λ f l. (same_cell f l).1;
      }

  pub record_run : (lent : List ℕ) → run_given t h.area h.fields at lent ≡ given lent (record_in t h b p)
  unfolding record_given given
  record_run lent = rw (found, same_run h.fields (omega arith))

-- ---- a record of any bytes, behind 1 to 7 and 14

-- where the header was read
module _ (t : List ℕ) (room b p : ℕ) {h : Header} (read : Ok h ≡ header_answer t) where
  same : h ≡ numbers_of t
  same = read_numbers t _ read refl

  pub answer_short : room < 4 * h.fields → Err ShortBuffer ≡ run_answer t b p room
  answer_short l =
      let few = subst (λ (k : Header). room < 4 * k.fields) same l in
      sym (room_short t room (4 * (numbers_of t).fields) (run_in t (numbers_of t) b p) _ read refl few)

  module _ (l : 4 * h.fields ≤ room) where
    behind : run_answer t b p room ≡ run_at h (record_place t (shape_of h) b p)
    behind =
        let many = subst (λ (k : Header). 4 * k.fields ≤ room) same l in
        room_kept t room (4 * (numbers_of t).fields) (run_in t (numbers_of t) b p) _ read refl many
        ∙ ap (λ (k : Header). run_at k (record_place t (shape_of k) b p)) (sym same)

    pub answer_refused : {r : Refusal} → Err r ≡ record_place t (shape_of h) b p → Err r ≡ run_answer t b p room
    unfolding run_at
    answer_refused {r} e =
        let q : run_at h (record_place t (shape_of h) b p) ≡ Err r = rw (← e) in sym (behind ∙ q)

    pub answer_run : {at : ℕ} → Ok at ≡ record_place t (shape_of h) b p
        → Ok (record { area = h.area; fields = h.fields; start = at }) ≡ run_answer t b p room
    unfolding run_at
    answer_run {at} e =
        let q : run_at h (record_place t (shape_of h) b p)
        ≡ Ok (record { area = h.area; fields = h.fields; start = at }) = rw (← e) in sym (behind ∙ q)

-- what is refused
module _ (t : List ℕ) (b p : ℕ) (lent : List ℕ) where
  abbrev h : Header
  h = numbers_of t

  same_refusal_lem : (r : Refusal) (at : Result ℕ Refusal) (cells : List ℕ) → run_at h at ≡ Err r →
      record_given cells at ≡ Err r
  unfolding run_at record_given
  same_refusal_lem r (Ok at) cells e = apart cc
  same_refusal_lem r (Err x) cells e = ap Err (same_refusal e)

  pub record_refused : {r : Refusal} → Err r ≡ run_answer t b p (length lent)
      → cleared lent r ≡ record_numbers t b p lent
  unfolding record_numbers given
  record_refused {r} e =
      let q = room_other t (length lent) (4 * h.fields) (run_in t h b p) (record_in t h b p)
      (λ x. same_refusal_lem x (record_place t (shape_of h) b p) (cells_list t h b p h.fields)) e in
      ap (given lent) (sym q)

  -- what is found
  pub record RunFound (run : Run) : Type 0 where
    pub inside : Inside t run.area run.fields run.start
    pub fits : 4 * run.fields ≤ length lent
    pub gives : run_given t run.area run.fields run.start lent ≡ record_numbers t b p lent

  run_found_at : header_refusal t ≡ kept → 4 * h.fields ≤ length lent → (place : Result ℕ Refusal)
      → record_place t (shape_of h) b p ≡ place → (run : Run) → run_at h place ≡ Ok run → RunFound run
  unfolding run_at record_numbers
  run_found_at k l (Err x) e run f = apart cc
  run_found_at k l (Ok at) e run f =
      let is : run ≡ record { area = h.area; fields = h.fields; start = at } = cc in
      let a = accepted t k in
      rw is (record {
        inside = record_inside t h a b p at e;
        fits = l;
        gives =
            record_run t h a b p at e lent
            ∙ ap (given lent) (sym (room_on t (length lent) (4 * h.fields) (record_in t h b p) k l));
      })

  pub run_found : {run : Run} → Ok run ≡ run_answer t b p (length lent) → RunFound run
  run_found {run} e =
      let q = room_back t (length lent) (4 * h.fields) (run_in t h b p) e in
      run_found_at q.0 q.1 (record_place t (shape_of h) b p) refl run q.2

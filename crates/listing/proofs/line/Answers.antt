-- `line` meets its contract: block.place, the cells where there are any, and the end of the line. Assumes nothing.
use mathlib.Core.Path.{◌≡◌, refl, ap}
use Rattle.std.proofs.Common.{Bor}
use mathlib.Core.List.{List, [], ◌∷◌, ◌++◌}
use Prim.Native.Nat.{ℕ, ◌≤◌}
use native.Mathlib.Omega.{arith}
use lib.ListN.{length}
use Rattle.io.specs.Counts.{IsPrefixLen}
use Rattle.buffer.specs.Pieces.{Wrote, AtFront}
use Rattle.buffer.specs.Text.{decimal}
use Rattle.buffer.proofs.PieceLaws.{wrote_then, wrote_length, wrote_as, at_front}
use Rattle.buffer.proofs.TextLaws.{decimal_most}
use Rattle.listing.specs.Listing.{dot, newline, record_text, line_of}
use Rattle.listing.proofs.LineLaws.{cells_most, front_most, line_bare, line_full, line_most}
use borrow.Author.Rules.{rules}
use Rattle.listing.proofs.line.Goals as goal
use Rattle.listing.proofs.line.Goals.{In-Ok, After-put_decimal-cells_at}

pub put_decimal-block_end-requires : goal.put_decimal-block_end-requires
put_decimal-block_end-requires c = record { fits = omega (arith, decimal_most c.args.block) }

pub put_byte-place_at-requires : goal.put_byte-place_at-requires
put_byte-place_at-requires c =
    let x = c.put_decimal-block_end.ensures in
    let v = c.args in
    record { fits = omega (arith, x.ends, wrote_length x, decimal_most v.block) }

pub put_decimal-cells_at-requires : goal.put_decimal-cells_at-requires
put_decimal-cells_at-requires c =
    let x = c.put_decimal-block_end.ensures in
    let y = c.put_byte-place_at.ensures in
    let v = c.args in
    let m = decimal_most v.block in
    record { fits = omega (arith, x.ends, wrote_length x, y.ends, wrote_length y, m, decimal_most v.place) }

-- block.place
front : (c : After-put_decimal-cells_at) → let v = c.args in
    let text = decimal v.block ++ dot ∷ [] ++ decimal v.place in
    Wrote v.out.now 0 text c.put_decimal-cells_at.new.out c.put_decimal-cells_at.result
front c =
    let a = c.put_decimal-block_end.ensures in
    wrote_then _ _ (wrote_then _ (dot ∷ []) a c.put_byte-place_at.ensures) c.put_decimal-cells_at.ensures

short : (c : After-put_decimal-cells_at) → c.put_decimal-cells_at.result ≤ 41
short c =
    let v = c.args in
    omega (arith, (front c).ends, front_most v.table.now v.block v.place)

-- the line is at the front of the buffer
finished : (s t : List ℕ) (b p : ℕ) {e : List ℕ} {n : ℕ} → Wrote s 0 (line_of t b p) e n → length s ≡ 65536
    → IsPrefixLen n e × AtFront s (line_of t b p) e n
finished s t b p {e} {n} w l = at_front s (line_of t b p) e n (omega (arith, l, line_most t b p)) w

pub put_byte-requires : goal.put_byte-requires
put_byte-requires c =
    let w = front (goal.at.put_byte-requires c).After-put_decimal-cells_at in
    record { fits = omega (arith, wrote_length w, short (goal.at.put_byte-requires c).After-put_decimal-cells_at) }

pub returns-in_default : goal.returns-in_default
returns-in_default c =
    let v = c.args in
    let t = v.table.now in
    let f = front (goal.at.returns-in_default c).After-put_decimal-cells_at in
    let w = wrote_then _ (newline ∷ []) f c.put_byte.ensures in
    let bare = line_bare t v.block v.place _ (rw c.in_default.is at c.open.ensures.its_header) refl in
    let both_clauses = finished v.out.now t v.block v.place (wrote_as bare w) (search rules) in
    record { prefix_len = both_clauses.0; at_front = both_clauses.1 }

-- where the header is accepted: how long the cells are

cells-short : (c : In-Ok) → let v = c.args in
    let o = c.in-Ok.opened in
    length (record_text o.bytes.now o.header v.block v.place) ≤ 65280
cells-short c =
    let v = c.args in
    let o = c.in-Ok.opened in
    let m = cells_most o.bytes.now o.header v.block v.place o.accepted o.header.fields in
    omega (arith, m, o.accepted.fields_most)

pub put_cells-end-requires : goal.put_cells-end-requires
put_cells-end-requires c =
    let at = goal.at.put_cells-end-requires c in
    let w = front at.After-put_decimal-cells_at in
    let l = short at.After-put_decimal-cells_at in
    record { fits = omega (arith, wrote_length w, l, cells-short at.In-Ok) }

pub put_byte-requires-2 : goal.put_byte-requires-2
put_byte-requires-2 c =
    let at = goal.at.put_byte-requires-2 c in
    let w = front at.After-put_decimal-cells_at in
    let l = short at.After-put_decimal-cells_at in
    let k = c.put_cells-end.ensures in
    record { fits = omega (arith, wrote_length w, l, k.ends, wrote_length k, cells-short at.In-Ok) }

pub returns : goal.returns
returns c =
    let v = c.args in
    let t = v.table.now in
    let h = c.in-Ok.opened.header in
    let o = rw c.in-Ok.is at c.open.ensures in
    let full = line_full t v.block v.place _ o.its_header refl in
    let its = ap (λ (b : Bor (List ℕ)). record_text b.now h v.block v.place) o.its_bytes in
    let cells = wrote_as its c.put_cells-end.ensures in
    let b = wrote_then _ _ (front (goal.at.returns c).After-put_decimal-cells_at) cells in
    let w = wrote_then _ (newline ∷ []) b c.put_byte-2.ensures in
    let both_clauses = finished v.out.now t v.block v.place (wrote_as full w) (search rules) in
    record { prefix_len = both_clauses.0; at_front = both_clauses.1 }

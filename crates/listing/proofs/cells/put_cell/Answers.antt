-- `put_cell` meets its contract: a bar, then the value or the refusal. Assumes nothing.
use mathlib.Core.Path.{refl, ◌∙◌}
use mathlib.Core.List.{[], ◌∷◌}
use Rattle.buffer.specs.Text.{decimal}
use Rattle.buffer.proofs.PieceLaws.{room_first_lem, room_then, room_as, wrote_then, wrote_as}
use Rattle.listing.specs.Listing.{bar, bang, cell_text}
use Rattle.listing.proofs.CellLaws.{value_text_lem, refused_text_lem, value_printable}
use Rattle.listing.proofs.cells.put_cell.Goals as goal

pub put_byte-behind-requires : goal.put_byte-behind-requires
put_byte-behind-requires c = room_first_lem (bar ∷ []) (cell_text _) c.requires.room

pub put_value-requires : goal.put_value-requires
put_value-requires c =
    let e = c.in-Ok.is in
    let p = c.requires in
    let r = room_then (bar ∷ []) (cell_text _) p.room c.put_byte-behind.ensures in
    record { room = room_as (value_text_lem _ _ _ e) r; printable = value_printable _ _ _ e p.printable_cell }

pub put_byte-number_at-requires : goal.put_byte-number_at-requires
put_byte-number_at-requires c =
    let e = c.in-Err.is in
    let p = c.requires in
    let r = room_then (bar ∷ []) (cell_text _) p.room c.put_byte-behind.ensures in
    room_first_lem (bang ∷ []) (decimal _) (room_as (refused_text_lem _ _ _ _ e refl) r)

pub put_decimal-requires : goal.put_decimal-requires
put_decimal-requires c =
    let e = c.in-Err.is in
    let r = room_then (bar ∷ []) (cell_text _) c.requires.room c.put_byte-behind.ensures in
    let text = refused_text_lem _ _ _ _ e (c.from-in-Err.ensures ∙ c.from.ensures) in
    room_then (bang ∷ []) (decimal _) (room_as text r) c.put_byte-number_at.ensures

pub returns-in-Ok : goal.returns-in-Ok
returns-in-Ok c =
    let e = c.in-Ok.is in
    let a = c.put_byte-behind.ensures in
    wrote_then (bar ∷ []) (cell_text _) a (wrote_as (value_text_lem _ _ _ e) c.put_value.ensures)

pub returns-in-Err : goal.returns-in-Err
returns-in-Err c =
    let e = c.in-Err.is in
    let a = c.put_byte-behind.ensures in
    let l = c.from-in-Err.ensures ∙ c.from.ensures in
    let w = wrote_then (bang ∷ []) (decimal _) c.put_byte-number_at.ensures c.put_decimal.ensures in
    wrote_then (bar ∷ []) (cell_text _) a (wrote_as (refused_text_lem _ _ _ _ e l) w)

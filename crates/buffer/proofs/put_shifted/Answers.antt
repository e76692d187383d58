-- `put_shifted` meets its contract: by whether the number is below `top`. Assumes nothing.
use mathlib.Core.List.{[], ◌∷◌}
use Rattle.buffer.specs.Text.{minus, decimal}
use Rattle.buffer.proofs.PieceLaws.{wrote_then, room_first_lem, room_then, room_as, wrote_as}
use Rattle.buffer.proofs.TextLaws.{shifted_plain, shifted_minus}
use Rattle.buffer.proofs.put_shifted.Goals as goal

pub put_decimal-requires : goal.put_decimal-requires
put_decimal-requires c = room_as (shifted_plain _ _ c.if-top-n.true) c.requires

pub returns-then-top-n : goal.returns-then-top-n
returns-then-top-n c =
    let l = c.if-top-n.true in
    wrote_as (shifted_plain _ _ l) c.put_decimal.ensures

pub put_byte-behind-requires : goal.put_byte-behind-requires
put_byte-behind-requires c =
    let r = room_as (shifted_minus _ _ c.if-top-n.false) c.requires in
    room_first_lem (minus ∷ []) (decimal _) r

pub put_decimal-requires-2 : goal.put_decimal-requires-2
put_decimal-requires-2 c =
    let l = c.if-top-n.false in
    let r = room_as (shifted_minus _ _ l) c.requires in
    room_then (minus ∷ []) (decimal _) r c.put_byte-behind.ensures

pub returns : goal.returns
returns c =
    let l = c.if-top-n.false in
    let a = c.put_byte-behind.ensures in
    let b = c.put_decimal-2.ensures in
    wrote_as (shifted_minus _ _ l) (wrote_then (minus ∷ []) (decimal _) a b)

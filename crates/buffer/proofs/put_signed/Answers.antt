-- `put_signed` meets its contract: by whether the number is below 0. Assumes nothing.
use mathlib.Core.Path.{refl}
use mathlib.Core.List.{[], ◌∷◌}
use mir.Syntax.{w64}
use mir.ValLaws.{to_z-of_z}
use Rattle.buffer.specs.Pieces.{Wrote}
use Rattle.buffer.specs.Text.{minus, decimal}
use Rattle.buffer.proofs.PieceLaws.{wrote_then, room_first_lem, room_then, room_as, wrote_as, wrote_nothing}
use Rattle.buffer.proofs.TextLaws.{signed_plain, signed_minus}
use Rattle.buffer.proofs.put_signed.Goals as goal
use Rattle.buffer.proofs.put_signed.Goals.{then-z-lt0, else-z-lt0}

pub put_byte-digits_at-requires : goal.put_byte-digits_at-requires
put_byte-digits_at-requires c =
    let e = to_z-of_z w64 c.args.z c.ranges.z in
    room_first_lem (minus ∷ []) (decimal _) (room_as (signed_minus c.args.z _ e refl c.if-z-lt0.true) c.requires)

pub put_decimal-requires : goal.put_decimal-requires
put_decimal-requires c =
    let e = to_z-of_z w64 c.args.z c.ranges.z in
    let n = c.unsigned_abs.ensures.value in
    elim c.if-z-lt0.branch [
      | then-z-lt0 w ↦
          let r = room_as (signed_minus c.args.z _ e n w.if-z-lt0.true) c.requires in
          rw (w.out-is, w.digits_at-is) (room_then (minus ∷ []) (decimal _) r w.put_byte-digits_at.ensures)
      | else-z-lt0 w ↦
          rw (w.out-is, w.digits_at-is) (room_as (signed_plain c.args.z _ e n w.if-z-lt0.false) c.requires)
    ]

pub returns : goal.returns
returns c =
    let e = to_z-of_z w64 c.args.z c.ranges.z in
    let n = c.unsigned_abs.ensures.value in
    let q = c.if-z-lt0 in
    let b = c.put_decimal.ensures in
    elim q.branch [
      | then-z-lt0 w ↦
          let a : Wrote c.args.out.now c.args.at (minus ∷ []) q.out q.digits_at =
          rw (w.out-is, w.digits_at-is) w.put_byte-digits_at.ensures in
          wrote_as (signed_minus c.args.z _ e n w.if-z-lt0.true) (wrote_then (minus ∷ []) (decimal _) a b)
      | else-z-lt0 w ↦
          let a : Wrote c.args.out.now c.args.at [] q.out q.digits_at =
          rw (w.out-is, w.digits_at-is) (wrote_nothing _ _) in
          wrote_as (signed_plain c.args.z _ e n w.if-z-lt0.false) (wrote_then [] (decimal _) a b)
    ]

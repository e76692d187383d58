-- `count_of` meets its contract, answer by answer. Assumes nothing.
use lib.IntN.{ℤ, pos, negsuc, nat_abs}
use lib.Signed.{lt_z}
use mathlib.Core.Bool.{true, false}
use mathlib.Core.Logic.{⊎_elim}
use mathlib.Core.Path.{◌≡◌, ◌∙◌, ap, sym}
use mir.Syntax.{w16}
use mir.Val.{to_z, of_z}
use native.Mathlib.Nat.{div-le_self}
use native.Mathlib.Omega.{arith}
use Prim.Native.Nat.{ℕ, suc, ◌-◌, ◌≤◌, ◌<◌}
use borrow.Author.Tests.{both_ways, le-ltb}
use Rattle.std.proofs.lemmas.Int.{of_z-to_z, to_z_pos}
use Rattle.std.proofs.Math.Facts.{to_z-neg}
use Rattle.words.proofs.Cases.{lt_or_ge}
use Rattle.blocks.proofs.CountLaws.{count_none, count_negative, count_between, count_beyond, count_some}
use Rattle.blocks.proofs.count.count_of.Goals as goal

-- a word read as a signed number of 16 bits: whether it is below 0, and how far
module _ (n : ℕ) {z : ℤ} (l : n < 65536) (e : z ≡ to_z w16 n) where
  back : to_z w16 (of_z w16 z) ≡ to_z w16 n
  back = rw (e, of_z-to_z w16 n l)

  from : 32768 ≤ n → to_z w16 n ≡ negsuc (65535 - n)
  from h =
      let k : n ≡ 65536 - suc (65535 - n) = omega arith in
      ap (to_z w16) k ∙ to_z-neg w16 (65535 - n) (omega arith)

  negative : lt_z (to_z w16 (of_z w16 z)) (pos 0) ≡ true → 32768 ≤ n
  negative h =
      ⊎_elim
      (λ (b : n < 32768).
      absurd (both_ways _ (ap (λ t. lt_z t (pos 0)) (back ∙ to_z_pos w16 n b) ∙ le-ltb n 0 (omega arith)) h))
      (λ (f : 32768 ≤ n). f)
      (lt_or_ge n 32768)

  positive : lt_z (to_z w16 (of_z w16 z)) (pos 0) ≡ false → n < 32768
  positive h =
      ⊎_elim
      (λ (b : n < 32768). b)
      (λ (f : 32768 ≤ n). absurd (both_ways _ h (ap (λ t. lt_z t (pos 0)) (back ∙ from f))))
      (lt_or_ge n 32768)

  far : 32768 ≤ n → nat_abs (to_z w16 (of_z w16 z)) ≡ 65536 - n
  far h = ap nat_abs (back ∙ from h) ∙ omega arith

pub returns-then-unsigned_abs-record_size : goal.returns-then-unsigned_abs-record_size
returns-then-unsigned_abs-record_size c =
    let v = c.args in
    let i = c.cast_signed-offset.ensures in
    let low = negative v.last c.ranges.last.fits i c.if-offset-lt0.true in
    count_none v.block_size v.record_size v.last low c.ranges.last.fits
    (sym (far v.last c.ranges.last.fits i low) ∙ sym c.unsigned_abs.ensures.value ∙ c.if-unsigned_abs-record_size.true)

pub returns-then-offset-lt0 : goal.returns-then-offset-lt0
returns-then-offset-lt0 c =
    let v = c.args in
    let i = c.cast_signed-offset.ensures in
    let low = negative v.last c.ranges.last.fits i c.if-offset-lt0.true in
    count_negative v.block_size v.record_size v.last low c.ranges.last.fits
    (λ f. c.if-unsigned_abs-record_size.false (c.unsigned_abs.ensures.value ∙ far v.last c.ranges.last.fits i low ∙ f))

pub returns-then-last-record_size-ne0 : goal.returns-then-last-record_size-ne0
returns-then-last-record_size-ne0 c =
    let v = c.args in
    count_between v.block_size v.record_size v.last
    (positive v.last c.ranges.last.fits c.cast_signed-offset.ensures c.if-offset-lt0.false)
    c.if-last-record_size-ne0.true

pub returns-then-room-last : goal.returns-then-room-last
returns-then-room-last c =
    let v = c.args in
    count_beyond v.block_size v.record_size v.last
    (positive v.last c.ranges.last.fits c.cast_signed-offset.ensures c.if-offset-lt0.false)
    c.if-last-record_size-ne0.false
    c.if-room-last.true

pub overflow_add-result : goal.overflow_add-result
overflow_add-result c =
    let v = c.args in
    let l = positive v.last c.ranges.last.fits c.cast_signed-offset.ensures c.if-offset-lt0.false in
    omega (arith, l, div-le_self v.last v.record_size)

pub returns : goal.returns
returns c =
    let v = c.args in
    count_some v.block_size v.record_size v.last
    (positive v.last c.ranges.last.fits c.cast_signed-offset.ensures c.if-offset-lt0.false)
    c.if-last-record_size-ne0.false
    c.if-room-last.false

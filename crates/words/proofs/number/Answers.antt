-- `number` meets its contract: after i turns n is the number of the first i bytes. Assumes nothing.
use mathlib.Core.Path.{◌≡◌, refl, sym, ap, ◌∙◌}
use mathlib.Core.List.{List}
use Prim.Native.Nat.{ℕ, ◌≤◌, ◌<◌, ◌^◌, ◌+◌, ◌*◌}
use native.Mathlib.Omega.{arith}
use borrow.Author.Rules.{rules}
use Rattle.words.specs.Numbers.{byte, Bytes, big}
use Rattle.words.proofs.NumberLaws.{big_lt, big_step, below_wider}
use Rattle.words.proofs.Ranges.{part_byte, part_end, part_index}
use Rattle.words.proofs.number.Goals as goal

pub loop-byte-init : goal.loop-byte-init
unfolding big
loop-byte-init c = refl

-- the number with one byte more fits eight bytes
next_fits : (s : List ℕ) (at w i n b : ℕ) → Bytes s → w ≤ 8 → i < w → n ≡ big s at i → b ≡ byte s (at + i) →
    n * 256 + b < 2 ^ 64
next_fits s at w i n b bytes small h e f =
    rw (e, f, ← big_step s at i) (below_wider (i + 1) 8 (big s at (i + 1)) (omega arith) (big_lt s at (i + 1) bytes))

pub overflow_mul-n : goal.overflow_mul-n
overflow_mul-n c =
    let v = c.args in
    let i = c.loop-byte.byte-index in
    let inside = part_index v.s.now v.at v.width i (search rules) c.loop-byte-test.true in
    omega (
      arith,
      next_fits v.s.now v.at v.width i c.loop-byte.n (byte v.s.now (v.at + i)) (λ i. omega (arith, c.type_inv.s i))
          (search rules) inside c.loop-byte.invariant refl,
    )

pub overflow_add-n : goal.overflow_add-n
overflow_add-n c =
    let v = c.args in
    let i = c.loop-byte.byte-index in
    let inside = part_index v.s.now v.at v.width i (search rules) c.loop-byte-test.true in
    let b = c.from.ensures ∙ part_byte v.s.now v.at v.width i (search rules) c.loop-byte-test.true in
    record {
      fits = next_fits v.s.now v.at v.width i c.loop-byte.n c.from.result (λ i. omega (arith, c.type_inv.s i))
          (search rules) inside c.loop-byte.invariant b;
    }

pub loop-byte-preserved : goal.loop-byte-preserved
loop-byte-preserved c =
    let v = c.args in
    let i = c.loop-byte.byte-index in
    let b = c.from.ensures ∙ part_byte v.s.now v.at v.width i (search rules) c.loop-byte-test.true in
    sym (big_step v.s.now v.at i ∙ rw (← c.loop-byte.invariant, ← b))

pub returns : goal.returns
returns c =
    let v = c.args in
    let i = c.loop-byte.byte-index in
    c.loop-byte.invariant
    ∙ ap (big v.s.now v.at)
    (part_end v.s.now v.at v.width i (search rules) c.loop-byte.auto.byte-index-end c.loop-byte-test.false)

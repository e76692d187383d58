-- `all_zero` meets its contract: after i turns the first i bytes are zero. Assumes nothing.
use mathlib.Core.Path.{refl, sym, ap, ◌∙◌}
use Prim.Native.Nat.{ℕ, ◌+◌}
use lib.Dec.{eqb}
use borrow.Author.Tests.{eq-eqb, ne_eqb}
use borrow.Author.Rules.{rules}
use Rattle.words.specs.Each.{each}
use Rattle.words.specs.Numbers.{byte}
use Rattle.words.specs.Zeros.{all_zero}
use Rattle.words.proofs.EachLaws.{each_more, each_fails}
use Rattle.words.proofs.Ranges.{part_byte, part_end, part_index}
use Rattle.words.proofs.zeros.all_zero.Goals as goal

pub loop-byte-init : goal.loop-byte-init
unfolding each
loop-byte-init c = refl

pub returns-then-byte-ne0 : goal.returns-then-byte-ne0
returns-then-byte-ne0 c =
    let v = c.args in
    let i = c.loop-byte.byte-index in
    let inside = part_index v.s.now v.at v.n i (search rules) c.loop-byte-test.true in
    sym (each_fails (λ (j : ℕ). eqb (byte v.s.now (v.at + j)) 0) v.n i inside
    (ne_eqb (byte v.s.now (v.at + i)) 0
    (rw (part_byte v.s.now v.at v.n i (search rules) c.loop-byte-test.true) at c.if-byte-ne0.true)))

pub loop-byte-preserved : goal.loop-byte-preserved
loop-byte-preserved c =
    let v = c.args in
    let i = c.loop-byte.byte-index in
    each_more (λ (j : ℕ). eqb (byte v.s.now (v.at + j)) 0) i c.loop-byte.invariant
    (eq-eqb (byte v.s.now (v.at + i)) 0
    (rw (part_byte v.s.now v.at v.n i (search rules) c.loop-byte-test.true) at c.if-byte-ne0.false))

pub returns : goal.returns
returns c =
    let v = c.args in
    let i = c.loop-byte.byte-index in
    sym c.loop-byte.invariant
    ∙ ap (all_zero v.s.now v.at)
    (part_end v.s.now v.at v.n i (search rules) c.loop-byte.auto.byte-index-end c.loop-byte-test.false)

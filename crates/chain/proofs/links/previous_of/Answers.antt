-- `previous_of` meets its contract. Assumes nothing.
use native.Mathlib.Omega.{arith}
use mathlib.Core.Path.{ap, ◌∙◌}
use Prim.Native.Nat.{ℕ, ◌+◌}
use Rattle.words.specs.Numbers.{word}
use Rattle.chain.specs.Links.{previous_of}
use Rattle.chain.proofs.links.previous_of.Goals as goal

pub overflow_add-block_at : goal.overflow_add-block_at
overflow_add-block_at c = omega (arith, c.block_at.ensures, c.requires.2)

pub word-requires : goal.word-requires
word-requires c = omega (arith, c.block_at.ensures, c.requires.2)

pub returns : goal.returns
unfolding previous_of
returns c =
    let v = c.args in
    c.word.ensures ∙ ap (λ (a : ℕ). word v.file.now (a + 2)) c.block_at.ensures

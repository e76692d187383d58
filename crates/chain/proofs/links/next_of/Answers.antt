-- `next_of` meets its contract. Assumes nothing.
use native.Mathlib.Omega.{arith}
use mathlib.Core.Path.{ap, ◌∙◌}
use Prim.Native.Nat.{ℕ}
use Rattle.words.specs.Numbers.{word}
use Rattle.chain.specs.Links.{next_of}
use Rattle.chain.proofs.links.next_of.Goals as goal

pub word-requires : goal.word-requires
word-requires c = omega (arith, c.block_at.ensures, c.requires.2)

pub returns : goal.returns
unfolding next_of
returns c =
    let v = c.args in
    c.word.ensures ∙ ap (λ (a : ℕ). word v.file.now a) c.block_at.ensures

-- `put_number` meets its contract: what is still to be written, put before what stands from i on, is the result.
-- Assumes nothing.
use mathlib.Core.Path.{◌≡◌, ◌∙◌}
use mathlib.Core.List.{List, ◌++◌}
use Prim.Native.Nat.{ℕ}
use lib.ListN.{drop}
use borrow.Author.Rules.{rules}
use Rattle.words.specs.Numbers.{digits}
use Rattle.words.proofs.DigitLaws.{write_step}
use Rattle.words.proofs.put_number.Goals as goal

pub loop-i-preserved : goal.loop-i-preserved
loop-i-preserved c =
    write_step c.loop-i.buffer c.loop-i.i c.loop-i.m (search rules) (search rules) ∙ c.loop-i.invariant

at_end : (i m : ℕ) (buffer : List ℕ) → i ≡ 0 → buffer ≡ digits i m ++ drop i buffer
unfolding digits
at_end i m buffer e = rw e

pub returns : goal.returns
returns c = at_end c.loop-i.i c.loop-i.m c.loop-i.buffer (search rules) ∙ c.loop-i.invariant

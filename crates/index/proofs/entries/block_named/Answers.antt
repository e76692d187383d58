-- `block_named` meets its contract: the top bit of a number of two bytes is complemented. Assumes nothing.
use mathlib.Core.List.{List}
use mathlib.Core.Logic.{⊎_elim}
use mathlib.Core.Path.{◌≡◌, ◌∙◌}
use native.Mathlib.Nat.{add-zero}
use native.Mathlib.Omega.{arith}
use Prim.Native.Nat.{ℕ, ◌+◌, ◌*◌, ◌%◌, ◌≤◌, ◌<◌}
use Rattle.words.proofs.Cases.{lt_or_ge}
use Rattle.words.proofs.SignedLaws.{complemented_from, complemented_below}
use Rattle.words.specs.Numbers.{byte, big}
use Rattle.words.specs.Signed.{complemented}
use Rattle.index.specs.Entries.{block_number}
use Rattle.index.proofs.entries.block_named.Goals as goal

-- the top bit added, with what no longer fits dropped
wrapped : (n : ℕ) → n < 65536 → (n + 32768) % 65536 ≡ complemented 32768 n
wrapped n l =
    ⊎_elim
    (λ (b : n < 32768). rw (complemented_below 32768 n b) (omega arith))
    (λ (f : 32768 ≤ n). rw (complemented_from 32768 n f) (omega arith))
    (lt_or_ge n 32768)

two_bytes : (s : List ℕ) (at : ℕ) → byte s at * 256 + byte s (at + 1) ≡ big s at 2
unfolding big
two_bytes s at = rw add-zero (omega arith)

pub returns : goal.returns
unfolding block_number
returns c =
    let v = c.args in
    wrapped _ c.from_be_bytes.type_inv ∙ rw (c.from_be_bytes.ensures ∙ two_bytes v.x.now v.at)

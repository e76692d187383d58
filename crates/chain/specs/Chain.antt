-- Chain rules (refusal 8), for any links between n blocks: next and previous are functions of a block's number. A
-- chain is the list of its blocks' numbers. Definitions only.
use Rattle.std.specs.Prelude.{ℕ, zero, suc, ◌+◌, Bool, true, cond, ◌&&◌, List, [], ◌∷◌, eqb}
use Rattle.words.specs.Each.{each}
use Rattle.blocks.specs.Shape.{in_file}

-- how blocks are linked: each block's next and previous, the first and the last used block, the first free one
pub record Links : Type 0 where
  pub next : ℕ → ℕ
  pub previous : ℕ → ℕ
  pub first : ℕ
  pub last : ℕ
  pub free : ℕ

-- the numbers met from b on by following next until 0, at most k of them
unfoldable pub follow : (ℕ → ℕ) → ℕ → ℕ → List ℕ
follow next zero b = []
follow next (suc k) zero = []
follow next (suc k) (suc b) = suc b ∷ follow next k (next (suc b))

-- the chain that starts at b, among n blocks. One of more than n numbers is cut after n + 1: they can't be n blocks,
-- each once, so it is broken however it goes on
abbrev pub chain_from : (ℕ → ℕ) → ℕ → ℕ → List ℕ
chain_from next n b = follow next (suc n) b

-- the used chain starts at the first block, the free chain at the first free one
abbrev pub used_chain : ℕ → Links → List ℕ
used_chain n l = chain_from l.next n l.first

abbrev pub free_chain : ℕ → Links → List ℕ
free_chain n l = chain_from l.next n l.free

-- a test of every number of a list
unfoldable pub every : (ℕ → Bool) → List ℕ → Bool
every test [] = true
every test (b ∷ bs) = test b && every test bs

-- how often b stands in a list
unfoldable pub times : ℕ → List ℕ → ℕ
times b [] = 0
times b (x ∷ xs) = cond (eqb x b) 1 0 + times b xs

-- every block is in exactly one of two chains, once
unfoldable pub every_block_once : ℕ → List ℕ → List ℕ → Bool
every_block_once n used free = each (λ (i : ℕ). eqb (times (suc i) used + times (suc i) free) 1) n

-- a test of each number and the one before it; `before` stands before the first
unfoldable pub linked : (ℕ → ℕ → Bool) → ℕ → List ℕ → Bool
linked test before [] = true
linked test before (b ∷ bs) = test before b && linked test b bs

-- a block names the one before it
abbrev pub names : (ℕ → ℕ) → ℕ → ℕ → Bool
names previous before b = eqb (previous b) before

-- the last number of a list; `before` of an empty one
unfoldable pub last_of : ℕ → List ℕ → ℕ
last_of before [] = before
last_of before (b ∷ bs) = last_of b bs

-- 8: every number is a block's; every block is in exactly one chain, once; the first used block has previous 0 and
-- every other one names its predecessor; the last one is the last block, and where the used chain is empty that word
-- is 0
unfoldable pub chains_right : ℕ → Links → Bool
chains_right n l =
    every (in_file n) (used_chain n l)
    && every (in_file n) (free_chain n l)
    && every_block_once n (used_chain n l) (free_chain n l)
    && linked (names l.previous) 0 (used_chain n l)
    && eqb (last_of 0 (used_chain n l)) l.last

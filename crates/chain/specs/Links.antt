-- The links of a table: the first two words of each block's head, and three words of the header. Definitions only.
use Rattle.std.specs.Prelude.{ℕ, ◌+◌, ◌≡◌, List}
use Rattle.words.specs.Numbers.{word}
use Rattle.header.specs.declared.Header.{Header}
use Rattle.blocks.specs.Shape.{shape_of, block_at}
use Rattle.blocks.specs.declared.Shape.{Shape}
use Rattle.chain.specs.Chain.{Links, chain_from, used_chain, free_chain}

-- where the second word of a block's head stands
abbrev pub previous_word : ℕ
previous_word = 2

-- a block's head: its first word is the next block, its second word the previous one
unfoldable pub next_of : List ℕ → Shape → ℕ → ℕ
next_of t g b = word t (block_at g b)

unfoldable pub previous_of : List ℕ → Shape → ℕ → ℕ
previous_of t g b = word t (block_at g b + previous_word)

-- the blocks from number b on, one after another by next
abbrev pub blocks_from : List ℕ → Shape → ℕ → List ℕ
blocks_from t g b = chain_from (next_of t g) g.blocks b

-- the links of a table, by its header
abbrev pub links_of : List ℕ → Header → Links
links_of t h =
    record {
      next = next_of t (shape_of h);
      previous = previous_of t (shape_of h);
      first = h.first;
      last = h.last;
      free = h.free;
    }

-- the used and the free blocks of a table, in chain order
abbrev pub used_of : List ℕ → Header → List ℕ
used_of t h = used_chain h.blocks (links_of t h)

abbrev pub free_of : List ℕ → Header → List ℕ
free_of t h = free_chain h.blocks (links_of t h)

-- ---- two tables, each with the numbers of a header

-- they have the same links: the same next and previous of every block, the same first, last and first free one
pub record SameLinks (t : List ℕ) (h : Header) (u : List ℕ) (k : Header) : Type 0 where
  pub blocks : k.blocks ≡ h.blocks
  pub next : (b : ℕ) → next_of u (shape_of k) b ≡ next_of t (shape_of h) b
  pub previous : (b : ℕ) → previous_of u (shape_of k) b ≡ previous_of t (shape_of h) b
  pub first : k.first ≡ h.first
  pub last : k.last ≡ h.last
  pub free : k.free ≡ h.free

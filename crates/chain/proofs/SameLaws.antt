-- The same first two words in a block's head, the same next and previous; the same links, the same chains and marks.
-- Assumes nothing.
use Prim.Native.Nat.{ℕ, ◌+◌, ◌<◌}
use mathlib.Core.Path.{◌≡◌, fun_ext}
use mathlib.Core.List.{List}
use Rattle.words.specs.Numbers.{byte}
use Rattle.words.proofs.NumberLaws.{little_same}
use Rattle.header.specs.declared.Header.{Header}
use Rattle.blocks.specs.Shape.{block_at}
use Rattle.blocks.specs.declared.Shape.{Shape}
use Rattle.chain.specs.Links.{previous_word, next_of, previous_of, links_of, used_of, free_of, SameLinks}

module _ (t u : List ℕ) (g : Shape) (b : ℕ) where
  pub next_same : ((i : ℕ) → i < 2 → byte u (block_at g b + i) ≡ byte t (block_at g b + i)) →
      next_of u g b ≡ next_of t g b
  unfolding next_of
  next_same h = little_same u t (block_at g b) (block_at g b) 2 h

  pub previous_same :
      ((i : ℕ) → i < 2 → byte u (block_at g b + previous_word + i) ≡ byte t (block_at g b + previous_word + i)) →
      previous_of u g b ≡ previous_of t g b
  unfolding previous_of
  previous_same h = little_same u t (block_at g b + previous_word) (block_at g b + previous_word) 2 h

module _ (t : List ℕ) (h : Header) (u : List ℕ) (k : Header) (s : SameLinks t h u k) where
  pub links_same : links_of u k ≡ links_of t h
  links_same =
      rw (fun_ext s.next, fun_ext s.previous, s.first, s.last, s.free)

  pub used_same : used_of u k ≡ used_of t h
  used_same = rw (fun_ext s.next, s.blocks, s.first)

  pub free_same : free_of u k ≡ free_of t h
  free_same = rw (fun_ext s.next, s.blocks, s.free)

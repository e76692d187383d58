-- Pieces put into a lent buffer: room for one, what putting it leaves, and a piece at the front. Definitions only.
use Rattle.std.specs.Prelude.{ℕ, ◌+◌, ◌≤◌, ◌≡◌, List, ◌++◌, length, drop}
use Rattle.std.proofs.lemmas.List.Edits.{sets}

-- the buffer has room for a piece at an offset
pub record Room {A : Type 0} (buffer : List A) (at : ℕ) (piece : List A) : Type 0 where
  pub fits : at + length piece ≤ length buffer

-- a piece put into a buffer at an offset, with the buffer and the offset after it
pub record Wrote {A : Type 0} (before : List A) (at : ℕ) (piece after : List A) (end : ℕ) : Type 0 where
  pub puts : after ≡ sets before at piece
  pub ends : end ≡ at + length piece

-- a piece at the front of a buffer, so many bytes long: behind it no byte has changed
pub record AtFront (before piece after : List ℕ) (count : ℕ) : Type 0 where
  pub counts : count ≡ length piece
  pub whole : after ≡ piece ++ drop (length piece) before

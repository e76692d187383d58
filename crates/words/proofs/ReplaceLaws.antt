-- A part replaced by as many other bytes: the length stays, the part is those bytes, and every range apart from it is
-- as before. Assumes nothing.
use Prim.Native.Nat.{ℕ, ◌+◌, ◌-◌, ◌≤◌, ◌<◌}
use mathlib.Core.Path.{◌≡◌, refl, sym, ap, ◌∙◌}
use mathlib.Core.List.{List, ◌++◌}
use mathlib.Core.Logic.{◌⊎◌, ⊎_elim}
use native.Mathlib.Omega.{arith}
use lib.ListN.{length, take, drop, length-append, length-drop, get_or-append}
use lib.Seq.{length-take-le, take_at, drop_at, drop-drop, get_or-take}
use Rattle.words.specs.Numbers.{byte}
use Rattle.words.specs.Order.{range}
use Rattle.words.specs.Replace.{replace_at}
use Rattle.words.proofs.Ranges.{range_same}

module _ (t : List ℕ) (at : ℕ) (s : List ℕ) (fits : at + length s ≤ length t) where
  front : length (take at t) ≡ at
  front = length-take-le at t (omega arith)

  pub replace_length : length (replace_at t at s) ≡ length t
  unfolding replace_at
  replace_length =
      length-append (take at t) (s ++ drop (at + length s) t)
      ∙ rw (front, length-append s (drop (at + length s) t), length-drop (at + length s) t) (omega arith)

  -- the part
  pub replace_inside : range (replace_at t at s) at (length s) ≡ s
  unfolding replace_at
  replace_inside =
      ap (take (length s)) (drop_at (take at t) (s ++ drop (at + length s) t) at front)
      ∙ take_at s (drop (at + length s) t) (length s) refl

  -- a byte before it
  pub replace_byte : (i : ℕ) → i < at → byte (replace_at t at s) i ≡ byte t i
  unfolding replace_at
  replace_byte i l =
      get_or-append (take at t) (s ++ drop (at + length s) t) 0 i (rw front l) ∙ get_or-take at t i 0 l

  -- what stands behind it
  behind_part : drop (at + length s) (replace_at t at s) ≡ drop (at + length s) t
  unfolding replace_at
  behind_part =
      sym (drop-drop (length s) at (take at t ++ (s ++ drop (at + length s) t)))
      ∙ ap (drop (length s)) (drop_at (take at t) (s ++ drop (at + length s) t) at front)
      ∙ drop_at s (drop (at + length s) t) (length s) refl

  pub replace_before : (from n : ℕ) → from + n ≤ at → range (replace_at t at s) from n ≡ range t from n
  replace_before from n l =
      let k = replace_length in
      range_same (replace_at t at s) t from from n (omega arith) (omega arith)
      (λ i m. replace_byte (from + i) (omega arith))

  pub replace_behind : (from n : ℕ) → at + length s ≤ from → range (replace_at t at s) from n ≡ range t from n
  replace_behind from n l =
      let e : at + length s + (from - (at + length s)) ≡ from = omega arith in
      ap (take n)
      (ap (λ (k : ℕ). drop k (replace_at t at s)) (sym e)
      ∙ sym (drop-drop (from - (at + length s)) (at + length s) (replace_at t at s))
      ∙ ap (drop (from - (at + length s))) behind_part
      ∙ drop-drop (from - (at + length s)) (at + length s) t
      ∙ ap (λ (k : ℕ). drop k t) e)

  -- a range apart from it
  pub replace_apart : (from n : ℕ) → (from + n ≤ at) ⊎ (at + length s ≤ from) →
      range (replace_at t at s) from n ≡ range t from n
  replace_apart from n apart = ⊎_elim (replace_before from n) (replace_behind from n) apart

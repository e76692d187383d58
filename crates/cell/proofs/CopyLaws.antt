-- A list copied over the front of another, number by number. Assumes nothing.
use mathlib.Core.Path.{◌≡◌}
use mathlib.Core.List.{List, ◌++◌, append_assoc, append-nil}
use Prim.Native.Nat.{ℕ, suc, ◌+◌, ◌<◌, ◌≤◌}
use native.Mathlib.Nat.{le_antisymm}
use native.Mathlib.Numerals.{add-one}
use native.Mathlib.Omega.{arith}
use lib.ListN.{length, take, drop, set}
use lib.Seq.{length-take-le, take-length, take-suc, drop-cons, drop-length, set_at}
use Rattle.words.specs.Numbers.{byte}

pub copy_step : (p to : List ℕ) (i : ℕ) → i < length to → i < length p
    → set (take i p ++ drop i to) i (byte p i) ≡ take (i + 1) p ++ drop (i + 1) to
copy_step p to i inside some =
    rw (add-one, drop-cons to i 0 inside, take-suc p i 0 some, append_assoc)
    (set_at (take i p) (byte to i) (drop (suc i) to) (byte p i) i (length-take-le i p (omega arith)))

pub copy_end : (p to : List ℕ) (i : ℕ) → length p ≡ length to → i ≤ length p → length p ≤ i
    → take i p ++ drop i to ≡ p
copy_end p to i e l m =
    let f : i ≡ length p = le_antisymm l m in
    rw (f, take-length, e, drop-length, append-nil)

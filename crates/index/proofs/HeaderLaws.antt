-- The answer of an index's header, rule by rule in document 01's order: each law takes the rules before it as kept.
-- Assumes nothing.
use Rattle.std.specs.Prelude.{Ok, Err}
use Prim.Native.Nat.{ℕ}
use mathlib.Core.Path.{◌≡◌}
use mathlib.Core.Bool.{true, false}
use mathlib.Core.List.{List}
use lib.ListN.{length}
use Rattle.header.specs.Refusals.{Verdict, kept}
use Rattle.header.specs.Answers.{unless_refused}
use Rattle.header.specs.declared.refusal.Refusal.TheVariants.{IndexTooShort, NotAnIndex, IndexVersion, IndexLimit}
use Rattle.header.specs.declared.refusal.Refusal.TheVariants.{IndexLength}
use Rattle.header.specs.Header.{known_version}
use Rattle.index.specs.Stored.{stored_of}
use Rattle.index.specs.Header.{long_enough, is_index, limits_kept, length_kept, index_answer}
use Rattle.index.specs.Header.{accepted_of, index_numbers, index_of}
use Rattle.index.specs.declared.stored.Stored.{Stored}

module _ (x : List ℕ) (n : ℕ) where
  abbrev s : Stored
  s = stored_of x

  answered : (v : Verdict) → index_answer x n ≡ v → index_of x n ≡ unless_refused v Err (Ok (index_numbers x))
  unfolding index_of
  answered v e = rw e

  pub broken_21 : long_enough x ≡ false → index_of x n ≡ Err IndexTooShort
  unfolding index_answer unless_refused
  broken_21 e = answered (Err IndexTooShort) (rw e)

  module _ (k21 : long_enough x ≡ true) where
    pub broken_22 : is_index s ≡ false → index_of x n ≡ Err NotAnIndex
    unfolding index_answer unless_refused
    broken_22 e = answered (Err NotAnIndex) (rw (k21, e))

    module _ (k22 : is_index s ≡ true) where
      pub broken_23 : known_version s.version ≡ false → index_of x n ≡ Err IndexVersion
      unfolding index_answer unless_refused
      broken_23 e = answered (Err IndexVersion) (rw (k21, k22, e))

      module _ (k23 : known_version s.version ≡ true) where
        pub broken_25 : limits_kept n s ≡ false → index_of x n ≡ Err IndexLimit
        unfolding index_answer unless_refused
        broken_25 e = answered (Err IndexLimit) (rw (k21, k22, k23, e))

        module _ (k25 : limits_kept n s ≡ true) where
          pub broken_26 : length_kept (length x) s ≡ false → index_of x n ≡ Err IndexLength
          unfolding index_answer unless_refused
          broken_26 e = answered (Err IndexLength) (rw (k21, k22, k23, k25, e))

          pub all_kept : length_kept (length x) s ≡ true → index_of x n ≡ Ok (accepted_of s)
          unfolding index_answer unless_refused
          all_kept e = answered kept (rw (k21, k22, k23, k25, e))

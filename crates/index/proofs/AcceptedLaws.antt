-- What reading an index's header answers, for the crates above: refused, or accepted with its bounds. Assumes nothing.
use Rattle.std.specs.Prelude.{Ok, Err}
use Prim.Native.Nat.{ℕ, ◌≤◌}
use mathlib.Core.Path.{◌≡◌}
use mathlib.Core.List.{List}
use mathlib.Core.Logic.{◌⊎◌, inl, inr}
use native.Mathlib.Omega.{arith}
use Rattle.header.specs.Refusals.{kept}
use Rattle.header.specs.declared.refusal.Refusal.{Refusal}
use Rattle.header.proofs.VerdictLaws.{unless_kept, unless_refused_lem, unless_ok}
use Rattle.index.specs.Stored.{stored_of}
use Rattle.index.specs.Header.{most_levels, index_answer, accepted_of, index_numbers}
use Rattle.index.specs.Header.{index_of}
use Rattle.index.specs.Rules.{Rooted, IndexRules, AcceptedIndex}
use Rattle.index.specs.declared.IndexHeader.{IndexHeader}
use Rattle.index.specs.declared.stored.Stored.{Stored}
use Rattle.index.proofs.RuleLaws.{answer_gives, answer_takes}

module _ (x : List ℕ) (n : ℕ) where
  -- the header is refused as the rules say
  pub refused_only : {r : Refusal} → index_answer x n ≡ Err r → index_of x n ≡ Err r
  unfolding index_of
  refused_only e = unless_refused_lem (index_answer x n) Err (Ok (index_numbers x)) e

  -- or they are kept, and it has its numbers
  pub kept_only : index_answer x n ≡ kept → index_of x n ≡ Ok (index_numbers x)
  unfolding index_of
  kept_only e = unless_kept (index_answer x n) Err (Ok (index_numbers x)) e

  index_kept : (i : IndexHeader) → index_of x n ≡ Ok i → (index_answer x n ≡ kept) × (i ≡ index_numbers x)
  unfolding index_of
  index_kept i e = let p = unless_ok (index_answer x n) (Ok (index_numbers x)) e in (p.0, cc)

  -- demand 2 for an index's header: accepted exactly when it meets rules 21 to 26
  pub index_gives : (i : IndexHeader) → index_of x n ≡ Ok i → IndexRules x n
  index_gives i e = answer_gives x n (index_kept i e).0

  pub index_takes : IndexRules x n → index_of x n ≡ Ok (index_numbers x)
  index_takes r = kept_only (answer_takes x n r)

-- ---- an accepted header

-- there are at most 8 levels, and at least one where the root is not 0
few_levels : (s : Stored) → ((s.root ≡ 0) × (s.levels ≡ 0)) ⊎ Rooted s → s.levels ≤ most_levels
few_levels s (inl p) = omega (arith, p.1)
few_levels s (inr r) = r.levels_most

some_levels : (s : Stored) → ((s.root ≡ 0) × (s.levels ≡ 0)) ⊎ Rooted s → (s.root ≡ 0 → ⊥) → 1 ≤ s.levels
some_levels s (inl p) h = absurd (h p.0)
some_levels s (inr r) h = r.levels_least

module _ (x : List ℕ) (n : ℕ) (i : IndexHeader) (e : index_of x n ≡ Ok i) where
  -- its numbers are those that are stored
  pub accepted_numbers : i ≡ index_numbers x
  accepted_numbers = (index_kept x n i e).1

  stored_accepted : AcceptedIndex x n (index_numbers x)
  unfolding accepted_of
  stored_accepted =
      let r = index_gives x n i e in
      let l = r.limits in
      record {
        same = index_takes x n r;
        sound = record { whole = r.whole; size_least = omega (arith, l.size); size_most = l.size_most };
        entry_size = l.size;
        levels_most = few_levels (stored_of x) l.root;
        levels_least = some_levels (stored_of x) l.root;
      }

  pub accepted_index : AcceptedIndex x n i
  accepted_index = rw accepted_numbers stored_accepted

-- The used chain followed and tallied: what holds at each block, and what it comes to. Assumes nothing.
use Prim.Native.Nat.{ℕ, ◌+◌, ◌-◌, ◌*◌, ◌≤◌}
use mathlib.Core.Path.{◌≡◌}
use mathlib.Core.Bool.{true, false}
use mathlib.Core.List.{List}
use native.Mathlib.Omega.{arith}
use lib.ListN.{length, set}
use borrow.Author.Tests.{eq-eqb, ne_eqb}
use Rattle.header.specs.Header.{block_head}
use Rattle.blocks.specs.Shape.{block_at, Sound}
use Rattle.blocks.specs.declared.Shape.{Shape}
use Rattle.blocks.proofs.ShapeLaws.{head_inside}
use Rattle.chain.specs.Chain.{times, names}
use Rattle.chain.specs.Links.{next_of, previous_of, blocks_from}
use Rattle.chain.specs.Marks.{is_unmarked}
use Rattle.chain.specs.Following.{takes}
use Rattle.chain.proofs.FollowLaws.{unmarked_gives, fewer, times_most, Going, begin, step, broken, whole_judged}
use Rattle.chain.proofs.FollowLaws.{whole_ended, whole_stored, whole_gathered}
use Rattle.std.specs.Prelude.{Option, Some, None}
use Rattle.table.specs.Steps.{none, nothing, add_block, TallyWithin, counted, most_before, Followable, UsedFollowed}
use Rattle.table.specs.declared.tally.Tally.{Tally}
use Rattle.table.proofs.TallyLaws.{within_more, within_on}

module _ (t : List ℕ) (g : Shape) (key first : ℕ) (m₀ : List ℕ) where
  -- what holds before block b: each block without a mark adds at most 65,535 records to those passed
  pub record Following (m : List ℕ) (tally : Option Tally) (before b : ℕ) : Type 0 where
    pub going : Going (next_of t g) (names (previous_of t g)) 1 (add_block t g key) (Some nothing)
        (blocks_from t g first) m₀ m tally before b
    pub most : ℕ
    pub within : TallyWithin t key most tally
    pub small : most + 65535 * times 0 m ≤ 65535 * length m₀

  pub follow_begins : length m₀ ≡ g.blocks → Following m₀ (Some nothing) 0 first
  unfolding nothing
  follow_begins long =
      record {
        going =
            begin (next_of t g) (names (previous_of t g)) 1 (add_block t g key) (Some nothing) g.blocks first m₀ long;
        most = 0;
        within = counted (omega arith) none;
        small = omega (arith, times_most 0 m₀);
      }

module _ {t : List ℕ} {g : Shape} {key first : ℕ} {m₀ m : List ℕ} {tally : Option Tally} {before b : ℕ}
    (w : Following t g key first m₀ m tally before b) where
  abbrev whole : List ℕ
  whole = blocks_from t g first

  -- a block that may come next is in the file, and leaves room for its records
  module _ (a : Followable g key m₀) (here : is_unmarked m b ≡ true) where
    pub block_here : (1 ≤ b) × (b ≤ g.blocks)
    block_here = let f = unmarked_gives m b here in (f.low, omega (arith, f.high, w.going.same, a.long))

    pub head_here : Sound t g → (1 ≤ b) × (b ≤ g.blocks) × (block_at g b + block_head ≤ length t)
    head_here s = (block_here.0, block_here.1, head_inside t g s b block_here.0 block_here.1)

    pub room_here : TallyWithin t key most_before tally
    room_here =
        within_more t g key tally w.most most_before
        (omega (arith, fewer m b 1 (unmarked_gives m b here) (omega arith), w.small, a.few, a.long)) w.within

    pub follow_on : Sound t g → (b ≡ 0 → ⊥) → previous_of t g b ≡ before →
        Following t g key first m₀ (set m (b - 1) 1) (add_block t g key tally b) b (next_of t g b)
    follow_on s ne named =
        record {
          going =
              step (next_of t g) (names (previous_of t g)) 1 (add_block t g key) (Some nothing) whole m₀ m tally before
              b ne (omega arith) here (eq-eqb (previous_of t g b) before named) w.going;
          most = w.most + 65535;
          within = within_on t g key tally b w.most s block_here.0 block_here.1 a.short w.within;
          small = omega (arith, fewer m b 1 (unmarked_gives m b here) (omega arith), w.small);
        }

  refused : (b ≡ 0 → ⊥) → takes (names (previous_of t g)) m before b ≡ false → (m' : List ℕ) →
      UsedFollowed t g key first m₀ None m'
  refused ne nok m' =
      record {
        judged =
            broken (next_of t g) (names (previous_of t g)) 1 (add_block t g key) (Some nothing) whole m₀ m tally before
            b ne nok w.going;
        ended = tt;
        stored = tt;
        tallied = tt;
      }

  -- a number that is no block's, or that of a block with a mark
  pub follow_marked : (b ≡ 0 → ⊥) → is_unmarked m b ≡ false → (m' : List ℕ) → UsedFollowed t g key first m₀ None m'
  follow_marked ne has-mark = refused ne (rw has-mark)

  -- a block that does not name its predecessor
  pub follow_unnamed : (b ≡ 0 → ⊥) → is_unmarked m b ≡ true → (previous_of t g b ≡ before → ⊥) → (m' : List ℕ) →
      UsedFollowed t g key first m₀ None m'
  follow_unnamed ne here other = refused ne (rw (here, ne_eqb (previous_of t g b) before other))

  -- the end of the chain
  pub follow_ends : b ≡ 0 → UsedFollowed t g key first m₀ (Some (record { last = before; tally = tally })) m
  follow_ends e =
      record {
        judged =
            whole_judged (next_of t g) (names (previous_of t g)) 1 (add_block t g key) (Some nothing) whole m₀ m tally
            before b e w.going;
        ended =
            whole_ended (next_of t g) (names (previous_of t g)) 1 (add_block t g key) (Some nothing) whole m₀ m tally
            before b e w.going;
        stored =
            whole_stored (next_of t g) (names (previous_of t g)) 1 (add_block t g key) (Some nothing) whole m₀ m tally
            before b e w.going;
        tallied =
            whole_gathered (next_of t g) (names (previous_of t g)) 1 (add_block t g key) (Some nothing) whole m₀ m
            tally before b e w.going;
      }

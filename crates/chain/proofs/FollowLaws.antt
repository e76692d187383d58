-- A chain that is being followed with marks: what is still to come decides what the whole chain comes to. It ends,
-- since each turn leaves one block fewer without a mark. Assumes nothing.
use Prim.Native.Nat.{ℕ, zero, suc, ◌+◌, ◌-◌, ◌≤◌, ◌<◌}
use mathlib.Core.Path.{◌≡◌, refl, sym, ◌∙◌}
use mathlib.Core.Bool.{Bool, true, false, cond}
use mathlib.Core.List.{List, [], ◌∷◌, foldl}
use native.Mathlib.Omega.{arith}
use native.Mathlib.Nat.{not-suc-le-zero, le_of_suc-le-suc}
use lib.ListN.{length, get_or, set, length-set}
use lib.Dec.{eqb}
use borrow.Author.Tests.{eq-eqb, ne_eqb, eqb-true}
use Rattle.words.proofs.Conjunctions.{both}
use Rattle.blocks.specs.Shape.{in_file}
use Rattle.blocks.proofs.ShapeLaws.{in_file_lem}
use Rattle.chain.specs.Chain.{follow, chain_from, times, last_of}
use Rattle.chain.specs.Marks.{is_unmarked}
use Rattle.chain.specs.Following.{takes, takes_all, marked}

-- ---- a block without a mark

pub record Unmarked (m : List ℕ) (b : ℕ) : Type 0 where
  pub low : 1 ≤ b
  pub high : b ≤ length m
  pub no_mark : get_or m (b - 1) 0 ≡ 0

pub unmarked_gives : (m : List ℕ) (b : ℕ) → is_unmarked m b ≡ true → Unmarked m b
unfolding is_unmarked
unmarked_gives m b e =
    let p = both {a = in_file (length m) b} {b = eqb (get_or m (b - 1) 0) 0} e in
    let q = in_file_lem (length m) b p.0 in
    record { low = q.0; high = q.1; no_mark = eqb-true (get_or m (b - 1) 0) 0 p.1 }

-- ---- how many blocks have no mark

pub times_most : (b : ℕ) (m : List ℕ) → times b m ≤ length m
unfolding times
times_most b [] = omega arith
times_most b (x ∷ m) = go (eqb x b) (times_most b m)
  where
    go : (e : Bool) → times b m ≤ length m → cond e 1 0 + times b m ≤ suc (length m)
    go true l = omega arith
    go false l = omega arith

one_fewer : (m : List ℕ) (i mark : ℕ) → i < length m → get_or m i 0 ≡ 0 → 0 < mark →
    times 0 m ≡ suc (times 0 (set m i mark))
unfolding times
one_fewer [] i mark l e h = absurd (not-suc-le-zero l)
one_fewer (x ∷ m) zero mark l e h = rw (eq-eqb x 0, ne_eqb mark 0 (omega arith)) (omega arith)
one_fewer (x ∷ m) (suc i) mark l e h = rw (one_fewer m i mark (le_of_suc-le-suc l) e h) (omega arith)

-- a block that gets a mark leaves one fewer without
pub fewer : (m : List ℕ) (b mark : ℕ) → Unmarked m b → 0 < mark → times 0 m ≡ suc (times 0 (set m (b - 1) mark))
fewer m b mark f pos = one_fewer m (b - 1) mark (omega (arith, f.low, f.high)) f.no_mark pos

-- ---- one chain

-- `add` gathers what the blocks passed come to, from s₀ on
module _ {S : Type 0} (next : ℕ → ℕ) (test : ℕ → ℕ → Bool) (mark : ℕ) (add : S → ℕ → S) (s₀ : S) (whole m₀ : List ℕ)
  where
    pub record Going (m : List ℕ) (s : S) (before b : ℕ) : Type 0 where
      pub fuel : ℕ
      pub room : times 0 m < fuel
      pub judged : takes_all test mark 0 whole m₀ ≡ takes_all test mark before (follow next fuel b) m
      pub ended : last_of 0 whole ≡ last_of before (follow next fuel b)
      pub stored : marked mark whole m₀ ≡ marked mark (follow next fuel b) m
      pub gathered : foldl add s₀ whole ≡ foldl add s (follow next fuel b)
      pub same : length m ≡ length m₀

    module _ (m : List ℕ) (s : S) (before : ℕ) where
      on : (k b : ℕ) → (b ≡ 0 → ⊥) → 0 < mark → is_unmarked m b ≡ true → test before b ≡ true → times 0 m < k
          → takes_all test mark 0 whole m₀ ≡ takes_all test mark before (follow next k b) m
          → last_of 0 whole ≡ last_of before (follow next k b)
          → marked mark whole m₀ ≡ marked mark (follow next k b) m
          → foldl add s₀ whole ≡ foldl add s (follow next k b)
          → length m ≡ length m₀
          → Going (set m (b - 1) mark) (add s b) b (next b)
      unfolding follow takes_all last_of marked
      on zero b ne pos here ok room e₁ e₂ e₃ e₄ e₅ = absurd (not-suc-le-zero room)
      on (suc k) zero ne pos here ok room e₁ e₂ e₃ e₄ e₅ = absurd (ne refl)
      on (suc k) (suc b) ne pos here ok room e₁ e₂ e₃ e₄ e₅ =
          record {
            fuel = k;
            room = omega (arith, fewer m (suc b) mark (unmarked_gives m (suc b) here) pos);
            judged = e₁ ∙ rw (here, ok);
            ended = e₂;
            stored = e₃;
            gathered = e₄;
            same = length-set m (suc b - 1) mark ∙ e₅;
          }

      -- a block that may come next
      pub step : (b : ℕ) → (b ≡ 0 → ⊥) → 0 < mark → is_unmarked m b ≡ true → test before b ≡ true → Going m s before b →
          Going (set m (b - 1) mark) (add s b) b (next b)
      step b ne pos here ok g =
          on g.fuel b ne pos here ok g.room g.judged g.ended g.stored g.gathered g.same

      bad : (k b : ℕ) → (b ≡ 0 → ⊥) → takes test m before b ≡ false → times 0 m < k →
          takes_all test mark before (follow next k b) m ≡ false
      unfolding follow takes_all
      bad zero b ne nok room = absurd (not-suc-le-zero room)
      bad (suc k) zero ne nok room = absurd (ne refl)
      bad (suc k) (suc b) ne nok room = rw nok

      -- a number that may not come next
      pub broken : (b : ℕ) → (b ≡ 0 → ⊥) → takes test m before b ≡ false → Going m s before b →
          false ≡ takes_all test mark 0 whole m₀
      broken b ne nok g = sym (g.judged ∙ bad g.fuel b ne nok g.room)

      done : (k b : ℕ) → b ≡ 0 → follow next k b ≡ []
      unfolding follow
      done zero b e = refl
      done (suc k) zero e = refl
      done (suc k) (suc b) e = absurd (omega arith)

      -- the end of the chain
      module _ (b : ℕ) (e : b ≡ 0) (g : Going m s before b) where
        pub whole_judged : true ≡ takes_all test mark 0 whole m₀
        unfolding takes_all
        whole_judged = sym (g.judged ∙ rw (done g.fuel b e))

        pub whole_ended : before ≡ last_of 0 whole
        unfolding last_of
        whole_ended = sym (g.ended ∙ rw (done g.fuel b e))

        pub whole_stored : m ≡ marked mark whole m₀
        unfolding marked
        whole_stored = sym (g.stored ∙ rw (done g.fuel b e))

        pub whole_gathered : s ≡ foldl add s₀ whole
        whole_gathered = sym (g.gathered ∙ rw (done g.fuel b e))

-- before the first block of a chain, where each of n blocks has its mark
pub begin : {S : Type 0} (next : ℕ → ℕ) (test : ℕ → ℕ → Bool) (mark : ℕ) (add : S → ℕ →
    S) (s : S) (n b : ℕ) (m : List ℕ) → length m ≡ n
    → Going next test mark add s (chain_from next n b) m m s 0 b
begin next test mark add s n b m e =
    record {
      fuel = suc n;
      room = omega (arith, times_most 0 m);
      judged = refl;
      ended = refl;
      stored = refl;
      gathered = refl;
      same = refl;
    }

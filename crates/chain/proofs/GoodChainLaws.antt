-- A good chain, taken one block after another. Assumes nothing.
use Prim.Native.Nat.{ℕ, suc, ◌≤◌, ◌<◌, suc-le-suc}
use mathlib.Core.Path.{◌≡◌, refl, ap, ◌∙◌}
use mathlib.Core.List.{List, [], ◌∷◌}
use native.Mathlib.Omega.{arith}
use lib.ListN.{length}
use Rattle.blocks.specs.Counts.{count_in}
use Rattle.blocks.specs.declared.Shape.{Shape}
use Rattle.std.specs.Prelude.{Some}
use Rattle.blocks.proofs.CountLaws.{not_bad_records}
use Rattle.chain.specs.Links.{next_of, blocks_from}
use Rattle.chain.specs.Rules.{Chain, ends, leads, GoodChain, GoodFrom}
use Rattle.chain.proofs.RuleLaws.{follow_is}

module _ (t : List ℕ) (g : Shape) where
  -- block b is in the file, its count is good, and from its next number on come the others
  pub record Block (b : ℕ) (others : List ℕ) : Type 0 where
    pub low : 1 ≤ b
    pub high : b ≤ g.blocks
    pub count : ℕ
    pub counted : count_in t g b ≡ Some count
    pub onward : GoodChain t g (next_of t g b) others

  -- a chain without blocks is at number 0
  pub good_none : (b : ℕ) → GoodChain t g b [] → b ≡ 0
  good_none b c = go b c.chain
    where
      go : (b : ℕ) → Chain (next_of t g) b [] → b ≡ 0
      go b ends = refl

  -- any other one is at its first block
  pub good_some : (b x : ℕ) (bs : List ℕ) → GoodChain t g b (x ∷ bs) → (b ≡ x) × Block x bs
  good_some b x bs c = go b x c.chain c
    where
      go : (b x : ℕ) → Chain (next_of t g) b (x ∷ bs) → GoodChain t g b (x ∷ bs) → (b ≡ x) × Block x bs
      go b x (leads low k) c =
          let n = not_bad_records (count_in t g x) (c.counts 0 (omega arith)) in (
            refl,
            record {
              low = low;
              high = (c.inside 0 (omega arith)).1;
              count = n.0;
              counted = n.1;
              onward = record {
                chain = k;
                inside = λ i l. c.inside (suc i) (suc-le-suc l);
                few = omega (arith, c.few);
                counts = λ i l. c.counts (suc i) (suc-le-suc l);
              };
            },
          )

  -- such a chain is what following next gives
  pub good_follows : (b : ℕ) (bs : List ℕ) → GoodChain t g b bs → blocks_from t g b ≡ bs
  good_follows b bs c = follow_is (next_of t g) (suc g.blocks) b bs c.chain (suc-le-suc c.few)

  -- ---- the blocks from a number on: how they begin, go on and end

  -- at number 0 there are no blocks
  good_ends : (b : ℕ) (bs : List ℕ) → b ≡ 0 → GoodChain t g b bs → bs ≡ []
  good_ends b [] e c = refl
  good_ends b (x ∷ bs) e c = let p = good_some b x bs c in absurd (omega (arith, p.0, p.1.low))

  pub from_none : (b : ℕ) → b ≡ 0 → GoodFrom t g b → blocks_from t g b ≡ []
  from_none b e c = good_ends b (blocks_from t g b) e c

  -- a chain at another number has its block first
  good_here : (b : ℕ) (bs : List ℕ) → (b ≡ 0 → ⊥) → GoodChain t g b bs →
      (others : List ℕ) × (bs ≡ b ∷ others) × Block b others
  good_here b [] ne c = absurd (ne (good_none b c))
  good_here b (x ∷ bs) ne c = let p = good_some b x bs c in rw p.0 (bs, refl, p.1)

  module _ (b : ℕ) (ne : b ≡ 0 → ⊥) (c : GoodFrom t g b) where
    -- so at a number that is not 0 there is its block, and then the blocks from the next number on
    on : (blocks_from t g b ≡ b ∷ blocks_from t g (next_of t g b)) × Block b (blocks_from t g (next_of t g b))
    on =
        let p = good_here b (blocks_from t g b) ne c in
        let f = good_follows (next_of t g b) p.0 p.2.onward in
        (p.1 ∙ rw f, rw f p.2)

    pub from_some : blocks_from t g b ≡ b ∷ blocks_from t g (next_of t g b)
    from_some = on.0

    pub from_block : Block b (blocks_from t g (next_of t g b))
    from_block = on.1

    -- which are fewer
    pub from_fewer : length (blocks_from t g (next_of t g b)) < length (blocks_from t g b)
    from_fewer =
        let m : length (blocks_from t g b) ≡ suc (length (blocks_from t g (next_of t g b))) = ap length
        from_some in omega arith

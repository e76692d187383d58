-- The used blocks that hold records, one after another: where the next one is, and that they are those of the first
-- keys. Assumes nothing.
use Prim.Native.Nat.{ℕ, zero, suc, ◌≤◌}
use mathlib.Core.Path.{◌≡◌, refl, ap, ◌∙◌}
use mathlib.Core.List.{List, [], ◌∷◌}
use native.Mathlib.Omega.{arith}
use lib.Dec.{eqb-suc-zero}
use borrow.Author.Tests.{eq-eqb, ne_eqb}
use Rattle.std.specs.Prelude.{Some, None}
use Rattle.words.proofs.Cases.{apart}
use Rattle.blocks.specs.Counts.{count_in}
use Rattle.blocks.specs.declared.Shape.{Shape}
use Rattle.chain.specs.Links.{next_of, blocks_from}
use Rattle.chain.specs.Rules.{GoodChain, GoodFrom}
use Rattle.chain.proofs.GoodChainLaws.{good_some, good_follows, from_none, from_some, from_block}
use Rattle.table.specs.Records.{held}
use Rattle.pair.specs.Tree.{first_entry, first_keys}
use Rattle.pair.specs.Steps.{first_holding, holding_from}

module _ (t : List ℕ) (g : Shape) where
  -- ---- from a number on

  pub holding_none : (b : ℕ) → b ≡ 0 → GoodFrom t g b → holding_from t g b ≡ 0
  unfolding first_holding
  holding_none b e c = ap (first_holding t g) (from_none t g b e c)

  -- no count of the chain is bad
  pub holding_counted : (b : ℕ) → (b ≡ 0 → ⊥) → GoodFrom t g b → count_in t g b ≡ None → ⊥
  holding_counted b ne c e = apart (cc (from_block t g b ne c).counted)

  module _ (b : ℕ) (ne : b ≡ 0 → ⊥) (c : GoodFrom t g b) (n : ℕ) (e : count_in t g b ≡ Some n) where
    pub holding_here : (n ≡ 0 → ⊥) → holding_from t g b ≡ b
    unfolding first_holding held
    holding_here some = ap (first_holding t g) (from_some t g b ne c) ∙ rw (e, ne_eqb n 0 some)

    pub holding_later : n ≡ 0 → holding_from t g b ≡ holding_from t g (next_of t g b)
    unfolding first_holding held
    holding_later none = ap (first_holding t g) (from_some t g b ne c) ∙ rw (e, eq-eqb n 0 none)

  -- ---- the next block that holds records

  -- it is in the file, has a first record, and the chain goes on after it
  pub record Holding (b : ℕ) : Type 0 where
    pub low : 1 ≤ b
    pub high : b ≤ g.blocks
    pub others : ℕ
    pub counted : count_in t g b ≡ Some (suc others)
    pub onward : GoodFrom t g (next_of t g b)

  module _ (n : ℕ) where
    -- what some blocks of a chain come to: none holds records, or the first one that does, and those after it
    data FirstHeld (bs : List ℕ) : ℕ → Type 0 where
      none : first_keys t g n bs ≡ [] → FirstHeld bs 0
      some : {b : ℕ} → Holding b → first_keys t g n bs ≡ first_entry t g n b ∷ first_keys t g n
          (blocks_from t g (next_of t g b)) → FirstHeld bs b

    first_held : (b : ℕ) (bs : List ℕ) → GoodChain t g b bs → FirstHeld bs (first_holding t g bs)
    unfolding first_holding first_keys held
    first_held b [] c = none refl
    first_held b (x ∷ bs) c =
        let w = (good_some t g b x bs c).1 in
        go w.count w.counted (first_holding t g bs) refl (first_held (next_of t g x) bs w.onward)
      where
        go : (m : ℕ) → count_in t g x ≡ Some m → (k : ℕ) → first_holding t g bs ≡ k → FirstHeld bs k →
            FirstHeld (x ∷ bs) (first_holding t g (x ∷ bs))
        go zero e k r (none f) = rw (e, r) (none (rw e f))
        go zero e k r (some h f) = rw (e, r) (some h (rw e f))
        go (suc m) e k r f =
            let w = (good_some t g b x bs c).1 in
            let h = good_follows t g (next_of t g x) bs w.onward in
            rw (e, eqb-suc-zero) (some (record {
              low = w.low;
              high = w.high;
              others = m;
              counted = e;
              onward = rw h
                  w.onward;
            }) (rw (e, eqb-suc-zero, h)))

    -- where none holds records, there are no first keys
    pub keys_ended : (c : ℕ) → GoodFrom t g c → holding_from t g c ≡ 0 → first_keys t g n (blocks_from t g c) ≡ []
    keys_ended c good z = go (holding_from t g c) (first_held c (blocks_from t g c) good) z
      where
        go : (b : ℕ) → FirstHeld (blocks_from t g c) b → b ≡ 0 → first_keys t g n (blocks_from t g c) ≡ []
        go b (none f) z = f
        go b (some k f) z = absurd (omega (arith, k.low))

    -- else the next one that does is first, with its first key
    pub keys_next : (c : ℕ) → GoodFrom t g c → (holding_from t g c ≡ 0 → ⊥) →
        Holding (holding_from t g c) × (first_keys t g n (blocks_from t g c) ≡ first_entry t g n
        (holding_from t g c) ∷ first_keys t g n (blocks_from t g (next_of t g (holding_from t g c))))
    keys_next c good ne = go (holding_from t g c) (first_held c (blocks_from t g c) good) ne
      where
        go : (b : ℕ) → FirstHeld (blocks_from t g c) b → (b ≡ 0 → ⊥) →
            Holding b × (first_keys t g n (blocks_from t g c)
            ≡ first_entry t g n b ∷ first_keys t g n (blocks_from t g (next_of t g b)))
        go b (none f) ne = absurd (ne refl)
        go b (some k f) ne = (k, f)

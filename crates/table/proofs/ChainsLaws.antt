-- What following both chains and the look for a block without a mark say of a table's chains. Assumes nothing.
use Prim.Native.Nat.{ℕ}
use mathlib.Core.Path.{◌≡◌, sym, ap, ◌∙◌}
use mathlib.Core.Bool.{Bool, true, false, ◌&&◌}
use mathlib.Core.List.{List}
use lib.ListN.{length, replicate, length-replicate}
use lib.Dec.{eqb}
use borrow.Author.Tests.{eq-eqb, ne_eqb}
use Rattle.header.specs.declared.Header.{Header}
use Rattle.blocks.specs.Shape.{shape_of}
use Rattle.blocks.specs.declared.Shape.{Shape}
use Rattle.chain.specs.Chain.{names, last_of}
use Rattle.chain.specs.Links.{previous_of, links_of, used_of, free_of}
use Rattle.chain.specs.Marks.{all_marked}
use Rattle.chain.specs.Following.{takes_all, marked, any_two}
use Rattle.chain.proofs.MarkLaws.{rule_is, marks_are, marked_length}
use Rattle.table.specs.Table.{table_chained}
use Rattle.std.specs.Prelude.{Option, Some, None}
use Rattle.std.specs.Option.{is_some}
use Rattle.table.specs.Steps.{tally_of, UsedFollowed, FreeFollowed, ChainsMarked}
use Rattle.table.specs.declared.used.UsedChain.{UsedChain}

-- broken chains say nothing of marks and tally
pub chains_wrong : (t : List ℕ) (h : Header) → table_chained t h ≡ false → (m : List ℕ) → ChainsMarked t h None m
chains_wrong t h e m = record { judged = sym e; stored = tt; tallied = tt }

-- where no block has a mark
module _ (t : List ℕ) (h : Header) (m₀ : List ℕ) (unmarked : m₀ ≡ replicate h.blocks 0) (g : Shape)
    (same : g ≡ shape_of h) where
  abbrev no_marks : List ℕ
  no_marks = replicate h.blocks 0

  abbrev Followed : Option UsedChain → List ℕ → Type 0
  Followed r m₁ = UsedFollowed t g h.key_length h.first m₀ r m₁

  judged : (r : Option UsedChain) (m₁ : List ℕ) → Followed r m₁ →
      is_some r ≡ takes_all (names (previous_of t (shape_of h))) 1 0 (used_of t h) no_marks
  unfolding shape_of
  judged r m₁ w = rw (same, unmarked) at w.judged

  -- a block that may not be taken
  pub used_broken : (m₁ : List ℕ) → Followed None m₁ → table_chained t h ≡ false
  used_broken m₁ w = rule_is h.blocks (links_of t h) ∙ rw (sym (judged None m₁ w))

  -- the used chain, where every block may be
  module _ (r : UsedChain) (m₁ : List ℕ) (w : Followed (Some r) m₁) where
    ended : r.last ≡ last_of 0 (used_of t h)
    unfolding shape_of
    ended = rw same at w.ended

    stored : m₁ ≡ marked 1 (used_of t h) no_marks
    unfolding shape_of
    stored = rw (same, unmarked) at w.stored

    tallied : r.tally ≡ tally_of t (shape_of h) h.key_length (used_of t h)
    unfolding shape_of
    tallied = rw same at w.tallied

    -- another last block
    pub used_wrong : (r.last ≡ h.last → ⊥) → table_chained t h ≡ false
    used_wrong other =
        rule_is h.blocks (links_of t h) ∙ rw (sym (judged (Some r) m₁ w), ← ended, ne_eqb r.last h.last other)

    module _ (right : r.last ≡ h.last) where
      at_last : eqb (last_of 0 (used_of t h)) h.last ≡ true
      at_last = rw (← ended) (eq-eqb r.last h.last right)

      -- there is still a mark for each block
      pub marks_stay : length m₁ ≡ g.blocks
      unfolding shape_of
      marks_stay = rw same (ap length stored ∙ marked_length 1 (used_of t h) no_marks ∙ length-replicate h.blocks 0)

      -- then the free chain
      module _ (ok : Bool) (m₂ : List ℕ) (v : FreeFollowed t g h.free m₁ ok m₂) where
        abbrev both_marks : List ℕ
        both_marks = marked 2 (free_of t h) (marked 1 (used_of t h) no_marks)

        free_judged : ok ≡ takes_all any_two 2 0 (free_of t h) (marked 1 (used_of t h) no_marks)
        unfolding shape_of
        free_judged = (rw same at v.judged) ∙ rw stored

        free_stored : ok ≡ true → m₂ ≡ both_marks
        unfolding shape_of
        free_stored e = (rw same at v.stored) e ∙ rw stored

        so_far : table_chained t h ≡ (ok && all_marked both_marks)
        so_far = rule_is h.blocks (links_of t h) ∙ rw (sym (judged (Some r) m₁ w), at_last, ← free_judged)

        pub free_broken : ok ≡ false → table_chained t h ≡ false
        free_broken e = so_far ∙ rw e

        -- every block has a mark exactly where the rules are kept
        module _ (e : ok ≡ true) where
          so_marked : table_chained t h ≡ all_marked m₂
          so_marked = so_far ∙ rw e (sym (ap all_marked (free_stored e)))

          pub block_left : all_marked m₂ ≡ false → table_chained t h ≡ false
          block_left f = so_marked ∙ f

          pub chains_marked : all_marked m₂ ≡ true → ChainsMarked t h (Some r) m₂
          chains_marked f =
              record {
                judged = sym (so_marked ∙ f);
                stored = free_stored e ∙ marks_are h.blocks (links_of t h) (so_marked ∙ f);
                tallied = tallied;
              }

-- The walk from a block down, level by level, is the walk as a proposition. Assumes nothing.
use Rattle.std.specs.Prelude.{Option, Some, None, Result, Err}
use Prim.Native.Nat.{ℕ, zero, suc, ◌+◌, ◌≤◌}
use mathlib.Core.Path.{◌≡◌, refl, sym, ap, ◌∙◌}
use mathlib.Core.Bool.{Bool, true, false, cond, false≢true}
use mathlib.Core.List.{List, ◌∷◌}
use native.Mathlib.Nat.{add-zero, pos_of_ne-zero}
use native.Mathlib.Omega.{arith}
use lib.Dec.{eqb}
use lib.ListN.{length}
use borrow.Author.Tests.{eq-eqb, ne_eqb, eqb-true, eqb-false}
use Rattle.header.specs.Refusals.{number, one_of}
use Rattle.header.specs.declared.refusal.Refusal.{Refusal}
use Rattle.header.specs.declared.refusal.Refusal.TheVariants.{ChainRule, IndexTree}
use Rattle.blocks.specs.Shape.{has_block}
use Rattle.blocks.specs.Counts.{count_in}
use Rattle.blocks.specs.Rules.{Holds, BlockHolds}
use Rattle.blocks.specs.declared.Shape.{Shape}
use Rattle.blocks.proofs.ShapeLaws.{has_block_lem, block_there}
use Rattle.blocks.proofs.RuleLaws.{holds_gives, holds_takes}
use Rattle.lookup.specs.declared.found.Found.{Found}
use Rattle.index.specs.Entries.{entries_in, entry_block, below}
use Rattle.index.specs.Visits.{LastEntry, NoEntry, Visits, Meets}
use Rattle.index.specs.Visits.Visits.{record_there, record_missing, entry_there, entry_missing}
use Rattle.index.specs.Visits.Meets.{outside, bad_count, bad_index, lower}
use Rattle.index.specs.Walk.{found_after, by_count, in_data, onward, walk_from, way_refusals}
use Rattle.index.specs.declared.walking.Walked.{Walked}
use Rattle.index.proofs.WalkLaws.{data_outside, data_bad, data_found}
use Rattle.index.proofs.EntryLaws.{entries_held, entries_are}
use Rattle.index.proofs.TakenLaws.{entry_once, entry_or_none, Led, led, below_takes, below_nothing}
use Rattle.index.proofs.TakenLaws.{Looked, looked, first_takes, first_absent}
use Rattle.index.proofs.TakenLaws.Led.{leads, leads_nowhere}
use Rattle.index.proofs.TakenLaws.Looked.{first, missing}

-- ---- a block by its count

out_of_file : (g : Shape) (b : ℕ) → (1 ≤ b → b ≤ g.blocks → ⊥) → has_block g b ≡ false
out_of_file g b o = go (has_block g b) refl
  where
    go : (c : Bool) → has_block g b ≡ c → has_block g b ≡ false
    go true e = let w = has_block_lem g b e in absurd (o w.0 w.1)
    go false e = e

module _ (s : List ℕ) (g : Shape) (b : ℕ) where
  entries_none : ((n : ℕ) → BlockHolds s g b n → 1 ≤ n → ⊥) → entries_in s g b ≡ 0
  entries_none o = go (entries_in s g b) refl
    where
      go : (n : ℕ) → entries_in s g b ≡ n → entries_in s g b ≡ 0
      go zero e = e
      go (suc n) e =
          let l : 1 ≤ entries_in s g b = omega arith in absurd (o (entries_in s g b) (entries_held s g b l) l)

  counts_bad : ((n : ℕ) → Holds s g b n → ⊥) → count_in s g b ≡ None
  counts_bad o = go (count_in s g b) refl
    where
      go : (c : Option ℕ) → count_in s g b ≡ c → count_in s g b ≡ None
      go (Some n) e = absurd (o n (holds_gives s g b n e))
      go None e = e

  module _ (size : 1 ≤ g.record_size) where
    holds_none : count_in s g b ≡ None → (n : ℕ) → Holds s g b n → ⊥
    holds_none e n h = let f = holds_takes s g b n size h in let z : ◌≡◌ {A = ℕ} 0 1 = cc in omega arith

-- ---- from a block down

module _ (t : List ℕ) (g : Shape) (x : List ℕ) (gx : Shape) (key : List ℕ) where
  -- what one level answers, by the block that its entries lead to
  level_on : (level b reads n : ℕ) (d : Option ℕ) → entries_in x gx b ≡ n → 1 ≤ n → below x gx key b n ≡ d →
      walk_from t g x gx key (suc level) b reads ≡ onward d (found_after (reads + 1) None)
      (λ (next : ℕ). walk_from t g x gx key level next (reads + 1))
  unfolding walk_from
  level_on level b reads n d e l f = rw (e, ne_eqb n 0 (λ z. omega arith), f)

  -- what is met is one of the walk's refusals
  pub meets_number : {level b : ℕ} {r : Refusal} → Meets t g x gx key level b r → one_of way_refusals r ≡ true
  unfolding one_of number
  meets_number (outside o) = refl
  meets_number (bad_count low high o) = refl
  meets_number (bad_index o) = refl
  meets_number (lower h p m) = meets_number m

  -- what a walk comes to from a block down
  pub data Judged (level b reads : ℕ) : Result Walked Refusal → Type 0 where
    answered : {visited : List ℕ} {found : Option Found} {r : ℕ} → Visits t g x gx key level b visited found →
        r ≡ reads + length visited → Judged level b reads (found_after r found)
    refused : {r : Refusal} → Meets t g x gx key level b r → Judged level b reads (Err r)

  module _ (size : 1 ≤ g.record_size) (size_x : 1 ≤ gx.record_size) where
    in_data_lem : (b reads : ℕ) → Judged 0 b reads (in_data t g key b reads)
    unfolding in_data by_count
    in_data_lem b reads = by_file (has_block g b) refl
      where
        by_records : (n : ℕ) → BlockHolds t g b n → {f : Option Found} → Looked t g key b n f →
            Judged 0 b reads (found_after reads f)
        by_records n h (first p) = answered {r = reads} (record_there h p) (omega arith)
        by_records n h (missing p) = answered {r = reads} (record_missing h p) (omega arith)

        by_count_lem : has_block g b ≡ true → (c : Option ℕ) → count_in t g b ≡ c →
            Judged 0 b reads (by_count t g key b reads c)
        by_count_lem e (Some n) f =
            let w = has_block_lem g b e in
            by_records n (record { low = w.0; high = w.1; holds = holds_gives t g b n f }) (looked t g key b n)
        by_count_lem e None f = let w = has_block_lem g b e in refused (bad_count w.0 w.1 (holds_none t g b size f))

        by_file : (c : Bool) → has_block g b ≡ c →
            Judged 0 b reads (cond c (by_count t g key b reads (count_in t g b)) (Err ChainRule))
        by_file true e = by_count_lem e (count_in t g b) refl
        by_file false e = refused (outside (λ l m. false≢true (sym e ∙ block_there g b l m)))

    pub judged : (level b reads : ℕ) → Judged level b reads (walk_from t g x gx key level b reads)
    unfolding walk_from onward
    judged zero b reads = in_data_lem b reads
    judged (suc level) b reads = by_entries (eqb (entries_in x gx b) 0) refl (judged level)
      where
        n : ℕ
        n = entries_in x gx b

        further : {i : ℕ} → BlockHolds x gx b n → LastEntry x gx key b n i → {w : Result Walked Refusal}
            → Judged level (entry_block x gx (length key) b i) (reads + 1) w → Judged (suc level) b reads w
        further h p (answered {r = r} v e) = answered {r = r} (entry_there h p v) (omega arith)
        further h p (refused m) = refused (lower h p m)

        by_led : 1 ≤ n → ((d r : ℕ) → Judged level d r (walk_from t g x gx key level d r)) → {d : Option ℕ}
            → Led x gx key b n d → Judged (suc level) b reads (onward d (found_after (reads + 1) None)
            (λ (next : ℕ). walk_from t g x gx key level next (reads + 1)))
        by_led l ih (leads {i = i} p) =
            further (entries_held x gx b l) p (ih (entry_block x gx (length key) b i) (reads + 1))
        by_led l ih (leads_nowhere p) =
            answered {r = reads + 1} (entry_missing (entries_held x gx b l) l p) (omega arith)

        by_entries : (c : Bool) → eqb (entries_in x gx b) 0 ≡ c
            → ((d r : ℕ) → Judged level d r (walk_from t g x gx key level d r))
            → Judged (suc level) b reads (cond c (Err IndexTree)
            (onward (below x gx key b (entries_in x gx b)) (found_after (reads + 1) None)
            (λ (next : ℕ). walk_from t g x gx key level next (reads + 1))))
        by_entries true e ih =
            refused (bad_index (λ m h l. omega (
              arith,
              entries_are x gx b size_x m h,
              eqb-true (entries_in x gx b) 0 e,
            )))
        by_entries false e ih = by_led (pos_of_ne-zero (eqb-false (entries_in x gx b) 0 e)) ih (led x gx key b n)

    -- what is visited and found, or met, is what the walk answers
    pub visits_take : {level b : ℕ} {visited : List ℕ} {found : Option Found} →
        Visits t g x gx key level b visited found → (reads : ℕ) →
        walk_from t g x gx key level b reads ≡ found_after (reads + length visited) found
    unfolding walk_from onward
    visits_take (record_there {b = b} {n = n} {p = p} h f) reads =
        data_found t g key b reads (block_there g b h.low h.high) n (holds_takes t g b n size h.holds)
        ∙ rw (first_takes t g key b n p f, add-zero)
    visits_take (record_missing {b = b} {n = n} h f) reads =
        data_found t g key b reads (block_there g b h.low h.high) n (holds_takes t g b n size h.holds)
        ∙ rw (first_absent t g key b n f, add-zero)
    visits_take (entry_there {level = level} {b = b} {n = n} {i = i} {visited = visited} {found = found} h p v) reads =
        let e : reads + 1 + length visited ≡ reads + suc (length visited) = omega arith in
        let l : 1 ≤ n = omega (arith, p.inside) in
        level_on level b reads n (Some (entry_block x gx (length key) b i)) (entries_are x gx b size_x n h) l
        (below_takes x gx key b n i p) ∙ visits_take v (reads + 1) ∙ ap (λ (r : ℕ). found_after r found) e
    visits_take (entry_missing {level = level} {b = b} {n = n} h l p) reads =
        level_on level b reads n None (entries_are x gx b size_x n h) l (below_nothing x gx key b n p)

    pub meets_take : {level b : ℕ} {r : Refusal} → Meets t g x gx key level b r → (reads : ℕ) →
        walk_from t g x gx key level b reads ≡ Err r
    unfolding walk_from onward
    meets_take (outside {b = b} o) reads = data_outside t g key b reads (out_of_file g b o)
    meets_take (bad_count {b = b} low high o) reads =
        data_bad t g key b reads (block_there g b low high) (counts_bad t g b o)
    meets_take (bad_index {level = level} {b = b} o) reads = rw (eq-eqb (entries_in x gx b) 0 (entries_none x gx b o))
    meets_take (lower {level = level} {b = b} {n = n} {i = i} h p m) reads =
        let l : 1 ≤ n = omega (arith, p.inside) in
        level_on level b reads n (Some (entry_block x gx (length key) b i)) (entries_are x gx b size_x n h) l
        (below_takes x gx key b n i p) ∙ meets_take m (reads + 1)

    -- one block, held as n and as m entries, has one last entry or none
    held_once : {b n m : ℕ} → BlockHolds x gx b n → BlockHolds x gx b m → n ≡ m
    held_once {b} {n} {m} h k = sym (entries_are x gx b size_x n h) ∙ entries_are x gx b size_x m k

    same_entry : {b n m i k : ℕ} → BlockHolds x gx b n → LastEntry x gx key b n i → BlockHolds x gx b m →
        LastEntry x gx key b m k → i ≡ k
    same_entry {b} h p o q = entry_once x gx key b (rw (held_once h o) at p) q

    entry_and_none : {b n m i : ℕ} → BlockHolds x gx b n → LastEntry x gx key b n i → BlockHolds x gx b m →
        NoEntry x gx key b m → ⊥
    entry_and_none {b} h p o q = entry_or_none x gx key b (rw (held_once h o) at p) q

    -- no other index blocks are visited
    pub visits_once : {level b : ℕ} {visited others : List ℕ} {found other : Option Found} →
        Visits t g x gx key level b visited found → Visits t g x gx key level b others other → visited ≡ others
    visits_once (record_there h f) (record_there k e) = refl
    visits_once (record_there h f) (record_missing k e) = refl
    visits_once (record_missing h f) (record_there k e) = refl
    visits_once (record_missing h f) (record_missing k e) = refl
    visits_once (entry_there {b = b} h p v) (entry_there k q w) =
        ap (λ (bs : List ℕ). b ∷ bs) (visits_once v (rw (same_entry k q h p) at w))
    visits_once (entry_there h p v) (entry_missing k l q) = absurd (entry_and_none h p k q)
    visits_once (entry_missing h l p) (entry_there k q w) = absurd (entry_and_none k q h p)
    visits_once (entry_missing h l p) (entry_missing k m q) = refl

-- The tally of blocks passed one after another says what the rules say of all of them, by induction over the blocks.
-- Assumes nothing.
use Rattle.std.specs.Prelude.{Option, Some, None}
use Prim.Native.Nat.{ℕ, ◌+◌, ◌≤◌}
use mathlib.Core.Path.{◌≡◌, refl, sym, ap, ◌∙◌}
use mathlib.Core.Bool.{Bool, true, false, cond, ◌&&◌, false≢true}
use mathlib.Core.List.{List, [], ◌∷◌, foldl, foldl-append}
use native.Mathlib.Nat.{add-zero, zero-add, add_assoc}
use native.Mathlib.Omega.{arith}
use lib.Dec.{eqb, leb}
use borrow.Author.Tests.{leb-true, leb-false}
use Rattle.words.proofs.Conjunctions.{both}
use Rattle.header.specs.Refusals.{Verdict}
use Rattle.table.specs.Table.{tests_answer}
use Rattle.blocks.specs.Shape.{record_at, Sound}
use Rattle.blocks.specs.Counts.{count_in}
use Rattle.blocks.specs.declared.Shape.{Shape}
use Rattle.blocks.proofs.CountLaws.{record_in_file}
use Rattle.chain.specs.Chain.{every}
use Rattle.table.specs.Records.{Position, held, places_from, records_in}
use Rattle.table.specs.Counts.{is_good, counts_good, total}
use Rattle.table.specs.Keys.{keys_in, ascend}
use Rattle.table.specs.Steps.{next_key, run_after, is_ordered, KeyInside, nothing, add_count, add_block, tally_of}
use Rattle.table.specs.Steps.{TallyWithin, uncounted, counted, tally_answer, counted_answer}
use Rattle.table.specs.declared.keys.Keys.{Keys}
use Rattle.table.specs.declared.keys.Keys.TheVariants.{Empty}
use Rattle.table.specs.declared.tally.Tally.{Tally}
use Rattle.table.proofs.CountLaws.{count_word}
use Rattle.table.proofs.RecordLaws.{good_count}
use Rattle.table.proofs.KeyLaws.{passed, ascend_after, run_keyless, run_passed, passed_ascend, run_stays}

module _ (t : List ℕ) (g : Shape) (key : ℕ) where
  -- ---- some blocks

  -- from a bad count on there is no tally
  tally_none : (bs : List ℕ) → foldl (add_block t g key) None bs ≡ None
  unfolding add_block
  tally_none [] = refl
  tally_none (b ∷ bs) = tally_none bs

  tally_bad : (s : Tally) (bs : List ℕ) → counts_good t g bs ≡ false → foldl (add_block t g key) (Some s) bs ≡ None
  unfolding every is_good add_block add_count
  tally_bad s [] h = absurd (false≢true (sym h))
  tally_bad s (b ∷ bs) h = go (count_in t g b) refl (λ r. tally_bad r bs)
    where
      go : (c : Option ℕ) → count_in t g b ≡ c →
          ((r : Tally) → counts_good t g bs ≡ false → foldl (add_block t g key) (Some r) bs ≡ None) →
          foldl (add_block t g key) (add_count t g key s b c) bs ≡ None
      go (Some n) f ih =
          ih (record { records = s.records + n; keys = run_after t g key b n s.keys }) (rw f at h)
      go None f ih = tally_none bs

  -- what a tally becomes by blocks with good counts
  record Added (s : Tally) (bs : List ℕ) (r : Option Tally) : Type 0 where
    tally : Tally
    is : r ≡ Some tally
    records : tally.records ≡ s.records + total t g bs
    keyless : key ≡ 0 → tally.keys ≡ s.keys
    keyed : (key ≡ 0 → ⊥) → tally.keys ≡ passed t g key s.keys (records_in t g bs)

  tally_good : (s : Tally) (bs : List ℕ) → counts_good t g bs ≡ true →
      Added s bs (foldl (add_block t g key) (Some s) bs)
  unfolding every total records_in add_block add_count
  tally_good s [] h =
      record { tally = s; is = refl; records = sym (add-zero s.records); keyless = λ z. refl; keyed = λ z. refl }
  tally_good s (b ∷ bs) h =
      let p = both {a = is_good (count_in t g b)} {b = counts_good t g bs} h in
      let n = held (count_in t g b) in
      let keys = run_after t g key b n s.keys in
      let a = tally_good (record { records = s.records + n; keys = keys }) bs p.1 in
      record {
        tally = a.tally;
        is =
            ap (λ (c : Option ℕ). foldl (add_block t g key) (add_count t g key s b c) bs)
            (good_count (count_in t g b) p.0)
            ∙ a.is;
        records = a.records ∙ add_assoc s.records n (total t g bs);
        keyless = λ z. a.keyless z ∙ run_keyless t g key b n s.keys z;
        keyed = λ z.
            a.keyed z
            ∙ ap (λ (k : Keys). passed t g key k (records_in t g bs)) (run_passed t g key b n s.keys z)
            ∙ sym (foldl-append (λ (k : Keys) (q : Position). next_key t key k (record_at g q.block q.place))
            s.keys (places_from b 0 n) (records_in t g bs));
      }

  -- ---- the answer

  -- key fields and a key length are there or not together
  module _ (used : List ℕ) (keys : ℕ) (some : 1 ≤ keys → 1 ≤ key) (none : keys ≡ 0 → key ≡ 0) where
    -- where every count is good the tally's keys are judged as the rule says
    keys_judged : (a : Added nothing used (tally_of t g key used)) →
        is_ordered a.tally.keys ≡ cond (leb 1 keys) (ascend (keys_in t g key used)) true
    unfolding nothing ascend_after is_ordered
    keys_judged a = go (leb 1 keys) refl
      where
        go : (c : Bool) → leb 1 keys ≡ c → is_ordered a.tally.keys ≡ cond c (ascend (keys_in t g key used)) true
        go true h =
            ap is_ordered (a.keyed (λ z. omega (arith, some (leb-true 1 keys h))))
            ∙ passed_ascend t g key (records_in t g used) Empty
        go false h = ap is_ordered (a.keyless (none (omega (arith, leb-false 1 keys h))))

    -- what the rules answer where the chain rules are kept, with every count good or not
    abbrev pub answer : Bool → ℕ → Verdict
    answer good records =
        tests_answer true (good && eqb (total t g used) records)
        (cond (leb 1 keys) (ascend (keys_in t g key used)) true)

    -- the tally of all used blocks answers what the rules do
    pub tally_answer_lem : (records : ℕ) →
        counted_answer (tally_of t g key used) records ≡ answer (counts_good t g used) records
    unfolding nothing counted_answer tally_answer tests_answer
    tally_answer_lem records = go (counts_good t g used) refl
      where
        go : (c : Bool) → counts_good t g used ≡ c → counted_answer (tally_of t g key used) records ≡ answer c records
        go false h = rw (tally_bad nothing used h)
        go true h =
            let a = tally_good nothing used h in
            rw (a.is, a.records ∙ zero-add (total t g used), keys_judged a)

  -- ---- one block

  -- behind a bad count, with a bad one, and with a good one
  pub add_behind : (s : Option Tally) (b : ℕ) → s ≡ None → add_block t g key s b ≡ None
  unfolding add_block
  add_behind s b e = rw e

  module _ (s : Option Tally) (so_far : Tally) (b : ℕ) (e : s ≡ Some so_far) where
    pub add_bad : count_in t g b ≡ None → add_block t g key s b ≡ None
    unfolding add_block add_count
    add_bad f = rw (e, f)

    pub add_good : (n : ℕ) → count_in t g b ≡ Some n →
        add_block t g key s b
        ≡ Some (record { records = so_far.records + n; keys = run_after t g key b n so_far.keys })
    unfolding add_block add_count
    add_good n f = rw (e, f)

    pub within_gives : (most : ℕ) → TallyWithin t key most s → (so_far.records ≤ most) × KeyInside t key so_far.keys
    within_gives most w = go (rw e at w)
      where
        go : TallyWithin t key most (Some so_far) → (so_far.records ≤ most) × KeyInside t key so_far.keys
        go (counted few k) = (few, k)

  -- ---- what stays so from block to block

  -- a tally of at most so many records is one of at most any more
  pub within_more : (s : Option Tally) (most more : ℕ) → most ≤ more → TallyWithin t key most s →
      TallyWithin t key more s
  within_more s most more l uncounted = uncounted
  within_more s most more l (counted few k) = counted (omega arith) k

  -- a block adds at most 65,535 records, and its last key is inside the table
  pub within_on : (s : Option Tally) (b most : ℕ) → Sound t g → 1 ≤ b → b ≤ g.blocks →
      key ≤ g.record_size → TallyWithin t key most s → TallyWithin t key (most + 65535) (add_block t g key s b)
  unfolding add_block add_count
  within_on None b most w low high short uncounted = uncounted
  within_on (Some s) b most w low high short (counted few k) = go (count_in t g b) refl
    where
      go : (c : Option ℕ) → count_in t g b ≡ c → TallyWithin t key (most + 65535) (add_count t g key s b c)
      go (Some n) e =
          counted (omega (arith, few, count_word t g b n e))
          (run_stays t g key b n s.keys (λ i l. omega (arith, record_in_file t g w b n e low high i l)) k)
      go None e = uncounted

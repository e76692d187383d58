-- The entry that a walk takes in an index block, and the record that it finds in a data block: the definitions are the
-- propositions. Assumes nothing.
use Rattle.std.specs.Prelude.{Option, Some, None}
use Prim.Native.Nat.{ℕ, zero, suc, ◌+◌, ◌≤◌, ◌<◌}
use mathlib.Core.Path.{◌≡◌, refl, sym, ap, ◌∙◌}
use mathlib.Core.Bool.{Bool, true, false, cond, false≢true}
use mathlib.Core.List.{List}
use mathlib.Core.Logic.{⊎_elim}
use native.Mathlib.Nat.{not-suc-le-zero, eq-or-lt_of_le}
use native.Mathlib.Omega.{arith}
use lib.ListN.{length}
use Rattle.words.specs.Order.{is_at_most, order}
use Rattle.std.specs.declared.cmp.Ordering.{Ordering}
use Rattle.std.specs.declared.cmp.Ordering.TheVariants.{Greater}
use Rattle.words.proofs.Cases.{lt_or_ge}
use Rattle.words.proofs.OrderLaws.{at_most, not_at_most, same_gives, same_takes}
use Rattle.blocks.specs.declared.Shape.{Shape}
use Rattle.table.specs.Records.{places_from}
use Rattle.table.specs.Keys.{key_at}
use Rattle.lookup.specs.Sought.{is_sought, first_with}
use Rattle.lookup.specs.Found.{found_at}
use Rattle.lookup.specs.declared.found.Found.{Found}
use Rattle.index.specs.Entries.{entry_key, entry_block, below}
use Rattle.index.specs.Visits.{LastEntry, NoEntry, FirstRecord, NoRecord}

-- two numbers of which neither is less are the same
neither_less : (i k : ℕ) → (i < k → ⊥) → (k < i → ⊥) → i ≡ k
neither_less i k p q = ⊎_elim (λ l. absurd (p l)) high (lt_or_ge i k)
  where
    high : k ≤ i → i ≡ k
    high l = ⊎_elim (λ e. sym e) (λ m. absurd (q m)) (eq-or-lt_of_le l)

-- ---- the entry that is taken

module _ (x : List ℕ) (g : Shape) (key : List ℕ) (b : ℕ) where
  -- no two entries are the last, and none is where every key is above
  pub entry_once : {n i k : ℕ} → LastEntry x g key b n i → LastEntry x g key b n k → i ≡ k
  entry_once {n} {i} {k} p q =
      neither_less i k (λ l. q.at_most (p.later_above k l q.inside))
      (λ l. p.at_most (q.later_above i l p.inside))

  pub entry_or_none : {n i : ℕ} → LastEntry x g key b n i → NoEntry x g key b n → ⊥
  entry_or_none {n} {i} p q = p.at_most (q i p.inside)

  -- the block that the first m entries lead to, by the entry that is taken
  pub data Led (m : ℕ) : Option ℕ → Type 0 where
    leads : {i : ℕ} → LastEntry x g key b m i → Led m (Some (entry_block x g (length key) b i))
    leads_nowhere : NoEntry x g key b m → Led m None

  pub led : (m : ℕ) → Led m (below x g key b m)
  unfolding below
  led zero = leads_nowhere (λ j l. absurd (not-suc-le-zero l))
  led (suc i) = go (is_at_most (order (entry_key x g (length key) b i) key)) refl (led i)
    where
      o : Ordering
      o = order (entry_key x g (length key) b i) key

      above : o ≡ Greater → (j : ℕ) → j < suc i → (j < i → order (entry_key x g (length key) b j) key ≡ Greater) →
          order (entry_key x g (length key) b j) key ≡ Greater
      above e j m before = ⊎_elim (λ s. rw s e) before (eq-or-lt_of_le {n = j} {m = i} (omega arith))

      more : o ≡ Greater → {d : Option ℕ} → Led i d → Led (suc i) d
      more e (leads {i = k} p) =
          leads {i = k} (record {
            inside = omega (arith, p.inside);
            at_most = p.at_most;
            later_above = λ j l m. above e j m (p.later_above j l);
          })
      more e (leads_nowhere p) = leads_nowhere (λ j m. above e j m (p j))

      go : (c : Bool) → is_at_most o ≡ c → Led i (below x g key b i) →
          Led (suc i) (cond c (Some (entry_block x g (length key) b i)) (below x g key b i))
      go true e l =
          leads {i = i} (record {
            inside = omega arith;
            at_most = at_most o e;
            later_above = λ j l m. absurd (omega arith);
          })
      go false e l = more (not_at_most o e) l

  -- an entry that is taken gives its block, and none gives none
  pub below_takes : (m i : ℕ) → LastEntry x g key b m i → below x g key b m ≡ Some (entry_block x g (length key) b i)
  below_takes m i p = go (led m)
    where
      go : {d : Option ℕ} → Led m d → d ≡ Some (entry_block x g (length key) b i)
      go (leads q) = ap (λ (j : ℕ). Some (entry_block x g (length key) b j)) (entry_once q p)
      go (leads_nowhere q) = absurd (entry_or_none p q)

  pub below_nothing : (m : ℕ) → NoEntry x g key b m → below x g key b m ≡ None
  below_nothing m p = go (led m)
    where
      go : {d : Option ℕ} → Led m d → d ≡ None
      go (leads q) = absurd (entry_or_none q p)
      go (leads_nowhere q) = refl

-- ---- the record that is found

module _ (t : List ℕ) (g : Shape) (key : List ℕ) (b : ℕ) where
  abbrev key_of : ℕ → List ℕ
  key_of p = key_at t g (length key) (record { block = b; place = p })

  record_once : {n p q : ℕ} → FirstRecord t g key b n p → FirstRecord t g key b n q → p ≡ q
  record_once {n} {p} {q} u v =
      neither_less p q (λ l. v.earlier_other p l u.same) (λ l. u.earlier_other q l v.same)

  record_or_none : {n p : ℕ} → FirstRecord t g key b n p → NoRecord t g key b n → ⊥
  record_or_none {n} {p} u v = v p u.inside u.same

  -- the first record of m places from a place on
  data Searched (place m : ℕ) : Option Found → Type 0 where
    there : {p : ℕ} → place ≤ p → p < place + m → key_of p ≡ key → ((j : ℕ) → place ≤ j → j < p → key_of j ≡ key → ⊥) →
        Searched place m (found_at b p)
    nowhere : ((j : ℕ) → place ≤ j → j < place + m → key_of j ≡ key → ⊥) → Searched place m None

  searched : (m place : ℕ) → Searched place m (first_with t g key (places_from b place m))
  unfolding first_with places_from
  searched zero place = nowhere (λ j l k e. omega arith)
  searched (suc m) place = go (is_sought t g key (record { block = b; place = place })) refl (searched m (suc place))
    where
      other : (key_of place ≡ key → ⊥) → (j : ℕ) → place ≤ j → (suc place ≤ j → key_of j ≡ key → ⊥) → key_of j ≡ key → ⊥
      other here j l after e =
          ⊎_elim (λ s. here (rw s e)) (λ s. after s e) (eq-or-lt_of_le {n = place} {m = j} l)

      later : (key_of place ≡ key → ⊥) → {f : Option Found} → Searched (suc place) m f → Searched place (suc m) f
      later here (there {p} low high same before) =
          there {p = p} (omega arith) (omega arith) same (λ j l k. other here j l (λ s. before j s k))
      later here (nowhere others) = nowhere (λ j l k. other here j l (λ s. others j s (omega arith)))

      go : (c : Bool) → is_sought t g key (record { block = b; place = place }) ≡ c
          → Searched (suc place) m (first_with t g key (places_from b (suc place) m))
          → Searched place (suc m) (cond c (found_at b place) (first_with t g key (places_from b (suc place) m)))
      go true e s =
          there {p = place} (omega arith) (omega arith) (same_gives (key_of place) key e) (λ j l k w. omega arith)
      go false e s = later (λ w. false≢true (sym e ∙ same_takes (key_of place) key w)) s

  -- by the block's records
  pub data Looked (n : ℕ) : Option Found → Type 0 where
    first : {p : ℕ} → FirstRecord t g key b n p → Looked n (found_at b p)
    missing : NoRecord t g key b n → Looked n None

  pub looked : (n : ℕ) → Looked n (first_with t g key (places_from b 0 n))
  looked n = go (searched n 0)
    where
      go : {f : Option Found} → Searched 0 n f → Looked n f
      go (there {p} low high same before) =
          first {p = p} (record { inside = omega arith; same = same; earlier_other = λ j l. before j (omega arith) l })
      go (nowhere others) = missing (λ j l. others j (omega arith) (omega arith))

  pub first_takes : (n p : ℕ) → FirstRecord t g key b n p → first_with t g key (places_from b 0 n) ≡ found_at b p
  first_takes n p u = go (looked n)
    where
      go : {f : Option Found} → Looked n f → f ≡ found_at b p
      go (first v) = ap (λ (q : ℕ). found_at b q) (record_once v u)
      go (missing v) = absurd (record_or_none u v)

  pub first_absent : (n : ℕ) → NoRecord t g key b n → first_with t g key (places_from b 0 n) ≡ None
  first_absent n u = go (looked n)
    where
      go : {f : Option Found} → Looked n f → f ≡ None
      go (first v) = absurd (record_or_none v u)
      go (missing v) = refl

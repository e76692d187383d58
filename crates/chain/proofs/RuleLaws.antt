-- The chain rules as tests are the chain rules as propositions. A chain that keeps them is not cut: it has no more
-- numbers than there are blocks. Assumes nothing.
use Prim.Native.Nat.{ℕ, zero, suc, ◌+◌, ◌-◌, ◌≤◌, ◌<◌}
use mathlib.Core.Path.{◌≡◌, refl, sym, ap, ◌∙◌}
use mathlib.Core.Bool.{Bool, true, false, cond, false≢true}
use mathlib.Core.List.{List, [], ◌∷◌}
use native.Mathlib.Omega.{arith}
use native.Mathlib.Nat.{not-suc-le-zero, le_of_suc-le-suc}
use lib.ListN.{length, get_or}
use lib.Dec.{eqb}
use borrow.Author.Tests.{eqb-true, eq-eqb}
use Rattle.words.proofs.Conjunctions.{both, join}
use Rattle.blocks.specs.Shape.{in_file}
use Rattle.blocks.proofs.ShapeLaws.{in_file_lem, file_has}
use Rattle.chain.specs.Chain.{Links, follow, every, times, linked, names, last_of, used_chain, free_chain}
use Rattle.chain.specs.Chain.{chains_right}
use Rattle.chain.specs.Marks.{used_mark, free_mark, mark_of, marks_of}
use Rattle.chain.specs.Rules.{Chain, ends, leads, Inside, ChainRules}
use Rattle.chain.proofs.ListLaws.{every_gives, every_takes, mark_at}
use Rattle.chain.proofs.MarkLaws.{right_gives, right_takes}
use Rattle.chain.proofs.SumLaws.{once_most, once_length}

-- ---- following next

-- a list that is shorter than it might be ended at 0
follow_ends : (next : ℕ → ℕ) (k b : ℕ) → length (follow next k b) < k → Chain next b (follow next k b)
unfolding follow
follow_ends next zero b l = absurd (not-suc-le-zero l)
follow_ends next (suc k) zero l = ends
follow_ends next (suc k) (suc b) l =
    leads {b = suc b} (omega arith) (follow_ends next k (next (suc b)) (le_of_suc-le-suc l))

-- a chain is what following next gives
pub follow_is : (next : ℕ → ℕ) (k b : ℕ) (bs : List ℕ) → Chain next b bs → length bs < k → follow next k b ≡ bs
unfolding follow
follow_is next zero b bs c l = absurd (not-suc-le-zero l)
follow_is next (suc k) zero [] c l = refl
follow_is next (suc k) zero (x ∷ bs) (leads low c) l = absurd (not-suc-le-zero low)
follow_is next (suc k) (suc b) [] c l = elim c [ ]
follow_is next (suc k) (suc b) (x ∷ bs) (leads low c) l =
    ap (λ (r : List ℕ). suc b ∷ r) (follow_is next k (next (suc b)) bs c (le_of_suc-le-suc l))

-- ---- every number a block's

inside_gives : (n : ℕ) (bs : List ℕ) → every (in_file n) bs ≡ true → Inside n bs
inside_gives n bs e i l = in_file_lem n (get_or bs i 0) (every_gives (in_file n) bs e i l)

inside_takes : (n : ℕ) (bs : List ℕ) → Inside n bs → every (in_file n) bs ≡ true
inside_takes n bs h = every_takes (in_file n) bs (λ i l. file_has n (get_or bs i 0) (h i l).0 (h i l).1)

-- blocks of the file, none of them twice, are no more than it has
pub inside_length : (n : ℕ) (bs : List ℕ) → Inside n bs → ((b : ℕ) → times b bs ≤ 1) → length bs ≤ n
inside_length n bs inside once = once_most n bs (inside_takes n bs inside) (λ i l. once (suc i))

-- a number that is no block's is in no such list
outside : (n b : ℕ) (bs : List ℕ) → every (in_file n) bs ≡ true → in_file n b ≡ false → times b bs ≡ 0
unfolding every times
outside n b [] e f = refl
outside n b (x ∷ bs) e f =
    let p = both {a = in_file n x} {b = every (in_file n) bs} e in go p.0 (eqb x b) refl (outside n b bs p.1 f)
  where
    go : in_file n x ≡ true → (t : Bool) → eqb x b ≡ t → times b bs ≡ 0 → cond t 1 0 + times b bs ≡ 0
    go i true y z = absurd (false≢true (sym f ∙ ap (in_file n) (sym (eqb-true x b y)) ∙ i))
    go i false y z = omega arith

-- ---- predecessors

module _ (previous : ℕ → ℕ) where
  linked_first : (before : ℕ) (bs : List ℕ) → linked (names previous) before bs ≡ true → 1 ≤ length bs →
      previous (get_or bs 0 0) ≡ before
  unfolding linked
  linked_first before [] e l = absurd (not-suc-le-zero l)
  linked_first before (b ∷ bs) e l =
      eqb-true (previous b) before (both {a = names previous before b} {b = linked (names previous) b bs} e).0

  linked_gives : (before : ℕ) (bs : List ℕ) → linked (names previous) before bs ≡ true → (i : ℕ) → suc i < length bs →
      previous (get_or bs (suc i) 0) ≡ get_or bs i 0
  unfolding linked
  linked_gives before [] e i l = absurd (not-suc-le-zero l)
  linked_gives before (b ∷ bs) e zero l =
      linked_first b bs (both {a = names previous before b} {b = linked (names previous) b bs} e).1
      (le_of_suc-le-suc l)
  linked_gives before (b ∷ bs) e (suc i) l =
      linked_gives b bs (both {a = names previous before b} {b = linked (names previous) b bs} e).1 i
      (le_of_suc-le-suc l)

  linked_takes : (before : ℕ) (bs : List ℕ) → (1 ≤ length bs → previous (get_or bs 0 0) ≡ before) →
      ((i : ℕ) → suc i < length bs → previous (get_or bs (suc i) 0) ≡ get_or bs i 0) →
      linked (names previous) before bs ≡ true
  unfolding linked
  linked_takes before [] f h = refl
  linked_takes before (b ∷ bs) f h =
      join (eq-eqb (previous b) before (f (omega arith)))
      (linked_takes b bs (λ l. h 0 (omega arith)) (λ i l. h (suc i) (omega arith)))

-- ---- the rules

module _ (n : ℕ) (l : Links) where
  abbrev used : List ℕ
  used = used_chain n l

  abbrev free : List ℕ
  free = free_chain n l

  pub rules_give : chains_right n l ≡ true → ChainRules n l used free
  rules_give e =
      let r = right_gives n l e in
      let s : length used + length free ≡ n = once_length n used free r.used_in r.free_in r.once in
      record {
        used_chain = follow_ends l.next (suc n) l.first (omega arith);
        free_chain = follow_ends l.next (suc n) l.free (omega arith);
        used_inside = inside_gives n used r.used_in;
        free_inside = inside_gives n free r.free_in;
        once = once r.once;
        first_previous = linked_first l.previous 0 used r.named;
        predecessors = linked_gives l.previous 0 used r.named;
        ends_at = eqb-true (last_of 0 used) l.last r.ends;
      }
    where
      once : ((i : ℕ) → i < n → times (suc i) used + times (suc i) free ≡ 1) → (b : ℕ) → 1 ≤ b → b ≤ n →
          times b used + times b free ≡ 1
      once h zero low high = absurd (not-suc-le-zero low)
      once h (suc b) low high = h b high

  -- two chains that keep the rules have as many numbers as there are blocks
  pub rules_length : (us vs : List ℕ) → ChainRules n l us vs → length us + length vs ≡ n
  rules_length us vs r =
      once_length n us vs (inside_takes n us r.used_inside) (inside_takes n vs r.free_inside)
      (λ i h. r.once (suc i) (omega arith) h)

  -- no number is twice in the used chain
  pub rules_once : (us vs : List ℕ) → ChainRules n l us vs → (b : ℕ) → times b us ≤ 1
  rules_once us vs r b = go (in_file n b) refl
    where
      go : (t : Bool) → in_file n b ≡ t → times b us ≤ 1
      go true e = let p = in_file_lem n b e in omega (arith, r.once b p.0 p.1)
      go false e = omega (arith, outside n b us (inside_takes n us r.used_inside) e)

  -- they are the two chains that the rule speaks of
  module _ (us vs : List ℕ) (r : ChainRules n l us vs) where
    pub used_is : used ≡ us
    used_is = follow_is l.next (suc n) l.first us r.used_chain (omega (arith, rules_length us vs r))

    pub free_is : free ≡ vs
    free_is = follow_is l.next (suc n) l.free vs r.free_chain (omega (arith, rules_length us vs r))

    marked_as : (b : ℕ) → 1 ≤ b → b ≤ n → get_or (marks_of n us) (b - 1) 0 ≡ mark_of us b
    marked_as b low high =
        let e : suc (b - 1) ≡ b = omega arith in mark_at n us (b - 1) (omega arith) ∙ ap (mark_of us) e

    pub rules_take : chains_right n l ≡ true
    rules_take =
        right_takes n l (record {
          used_in = rw used_is (inside_takes n us r.used_inside);
          free_in = rw free_is (inside_takes n vs r.free_inside);
          once = λ i h. rw (used_is, free_is) (r.once (suc i) (omega arith) h);
          named = rw used_is (linked_takes l.previous 0 us r.first_previous r.predecessors);
          ends = rw used_is (eq-eqb (last_of 0 us) l.last r.ends_at);
        })

    -- block b's mark: 1 where the used chain has it, 2 where the free chain has it
    pub used_marked : (b : ℕ) → 1 ≤ b → b ≤ n → times b us ≡ 1 → get_or (marks_of n us) (b - 1) 0 ≡ used_mark
    used_marked b low high e = marked_as b low high ∙ rw e

    pub free_marked : (b : ℕ) → 1 ≤ b → b ≤ n → times b vs ≡ 1 → get_or (marks_of n us) (b - 1) 0 ≡ free_mark
    free_marked b low high e = let z : times b us ≡ 0 = omega (arith, r.once b low high) in marked_as b low high ∙ rw z

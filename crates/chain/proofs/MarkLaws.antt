-- Two chains followed with marks keep the chain rules exactly where each block may be taken and every block has a
-- mark then. A mark counts as 1 where it is set; with how often a chain has a block, each rule is a sum. Assumes
-- nothing.
use Prim.Native.Nat.{ℕ, zero, suc, ◌+◌, ◌-◌, ◌≤◌, ◌<◌}
use mathlib.Core.Path.{◌≡◌, refl, sym, ◌∙◌}
use mathlib.Core.Bool.{Bool, true, false, cond, not, ◌&&◌, false≢true}
use mathlib.Core.List.{List, [], ◌∷◌}
use native.Mathlib.Omega.{arith}
use native.Mathlib.Numerals.{one-add}
use native.Mathlib.Nat.{not-suc-le-zero, zero-add}
use lib.ListN.{length, get_or, set, replicate, length-set, length-replicate, get_or-replicate}
use lib.Seq.{get_or-set_same, get_or-set_other, ext_get_or}
use lib.Dec.{eqb, eqb-suc-zero}
use borrow.Author.Tests.{eqb-true, eqb-false, eq-eqb, ne_eqb, not-true}
use Rattle.words.proofs.Cases.{cond_same}
use Rattle.words.proofs.Conjunctions.{both, join}
use Rattle.words.specs.Each.{each}
use Rattle.std.specs.List.{list_any}
use Rattle.std.proofs.lemmas.List.Folds.{Any-from_list_any, list_any_at}
use Rattle.std.proofs.lemmas.Grind.{get_or_default_zero}
use Rattle.words.proofs.EachLaws.{each_gives, each_takes, each_fails}
use Rattle.blocks.specs.Shape.{in_file}
use Rattle.blocks.proofs.ShapeLaws.{in_file_lem, file_has}
use Rattle.chain.specs.Chain.{Links, every, times, every_block_once, linked, names, last_of, used_chain, free_chain}
use Rattle.chain.specs.Chain.{chains_right}
use Rattle.chain.specs.Marks.{marks_of, is_unmarked, has_mark, all_marked}
use Rattle.chain.specs.Following.{takes, takes_all, marked, any_two}
use Rattle.chain.proofs.ListLaws.{marks_length, mark_at}
use Rattle.chain.proofs.FollowLaws.{unmarked_gives}

pub bool_same : (a b : Bool) → (a ≡ true → b ≡ true) → (b ≡ true → a ≡ true) → a ≡ b
bool_same true b f g = sym (f refl)
bool_same false true f g = g refl
bool_same false false f g = refl

-- ---- the look for a block without a mark

module _ (m : List ℕ) where
  abbrev no_mark : ℕ → Bool
  no_mark x = eqb x 0

  -- every block has a mark where none without one is found
  pub none_unmarked : not (list_any no_mark m) ≡ all_marked m
  unfolding all_marked
  none_unmarked = go (list_any no_mark m) refl
    where
      go : (b : Bool) → list_any no_mark m ≡ b → not b ≡ each (has_mark m) (length m)
      go true e =
          let (i, x, l, here, none) = Any-from_list_any no_mark m e in
          sym (each_fails (has_mark m) (length m) i l (rw (← (get_or_default_zero m i x l), here, none)))
      go false e = sym (each_takes (has_mark m) (length m) (λ i l. one (eqb (get_or m i 0) 0) i l refl))
        where
          one : (b : Bool) (i : ℕ) → i < length m → eqb (get_or m i 0) 0 ≡ b → not b ≡ true
          one true i l f = absurd (false≢true (sym e ∙ list_any_at no_mark m i 0 l f))
          one false i l f = refl

-- ---- one mark

-- 1 where a mark is set, 0 where it is not
abbrev seen : ℕ → ℕ
seen x = cond (eqb x 0) 0 1

-- what a mark at block b does to the mark of block i + 1
module _ (m : List ℕ) (mark b i : ℕ) (low : 1 ≤ b) (h : i < length m) where
  set_same : b ≡ suc i → get_or (set m (b - 1) mark) i 0 ≡ mark
  set_same e = let q : b - 1 ≡ i = omega arith in rw q (get_or-set_same m i mark 0 h)

  set_other : (b ≡ suc i → ⊥) → get_or (set m (b - 1) mark) i 0 ≡ get_or m i 0
  set_other ne = get_or-set_other m (b - 1) i mark 0 (λ e. ne (omega arith))

pub marked_length : (mark : ℕ) (bs m : List ℕ) → length (marked mark bs m) ≡ length m
unfolding marked
marked_length mark [] m = refl
marked_length mark (b ∷ bs) m = marked_length mark bs (set m (b - 1) mark) ∙ length-set m (b - 1) mark

-- the mark of block i + 1 after a chain
marked_at : (mark : ℕ) (bs m : List ℕ) (n : ℕ) → every (in_file n) bs ≡ true → (i : ℕ) → i < length m
    → get_or (marked mark bs m) i 0 ≡ cond (eqb (times (suc i) bs) 0) (get_or m i 0) mark
unfolding every marked times
marked_at mark [] m n e i h = refl
marked_at mark (b ∷ bs) m n e i h =
    let q = both {a = in_file n b} {b = every (in_file n) bs} e in
    marked_at mark bs (set m (b - 1) mark) n q.1 i (rw length-set h)
    ∙ go (in_file_lem n b q.0).0 (eqb b (suc i)) refl
  where
    go : 1 ≤ b → (t : Bool) → eqb b (suc i) ≡ t
        → cond (eqb (times (suc i) bs) 0) (get_or (set m (b - 1) mark) i 0) mark ≡ cond
        (eqb (cond (eqb b (suc i)) 1 0 + times (suc i) bs) 0) (get_or m i 0) mark
    go low true r =
        rw (r, set_same m mark b i low h (eqb-true b (suc i) r), one-add, eqb-suc-zero)
        (cond_same (eqb (times (suc i) bs) 0) mark)
    go low false r = rw (r, set_other m mark b i low h (eqb-false b (suc i) r), zero-add)

-- what a mark adds, the chain's own count gave before it
shift : (m : List ℕ) (mark b i : ℕ) (bs : List ℕ) → 1 ≤ b → 0 < mark → i < length m → get_or m (b - 1) 0 ≡ 0
    → seen (get_or (set m (b - 1) mark) i 0) + times (suc i) bs ≡ seen (get_or m i 0) + times (suc i) (b ∷ bs)
unfolding times
shift m mark b i bs low pos h no_mark = go (eqb b (suc i)) refl
  where
    go : (t : Bool) → eqb b (suc i) ≡ t
        → seen (get_or (set m (b - 1) mark) i 0) + times (suc i) bs ≡ seen
        (get_or m i 0) + (cond (eqb b (suc i)) 1 0 + times (suc i) bs)
    go true r =
        let e : b ≡ suc i = eqb-true b (suc i) r in
        let q : b - 1 ≡ i = omega arith in
        let z : get_or m i 0 ≡ 0 = rw q at no_mark in
        rw (r, set_same m mark b i low h e, z, ne_eqb mark 0 (omega arith)) (omega arith)
    go false r = rw (r, set_other m mark b i low h (eqb-false b (suc i) r)) (omega arith)

seen_most : (x : ℕ) → seen x ≤ 1
seen_most x = go (eqb x 0)
  where
    go : (t : Bool) → cond t 0 1 ≤ 1
    go true = omega arith
    go false = omega arith

seen_none : (x : ℕ) → seen x ≤ 0 → x ≡ 0
seen_none zero h = refl
seen_none (suc x) h = absurd (not-suc-le-zero (rw eqb-suc-zero at h))

-- ---- one chain

-- no block of a chain has a mark, and none comes twice
abbrev Apart : List ℕ → List ℕ → Type 0
Apart m bs = (i : ℕ) → i < length m → seen (get_or m i 0) + times (suc i) bs ≤ 1

-- what it says of a chain that each of its blocks may be taken
record Through (test : ℕ → ℕ → Bool) (before : ℕ) (bs m : List ℕ) : Type 0 where
  within : every (in_file (length m)) bs ≡ true
  named : linked test before bs ≡ true
  apart : Apart m bs

module _ (test : ℕ → ℕ → Bool) (mark : ℕ) (pos : 0 < mark) where
  through : (before : ℕ) (bs m : List ℕ) → takes_all test mark before bs m ≡ true → Through test before bs m
  unfolding takes_all every linked times
  through before [] m e = record { within = refl; named = refl; apart = λ i h. omega (arith, seen_most (get_or m i 0)) }
  through before (b ∷ bs) m e =
      let q = both {a = takes test m before b} {b = takes_all test mark b bs (set m (b - 1) mark)} e in
      let p = both {a = is_unmarked m b} {b = test before b} q.0 in
      let f = unmarked_gives m b p.0 in
      let r = through b bs (set m (b - 1) mark) q.1 in
      record {
        within = join (file_has (length m) b f.low f.high) (rw length-set at r.within);
        named = join p.1 r.named;
        apart = λ i h. rw (← (shift m mark b i bs f.low pos h f.no_mark)) (r.apart i (rw length-set h));
      }

  goes : (before : ℕ) (bs m : List ℕ) → Through test before bs m → takes_all test mark before bs m ≡ true
  unfolding takes_all every linked times is_unmarked
  goes before [] m t = refl
  goes before (b ∷ bs) m t =
      let q = both {a = in_file (length m) b} {b = every (in_file (length m)) bs} t.within in
      let l = both {a = test before b} {b = linked test b bs} t.named in
      let r = in_file_lem (length m) b q.0 in
      let e : suc (b - 1) ≡ b = omega arith in
      let here = t.apart (b - 1) (omega arith) in
      let one : ◌≡◌ {A = ℕ} (cond (eqb b (suc (b - 1))) 1 0) 1 = rw (e, eq-eqb b b refl) in
      let no_mark : get_or m (b - 1) 0 ≡ 0 = seen_none (get_or m (b - 1) 0) (omega arith) in
      join
      (join (join q.0 (eq-eqb (get_or m (b - 1) 0) 0 no_mark)) l.0)
      (goes b bs (set m (b - 1) mark)
      (record {
        within = rw length-set q.1;
        named = l.1;
        apart =
            λ i h. let k : i < length m = rw length-set at h in rw (shift m mark b i bs r.0 pos k no_mark)
            (t.apart i k);
      }))

any_linked : (before : ℕ) (bs : List ℕ) → linked any_two before bs ≡ true
unfolding linked
any_linked before [] = refl
any_linked before (b ∷ bs) = any_linked b bs

-- ---- the marks that two chains leave at one block, by how often each has it: u times the used, f times the free chain

seen_used : (u : ℕ) → u ≤ 1 → seen (cond (eqb u 0) 0 1) ≡ u
seen_used zero h = refl
seen_used (suc zero) h = refl
seen_used (suc (suc u)) h = absurd (omega arith)

one_of : (u f : ℕ) → u + f ≤ 1 → (◌≡◌ {A = ℕ} (cond (eqb f 0) (cond (eqb u 0) 0 1) 2) 0 → ⊥) → u + f ≡ 1
one_of zero zero h ne = absurd (ne refl)
one_of zero (suc f) h ne = omega arith
one_of (suc u) f h ne = omega arith

mark_is : (u f : ℕ) → u + f ≡ 1 → ◌≡◌ {A = ℕ} (cond (eqb f 0) (cond (eqb u 0) 0 1) 2) (cond (eqb u 0) 2 1)
mark_is zero zero h = absurd (omega arith)
mark_is zero (suc f) h = rw eqb-suc-zero
mark_is (suc zero) zero h = refl
mark_is (suc zero) (suc f) h = absurd (omega arith)
mark_is (suc (suc u)) f h = absurd (omega arith)

mark_set : (u : ℕ) → not (eqb (cond (eqb u 0) 2 1) 0) ≡ true
mark_set u = go (eqb u 0)
  where
    go : (t : Bool) → not (eqb (cond t 2 1) 0) ≡ true
    go true = refl
    go false = refl

-- ---- both chains

module _ (n : ℕ) (l : Links) where
  abbrev used : List ℕ
  used = used_chain n l

  abbrev free : List ℕ
  free = free_chain n l

  abbrev first_marks : List ℕ
  first_marks = marked 1 used (replicate n 0)

  abbrev all_marks : List ℕ
  all_marks = marked 2 free first_marks

  -- the tests of the rule, apart
  pub record Right : Type 0 where
    pub used_in : every (in_file n) used ≡ true
    pub free_in : every (in_file n) free ≡ true
    pub once : (i : ℕ) → i < n → times (suc i) used + times (suc i) free ≡ 1
    pub named : linked (names l.previous) 0 used ≡ true
    pub ends : eqb (last_of 0 used) l.last ≡ true

  pub right_takes : Right → chains_right n l ≡ true
  unfolding chains_right every_block_once
  right_takes r =
      join
      (join
      (join (join r.used_in r.free_in) (each_takes (λ (i : ℕ). eqb (times (suc i) used + times (suc i) free) 1) n
      (λ i h. eq-eqb (times (suc i) used + times (suc i) free) 1 (r.once i h))))
      r.named)
      r.ends

  pub right_gives : chains_right n l ≡ true → Right
  unfolding chains_right every_block_once
  right_gives e =
      let q₄ = both e in
      let q₃ = both q₄.0 in
      let q₂ = both q₃.0 in
      let q₁ = both q₂.0 in
      record {
        used_in = q₁.0;
        free_in = q₁.1;
        once =
            λ i h. eqb-true (times (suc i) used + times (suc i) free) 1
            (each_gives (λ (j : ℕ). eqb (times (suc j) used + times (suc j) free) 1) n q₂.1 i h);
        named = q₃.1;
        ends = q₄.1;
      }

  first_length : length first_marks ≡ n
  first_length = marked_length 1 used (replicate n 0) ∙ length-replicate n 0

  all_length : length all_marks ≡ n
  all_length = marked_length 2 free first_marks ∙ first_length

  first_mark : every (in_file n) used ≡ true → (i : ℕ) → i < n →
      get_or first_marks i 0 ≡ cond (eqb (times (suc i) used) 0) 0 1
  first_mark e i h =
      rw (marked_at 1 used (replicate n 0) n e i (rw length-replicate h), get_or-replicate {A = ℕ} n i 0 0 h)

  both_mark : every (in_file n) used ≡ true → every (in_file n) free ≡ true → (i : ℕ) → i < n
      → get_or all_marks i 0 ≡ cond (eqb (times (suc i) free) 0) (cond (eqb (times (suc i) used) 0) 0 1) 2
  both_mark e f i h = rw (marked_at 2 free first_marks n f i (rw first_length h), first_mark e i h)

  -- the tests that following both chains makes
  abbrev used_taken : Bool
  used_taken = takes_all (names l.previous) 1 0 used (replicate n 0)

  abbrev free_taken : Bool
  free_taken = takes_all any_two 2 0 free first_marks

  abbrev tests : Bool
  tests = used_taken && (eqb (last_of 0 used) l.last && (free_taken && all_marked all_marks))

  right_tests : Right → tests ≡ true
  unfolding all_marked
  right_tests r =
      join
      (goes (names l.previous) 1 (omega arith) 0 used (replicate n 0) (record {
        within = rw length-replicate r.used_in;
        named = r.named;
        apart =
            λ i h. let k : i < n = rw length-replicate at h in rw (get_or-replicate {A = ℕ} n i 0 0 k)
            (omega (arith, r.once i k));
      }))
      (join r.ends
      (join
      (goes any_two 2 (omega arith) 0 free first_marks (record {
        within = rw first_length r.free_in;
        named = any_linked 0 free;
        apart =
            λ i h. let k : i < n = rw first_length at
            h in rw (first_mark r.used_in i k, seen_used (times (suc i) used) (omega (arith, r.once i k)))
            (omega (arith, r.once i k));
      }))
      (each_takes (has_mark all_marks) (length all_marks) (λ i h.
      let k : i < n = rw all_length at h in
      rw (both_mark r.used_in r.free_in i k, mark_is (times (suc i) used) (times (suc i) free) (r.once i k))
      (mark_set (times (suc i) used))))))

  tests_right : tests ≡ true → Right
  unfolding all_marked
  tests_right e =
      let q₁ = both {a = used_taken} {b = eqb (last_of 0 used) l.last && (free_taken && all_marked all_marks)} e in
      let q₂ = both {a = eqb (last_of 0 used) l.last} {b = free_taken && all_marked all_marks} q₁.1 in
      let q₃ = both {a = free_taken} {b = all_marked all_marks} q₂.1 in
      let t₁ = through (names l.previous) 1 (omega arith) 0 used (replicate n 0) q₁.0 in
      let t₂ = through any_two 2 (omega arith) 0 free first_marks q₃.0 in
      let ui : every (in_file n) used ≡ true = rw length-replicate at t₁.within in
      let fi : every (in_file n) free ≡ true = rw first_length at t₂.within in
      record {
        used_in = ui;
        free_in = fi;
        once = λ i h.
            let u = times (suc i) used in
            let a₁ : seen 0 + u ≤ 1 = rw (get_or-replicate {A = ℕ} n i 0 0 h) at (t₁.apart i (rw length-replicate h)) in
            let a₂ : u + times (suc i) free ≤ 1 = rw (first_mark ui i h, seen_used u (omega arith)) at
            (t₂.apart i (rw first_length h)) in
            let nz = each_gives (has_mark all_marks) (length all_marks) q₃.1 i (rw all_length h) in
            one_of u (times (suc i) free) a₂ (λ y. eqb-false (get_or all_marks i 0) 0 (not-true _ nz)
            (both_mark ui fi i h ∙ y));
        named = t₁.named;
        ends = q₂.0;
      }

  -- they are the chain rules
  pub rule_is : chains_right n l ≡ tests
  rule_is = bool_same (chains_right n l) tests (λ e. right_tests (right_gives e)) (λ e. right_takes (tests_right e))

  -- the marks that are left where the rules are kept
  pub marks_are : chains_right n l ≡ true → all_marks ≡ marks_of n used
  marks_are e =
      let r = right_gives e in
      ext_get_or 0 all_marks (marks_of n used) (all_length ∙ sym (marks_length n used)) (λ i h.
      let k : i < n = rw all_length at h in
      both_mark r.used_in r.free_in i k
      ∙ mark_is (times (suc i) used) (times (suc i) free) (r.once i k)
      ∙ sym (mark_at n used i k))

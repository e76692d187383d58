-- Two ranges of as many bytes compare as their numbers do, high byte first. Assumes nothing.
use Prim.Native.Nat.{ℕ, zero, suc, ◌+◌, ◌-◌, ◌≤◌, ◌<◌}
use mathlib.Core.Path.{◌≡◌, refl, sym, ap, ◌∙◌}
use mathlib.Core.List.{List, [], ◌∷◌, ◌++◌, append_assoc, append-nil}
use mathlib.Core.Logic.{⊎_elim}
use native.Mathlib.Nat.{le_antisymm}
use native.Mathlib.Omega.{arith}
use lib.ListN.{length, drop, length-drop}
use lib.Seq.{take-suc, get_or-drop}
use borrow.Author.Tests.{lt-ltb, le-ltb, eq-eqb, ne_eqb}
use Rattle.std.specs.Ordering.{nat_cmp, ordering_then}
use Rattle.words.specs.Numbers.{byte, Bytes, big, digits}
use Rattle.words.specs.Order.{number_order, NotLater, order, range}
use Rattle.std.specs.declared.cmp.Ordering.TheVariants.{Less, Equal, Greater}
use Rattle.words.proofs.Cases.{compared, lt_or_ge}
use Rattle.words.proofs.DigitLaws.{digits_big}
use Rattle.words.proofs.OrderLaws.{less≢same, more≢less, more≢same, not_later_cases, order_refl}
use Rattle.words.proofs.OrderLaws.{order_rest, order_turned, turned}
use Rattle.words.proofs.Ranges.{range_join, rest}

-- what stands behind equal bytes decides
order_behind : (p a b : List ℕ) → order (p ++ a) (p ++ b) ≡ order a b
order_behind [] a b = refl
order_behind (x ∷ p) a b = order_rest x (p ++ a) (p ++ b) ∙ order_behind p a b

-- one byte more of a range
range_more : (s : List ℕ) (at w : ℕ) → at + suc w ≤ length s →
    range s at (suc w) ≡ range s at w ++ (byte s (at + w) ∷ [])
range_more s at w l =
    take-suc (drop at s) w 0 (rw (length-drop at s) (omega arith))
    ∙ ap (λ (b : ℕ). range s at w ++ (b ∷ [])) (get_or-drop at s w 0)

module _ (s t : List ℕ) (at to : ℕ) (bytes : Bytes s) (others : Bytes t) where
  -- the same number is of the same bytes
  big_equal : (w : ℕ) → at + w ≤ length s → to + w ≤ length t → big s at w ≡ big t to w → range s at w ≡ range t to w
  big_equal w k l e = sym (digits_big s at w bytes k) ∙ ap (digits w) e ∙ digits_big t to w others l

  -- of the lesser number the bytes are less, whatever stands behind them
  big_less : (w : ℕ) → at + w ≤ length s → to + w ≤ length t → big s at w < big t to w → (xs ys : List ℕ) →
      order (range s at w ++ xs) (range t to w ++ ys) ≡ Less
  unfolding big order
  big_less zero k l h xs ys = absurd (omega arith)
  big_less (suc w) k l h xs ys =
      let x = byte s (at + w) in
      let y = byte t (to + w) in
      let a = bytes (at + w) in
      let b = others (to + w) in
      rw (
        range_more s at w k,
        range_more t to w l,
        append_assoc (range s at w) (x ∷ []) xs,
        append_assoc (range t to w) (y ∷ []) ys,
      )
      (⊎_elim
      (λ (m : big s at w < big t to w). big_less w (omega arith) (omega arith) m (x ∷ xs) (y ∷ ys))
      (λ (m : big t to w ≤ big s at w).
      let e : big s at w ≡ big t to w = omega (arith, h, m, a, b) in
      let below : x < y = omega (arith, h, e) in
      rw (big_equal w (omega arith) (omega arith) e)
      (order_behind (range t to w) (x ∷ xs) (y ∷ ys) ∙ rw (lt-ltb x y below)))
      (lt_or_ge (big s at w) (big t to w)))

-- ---- as many bytes, and nothing behind them

number_less : (m n : ℕ) → number_order m n ≡ Less → m < n
unfolding number_order
number_less m n h =
    compared m n (λ l. l)
    (λ e. absurd (less≢same (sym h ∙ rw (e, le-ltb n n (omega arith)))))
    (λ l. absurd (more≢less (sym (rw (le-ltb m n (omega arith), lt-ltb n m l)) ∙ h)))

number_same : (m n : ℕ) → number_order m n ≡ Equal → m ≡ n
unfolding number_order
number_same m n h =
    compared m n
    (λ l. absurd (less≢same (sym (rw (lt-ltb m n l)) ∙ h)))
    (λ e. e)
    (λ l. absurd (more≢same (sym (rw (le-ltb m n (omega arith), lt-ltb n m l)) ∙ h)))

-- of the lesser number the bytes come earlier
pub number_earlier : (s t : List ℕ) (at to w : ℕ) → Bytes s → Bytes t → at + w ≤ length s → to + w ≤ length t →
    big s at w < big t to w → order (range s at w) (range t to w) ≡ Less
number_earlier s t at to w bytes others k l h =
    sym (rw (append-nil (range s at w), append-nil (range t to w)))
    ∙ big_less s t at to bytes others w k l h [] []

module _ (s t : List ℕ) (at to w : ℕ) (bytes : Bytes s) (others : Bytes t) (k : at + w ≤ length s)
    (l : to + w ≤ length t) where
  -- two ranges of as many bytes are ordered as their numbers
  pub big_order : order (range s at w) (range t to w) ≡ number_order (big s at w) (big t to w)
  unfolding number_order turned
  big_order =
      let m = big s at w in
      let n = big t to w in
      compared m n
      (λ h. rw (lt-ltb m n h) (number_earlier s t at to w bytes others k l h))
      (λ e. rw (
        big_equal s t at to bytes others w k l e,
        e,
        le-ltb n n (omega arith),
      ) (order_refl (range t to w)))
      (λ h. rw (le-ltb m n (omega arith), lt-ltb n m h)
      (order_turned (range t to w) (range s at w) ∙ ap turned (number_earlier t s to at w others bytes l k h)))

  -- the bytes that come earlier are of the lesser number
  pub earlier_number : order (range s at w) (range t to w) ≡ Less → big s at w < big t to w
  earlier_number h = number_less (big s at w) (big t to w) (sym big_order ∙ h)

  -- the same bytes are of the same number
  pub same_number : range s at w ≡ range t to w → big s at w ≡ big t to w
  same_number e =
      number_same (big s at w) (big t to w)
      (sym big_order ∙ rw e (order_refl (range t to w)))

  -- bytes that are not later are of a number that is not greater
  pub not_later_number : NotLater (range s at w) (range t to w) → big s at w ≤ big t to w
  not_later_number h =
      not_later_cases (range s at w) (range t to w) h (λ o. let m = earlier_number o in omega arith)
      (λ e. let m = same_number e in omega arith)

-- ---- eight bytes of what is left of two ranges

module _ (a b : List ℕ) (p q n i : ℕ) (h : 8 ≤ n - i) (j : p + n ≤ length a) (k : q + n ≤ length b) (bytes : Bytes a)
    (others : Bytes b) where
  eight_first : (s : List ℕ) (at : ℕ) → rest s at n i ≡ range s (at + i) 8 ++ rest s at n (i + 8)
  eight_first s at =
      let e : n - i ≡ 8 + (n - (i + 8)) = omega arith in
      let f : at + i + 8 ≡ at + (i + 8) = omega arith in
      ap (range s (at + i)) e ∙ range_join s (at + i) 8 (n - (i + 8))
      ∙ ap (λ (x : ℕ). range s (at + i) 8 ++ range s x (n - (i + 8))) f

  pub eight_less : big a (p + i) 8 < big b (q + i) 8 → order (rest a p n i) (rest b q n i) ≡ Less
  eight_less l =
      rw (eight_first a p, eight_first b q)
      (big_less a b (p + i) (q + i) bytes others 8 (omega arith) (omega arith) l (rest a p n (i + 8))
      (rest b q n (i + 8)))

  pub eight_more : big b (q + i) 8 < big a (p + i) 8 → order (rest a p n i) (rest b q n i) ≡ Greater
  unfolding turned
  eight_more l =
      rw (eight_first a p, eight_first b q)
      (order_turned (range b (q + i) 8 ++ rest b q n (i + 8)) (range a (p + i) 8 ++ rest a p n (i + 8))
      ∙ ap turned (big_less b a (q + i) (p + i) others bytes 8 (omega arith) (omega arith) l (rest b q n (i + 8))
      (rest a p n (i + 8))))

  pub eight_same : big b (q + i) 8 ≤ big a (p + i) 8 → big a (p + i) 8 ≤ big b (q + i) 8 →
      order (rest a p n i) (rest b q n i) ≡ order (rest a p n (i + 8)) (rest b q n (i + 8))
  eight_same l m =
      rw (eight_first a p, eight_first b q)
      (rw (big_equal a b (p + i) (q + i) bytes others 8 (omega arith) (omega arith) (le_antisymm m l))
      (order_behind (range b (q + i) 8) (rest a p n (i + 8)) (rest b q n (i + 8))))

  -- they decide, and where they are the same what stands behind them does
  pub eight_then : order (rest a p n i) (rest b q n i)
      ≡ ordering_then (nat_cmp (big a (p + i) 8) (big b (q + i) 8)) (order (rest a p n (i + 8)) (rest b q n (i + 8)))
  eight_then =
      let u = big a (p + i) 8 in
      let v = big b (q + i) 8 in
      compared u v
      (λ l. rw (lt-ltb u v l) (eight_less l))
      (λ e. rw (le-ltb u v (omega arith), eq-eqb u v e) (eight_same (omega arith) (omega arith)))
      (λ l. rw (le-ltb u v (omega arith), ne_eqb u v (omega arith)) (eight_more l))

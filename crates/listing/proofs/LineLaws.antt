-- The cells of a line one after the other: each is printable, and a line is shorter than its buffer. Assumes nothing.
use Prim.Native.Nat.{ℕ, zero, suc, ◌+◌, ◌-◌, ◌*◌, ◌≤◌}
use mathlib.Core.Path.{◌≡◌, sym, ap, ◌∙◌, subst}
use mathlib.Core.List.{List, [], ◌∷◌, ◌++◌, append-nil}
use native.Mathlib.Omega.{arith}
use lib.Ieee.{binary64, to_bits}
use lib.ListN.{length, drop, length-append, length-take}
use borrow.Author.Tests.{le-leb}
use Rattle.words.specs.Order.{range}
use Rattle.header.specs.Numbers.{numbers_of}
use Rattle.header.specs.Answers.{header_answer}
use Rattle.header.specs.Rules.{Accepted}
use Rattle.header.specs.declared.Header.{Header}
use Rattle.header.specs.declared.refusal.Refusal.{Refusal}
use Rattle.header.specs.Refusals.{number}
use Rattle.std.specs.Prelude.{Result, Ok, Err}
use Rattle.header.proofs.AcceptedLaws.{read_numbers, first_kept, first_refused, first_holds}
use Rattle.cell.specs.Values.{Cell, content_of, answer_of, part_of, value_part}
use Rattle.cell.specs.Reading.{block_cell}
use Rattle.cell.specs.declared.value.Value.{Value}
use Rattle.cell.specs.declared.value.Value.TheVariants as Val
use Rattle.cell.proofs.PlaceLaws.{ends, stands_in, inside_in, most_in}
use Rattle.cell.proofs.Finite.{stands_finite}
use Rattle.buffer.specs.Pieces.{Room, Wrote}
use Rattle.buffer.specs.Text.{decimal}
use Rattle.buffer.proofs.PieceLaws.{wrote_nothing}
use Rattle.buffer.proofs.TextLaws.{decimal_most, signed_most, hex_long}
use Rattle.listing.specs.Listing.{bar, dot, newline, cell_text, cells_text, record_text, line_cells, line_of}
use Rattle.listing.specs.Steps.{Printable, PrintableCell, value_text, barred_text}

-- ---- a cell of a table

-- what is read can be printed
pub cell_printable : (t : List ℕ) (h : Header) → Accepted t h → (b p f : ℕ) (c : Cell) → c ≡ block_cell t h b p f →
    PrintableCell t c
unfolding PrintableCell Printable part_of value_part
cell_printable t h a b p f (Err r) e = tt
cell_printable t h a b p f (Ok Val.Blank) e = tt
cell_printable t h a b p f (Ok (Val.Short z)) e = tt
cell_printable t h a b p f (Ok (Val.Long z)) e = tt
cell_printable t h a b p f (Ok (Val.Date d)) e = tt
cell_printable t h a b p f (Ok (Val.Number x)) e =
    stands_finite x t h b p f (stands_in t h a b p f (Val.Number x) (sym e))
cell_printable t h a b p f (Ok (Val.Logical l)) e = tt
cell_printable t h a b p f (Ok (Val.Text start len)) e =
    subst (λ (c : Cell). ends c ≤ length t) (sym e) (inside_in t h a b p f)

-- ---- how long it is

range_most : (s : List ℕ) (at n : ℕ) → length (range s at n) ≤ n
range_most s at n = let e = length-take n (drop at s) in omega (arith, e)

value_most : (t : List ℕ) (v : Value) → (value_part v).start + (value_part v).len ≤ length t → (value_part v).len ≤ 255
    → length (value_text t v) ≤ 255
unfolding cell_text content_of value_part
value_most t Val.Blank i m = omega arith
value_most t (Val.Short z) i m = omega (arith, signed_most z)
value_most t (Val.Long z) i m = omega (arith, signed_most z)
value_most t (Val.Date d) i m = omega (arith, decimal_most d)
value_most t (Val.Number x) i m = let e = hex_long (to_bits binary64 x) in omega (arith, e)
value_most t (Val.Logical l) i m = omega arith
value_most t (Val.Text start len) i m =
    rw (le-leb (start + len) (length t) i) (omega (arith, range_most t start len, m))

cell_most : (t : List ℕ) (h : Header) → Accepted t h → (b p f : ℕ) →
    length (cell_text (answer_of t (block_cell t h b p f))) ≤ 255
unfolding answer_of part_of cell_text
cell_most t h a b p f = go (block_cell t h b p f) (inside_in t h a b p f) (most_in t h a b p f)
  where
    go : (c : Cell) → ends c ≤ length t → (part_of c).len ≤ 255 → length (cell_text (answer_of t c)) ≤ 255
    go (Ok v) i m = value_most t v i m
    go (Err r) i m = omega (arith, decimal_most (number r))

-- ---- the cells of a line

module _ (t : List ℕ) (h : Header) (b p : ℕ) where
  -- none yet
  pub no_cells : (s : List ℕ) (i : ℕ) → Wrote s i (cells_text t h b p 0) s i
  unfolding cells_text
  no_cells s i = wrote_nothing s i

  -- one more
  behind : (n k : ℕ) (c : Cell) → k ≡ suc n → c ≡ block_cell t h b p k →
      cells_text t h b p n ++ barred_text t c ≡ cells_text t h b p k
  unfolding cells_text
  behind n k c e q = rw (q, e)

  pub cells_step : (k : ℕ) (c : Cell) → 1 ≤ k → c ≡ block_cell t h b p k →
      cells_text t h b p (k - 1) ++ barred_text t c ≡ cells_text t h b p k
  cells_step k c l e = behind (k - 1) k c (omega arith) e

  grown : (n : ℕ)
      → length (cells_text t h b p (suc n)) ≡ length (cells_text t h b p n) + suc
      (length (cell_text (answer_of t (block_cell t h b p (suc n)))))
  unfolding cells_text
  grown n = length-append (cells_text t h b p n) (bar ∷ cell_text (answer_of t (block_cell t h b p (suc n))))

  cells_grow : (d n : ℕ) → length (cells_text t h b p n) ≤ length (cells_text t h b p (d + n))
  cells_grow zero n = let e : 0 + n ≡ n = omega arith in rw e (omega arith)
  cells_grow (suc d) n =
      let e : suc d + n ≡ suc (d + n) = omega arith in
      let h = cells_grow d n in
      let g = grown (d + n) in
      rw e (omega (arith, h, g))

  -- room for all of them is room for the first few
  pub room_few : {s : List ℕ} {i : ℕ} (n m : ℕ) → n ≤ m → Room s i (cells_text t h b p m) →
      Room s i (cells_text t h b p n)
  room_few {s} {i} n m l r =
      let e : m - n + n ≡ m = omega arith in
      let h =
      subst (λ (k : ℕ). length (cells_text t h b p n) ≤ length (cells_text t h b p k)) e (cells_grow (m - n) n) in
      record { fits = omega (arith, h, r.fits) }

  pub cells_most : Accepted t h → (n : ℕ) → length (cells_text t h b p n) ≤ 256 * n
  unfolding cells_text
  cells_most a zero = omega arith
  cells_most a (suc n) =
      let g = length-append (cells_text t h b p n) (bar ∷ cell_text (answer_of t (block_cell t h b p (suc n)))) in
      omega (arith, cells_most a n, g, cell_most t h a b p (suc n))

-- the cells of a refused table
abbrev none_of : Refusal → List ℕ
none_of r = []

module _ (t : List ℕ) (b p : ℕ) where
  -- of a header that was read as r: the line of a refused table has no cells, that of an accepted one all of them
  module _ (r : Result Header Refusal) (read : r ≡ header_answer t) where
    pub line_bare : {x : Refusal} → r ≡ Err x → decimal b ++ dot ∷ [] ++ decimal p ++ newline ∷ [] ≡ line_of t b p
    unfolding line_of line_cells
    line_bare e =
        let none = first_refused t r read none_of (record_text t (numbers_of t) b p) e in
        rw none (ap (λ (x : List ℕ). x ++ newline ∷ []) (sym (append-nil (decimal b ++ dot ∷ [] ++ decimal p))))

    pub line_full : {h : Header} → r ≡ Ok h
        → decimal b ++ dot ∷ [] ++ decimal p ++ record_text t h b p ++ newline ∷ [] ≡ line_of t b p
    unfolding line_of line_cells
    line_full e =
        let all = first_kept t r read none_of (record_text t (numbers_of t) b p) e in
        let same = ap (λ (h : Header). record_text t h b p) (read_numbers t r read e) ∙ sym all in
        ap (λ (x : List ℕ). decimal b ++ dot ∷ [] ++ decimal p ++ x ++ newline ∷ []) same

  pub front_most : length (decimal b ++ dot ∷ [] ++ decimal p) ≤ 41
  front_most =
      let x = length-append (decimal b) (dot ∷ []) in
      let y = length-append (decimal b ++ dot ∷ []) (decimal p) in
      omega (arith, x, y, decimal_most b, decimal_most p)

  -- a line fits into its buffer
  line_cells_lem : length (line_cells t b p) ≤ 65280
  unfolding line_cells
  line_cells_lem =
      first_holds t none_of (record_text t (numbers_of t) b p) (λ (s : List ℕ). length s ≤ 65280)
      (λ n l. omega arith)
      (λ a. omega (arith, cells_most t (numbers_of t) b p a (numbers_of t).fields, a.fields_most))

  pub line_most : length (line_of t b p) ≤ 65536
  unfolding line_of
  line_most =
      let f = front_most in
      let x = length-append (decimal b ++ dot ∷ [] ++ decimal p) (line_cells t b p) in
      let y = length-append (decimal b ++ dot ∷ [] ++ decimal p ++ line_cells t b p) (newline ∷ []) in
      omega (arith, f, x, y, line_cells_lem)

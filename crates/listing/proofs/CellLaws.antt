-- The text of a cell, case by case; what a cell of a table gives for printing it, and how long it is. Assumes nothing.
use Prim.Native.Nat.{ℕ, ◌+◌, ◌≤◌}
use mathlib.Core.Path.{◌≡◌, subst}
use mathlib.Core.Bool.{Bool, true}
use mathlib.Core.List.{List, [], ◌∷◌, ◌++◌}
use lib.IntN.{ℤ}
use lib.Ieee.{Float, binary64, to_bits}
use lib.Ieee.Scale.{finite}
use lib.ListN.{length}
use borrow.Author.Tests.{le-leb}
use Rattle.words.specs.Order.{range}
use Rattle.cell.specs.Values.{Cell, content_of, answer_of}
use Rattle.cell.specs.declared.value.Value.{Value}
use Rattle.cell.specs.declared.value.Value.TheVariants as Val
use Rattle.header.specs.Refusals.{number}
use Rattle.header.specs.declared.refusal.Refusal.{Refusal}
use Rattle.std.specs.Prelude.{Ok, Err}
use Rattle.buffer.specs.Text.{decimal, signed_text, hex_text}
use Rattle.listing.specs.Listing.{bang, letter, cell_text}
use Rattle.listing.specs.Steps.{Printable, PrintableCell, value_text}

-- ---- case by case

module _ (t : List ℕ) (v : Value) where
  pub blank_text : v ≡ Val.Blank → [] ≡ value_text t v
  unfolding cell_text content_of
  blank_text e = rw e

  pub short_text : (z : ℤ) (piece : List ℕ) → v ≡ Val.Short z → piece ≡ signed_text z → piece ≡ value_text t v
  unfolding cell_text content_of
  short_text z piece e l = rw e l

  pub long_text : (z : ℤ) (piece : List ℕ) → v ≡ Val.Long z → piece ≡ signed_text z → piece ≡ value_text t v
  unfolding cell_text content_of
  long_text z piece e l = rw e l

  pub date_text : (d : ℕ) → v ≡ Val.Date d → decimal d ≡ value_text t v
  unfolding cell_text content_of
  date_text d e = rw e

  pub number_text : (x : Float) → v ≡ Val.Number x → hex_text (to_bits binary64 x) ≡ value_text t v
  unfolding cell_text content_of
  number_text x e = rw e

  pub logical_text : (b : Bool) (n : ℕ) → v ≡ Val.Logical b → n ≡ letter b → n ∷ [] ≡ value_text t v
  unfolding cell_text content_of
  logical_text b n e l = rw (e, l)

  pub part_text : (start len : ℕ) → v ≡ Val.Text start len → start + len ≤ length t
      → range t start len ≡ value_text t v
  unfolding cell_text content_of
  part_text start len e l = rw (e, le-leb (start + len) (length t) l)

-- ---- what a printable value gives

module _ (t : List ℕ) (v : Value) where
  pub number_finite : (x : Float) → v ≡ Val.Number x → Printable t v → finite x ≡ true
  unfolding Printable
  number_finite x e p = subst (Printable t) e p

  pub part_inside : (start len : ℕ) → v ≡ Val.Text start len → Printable t v → start + len ≤ length t
  unfolding Printable
  part_inside start len e p = subst (Printable t) e p

-- ---- a cell

module _ (t : List ℕ) (c : Cell) where
  pub value_text_lem : (v : Value) → c ≡ Ok v → value_text t v ≡ cell_text (answer_of t c)
  unfolding answer_of
  value_text_lem v e = rw e

  pub refused_text_lem : (r : Refusal) (n : ℕ) → c ≡ Err r → n ≡ number r →
      bang ∷ [] ++ decimal n ≡ cell_text (answer_of t c)
  unfolding answer_of cell_text
  refused_text_lem r n e l = rw (e, l)

  pub value_printable : (v : Value) → c ≡ Ok v → PrintableCell t c → Printable t v
  unfolding PrintableCell
  value_printable v e p = subst (PrintableCell t) e p

-- What a cell is, as a number; a field's kind has the same numbers. Definitions only.
use Rattle.std.specs.Prelude.{ℕ}

-- a cell that is refused
abbrev pub refused : ℕ
refused = 0

abbrev pub blank : ℕ
blank = 1

abbrev pub short : ℕ
short = 2

abbrev pub long : ℕ
long = 3

abbrev pub date : ℕ
date = 4

-- a number or a currency
abbrev pub number : ℕ
number = 5

abbrev pub logical : ℕ
logical = 6

abbrev pub text : ℕ
text = 7

-- a field's kind only
abbrev pub blob : ℕ
blob = 8

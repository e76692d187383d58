-- The listing of a table: `refused N`, or one head line and a line for each record in chain order. Definitions only.
use Rattle.std.specs.Prelude.{ℕ, zero, suc, Bool, cond, List, [], ◌∷◌, ◌++◌, ltb, length, Err}
use Rattle.std.specs.Float.{binary64}
use Rattle.std.specs.Float.Ieee.{to_bits}
use Rattle.header.specs.Refusals.{Verdict}
use Rattle.header.specs.Refusals
use Rattle.header.specs.declared.refusal.Refusal.{Refusal}
use Rattle.header.specs.declared.refusal.Refusal.TheVariants.{ShortBuffer}
use Rattle.header.specs.Header.{most_blocks}
use Rattle.header.specs.Numbers.{numbers_of}
use Rattle.header.specs.Answers.{unless_refused, header_first}
use Rattle.header.specs.declared.Header.{Header}
use Rattle.cell.specs.Values.{Content, nothing, blank, short, long, date, number, logical, text}
use Rattle.cell.specs.Values.{answer_of}
use Rattle.cell.specs.Reading.{block_cell}
use Rattle.table.specs.Records.{Position, records_of}
use Rattle.table.specs.Table.{table_answer, table_refusals}
use Rattle.buffer.specs.Text.{decimal, signed_text, hex_text}

-- ---- ASCII: bar, exclamation mark, dot, end of line; T and F; `fields `, ` key `, ` records `, `refused `

abbrev pub bar : ℕ
bar = 124

abbrev pub bang : ℕ
bang = 33

abbrev pub dot : ℕ
dot = 46

abbrev pub newline : ℕ
newline = 10

abbrev pub letter : Bool → ℕ
letter b = cond b 84 70

abbrev pub fields_word : List ℕ
fields_word = 102 ∷ 105 ∷ 101 ∷ 108 ∷ 100 ∷ 115 ∷ 32 ∷ []

abbrev pub key_word : List ℕ
key_word = 32 ∷ 107 ∷ 101 ∷ 121 ∷ 32 ∷ []

abbrev pub records_word : List ℕ
records_word = 32 ∷ 114 ∷ 101 ∷ 99 ∷ 111 ∷ 114 ∷ 100 ∷ 115 ∷ 32 ∷ []

abbrev pub refused_word : List ℕ
refused_word = 114 ∷ 101 ∷ 102 ∷ 117 ∷ 115 ∷ 101 ∷ 100 ∷ 32 ∷ []

-- ---- a cell

-- a cell as document 01's number and value: no value is a refusal, an exclamation mark and its number; blank is
-- nothing, a number the 16 hex digits of the double, a date its day number, a logical T or F, a text its bytes
unfoldable pub cell_text : ℕ × Content → List ℕ
cell_text (refusal, nothing) = bang ∷ decimal refusal
cell_text (refusal, blank) = []
cell_text (refusal, short z) = signed_text z
cell_text (refusal, long z) = signed_text z
cell_text (refusal, date d) = decimal d
cell_text (refusal, number x) = hex_text (to_bits binary64 x)
cell_text (refusal, logical b) = letter b ∷ []
cell_text (refusal, text bytes) = bytes

-- ---- a record's line

-- the first n cells of the record at a block and a place, each after a bar
unfoldable pub cells_text : List ℕ → Header → ℕ → ℕ → ℕ → List ℕ
cells_text t h b p zero = []
cells_text t h b p (suc n) = cells_text t h b p n ++ bar ∷ cell_text (answer_of t (block_cell t h b p (suc n)))

-- every cell of it
abbrev pub record_text : List ℕ → Header → ℕ → ℕ → List ℕ
record_text t h b p = cells_text t h b p h.fields

-- the cells of a line: a table that breaks one of 1 to 7 has none
unfoldable pub line_cells : List ℕ → ℕ → ℕ → List ℕ
line_cells t b p = header_first t (λ (refusal : Refusal). []) (record_text t (numbers_of t) b p)

-- block.place, then each cell
unfoldable pub line_of : List ℕ → ℕ → ℕ → List ℕ
line_of t b p = decimal b ++ dot ∷ [] ++ decimal p ++ line_cells t b p ++ newline ∷ []

-- the lines of some records
unfoldable pub lines_of : List ℕ → List Position → List ℕ
lines_of t [] = []
lines_of t (p ∷ ps) = line_of t p.block p.place ++ lines_of t ps

-- ---- the whole

-- the longest table that is listed
abbrev pub most_bytes : ℕ
most_bytes = 65536

-- 14 for a longer one, before all else; then what the table check answers with marks enough
unfoldable pub list_answer : List ℕ → Verdict
list_answer t = cond (ltb most_bytes (length t)) (Err ShortBuffer) (table_answer t most_blocks)

-- its refusals: 14, then the table check's
unfoldable pub list_refusals : List Refusal
list_refusals = ShortBuffer ∷ table_refusals

-- the head line
unfoldable pub head_text : ℕ → ℕ → ℕ → List ℕ
head_text fields keys records =
    fields_word ++ decimal fields ++ key_word ++ decimal keys ++ records_word ++ decimal records ++ newline ∷ []

-- the line of a refusal
unfoldable pub refused_text : Refusal → List ℕ
refused_text refusal = refused_word ++ decimal (Refusals.number refusal) ++ newline ∷ []

-- the first line
unfoldable pub head_of : List ℕ → List ℕ
head_of t =
    unless_refused (list_answer t) refused_text
    (head_text (numbers_of t).fields (numbers_of t).key_fields (numbers_of t).records)

-- the records that are listed: none of a refused table
unfoldable pub listed : List ℕ → List Position
listed t = unless_refused (list_answer t) (λ (refusal : Refusal). []) (records_of t (numbers_of t))

-- how many they are
unfoldable pub listed_count : List ℕ → ℕ
listed_count t = unless_refused (list_answer t) (λ (refusal : Refusal). 0) (numbers_of t).records

-- what is printed of any bytes
unfoldable pub listing_of : List ℕ → List ℕ
listing_of t = head_of t ++ lines_of t (listed t)

-- Which refusals the table check has: those of 1 to 7, or one that stands at a rule behind them. Assumes nothing.
use Prim.Native.Nat.{ℕ}
use mathlib.Core.Path.{◌≡◌, refl}
use mathlib.Core.Bool.{true}
use mathlib.Core.List.{List}
use lib.Dec.{leb}
use Rattle.words.proofs.Cases.{either}
use Rattle.header.specs.Refusals.{Verdict, number, one_of, among, header_refusals}
use Rattle.header.specs.Header.{header_refusal}
use Rattle.header.specs.Numbers.{numbers_of}
use Rattle.header.specs.Answers.{header_first}
use Rattle.header.specs.declared.Header.{Header}
use Rattle.header.proofs.RefusalLaws.{header_refusals_lem, unless_among}
use Rattle.chain.specs.Links.{used_of}
use Rattle.table.specs.Counts.{counts_right}
use Rattle.table.specs.Keys.{keys_ascend}
use Rattle.table.specs.Table.{table_chained, tests_answer, rules_answer, blocks_refusals, blocks_answer}
use Rattle.table.specs.Table.{table_answer, table_refusals}

-- 14, 8, 9, 10
blocks_among : (t : List ℕ) (h : Header) (room : ℕ) → among blocks_refusals (blocks_answer t h room) ≡ true
unfolding blocks_answer rules_answer tests_answer among one_of number
blocks_among t h room =
    let used = used_of t h in
    let Among : Verdict → Type 0 = λ v. among blocks_refusals v ≡ true in
    either Among (leb h.blocks room) _ _
    (either Among (table_chained t h) _ _
    (either Among (counts_right t h used) _ _ (either Among (keys_ascend t h used) _ _ refl refl) refl) refl) refl

-- 1 to 7, then those
pub table_refusals_lem : (t : List ℕ) (room : ℕ) → among table_refusals (table_answer t room) ≡ true
unfolding table_refusals table_answer header_first
table_refusals_lem t room =
    unless_among header_refusals blocks_refusals (header_refusal t) (blocks_answer t (numbers_of t) room)
    (header_refusals_lem t) (λ e. blocks_among t (numbers_of t) room)

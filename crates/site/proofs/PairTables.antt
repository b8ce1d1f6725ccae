-- A table of pairs, and how it changes.
use Rattle.std.proofs.Common.{◌≡◌, ℕ, ◌<◌, min, max, true, false, [], length, get_or, set, replicate, arith}
use Rattle.std.proofs.lemmas.Bool.{cases_lt, cases_eq}
use Rattle.std.proofs.lemmas.Bool.Decides.{nat_tests}
use Rattle.std.proofs.lemmas.Grind.{common_steps}
use Rattle.model.specs.PairSite.{with_pair}
use Rattle.site.specs.PairSites.{pairs_of}
use Rattle.site.specs.declared.pair_site.PairTable.{PairTable}

-- A table without marks lists no pair.
pub none_marked : (n a b : ℕ) → pairs_of record { marks = replicate n (replicate n false) } a b ≡ false
none_marked n a b = grind (arith, common_steps, cases_lt (min a b) n, cases_lt (max a b) n)

-- A mark in the row of the lower and the column of the higher of p and q lists their pair, and no other.
pub one_more : (t : PairTable) (p q row column : ℕ) → row ≡ min p q → column ≡ max p q
    → row < length t.marks → column < length (get_or t.marks row [])
    → (a b : ℕ) → pairs_of record { marks = set t.marks row (set (get_or t.marks row []) column true) } a b ≡ with_pair p q (pairs_of t) a b
one_more t p q row column low high in_rows in_row a b =
    grind (arith, nat_tests, common_steps, cases_eq (min a b) row, cases_eq (max a b) column)

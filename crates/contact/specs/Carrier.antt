-- Carriers by their number, counted from 1.
use Rattle.std.specs.Prelude.{ℕ, zero, suc, List, None, Option, slice_get}

-- The place of the carrier of this number, if there is one.
abbrev pub find_place : List ℕ → ℕ → Option ℕ
find_place c zero = None
find_place c (suc i) = slice_get c i

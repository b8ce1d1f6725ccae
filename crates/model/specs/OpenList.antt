-- An open list: pairs of a cost and a node's number, by cost and then by number, and how many it has room for.
use Rattle.std.specs.Prelude.{◌≡◌, ℕ, suc, ◌<◌, ◌≤◌, Bool, if◌then◌else◌, ◌&&◌, ◌||◌, ◌⊎◌, List, [], ◌∷◌, length, Some, None, Option, ◌==◌, ◌≢◌, nat_le, nat_lt, ⊤}
use mathlib.Core.List.{Memᴰ}
use Rattle.model.specs.declared.refusal.Refusal.{Refusal}
use Rattle.model.specs.declared.refusal.Refusal.TheVariants.{CostTooHigh, ListFull}
use Rattle.model.specs.Limits.{most_steps}
use Rattle.model.specs.Refusals.{unless_refused}

-- A cost and a node's number.
abbrev pub Pair : Type 0
Pair = ℕ × ℕ

-- The first pair may stand before the second: it costs less, or as much and its number is not higher.
abbrev pub Before : Pair → Pair → Type 0
Before a b = (a.0 < b.0) ⊎ ((a.0 ≡ b.0) × (a.1 ≤ b.1))

-- Every pair may stand before all those behind it.
abbrev pub InOrder : List Pair → Type 0
InOrder [] = ⊤
InOrder (a ∷ ps) = ((b : Pair) → Memᴰ b ps → Before a b) × InOrder ps

-- The same as `Before`, computed.
abbrev pub precedes : Pair → Pair → Bool
precedes a b = nat_lt a.0 b.0 || (a.0 == b.0 && nat_le a.1 b.1)

-- The pair at its place among those in order.
abbrev pub insert : Pair → List Pair → List Pair
insert a [] = a ∷ []
insert a (b ∷ bs) = if precedes a b then a ∷ b ∷ bs else b ∷ insert a bs

-- A cost above the limit is refused, and else a list of that size is if it is full.
abbrev pub put_refusal : ℕ → ℕ → ℕ → Option Refusal
put_refusal cost size room = if nat_le cost most_steps then (if nat_lt size room then None else Some ListFull) else Some CostTooHigh

-- `put`: the pair is at its place. A refused one leaves the list as it was.
abbrev pub put : ℕ → Pair → List Pair → List Pair
put room a ps = unless_refused (put_refusal a.0 (length ps) room) (insert a ps) (λ _. ps)

-- `take` answers the first pair, or that there is none,
abbrev pub first : List Pair → Option Pair
first [] = None
first (a ∷ ps) = Some a

-- and leaves the rest. A list that has none stays as it was.
abbrev pub rest : List Pair → List Pair
rest [] = []
rest (a ∷ ps) = ps

-- How often the pair is in the list.
abbrev pub times : Pair → List Pair → ℕ
times x [] = 0
times x (a ∷ ps) = if x.0 == a.0 && x.1 == a.1 then suc (times x ps) else times x ps

-- What is said of open lists.
pub record OpenListsKeepOrder : Type 0 where
  -- What is put is in the list once more, every other pair as often as before, and the list stays in order.
  pub put_keeps_order : (room : ℕ) (a : Pair) (ps : List Pair) → InOrder ps → InOrder (put room a ps)
  pub insert_adds_it : (a : Pair) (ps : List Pair) → times a (insert a ps) ≡ suc (times a ps)
  pub insert_adds_no_other : (a x : Pair) (ps : List Pair) → (x ≢ a) → times x (insert a ps) ≡ times x ps
  -- Where there is room, a cost within the limit is not refused.
  pub put_where_there_is_room : (room : ℕ) (a : Pair) (ps : List Pair) → a.0 ≤ most_steps → length ps < room → put room a ps ≡ insert a ps
  -- A list in order is told by how often each pair is in it.
  pub one_order : (ps qs : List Pair) → InOrder ps → InOrder qs → ((x : Pair) → times x ps ≡ times x qs) → ps ≡ qs

-- One carrier's paths under conditions, and the one that is chosen.
use Rattle.std.specs.Prelude.{◌≡◌, ℕ, suc, ◌<◌, ◌≤◌, true, List, length, slice_index, slice_index_or}
use mathlib.Core.List.{Memᴰ}
use Rattle.model.specs.declared.item.Condition.{Condition}
use Rattle.model.specs.Item.{Meets}
use Rattle.model.specs.Site.{Site}

-- What is asked of one carrier: its number, from where, where to, by which moment at the latest, under which conditions
-- (constraints; those that name other carriers do not count).
pub record Errand : Type 0 where
  pub carrier : ℕ
  pub start : ℕ
  pub goal : ℕ
  pub horizon : ℕ
  pub conditions : List Condition

-- The same under other conditions.
abbrev pub under : Errand → List Condition → Errand
under e cs = record { carrier = e.carrier; start = e.start; goal = e.goal; horizon = e.horizon; conditions = cs }

-- A path has a place for each moment from 0 to the horizon. It leads from the start to the goal by moves through open places,
-- and keeps the carrier's conditions, at every moment up to the horizon.
pub record IsPath (s : Site) (e : Errand) (path : List ℕ) : Type 0 where
  pub long : length path ≡ suc e.horizon
  pub begins : slice_index_or path 0 0 ≡ e.start
  pub ends : slice_index_or path e.horizon 0 ≡ e.goal
  pub moves : (m : ℕ) → m < e.horizon → s.has_move (slice_index path m) (slice_index path (suc m)) ≡ true
  pub through_open : (m : ℕ) → m ≤ e.horizon → s.is_open (slice_index path m) ≡ true
  pub keeps : (c : Condition) → Memᴰ c e.conditions → c.item.carrier ≡ e.carrier → c.moment ≤ e.horizon
      → Meets c.item.demand c.item.place (slice_index path c.moment)

-- From moment a on the path stays at the goal.
abbrev pub Stays : Errand → List ℕ → ℕ → Type 0
Stays e path a = (m : ℕ) → a ≤ m → m ≤ e.horizon → slice_index path m ≡ e.goal

-- Its arrival (the path's length) is the first such moment.
pub record Arrives (e : Errand) (path : List ℕ) (a : ℕ) : Type 0 where
  pub in_time : a ≤ e.horizon
  pub stays : Stays e path a
  pub not_sooner : (b : ℕ) → b ≤ e.horizon → Stays e path b → a ≤ b

-- At the first moment where they differ, p has the lower place.
abbrev pub NotAfter : List ℕ → List ℕ → Type 0
NotAfter p q = (m : ℕ) → ((j : ℕ) → j < m → slice_index p j ≡ slice_index q j) → slice_index p m ≤ slice_index q m

-- A path with its arrival.
pub record TimedPath : Type 0 where
  pub places : List ℕ
  pub arrival : ℕ

-- The chosen path arrives earliest and, among those that arrive then, is first in order.
pub record IsChosen (s : Site) (e : Errand) (x : TimedPath) : Type 0 where
  pub is_path : IsPath s e x.places
  pub arrives : Arrives e x.places x.arrival
  pub earliest : (q : List ℕ) (b : ℕ) → IsPath s e q → Arrives e q b → x.arrival ≤ b
  pub first : (q : List ℕ) → IsPath s e q → Arrives e q x.arrival → NotAfter x.places q

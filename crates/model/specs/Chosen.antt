-- The chosen path, computed.
use Rattle.std.specs.Prelude.{◌≡◌, ℕ, zero, suc, ◌≤◌, Bool, true, if◌then◌else◌, ◌&&◌, ◌||◌, ◌↔◌, List, [], ◌∷◌, map, Some, None, Option, ◌==◌, ◌≢◌, nat_lt, slice_index_or}
use Rattle.std.specs.Bool.{beq}
use Rattle.std.specs.List.{range_with_len}
use Rattle.model.specs.declared.item.Condition.{Condition}
use Rattle.model.specs.Item.{must_be}
use Rattle.model.specs.Path.{Errand, under, TimedPath, IsPath, Arrives, IsChosen}
use Rattle.model.specs.Site.{Site, Lawful}

-- Standing at p at moment m meets each of the carrier's conditions.
abbrev pub allowed : ℕ → List Condition → ℕ → ℕ → Bool
allowed a [] m p = true
allowed a (c ∷ cs) m p = (if c.item.carrier == a && c.moment == m then beq (p == c.item.place) (must_be c.item.demand) else true) && allowed a cs m p

-- The carrier may stand at p at moment m, if it is to be at the goal from moment b on.
abbrev pub may_stand : Site → Errand → ℕ → ℕ → ℕ → Bool
may_stand s e b m p = s.is_open p && allowed e.carrier e.conditions m p && (nat_lt m b || p == e.goal)

-- The first way onward from a place with these moves. `ways` has, for each place from q on, the first way from there, if there is one.
-- (A `let` is computed only where it is read, so the rest of the list is not gone through once a move is found.)
abbrev pub onward : (ℕ → Bool) → ℕ → List (Option (List ℕ)) → Option (List ℕ)
onward move q [] = None
onward move q (None ∷ ways) = onward move (suc q) ways
onward move q (Some way ∷ ways) = let later = onward move (suc q) ways in if move q then Some (q ∷ way) else later

-- For each place, the first way from there at moment m, which is k moments before the horizon: the places after it, to the goal,
-- to be there from moment b on.
abbrev pub ways : Site → Errand → ℕ → ℕ → ℕ → List (Option (List ℕ))
ways s e b m zero = map (λ p. if may_stand s e b m p && p == e.goal then Some [] else None) (range_with_len 0 s.places)
ways s e b m (suc k) =
    let next = ways s e b (suc m) k in
    map (λ p. let way = onward (s.has_move p) 0 next in if may_stand s e b m p then way else None) (range_with_len 0 s.places)

-- The first way from the start to be at the goal from moment b on.
abbrev pub first_way : Site → Errand → ℕ → Option (List ℕ)
first_way s e b = slice_index_or (ways s e b 0 e.horizon) e.start None

-- The path with its arrival b if there is a way, and else what later arrivals give.
abbrev pub arriving : ℕ → ℕ → Option (List ℕ) → Option TimedPath → Option TimedPath
arriving start b (Some way) later = Some (record { places = start ∷ way; arrival = b })
arriving start b None later = later

-- The path for the least of the k moments from b on for which there is one.
abbrev pub least_arrival : Site → Errand → ℕ → ℕ → Option TimedPath
least_arrival s e b zero = None
least_arrival s e b (suc k) = let later = least_arrival s e (suc b) k in arriving e.start b (first_way s e b) later

-- The chosen path and its arrival, or that there is no path.
abbrev pub chosen : Site → Errand → Option TimedPath
chosen s e = least_arrival s e 0 (suc e.horizon)

-- What is computed is the chosen path.
pub record PathsAreComputed : Type 0 where
  -- The path that is computed is the chosen one, of which there is at most one; and none is computed exactly if there is no path.
  pub computed_is_chosen : (s : Site) (e : Errand) (x : TimedPath) → Lawful s → (chosen s e ≡ Some x) ↔ IsChosen s e x
  pub only_one : (s : Site) (e : Errand) (x y : TimedPath) → IsChosen s e x → IsChosen s e y → x ≡ y
  pub none_is_no_path : (s : Site) (e : Errand) → Lawful s → (chosen s e ≡ None) ↔ ((q : List ℕ) → ¬ IsPath s e q)
  -- Every path has one arrival.
  pub every_path_arrives : (s : Site) (e : Errand) (q : List ℕ) → IsPath s e q → (a : ℕ) × Arrives e q a
  pub arrives_once : (e : Errand) (q : List ℕ) (a b : ℕ) → Arrives e q a → Arrives e q b → a ≡ b
  -- One condition more: one on another carrier changes nothing, and none makes the arrival earlier.
  pub others_do_not_count : (s : Site) (e : Errand) (c : Condition) → Lawful s → (c.item.carrier ≢ e.carrier)
      → chosen s e ≡ chosen s (under e (c ∷ e.conditions))
  pub no_sooner : (s : Site) (e : Errand) (c : Condition) (x y : TimedPath) → Lawful s
      → chosen s e ≡ Some x → chosen s (under e (c ∷ e.conditions)) ≡ Some y → x.arrival ≤ y.arrival

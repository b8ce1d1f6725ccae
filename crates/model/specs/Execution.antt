-- Executions: the chosen path of every carrier under given conditions.
use Rattle.std.specs.Prelude.{◌≡◌, ℕ, zero, suc, ◌<◌, ◌≤◌, max, if◌then◌else◌, List, [], ◌∷◌, map, length, Some, None, Option, slice_index, slice_index_or}
use Rattle.model.specs.declared.item.Condition.{Condition}
use Rattle.model.specs.Chosen.{chosen}
use Rattle.model.specs.Contact.{Connected, is_connected}
use Rattle.model.specs.Path.{Errand, TimedPath, IsPath, IsChosen}
use Rattle.model.specs.Plan.{Task}
use Rattle.model.specs.Site.{Site, Lawful}

-- What is asked of the carrier at index i.
abbrev pub errand : Task → List Condition → ℕ → Errand
errand t cs i = record { carrier = suc i; start = slice_index t.starts i; goal = slice_index t.goals i; horizon = t.horizon; conditions = cs }

-- One path more, if there is one.
abbrev pub with_path : Option TimedPath → Option (List TimedPath) → Option (List TimedPath)
with_path None x = None
with_path (Some p) None = None
with_path (Some p) (Some ps) = Some (p ∷ ps)

-- The chosen paths of the k carriers from index i on, if each has one.
abbrev pub chosen_paths : Site → Task → List Condition → ℕ → ℕ → Option (List TimedPath)
chosen_paths s t cs i zero = Some []
chosen_paths s t cs i (suc k) = with_path (chosen s (errand t cs i)) (chosen_paths s t cs (suc i) k)

-- Those of all carriers, if each has one.
abbrev pub execution : Site → Task → List Condition → Option (List TimedPath)
execution s t cs = chosen_paths s t cs 0 (length t.starts)

-- The latest arrival, which is a node's cost.
abbrev pub latest : List TimedPath → ℕ
latest [] = 0
latest (x ∷ xs) = max x.arrival (latest xs)

-- The configuration of an execution at moment m.
abbrev pub at_moment : List TimedPath → ℕ → List ℕ
at_moment xs m = map (λ x. slice_index x.places m) xs

-- The earliest of the k moments from m on that is out of contact.
abbrev pub first_break : Site → List TimedPath → ℕ → ℕ → Option ℕ
first_break s xs m zero = None
first_break s xs m (suc k) = if is_connected s (at_moment xs m) then first_break s xs (suc m) k else Some m

-- What is read where there is no such carrier.
abbrev pub no_path : TimedPath
no_path = record { places = []; arrival = 0 }

-- What is said of executions.
pub record ExecutionsAreChosen : Type 0 where
  -- An execution has the chosen path of every carrier, and there is none exactly if some carrier has no path.
  pub a_path_for_each : (s : Site) (t : Task) (cs : List Condition) (xs : List TimedPath) → execution s t cs ≡ Some xs → length xs ≡ length t.starts
  pub each_is_chosen : (s : Site) (t : Task) (cs : List Condition) (xs : List TimedPath) → Lawful s → execution s t cs ≡ Some xs
      → (i : ℕ) → i < length t.starts → IsChosen s (errand t cs i) (slice_index_or xs i no_path)
  pub none_lacks_a_path : (s : Site) (t : Task) (cs : List Condition) → Lawful s → execution s t cs ≡ None
      → (i : ℕ) × (i < length t.starts) × ((q : List ℕ) → ¬ IsPath s (errand t cs i) q)
  -- Its cost is the latest arrival: none is later, and one is then.
  pub no_arrival_later : (xs : List TimedPath) (i : ℕ) → i < length xs → (slice_index_or xs i no_path).arrival ≤ latest xs
  pub one_arrives_then : (xs : List TimedPath) → 1 ≤ length xs → (i : ℕ) × (i < length xs) × ((slice_index_or xs i no_path).arrival ≡ latest xs)
  -- The break is the earliest moment out of contact, of those looked at.
  pub broken_first_there : (s : Site) (xs : List TimedPath) (k m : ℕ) → first_break s xs 0 k ≡ Some m
      → (m < k) × (¬ Connected s (at_moment xs m)) × ((j : ℕ) → j < m → Connected s (at_moment xs j))
  pub never_broken : (s : Site) (xs : List TimedPath) (k : ℕ) → first_break s xs 0 k ≡ None → (j : ℕ) → j < k → Connected s (at_moment xs j)

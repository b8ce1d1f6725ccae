-- Whether a task and an open list are fit to begin with: the first of the checks that fails, with the carrier that it names.
use Rattle.std.specs.Prelude.{◌≡◌, ℕ, suc, ◌<◌, ◌≤◌, Bool, true, if◌then◌else◌, ◌&&◌, ◌↔◌, List, [], ◌∷◌, length, Some, None, Option, ◌==◌, nat_le, nat_lt, slice_index}
use Rattle.model.specs.declared.outcome.Unfitness.{Unfitness}
use Rattle.model.specs.declared.refusal.Refusal.{Refusal}
use Rattle.model.specs.declared.refusal.Refusal.TheVariants.{CrewUnfit, HorizonTooFar, StartOrGoalClosed, StartsOutOfContact, GoalsOutOfContact, ListUnfit}
use Rattle.model.specs.Contact.{Connected, lost}
use Rattle.model.specs.Limits.{most_nodes, most_carriers, most_steps}
use Rattle.model.specs.Plan.{Task, IsPlan}
use Rattle.model.specs.Rule.{AtOpenPlaces}
use Rattle.model.specs.Site.{Site}

-- Refused, naming that carrier, if any.
abbrev pub unfit_by : Refusal → Option ℕ → Option Unfitness
unfit_by r carrier = Some (record { refusal = r; carrier = carrier })

-- What the first check finds or, if it finds nothing, the second.
abbrev pub first_of : Option Unfitness → Option Unfitness → Option Unfitness
first_of None later = later
first_of (Some u) later = Some u

-- Refused, naming that carrier, if any, unless the test holds.
abbrev pub required : Bool → Refusal → Option ℕ → Option Unfitness
required test r carrier = if test then None else unfit_by r carrier

-- The open list, of that size and room, is empty and has room for all nodes.
abbrev pub check_list : ℕ → ℕ → Option Unfitness
check_list size room = required (size == 0 && nat_le most_nodes room) ListUnfit None

-- There are carriers, not too many, and each has a start and a goal.
abbrev pub check_crew : Task → Option Unfitness
check_crew t = required (nat_lt 0 (length t.starts) && nat_le (length t.starts) most_carriers && length t.starts == length t.goals) CrewUnfit None

-- The horizon is not too far.
abbrev pub check_horizon : Task → Option Unfitness
check_horizon t = required (nat_le t.horizon most_steps) HorizonTooFar None

-- The starts and goals of the carriers from number a on are open; if not, the lowest carrier is named.
abbrev pub check_places : Site → ℕ → List ℕ → List ℕ → Option Unfitness
check_places s a [] gs = None
check_places s a (x ∷ xs) [] = None
check_places s a (x ∷ xs) (g ∷ gs) = first_of (required (s.is_open x && s.is_open g) StartOrGoalClosed (Some a)) (check_places s (suc a) xs gs)

-- Nobody is lost; if somebody is, the lost carrier is named.
abbrev pub check_contact : Refusal → Option ℕ → Option Unfitness
check_contact r None = None
check_contact r (Some a) = unfit_by r (Some a)

-- All checks, in their order.
abbrev pub unfitness : Site → Task → ℕ → ℕ → Option Unfitness
unfitness s t size room =
    first_of (check_list size room)
    (first_of (check_crew t)
    (first_of (check_horizon t)
    (first_of (check_places s 1 t.starts t.goals)
    (first_of (check_contact StartsOutOfContact (lost s t.starts))
    (check_contact GoalsOutOfContact (lost s t.goals))))))

-- A task and an open list, of that size and room, that are fit.
pub record Fit (s : Site) (t : Task) (size room : ℕ) : Type 0 where
  pub list_is_empty : size ≡ 0
  pub list_has_room : most_nodes ≤ room
  pub some_carriers : 1 ≤ length t.starts
  pub few_carriers : length t.starts ≤ most_carriers
  pub goal_for_each : length t.starts ≡ length t.goals
  pub near_horizon : t.horizon ≤ most_steps
  pub starts_open : AtOpenPlaces s t.starts
  pub goals_open : AtOpenPlaces s t.goals
  pub starts_in_contact : Connected s t.starts
  pub goals_in_contact : Connected s t.goals

-- The carrier at index i has its start and its goal at open places.
abbrev pub EndsOpen : Site → Task → ℕ → Type 0
EndsOpen s t i = (s.is_open (slice_index t.starts i) ≡ true) × (s.is_open (slice_index t.goals i) ≡ true)

-- What is said of the checks.
pub record FitnessIsChecked : Type 0 where
  -- They find nothing exactly where all is fit.
  pub fit_exactly : (s : Site) (t : Task) (size room : ℕ) → (unfitness s t size room ≡ None) ↔ Fit s t size room
  -- The check of the places names the lowest carrier whose start or goal is not open.
  pub lowest_closed_is_named : (s : Site) (t : Task) (u : Unfitness) → length t.starts ≡ length t.goals
      → check_places s 1 t.starts t.goals ≡ Some u
      → (i : ℕ) × (u ≡ record { refusal = StartOrGoalClosed; carrier = Some (suc i) }) × (i < length t.starts) × (¬ EndsOpen s t i) × ((j : ℕ) → j < i → EndsOpen s t j)
  -- No plan is turned away by the checks of places and contact: the starts and goals of a task that has a plan pass them.
  pub no_plan_is_turned_away : (s : Site) (t : Task) (steps : ℕ) (plan : ℕ → List ℕ) → IsPlan s t steps plan
      → AtOpenPlaces s t.starts × AtOpenPlaces s t.goals × Connected s t.starts × Connected s t.goals

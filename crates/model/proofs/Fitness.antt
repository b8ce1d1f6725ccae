-- The checks find nothing exactly where all is fit, and name the lowest carrier whose start or goal is closed.
use Rattle.std.proofs.Common.{◌≡◌, ℕ, Bool, suc, ◌+◌, ◌<◌, ◌≤◌, true, false, ◌&&◌, ◌↔◌, List, [], ◌∷◌, length, slice_index, Some, None, Option, ap, ◌∙◌, ⊎_elim, arith}
use Rattle.std.proofs.lemmas.Bool.Decides.{nat_tests}
use Rattle.std.proofs.lemmas.Bool.{cases_Bool}
use Rattle.model.specs.declared.outcome.Unfitness.{Unfitness}
use Rattle.model.specs.declared.refusal.Refusal.{Refusal}
use Rattle.model.specs.declared.refusal.Refusal.TheVariants.{StartOrGoalClosed, StartsOutOfContact, GoalsOutOfContact}
use Rattle.model.specs.Contact.{Connected, lost}
use Rattle.model.specs.Fitness.{first_of, required, check_list, check_crew, check_horizon, check_places, check_contact, unfitness, Fit, FitnessIsChecked}
use Rattle.model.specs.Limits.{most_carriers, most_nodes, most_steps}
use Rattle.model.specs.Plan.{Task, IsPlan}
use Rattle.model.specs.Rule.{AtOpenPlaces}
use Rattle.model.specs.Site.{Site}
use Rattle.model.proofs.Contact.{connected_is_contact}
use Rattle.model.proofs.Tables.{from_first}

-- A check finds nothing exactly if what it tests holds, and the checks in a row if each finds nothing.
passes : (test : Bool) (r : Refusal) (carrier : Option ℕ) → (required test r carrier ≡ None) ↔ (test ≡ true)
passes test r carrier = grind arith

both_pass : (a b : Option Unfitness) → (first_of a b ≡ None) ↔ ((a ≡ None) × (b ≡ None))
both_pass a b = grind arith

all_pass : (a b c d e f : Option Unfitness) → (first_of a (first_of b (first_of c (first_of d (first_of e f)))) ≡ None) ↔ ((a ≡ None) × (b ≡ None) × (c ≡ None) × (d ≡ None) × (e ≡ None) × (f ≡ None))
all_pass a b c d e f = grind arith

list_passes : (size room : ℕ) → (check_list size room ≡ None) ↔ ((size ≡ 0) × (most_nodes ≤ room))
list_passes size room = grind (arith, nat_tests)

crew_passes : (t : Task) → (check_crew t ≡ None) ↔ ((1 ≤ length t.starts) × (length t.starts ≤ most_carriers) × (length t.starts ≡ length t.goals))
crew_passes t = grind (arith, nat_tests)

horizon_passes : (t : Task) → (check_horizon t ≡ None) ↔ (t.horizon ≤ most_steps)
horizon_passes t = grind (arith, nat_tests)

contact_passes : (s : Site) (c : List ℕ) (r : Refusal) → (check_contact r (lost s c) ≡ None) ↔ Connected s c
contact_passes s c r = grind (arith, connected_is_contact s c)

-- The check of the places, for the carriers from number a on.

open_cons : (s : Site) (x : ℕ) (xs : List ℕ) → AtOpenPlaces s (x ∷ xs) ↔ ((s.is_open x ≡ true) × AtOpenPlaces s xs)
open_cons s x xs = (
  λ all. (all 0 (omega arith), λ k h. all (suc k) (omega arith)),
  λ (here, later). from_first (λ k. s.is_open (slice_index (x ∷ xs) k) ≡ true) here later,
)

places_pass : (s : Site) (a : ℕ) (xs gs : List ℕ) → length xs ≡ length gs → (check_places s a xs gs ≡ None) ↔ (AtOpenPlaces s xs × AtOpenPlaces s gs)
places_pass s a [] [] l = grind arith
places_pass s a [] (g ∷ gs) l = absurd (omega arith)
places_pass s a (x ∷ xs) [] l = absurd (omega arith)
places_pass s a (x ∷ xs) (g ∷ gs) l = grind (arith, open_cons s x xs, open_cons s g gs, places_pass s (suc a) xs gs (omega arith))

-- The start and the goal of the carrier at index i are open.
abbrev BothOpen : Site → List ℕ → List ℕ → ℕ → Type 0
BothOpen s xs gs i = (s.is_open (slice_index xs i) ≡ true) × (s.is_open (slice_index gs i) ≡ true)

-- The refusal that names carrier n.
abbrev closed_at : ℕ → Unfitness
closed_at n = record { refusal = StartOrGoalClosed; carrier = Some n }

-- Of the carriers from number a on, the lowest whose start or goal is closed has index i.
record LowestClosed (s : Site) (a : ℕ) (xs gs : List ℕ) (u : Unfitness) : Type 0 where
  pub index : ℕ
  pub names : u ≡ closed_at (a + index)
  pub inside : index < length xs
  pub closed : BothOpen s xs gs index → ⊥
  pub open_below : (j : ℕ) → j < index → BothOpen s xs gs j

lowest_closed : (s : Site) (a : ℕ) (xs gs : List ℕ) (u : Unfitness) → check_places s a xs gs ≡ Some u → LowestClosed s a xs gs u
lowest_closed s a [] gs u e = cc
lowest_closed s a (x ∷ xs) [] u e = cc
lowest_closed s a (x ∷ xs) (g ∷ gs) u e = ⊎_elim
    (λ (fine : (s.is_open x && s.is_open g) ≡ true).
    let low : LowestClosed s (suc a) xs gs u = lowest_closed s (suc a) xs gs u (grind arith) in
    record {
      index = suc low.index;
      names = low.names ∙ ap closed_at (omega arith);
      inside = omega arith;
      closed = low.closed;
      open_below = from_first (BothOpen s (x ∷ xs) (g ∷ gs)) (grind arith) low.open_below;
    })
    (λ (shut : (s.is_open x && s.is_open g) ≡ false). record {
      index = 0;
      names = grind arith;
      inside = omega arith;
      closed = grind arith;
      open_below = λ j h. absurd (omega arith);
    })
    (cases_Bool (s.is_open x && s.is_open g))

-- All checks.

pub fit_exactly : (s : Site) (t : Task) (size room : ℕ) → (unfitness s t size room ≡ None) ↔ Fit s t size room
fit_exactly s t size room =
    let passed = all_pass (check_list size room) (check_crew t) (check_horizon t) (check_places s 1 t.starts t.goals)
    (check_contact StartsOutOfContact (lost s t.starts)) (check_contact GoalsOutOfContact (lost s t.goals)) in (
      λ e.
          let (list, crew, horizon, places, starts, goals) = passed.0 e in
          let of_list = (list_passes size room).0 list in
          let of_crew = (crew_passes t).0 crew in
          let of_horizon = (horizon_passes t).0 horizon in
          let of_places = (places_pass s 1 t.starts t.goals of_crew.2).0 places in
          let of_starts = (contact_passes s t.starts StartsOutOfContact).0 starts in
          let of_goals = (contact_passes s t.goals GoalsOutOfContact).0 goals in
          assumption,
      λ f. passed.1 (
        (list_passes size room).1 assumption,
        (crew_passes t).1 assumption,
        (horizon_passes t).1 assumption,
        (places_pass s 1 t.starts t.goals f.goal_for_each).1 assumption,
        (contact_passes s t.starts StartsOutOfContact).1 f.starts_in_contact,
        (contact_passes s t.goals GoalsOutOfContact).1 f.goals_in_contact,
      ),
    )

-- The configurations of a plan are at open places and in contact, its first and its last among them.
turned_away_none : (s : Site) (t : Task) (steps : ℕ) (plan : ℕ → List ℕ) → IsPlan s t steps plan
    → AtOpenPlaces s t.starts × AtOpenPlaces s t.goals × Connected s t.starts × Connected s t.goals
turned_away_none s t steps plan is = (
  rw is.begins at (at_open 0 (omega arith)),
  rw is.ends at (at_open steps (omega arith)),
  rw is.begins at (is.connected 0 (omega arith)),
  rw is.ends at (is.connected steps (omega arith)),
)
  where
    at_open : (m : ℕ) → m ≤ steps → AtOpenPlaces s (plan m)
    at_open m l k h = is.through_open m k l (omega (arith, is.everyone m l))

pub fitness_is_checked : FitnessIsChecked
fitness_is_checked = record {
  fit_exactly = fit_exactly;
  lowest_closed_is_named = λ s t u l e.
      let low = lowest_closed s 1 t.starts t.goals u e in
      (low.index, low.names ∙ ap closed_at (omega arith), low.inside, low.closed, low.open_below);
  no_plan_is_turned_away = turned_away_none;
}

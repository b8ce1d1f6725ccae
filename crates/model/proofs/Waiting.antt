-- A plan within the horizon gives every carrier a path: after the plan's last step it waits at its goal.
use Rattle.std.proofs.Common.{◌≡◌, ℕ, suc, ◌<◌, ◌≤◌, min, true, List, map, length, get_or, Some, sym, ap, ◌∙◌, subst, ⊎_elim, arith}
use mathlib.Core.List.{Memᴰ}
use Rattle.std.specs.List.{range_with_len}
use Rattle.std.proofs.lemmas.List.FromFn.{get_or-map-range_with_len, length-map-range_with_len}
use Rattle.std.proofs.lemmas.Bool.{cases_lt}
use Rattle.model.specs.declared.item.Condition.{Condition}
use Rattle.model.specs.Contact.{Connected}
use Rattle.model.specs.Item.{Meets}
use Rattle.model.specs.Execution.{errand, execution, latest, no_path}
use Rattle.model.specs.Path.{IsPath, TimedPath}
use Rattle.model.specs.Plan.{IsPlan}
use Rattle.model.specs.Site.{Lawful}
use Rattle.model.specs.State.{Problem}
use Rattle.model.proofs.Chosen.{chosen_complete, arrival_exists}
use Rattle.model.proofs.Execution.{carriers, latest_at_most, Executes, execution_exists, chosen_in}

-- A plan within the horizon.
pub record Timely (p : Problem) : Type 0 where
  pub steps : ℕ
  pub plan : ℕ → List ℕ
  pub in_time : steps ≤ p.task.horizon
  pub is_plan : IsPlan p.site p.task steps plan

-- The configuration at any moment, after the last step the last one,
abbrev pub waiting : {p : Problem} → Timely p → ℕ → List ℕ
waiting q m = q.plan (min m q.steps)

-- and a carrier's place in it.
abbrev pub place : {p : Problem} → Timely p → ℕ → ℕ → ℕ
place q i m = get_or (waiting q m) i 0

-- The plan keeps conditions if every carrier, so waiting, meets those that name it.
abbrev pub Kept : {p : Problem} → Timely p → List Condition → Type 0
Kept {p} q cs = (c : Condition) → Memᴰ c cs → (i : ℕ) → i < carriers p → c.item.carrier ≡ suc i → Meets c.item.demand c.item.place (place q i c.moment)

module _ (p : Problem) (lawful : Lawful p.site) (q : Timely p) where
  -- the path of the carrier at index i
  way : ℕ → List ℕ
  way i = map (place q i) (range_with_len 0 (suc p.task.horizon))

  way_at : (i m : ℕ) → m ≤ p.task.horizon → get_or (way i) m 0 ≡ place q i m
  unfolding way
  way_at i m h = get_or-map-range_with_len (place q i) 0 (suc p.task.horizon) m m 0 (omega arith) (omega arith)

  before_end : (m : ℕ) → m ≤ q.steps → waiting q m ≡ q.plan m
  before_end m h = ap q.plan (omega arith)

  after_end : (m : ℕ) → q.steps ≤ m → waiting q m ≡ p.task.goals
  after_end m h = ap q.plan (omega arith) ∙ q.is_plan.ends

  pub waiting_everyone : (m : ℕ) → length (waiting q m) ≡ carriers p
  waiting_everyone m = q.is_plan.everyone (min m q.steps) (omega arith)

  pub waiting_open : (m i : ℕ) → i < carriers p → p.site.is_open (place q i m) ≡ true
  waiting_open m i h = q.is_plan.through_open (min m q.steps) i (omega arith) h

  pub waiting_connected : (m : ℕ) → Connected p.site (waiting q m)
  waiting_connected m = q.is_plan.connected (min m q.steps) (omega arith)

  waiting_moves : (m i : ℕ) → i < carriers p → p.site.has_move (place q i m) (place q i (suc m)) ≡ true
  waiting_moves m i h =
      let stay = lawful.self_move (place q i m) (lawful.open_is_place (place q i m) (waiting_open m i h)) in
      ⊎_elim
      (λ before. rw (before_end m (omega arith), before_end (suc m) before) (q.is_plan.moves m i before h))
      (λ after. rw (after_end m after, after_end (suc m) (omega arith)) (rw (after_end m after) at stay))
      (cases_lt m q.steps)

  way_is_path : (cs : List Condition) → Kept q cs → (i : ℕ) → i < carriers p → IsPath p.site (errand p.task cs i) (way i)
  unfolding way
  way_is_path cs kept i h = record {
    long = length-map-range_with_len (place q i) 0 (suc p.task.horizon);
    begins = rw (way_at i 0 (omega arith), before_end 0 (omega arith), q.is_plan.begins);
    ends = rw (way_at i p.task.horizon (omega arith), after_end p.task.horizon q.in_time);
    moves = λ m l. rw (way_at i m (omega arith), way_at i (suc m) l) (waiting_moves m i h);
    through_open = λ m l. rw (way_at i m l) (waiting_open m i h);
    keeps = λ c there name l. subst (Meets c.item.demand c.item.place) (sym (way_at i c.moment l)) (kept c there i h name);
  }

  -- So the conditions that a plan keeps have an execution, and it costs no more than the plan has steps.
  pub kept_has_execution : (cs : List Condition) → Kept q cs → (x : List TimedPath) × (execution p.site p.task cs ≡ Some x)
  kept_has_execution cs kept = execution_exists p cs
      (λ i h. chosen_complete p.site (errand p.task cs i) (way i) lawful (way_is_path cs kept i h))

  pub kept_cost : (cs : List Condition) → Kept q cs → (x : List TimedPath) → Executes p cs x → latest x ≤ q.steps
  kept_cost cs kept x ex = latest_at_most x q.steps each
    where
      each : (i : ℕ) → i < length x → (get_or x i no_path).arrival ≤ q.steps
      each i h =
          let inside : i < carriers p = omega (arith, ex.everyone) in
          let path = way_is_path cs kept i inside in
          let arrival = arrival_exists p.site (errand p.task cs i) (way i) path in
          let low = (chosen_in p lawful cs x ex i inside).earliest (way i) arrival.0 path arrival.1 in
          let soon : arrival.0 ≤ q.steps = arrival.1.not_sooner q.steps q.in_time (λ m l k. rw (way_at i m k, after_end m l)) in
          omega arith

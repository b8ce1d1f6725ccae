-- The guarantee: what every run of calls keeps that began new.
use Rattle.std.specs.Prelude.{◌≡◌, ℕ, suc, ◌+◌, ◌≤◌, ◌↔◌, List, ◌∷◌, ◌++◌, length, Some, None, Ok, Err, Result, ◌≢◌, slice_get, ⊤}
use Rattle.model.specs.declared.call.Answer.{Answer}
use Rattle.model.specs.declared.call.Call.{Call}
use Rattle.model.specs.declared.outcome.Outcome.{Outcome}
use Rattle.model.specs.declared.outcome.Outcome.TheVariants.{Running, Found, NoPlan, Full, Unfit}
use Rattle.model.specs.declared.outcome.Unfitness.{Unfitness}
use Rattle.model.specs.declared.refusal.Refusal.{Refusal}
use Rattle.model.specs.Begin.{begin}
use Rattle.model.specs.Calls.{refusal, accepted_answer, after, look_of, shown}
use Rattle.model.specs.Limits.{most_nodes}
use Rattle.model.specs.OpenList.{Pair}
use Rattle.model.specs.Plan.{IsPlan, NoPlanExists, NoPlanBelow}
use Rattle.model.specs.Rule.{RuleLaws}
use Rattle.model.specs.Run.{Run, turns_asked}
use Rattle.model.specs.Site.{Lawful}
use Rattle.model.specs.State.{Problem, State}
use Rattle.model.specs.Turn.{turns_of}

-- What holds in the state `now`, to which these calls, with these answers, have led from the start.
pub record Guarantee (p : Problem) (start : State) (calls : List Call) (answers : List (Result Answer Refusal)) (now : State) : Type 0 where
  -- Once `look` says that a plan of so many steps is found, what `show` answers from moment 0 to these steps is that plan; it is
  -- within the horizon, and no plan has fewer steps.
  pub found_is_a_plan : (steps : ℕ) → (look_of now).outcome ≡ Found steps → IsPlan p.site p.task steps (shown p now)
  pub found_is_in_time : (steps : ℕ) → (look_of now).outcome ≡ Found steps → steps ≤ p.task.horizon
  pub found_is_least : (steps : ℕ) → (look_of now).outcome ≡ Found steps → NoPlanBelow p.site p.task steps
  -- None is said only where no plan within the horizon exists, and it is said wherever none exists, unless it is still running,
  -- unfit or full.
  pub none_is_true : now.outcome ≡ NoPlan → NoPlanExists p.site p.task
  pub none_is_said : (now.outcome ≢ Running) → ((u : Unfitness) → now.outcome ≢ Unfit u) → (now.outcome ≢ Full) → NoPlanExists p.site p.task
      → now.outcome ≡ NoPlan
  -- Full is said only where as many nodes were made as there can be.
  pub full_is_full : now.outcome ≡ Full → (look_of now).nodes ≡ most_nodes
  -- No plan has fewer steps than the floor, which never falls.
  pub floor_holds : NoPlanBelow p.site p.task (look_of now).floor
  pub floor_never_falls : (sooner later : List Call) (first : List (Result Answer Refusal)) (then : State) → sooner ++ later ≡ calls → Run p start sooner first then
      → (look_of then).floor ≤ (look_of now).floor
  -- It stops after as many turns as there can be nodes and one more, and makes no other turns than those asked for.
  pub stops : suc most_nodes ≤ turns_asked calls answers → now.outcome ≢ Running
  pub turns_are_those_asked_for : now ≡ turns_of p (turns_asked calls answers) start
  -- Every call has an answer. It is a refusal exactly where one is due, by that number, and then nothing is altered; else it is the
  -- defined answer.
  pub every_call_is_answered : length answers ≡ length calls
  pub refused_where_due : (sooner : List Call) (call : Call) (later : List Call) (first : List (Result Answer Refusal)) (then : State) (r : Refusal)
      → sooner ++ (call ∷ later) ≡ calls → Run p start sooner first then
      → (slice_get answers (length sooner) ≡ Some (Err r)) ↔ (refusal p then call ≡ Some r)
  pub refused_alters_nothing : (sooner : List Call) (call : Call) (later : List Call) (first : List (Result Answer Refusal)) (then : State) (r : Refusal)
      → sooner ++ (call ∷ later) ≡ calls → Run p start sooner first then → refusal p then call ≡ Some r → after p then call ≡ then
  pub answered_as_defined : (sooner : List Call) (call : Call) (later : List Call) (first : List (Result Answer Refusal)) (then : State)
      → sooner ++ (call ∷ later) ≡ calls → Run p start sooner first then → refusal p then call ≡ None
      → slice_get answers (length sooner) ≡ Some (Ok (accepted_answer p then call))

-- It is kept for every lawful site, every rule with the laws, every task, every open list that is handed over, and every run.
abbrev pub Guaranteed : Type 0
Guaranteed = (p : Problem) (pairs : List Pair) (room : ℕ) (calls : List Call) (answers : List (Result Answer Refusal)) (now : State) → Lawful p.site → RuleLaws p.rule
    → Run p (begin p pairs room) calls answers now → Guarantee p (begin p pairs room) calls answers now

-- Every node that was made has been taken in a turn or is still open: none was refused by the open list.
-- (The last turn before *none* takes nothing.)
abbrev pub EachNodeWasPut : State → Outcome → Type 0
EachNodeWasPut st Running = st.turns + length st.pairs ≡ length st.nodes
EachNodeWasPut st (Found n) = st.turns + length st.pairs ≡ length st.nodes
EachNodeWasPut st Full = st.turns + length st.pairs ≡ length st.nodes
EachNodeWasPut st NoPlan = st.turns + length st.pairs ≡ suc (length st.nodes)
EachNodeWasPut st (Unfit u) = ⊤

-- Whatever is called of one that began fit, no put is refused.
abbrev pub NoPutIsRefused : Type 0
NoPutIsRefused = (p : Problem) (pairs : List Pair) (room : ℕ) (calls : List Call) (answers : List (Result Answer Refusal)) (now : State) → Lawful p.site → RuleLaws p.rule
    → Run p (begin p pairs room) calls answers now → EachNodeWasPut now now.outcome

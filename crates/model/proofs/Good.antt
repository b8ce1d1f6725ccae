-- What holds of every state of a search, by its outcome.
use Rattle.std.proofs.Common.{◌≡◌, ℕ, suc, ◌<◌, ◌≤◌, true, List, length, Some, sym, subst, ⊎_elim, arith}
use Rattle.std.proofs.lemmas.Bool.{cases_lt}
use Rattle.model.specs.declared.outcome.Outcome.{Outcome}
use Rattle.model.specs.declared.outcome.Outcome.TheVariants.{Running, Found, NoPlan, Full, Unfit}
use Rattle.model.specs.Contact.{is_connected}
use Rattle.model.specs.Execution.{execution, latest, at_moment}
use Rattle.model.specs.Guarantee.{EachNodeWasPut}
use Rattle.model.specs.Limits.{most_nodes}
use Rattle.model.specs.Nodes.{conditions_of}
use Rattle.model.specs.Path.{TimedPath}
use Rattle.model.specs.Plan.{NoPlanBelow}
use Rattle.model.specs.State.{Problem, State}
use Rattle.model.proofs.Covering.{Ready, NoneLeft}
use Rattle.model.proofs.Waiting.{Timely}

-- A found search: the node last taken has an execution of as many steps, which are the floor, in contact up to them.
pub record Shown (p : Problem) (st : State) (steps : ℕ) : Type 0 where
  pub crew : length p.task.starts ≡ length p.task.goals
  pub paths : List TimedPath
  pub runs : execution p.site p.task (conditions_of st.nodes st.last) ≡ Some paths
  pub arrive : steps ≡ latest paths
  pub cost : latest paths ≡ st.floor
  pub in_contact : (m : ℕ) → m ≤ latest paths → is_connected p.site (at_moment paths m) ≡ true

-- What holds besides, by the outcome.
abbrev pub Standing : Problem → State → Outcome → Type 0
Standing p st Running = Ready p NoneLeft st
Standing p st (Found n) = Shown p st n
Standing p st NoPlan = st.floor ≡ suc p.task.horizon
Standing p st Full = length st.nodes ≡ most_nodes
Standing p st (Unfit u) = Unit {0}

-- Every state of a search is good: its floor is right, it stands as its outcome says, and each node was put.
pub record Good (p : Problem) (st : State) : Type 0 where
  pub floor_holds : NoPlanBelow p.site p.task st.floor
  pub standing : Standing p st st.outcome
  pub each_put : EachNodeWasPut st st.outcome

-- A floor that no plan within the horizon passes below, and that is not above the horizon by more than 1.
pub below_all : (p : Problem) (floor : ℕ) → floor ≤ suc p.task.horizon → ((q : Timely p) → floor ≤ q.steps) → NoPlanBelow p.site p.task floor
below_all p floor low bounds steps plan is = ⊎_elim
    (λ (late : p.task.horizon < steps). omega arith)
    (λ (timely : steps ≤ p.task.horizon). bounds (record { steps = steps; plan = plan; in_time = timely; is_plan = is }))
    (cases_lt p.task.horizon steps)

pub ready_below : {p : Problem} {Left : Timely p → Type 0} {st : State} → Ready p Left st → NoPlanBelow p.site p.task st.floor
ready_below {p} {Left} {st} r = below_all p st.floor (omega (arith, r.low)) r.bounds

pub still_running : {p : Problem} {st : State} → st.outcome ≡ Running → Ready p NoneLeft st → Good p st
still_running {p} {st} run r = record { floor_holds = ready_below r; standing = subst (Standing p st) (sym run) r; each_put = rw run r.counted }

pub while_running : {p : Problem} {st : State} → st.outcome ≡ Running → Good p st → Ready p NoneLeft st
while_running {p} {st} run g = subst (Standing p st) run g.standing

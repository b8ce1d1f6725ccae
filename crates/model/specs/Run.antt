-- Runs: calls one after another, from a state to a state.
use Rattle.std.specs.Prelude.{◌≡◌, ℕ, ◌+◌, List, [], ◌∷◌, ◌++◌, Ok, Err, Result}
use Rattle.model.specs.declared.call.Answer.{Answer}
use Rattle.model.specs.declared.call.Call.{Call}
use Rattle.model.specs.declared.call.Call.TheVariants.{Advance, Look as LookAt, Show}
use Rattle.model.specs.declared.refusal.Refusal.{Refusal}
use Rattle.model.specs.Calls.{answer, after}
use Rattle.model.specs.State.{Problem, State}

-- These calls, with these answers, lead from the start to that state. A run grows at its end, by one call.
pub data Run (p : Problem) (start : State) : List Call → List (Result Answer Refusal) → State → Type 0 where
  no_calls : Run p start [] [] start
  and_then : {calls : List Call} {answers : List (Result Answer Refusal)} {st : State} → Run p start calls answers st → (call : Call)
      → Run p start (calls ++ (call ∷ [])) (answers ++ (answer p st call ∷ [])) (after p st call)

-- The same, computed: what calls in a row leave,
abbrev pub after_all : Problem → State → List Call → State
after_all p st [] = st
after_all p st (c ∷ cs) = after_all p (after p st c) cs

-- and what they answer, each in its turn.
abbrev pub answers_to : Problem → State → List Call → List (Result Answer Refusal)
answers_to p st [] = []
answers_to p st (c ∷ cs) = answer p st c ∷ answers_to p (after p st c) cs

-- The turns that a call asks for and is granted; none where it is refused.
abbrev pub turns_granted : Call → Result Answer Refusal → ℕ
turns_granted (Advance n) (Err r) = 0
turns_granted (Advance n) (Ok a) = n
turns_granted LookAt a = 0
turns_granted (Show c m) a = 0

-- The turns that the accepted ones of these calls ask for, by what was answered.
abbrev pub turns_asked : List Call → List (Result Answer Refusal) → ℕ
turns_asked [] answers = 0
turns_asked (c ∷ cs) [] = 0
turns_asked (c ∷ cs) (a ∷ answers) = turns_granted c a + turns_asked cs answers

-- What is said of runs.
pub record RunsAreDetermined : Type 0 where
  -- From every state, every list of calls has one run: the computed one.
  pub every_list_runs : (p : Problem) (start : State) (calls : List Call) → Run p start calls (answers_to p start calls) (after_all p start calls)
  pub only_one_run : (p : Problem) (start : State) (calls : List Call) (answers : List (Result Answer Refusal)) (st : State) → Run p start calls answers st
      → (answers ≡ answers_to p start calls) × (st ≡ after_all p start calls)
  -- A run and a run from where it ends make one run.
  pub runs_join : (p : Problem) (start middle st : State) (calls later : List Call) (answers more : List (Result Answer Refusal))
      → Run p start calls answers middle → Run p middle later more st → Run p start (calls ++ later) (answers ++ more) st

-- Calls, one at a time: where they are refused, what they answer, what they leave.
use Rattle.std.specs.Prelude.{ℕ, ◌-◌, ◌&&◌, List, [], map, length, Some, None, Option, Ok, Err, Result, if◌then◌else◌, nat_le, nat_lt, unwrap_or}
use Rattle.std.specs.List.{range_with_len}
use Rattle.model.specs.declared.call.Answer.{Answer}
use Rattle.model.specs.declared.call.Answer.TheVariants.{Turns, Looked, Place}
use Rattle.model.specs.declared.call.Call.{Call}
use Rattle.model.specs.declared.call.Call.TheVariants.{Advance, Look as LookAt, Show}
use Rattle.model.specs.declared.call.Look.{Look}
use Rattle.model.specs.declared.outcome.Outcome.{Outcome}
use Rattle.model.specs.declared.outcome.Outcome.TheVariants.{Running, Found, NoPlan, Full, Unfit}
use Rattle.model.specs.declared.refusal.Refusal.{Refusal}
use Rattle.model.specs.declared.refusal.Refusal.TheVariants.{TurnsOutOfRange, HasStopped, NotFound, NoSuchCarrierOrMoment}
use Rattle.model.specs.Contact.{place_of}
use Rattle.model.specs.Execution.{execution, at_moment}
use Rattle.model.specs.Limits.{most_turns}
use Rattle.model.specs.Nodes.{conditions_of}
use Rattle.model.specs.Path.{TimedPath}
use Rattle.model.specs.Refusals.{number_of, unless_refused}
use Rattle.model.specs.State.{Problem, State, is_running, is_found}
use Rattle.model.specs.Turn.{turns_of}

-- No paths where there is no execution.
abbrev pub paths_or_none : Option (List TimedPath) → List TimedPath
paths_or_none None = []
paths_or_none (Some xs) = xs

-- The paths of the node last taken.
abbrev pub last_paths : Problem → State → List TimedPath
last_paths p st = paths_or_none (execution p.site p.task (conditions_of st.nodes st.last))

-- The configuration of the found plan at a moment.
abbrev pub plan_of : Problem → State → ℕ → List ℕ
plan_of p st m = at_moment (last_paths p st) m

-- What `look` answers.
abbrev pub look_of : State → Look
look_of st = record { outcome = st.outcome; turns = st.turns; nodes = length st.nodes; floor = st.floor }

-- An outcome in numbers, as people and sheets read it. The steps are 0 unless a plan is found;
abbrev pub steps_in : Outcome → ℕ
steps_in Running = 0
steps_in (Found n) = n
steps_in NoPlan = 0
steps_in Full = 0
steps_in (Unfit u) = 0

-- the number of what makes it unfit is 0 where it is fit;
abbrev pub number_in : Outcome → ℕ
number_in Running = 0
number_in (Found n) = 0
number_in NoPlan = 0
number_in Full = 0
number_in (Unfit u) = number_of u.refusal

-- and so is the carrier that is named, also where none is.
abbrev pub carrier_in : Outcome → ℕ
carrier_in Running = 0
carrier_in (Found n) = 0
carrier_in NoPlan = 0
carrier_in Full = 0
carrier_in (Unfit u) = unwrap_or u.carrier 0

-- The refusal that is due, if one is. `advance`: turns out of range, and else if it has stopped. `show`: if nothing is found, and
-- else no such carrier or a moment above the steps.
abbrev pub refusal : Problem → State → Call → Option Refusal
refusal p st (Advance n) = if nat_lt 0 n && nat_le n most_turns then (if is_running st.outcome then None else Some HasStopped) else Some TurnsOutOfRange
refusal p st LookAt = None
refusal p st (Show a m) =
    if is_found st.outcome
    then (if nat_lt 0 a && nat_le a (length p.task.starts) && nat_le m (steps_in st.outcome) then None else Some NoSuchCarrierOrMoment)
    else Some NotFound

-- What an accepted call leaves.
abbrev pub accepted_state : Problem → State → Call → State
accepted_state p st (Advance n) = turns_of p n st
accepted_state p st LookAt = st
accepted_state p st (Show a m) = st

-- What it answers: the turns that it made, what it looked at, the carrier's place at that moment.
abbrev pub accepted_answer : Problem → State → Call → Answer
accepted_answer p st (Advance n) = Turns ((turns_of p n st).turns - st.turns)
accepted_answer p st LookAt = Looked (look_of st)
accepted_answer p st (Show a m) = Place (place_of (plan_of p st m) a)

-- What a call leaves. A refused one alters nothing.
abbrev pub after : Problem → State → Call → State
after p st c = unless_refused (refusal p st c) (accepted_state p st c) (λ _. st)

-- What a call answers, or by what it is refused.
abbrev pub answer : Problem → State → Call → Result Answer Refusal
answer p st c = unless_refused (refusal p st c) (Ok (accepted_answer p st c)) Err

-- The place that an answer gives.
abbrev pub place_in : Result Answer Refusal → ℕ
place_in (Err r) = 0
place_in (Ok (Turns n)) = 0
place_in (Ok (Looked l)) = 0
place_in (Ok (Place v)) = v

-- What `show` answers at a moment, carrier by carrier.
abbrev pub shown : Problem → State → ℕ → List ℕ
shown p st m = map (λ a. place_in (answer p st (Show a m))) (range_with_len 1 (length p.task.starts))

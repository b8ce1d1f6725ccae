-- One turn, step by step, and turns in a row.
use Rattle.std.specs.Prelude.{ℕ, zero, suc, if◌then◌else◌, List, [], ◌∷◌, length, Some, None, Option, nat_lt}
use Rattle.model.specs.declared.item.Condition.{Condition}
use Rattle.model.specs.declared.item.Item.{Item}
use Rattle.model.specs.declared.outcome.Outcome.TheVariants.{Found, NoPlan, Full}
use Rattle.model.specs.Execution.{execution, latest, at_moment, first_break}
use Rattle.model.specs.Item.{at_time}
use Rattle.model.specs.Limits.{most_nodes}
use Rattle.model.specs.Nodes.{child, conditions_of}
use Rattle.model.specs.OpenList.{Pair, first, rest}
use Rattle.model.specs.Path.{TimedPath}
use Rattle.model.specs.Rules.{items}
use Rattle.model.specs.State.{Problem, State, is_running, is_full, with_outcome, with_node}

-- Step 5 (read the steps from the last to the first): a child of node i with that condition is made under the next number and
-- put, if every carrier has a path. If the number would be 4,096, the table is full.
abbrev pub add_child : ℕ → Condition → Option (List TimedPath) → State → State
add_child i c None st = st
add_child i c (Some xs) st = if nat_lt (length st.nodes) most_nodes then with_node (child i c (latest xs)) st else with_outcome Full st

-- Step 4: node i, whose conditions are cs, is out of contact at moment m in the configuration c. Each item that is listed makes a
-- child, until the table is full.
abbrev pub split : Problem → ℕ → List Condition → ℕ → List ℕ → List Item → State → State
split p i cs m c [] st = st
split p i cs m c (it ∷ its) st =
    if is_full st.outcome then st else
    split p i cs m c its
    (if p.rule p.site c it then add_child i (at_time m it) (execution p.site p.task (at_time m it ∷ cs)) st else st)

-- Steps 2 and 3: node i, with these paths, is a plan of as many steps as the latest arrival if nothing breaks contact; else the
-- earliest moment out of contact is split, by all items in order.
abbrev pub expand : Problem → ℕ → List Condition → List TimedPath → Option ℕ → State → State
expand p i cs xs None st = with_outcome (Found (latest xs)) st
expand p i cs xs (Some m) st = split p i cs m (at_moment xs m) (items (length p.task.starts) p.site.places) st

-- The moments up to its cost are looked at. (Where there are no paths, nothing more is done; no node is made without.)
abbrev pub visit : Problem → ℕ → List Condition → Option (List TimedPath) → State → State
visit p i cs None st = st
visit p i cs (Some xs) st = expand p i cs xs (first_break p.site xs 0 (suc (latest xs))) st

-- Step 1: a pair was taken, these are left, and the floor is its cost;
abbrev pub taken : Pair → List Pair → State → State
taken a left st = record {
  nodes = st.nodes;
  pairs = left;
  room = st.room;
  outcome = st.outcome;
  turns = suc st.turns;
  floor = a.0;
  last = a.1;
}

-- or no pair was there to take, and there is no plan.
abbrev pub exhausted : Problem → State → State
exhausted p st = record {
  nodes = st.nodes;
  pairs = st.pairs;
  room = st.room;
  outcome = NoPlan;
  turns = suc st.turns;
  floor = suc p.task.horizon;
  last = st.last;
}

-- The turn, by what was taken and what is left.
abbrev pub turn_on : Problem → Option Pair → List Pair → State → State
turn_on p None left st = exhausted p st
turn_on p (Some a) left st =
    visit p a.1 (conditions_of st.nodes a.1) (execution p.site p.task (conditions_of st.nodes a.1)) (taken a left st)

-- One turn.
abbrev pub turn : Problem → State → State
turn p st = turn_on p (first st.pairs) (rest st.pairs) st

-- n turns, or fewer if it stops.
abbrev pub turns_of : Problem → ℕ → State → State
turns_of p zero st = st
turns_of p (suc n) st = if is_running st.outcome then turns_of p n (turn p st) else st

-- What is planned, and how far it has come.
use Rattle.std.specs.Prelude.{ℕ, Bool, true, false, List, [], ◌∷◌, ◌++◌, length}
use Rattle.model.specs.declared.node.Node.{Node}
use Rattle.model.specs.declared.outcome.Outcome.{Outcome}
use Rattle.model.specs.declared.outcome.Outcome.TheVariants.{Running, Found, NoPlan, Full, Unfit}
use Rattle.model.specs.OpenList.{Pair, put}
use Rattle.model.specs.Plan.{Task}
use Rattle.model.specs.Rule.{Rule}
use Rattle.model.specs.Site.{Site}

-- What is to be planned, where, and by which rule nodes are split.
pub record Problem : Type 0 where
  pub site : Site
  pub rule : Rule
  pub task : Task

-- The nodes made so far, by number; the pairs of the open list, and how many it has room for; the outcome; the turns made;
-- the floor (a lower bound of the steps of every plan); and the number of the node last taken.
pub record State : Type 0 where
  pub nodes : List Node
  pub pairs : List Pair
  pub room : ℕ
  pub outcome : Outcome
  pub turns : ℕ
  pub floor : ℕ
  pub last : ℕ

-- Turns can be made.
abbrev pub is_running : Outcome → Bool
is_running Running = true
is_running (Found n) = false
is_running NoPlan = false
is_running Full = false
is_running (Unfit u) = false

-- There is a plan to show.
abbrev pub is_found : Outcome → Bool
is_found Running = false
is_found (Found n) = true
is_found NoPlan = false
is_found Full = false
is_found (Unfit u) = false

-- The table of nodes is full.
abbrev pub is_full : Outcome → Bool
is_full Running = false
is_full (Found n) = false
is_full NoPlan = false
is_full Full = true
is_full (Unfit u) = false

-- The same with another outcome.
abbrev pub with_outcome : Outcome → State → State
with_outcome o st = record {
  nodes = st.nodes;
  pairs = st.pairs;
  room = st.room;
  outcome = o;
  turns = st.turns;
  floor = st.floor;
  last = st.last;
}

-- One node more, under the next number, and put.
abbrev pub with_node : Node → State → State
with_node n st = record {
  nodes = st.nodes ++ (n ∷ []);
  pairs = put st.room (n.cost, length st.nodes) st.pairs;
  room = st.room;
  outcome = st.outcome;
  turns = st.turns;
  floor = st.floor;
  last = st.last;
}

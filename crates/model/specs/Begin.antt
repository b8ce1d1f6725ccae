-- How it begins.
use Rattle.std.specs.Prelude.{ℕ, List, [], length, Some, None, Option}
use Rattle.model.specs.declared.outcome.Outcome.{Outcome}
use Rattle.model.specs.declared.outcome.Outcome.TheVariants.{Running, Unfit}
use Rattle.model.specs.declared.outcome.Unfitness.{Unfitness}
use Rattle.model.specs.Execution.{execution, latest}
use Rattle.model.specs.Fitness.{unfitness}
use Rattle.model.specs.Nodes.{root}
use Rattle.model.specs.OpenList.{Pair}
use Rattle.model.specs.Path.{TimedPath}
use Rattle.model.specs.State.{Problem, State, with_node}

-- Before anything is made. The open list is as it was handed over.
abbrev pub fresh : List Pair → ℕ → Outcome → State
fresh pairs room o = record {
  nodes = [];
  pairs = pairs;
  room = room;
  outcome = o;
  turns = 0;
  floor = 0;
  last = 0;
}

-- Node 0, without condition, is made and put if every carrier has a path.
abbrev pub with_root : Option (List TimedPath) → State → State
with_root None st = st
with_root (Some xs) st = with_node (root (latest xs)) st

-- What is fit is running, and what is not has stopped.
abbrev pub begun : Problem → List Pair → ℕ → Option Unfitness → State
begun p pairs room None = with_root (execution p.site p.task []) (fresh pairs room Running)
begun p pairs room (Some u) = fresh pairs room (Unfit u)

-- `begin` over an open list with these pairs and so much room.
abbrev pub begin : Problem → List Pair → ℕ → State
begin p pairs room = begun p pairs room (unfitness p.site p.task (length pairs) room)

-- The table of nodes (the constraint tree), and the conditions of a node. A node's number is its index in the table.
use Rattle.std.specs.Prelude.{ℕ, zero, suc, List, [], ◌∷◌, length, Some, None, Option, slice_index_or}
use Rattle.model.specs.declared.item.Condition.{Condition}
use Rattle.model.specs.declared.node.Branch.{Branch}
use Rattle.model.specs.declared.node.Node.{Node}

-- The root hangs on nothing, and so has no condition.
abbrev pub root : ℕ → Node
root cost = record { branch = None; cost = cost }

-- A child of node i.
abbrev pub child : ℕ → Condition → ℕ → Node
child i c cost = record { branch = Some (record { parent = i; condition = c }); cost = cost }

-- What is read where there is no such node.
abbrev pub nowhere : Node
nowhere = root 0

-- How node i hangs on its parent, if it has one.
abbrev pub branch_of : List Node → ℕ → Option Branch
branch_of ns i = (slice_index_or ns i nowhere).branch

-- The conditions of what hangs so: its own, and those that are met when k parents more are followed.
abbrev pub followed : List Node → ℕ → Option Branch → List Condition
followed ns k None = []
followed ns zero (Some b) = b.condition ∷ []
followed ns (suc k) (Some b) = b.condition ∷ followed ns k (branch_of ns b.parent)

-- A node's conditions are its own and those of its forebears, of which there are fewer than nodes.
abbrev pub conditions_of : List Node → ℕ → List Condition
conditions_of ns i = followed ns (length ns) (branch_of ns i)

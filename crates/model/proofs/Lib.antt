pub mod Tables
pub mod PairSites
pub mod Halls
pub mod Windows
pub mod Contact
pub mod Chains
-- Plans, the chosen path
pub mod Plan
pub mod Chosen
-- The rules
pub mod Rules
-- The open list, a node's conditions, executions, fitness
pub mod OpenList
pub mod Nodes
pub mod Execution
pub mod Fitness
-- A plan as paths that wait; a break, and the items there
pub mod Waiting
pub mod Breaks
-- The invariant, and that a new state, a split and a turn keep it
pub mod Covering
pub mod Good
pub mod Begin
pub mod Split
pub mod Turn
pub mod Turns
-- Calls, runs, and the guarantee
pub mod Calls
pub mod Run
pub mod Guarantee

-- Limits and refusals
pub mod Limits
pub mod Refusals
-- Sites: what they mean, and the three kinds
pub mod Site
pub mod PairSite
pub mod Hall
pub mod Window
-- Configurations in contact
pub mod Contact
pub mod Relay
-- What is to be planned
pub mod Plan
-- One carrier's path under conditions: what it is, and how it is computed
pub mod Item
pub mod Path
pub mod Chosen
-- Splitting rules: their laws, and the two rules
pub mod Rule
pub mod Rules
-- The parts of the planner: open list, nodes, executions
pub mod OpenList
pub mod Nodes
pub mod Execution
-- How it begins and goes on, turn by turn
pub mod Fitness
pub mod State
pub mod Begin
pub mod Turn
-- Its calls, what they guarantee, and worked examples
pub mod Calls
pub mod Run
pub mod Guarantee
pub mod Examples

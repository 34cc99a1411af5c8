-- Definitions, in the order a reader needs them.
pub mod Term
pub mod Rules
pub mod Traces
pub mod Records
pub mod Successors
pub mod Search
pub mod Ahead
pub mod Laws
pub mod Spending
pub mod Alike
pub mod Choices
pub mod Spelled
pub mod Printed
-- Definitions that need not be believed.
pub mod Within
pub mod Renames
pub mod Leaves
pub mod Deaf
pub mod Remade
-- The table that was judged by hand, by computing.
pub mod JudgedByHand

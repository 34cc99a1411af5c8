-- Definitions, in the order a reader needs them.
pub mod Room
-- Definitions that need not be believed.
pub mod Visits
pub mod Searches
-- Theorems.
pub mod SearchLaws

-- Definitions.
pub mod Asked
-- Theorems.
pub mod NodeLaws
pub mod WeighedLaws
pub mod Undoing
pub mod Branches

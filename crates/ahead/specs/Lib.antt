-- Definitions, in the order a reader needs them.
pub mod Told
-- Definitions that need not be believed.
pub mod Outcome
pub mod Answering
-- Theorems.
pub mod CheckLaws

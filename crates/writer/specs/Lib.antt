-- Definitions, in the order a reader needs them.
pub mod Told
pub mod Writes
-- Definitions that need not be believed.
pub mod Writing

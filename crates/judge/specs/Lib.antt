-- Definitions, in the order a reader needs them.
pub mod Told
-- Definitions that need not be believed.
pub mod Judged
pub mod Settled
-- Theorems.
pub mod JudgedLaws
pub mod ByCues

-- Theorems that other crates cite.
pub mod PickedLaws
pub mod ByAsks

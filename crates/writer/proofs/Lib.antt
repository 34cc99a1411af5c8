-- Theorems on the way to the code, some of which other crates cite.
pub mod Fronts
pub mod WriterLaws

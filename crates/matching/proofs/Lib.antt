-- Theorems.
pub mod OtherLaws
pub mod AskLaws
-- Theorems on the way to the code.
pub mod CueLaws
pub mod TakenLaws
pub mod MarkLaws
pub mod WalkLaws

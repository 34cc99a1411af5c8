-- Definitions.
pub mod Standings
pub mod State
pub mod Rows
pub mod Stored
pub mod LiveParts
pub mod Roles
pub mod Scenes
pub mod Stage
pub mod Becomes
pub mod Hands
pub mod Clauses
-- Theorems.
pub mod StageLaws
pub mod RowLaws
pub mod Rests
pub mod StateLaws
pub mod NotedLaws
pub mod ChildLaws
pub mod DrawnLaws
pub mod RedrawLaws
pub mod BecomesLaws
pub mod HandsLaws

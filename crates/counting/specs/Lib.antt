-- Definitions.
pub mod Wholes
pub mod StandIns
-- Theorems.
pub mod WholeLaws
pub mod RowWrites
pub mod Noting
pub mod CountLaws

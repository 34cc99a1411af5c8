-- Definitions.
pub mod Turns
-- Theorems.
pub mod AfterLaws
pub mod NodeLaws
pub mod TurnLaws
pub mod MeetLaws

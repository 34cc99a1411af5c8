-- Definitions.
pub mod Line
pub mod Room
pub mod Texts
pub mod Shown
-- Theorems about them.
pub mod LineLaws
pub mod TextLaws

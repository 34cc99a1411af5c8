-- Definitions.
pub mod Fetched
pub mod Stopped
pub mod Lent
pub mod Codes
pub mod Filler
pub mod Text
pub mod Promised
pub mod ReadLine
pub mod WriteLine
pub mod NextLine
-- Theorems about them.
pub mod FillerLaws
pub mod TextLaws
pub mod PromisedLaws
pub mod ReadLineLaws
pub mod WriteLineLaws
pub mod NextLineLaws

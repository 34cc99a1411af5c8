-- Definitions that need not be believed.
pub mod Others
pub mod Entries
pub mod Walk
pub mod Asks
-- Theorems.
pub mod SectionTest
pub mod NumberLaws
pub mod SetLaws

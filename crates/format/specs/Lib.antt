-- Definitions, in the order a reader needs them.
pub mod Format
pub mod Limits
pub mod Matching
pub mod Contents
pub mod Told
pub mod NameFaults
-- Definitions that need not be believed.
pub mod Plan
pub mod Sections
pub mod ContentChecks
pub mod ListChecks
pub mod Items
pub mod There
-- Theorems on the way to the code.
pub mod Lengths
pub mod Plans
pub mod ItemLaws
pub mod RunLaws
pub mod SectionLaws
pub mod NameLaws
pub mod ContentLaws
pub mod ListLaws
pub mod EntryLaws
